-- The greedy order of a network within the limits. Assumes nothing.
use Rattle.std.specs.Prelude.{ℕ, ◌≤◌, ◌<◌, ◌≡◌, refl, ◌≢◌, List, length}
use Rattle.std.proofs.Common.{arith}
use Rattle.rules.specs.Tables.{at, Lent}
use Rattle.rules.specs.Limits.{Network}
use Rattle.rules.specs.Plan.{net_of}
use Rattle.rules.specs.Packing.{Once, lowest, packed}
use Rattle.rules.specs.Planning.{start_next, greedy}
use Rattle.plan_laws.specs.Pack.{packed_local}
use Rattle.plan_laws.specs.Arranged.{arranged_order, arranged_least, arranged_first, arranged_begins}
use Rattle.plan_laws.specs.Lowest.{lowest_local}
use Rattle.table_laws.specs.Limits.{order_once}

-- The greedy order is an order, and each next path's packed start is the least of those left, ties to the
-- lowest number
module _ (n : ℕ) (lent : Lent) (order starts : List ℕ) (w : Network n lent) (order_size : length order ≡ 128) where
  abbrev pub order_of_greedy : List ℕ
  order_of_greedy = greedy (lowest (net_of lent)) n starts order n

  -- the start that path k would get after the first i of the greedy order
  abbrev pub greedy_start : ℕ → ℕ → ℕ
  greedy_start i k = start_next (lowest (net_of lent)) starts order_of_greedy i k

  greedy_room : n ≤ length order
  greedy_room = omega (arith, w.few)

  pub greedy_order : Once (at order_of_greedy) n
  greedy_order = order_once (at order_of_greedy) n (arranged_order (start_next (lowest (net_of lent)) starts) n order greedy_room n (omega arith))

  -- the order so far is the order's beginning, so it gives the same starts
  pub same_start : (i k : ℕ) → i ≤ n → start_next (lowest (net_of lent)) starts (greedy (lowest (net_of lent)) n starts order i) i k ≡ greedy_start i k
  same_start i k l =
      let rule = lowest (net_of lent) in
      let loc = lowest_local (net_of lent) in
      let begins : (h : ℕ) → h < i → at (greedy rule n starts order i) h ≡ at order_of_greedy h = λ h g. arranged_begins (start_next rule starts) n order greedy_room n i h g l (omega arith) in
      rw (packed_local rule loc (at (greedy rule n starts order i)) (at order_of_greedy) starts i begins)
      (loc (at (packed rule (at order_of_greedy) starts i)) (at (packed rule (at order_of_greedy) starts i)) (at (greedy rule n starts order i)) (at order_of_greedy) i k begins (λ h g. refl))

  pub greedy_least : (i k : ℕ) → i < n → k < n → ((h : ℕ) → h < i → at order_of_greedy h ≢ k) → greedy_start i (at order_of_greedy i) ≤ greedy_start i k
  greedy_least i k l g left =
      omega (
        arith,
        same_start i (at order_of_greedy i) (omega arith),
        same_start i k (omega arith),
        arranged_least (start_next (lowest (net_of lent)) starts) n order greedy_room n i k l (omega arith) g left,
      )

  pub greedy_first : (i k : ℕ) → i < n → k < n → ((h : ℕ) → h < i → at order_of_greedy h ≢ k) → greedy_start i k ≤ greedy_start i (at order_of_greedy i) → at order_of_greedy i ≤ k
  greedy_first i k l g left h =
      arranged_first (start_next (lowest (net_of lent)) starts) n order greedy_room n i k l (omega arith) g left
      (omega (arith, same_start i (at order_of_greedy i) (omega arith), same_start i k (omega arith)))
