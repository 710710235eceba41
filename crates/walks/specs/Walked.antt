-- The least walk from a position through a set of positions: how those of the larger sets come from those of
-- the smaller, and which walk through all positions is the shortest. Assumes nothing.
use Rattle.std.specs.Prelude.{ℕ, zero, suc, ◌+◌, ◌-◌, ◌≤◌, ◌<◌, ◌≡◌, ◌≢◌, ◌⊎◌, true, false}
use Rattle.std.proofs.Math.Path.{refl, ap}
use Rattle.std.proofs.Common.{sym, ◌∙◌, inl, inr, true≢false, eq-eqb}
use native.Mathlib.Omega.{arith}
use Rattle.std.proofs.Math.Decide.{dec_lt}
use Rattle.std.proofs.Math.Dec.{eqb}
use Rattle.rules.specs.Scan.{least, sum}
use Rattle.rules.specs.Packing.{Order, placed}
use Rattle.rules.specs.Floor.{walk_length, shortest}
use Rattle.table_laws.specs.Scans.{found_at, least_le, least_at, sum_front}
use Rattle.table_laws.specs.Count.{count_le, count_some}
use Rattle.table_laws.specs.Orders.{placed_not, count_placed}
use Rattle.plan_laws.specs.Walks.{shortest_is}
use Rattle.walks.specs.Sets.{alone, has, members, alone_le, has_taken, has_all, members_have}

-- an order with j before it
unfoldable pub before : ℕ → (ℕ → ℕ) → ℕ → ℕ
before j o zero = j
before j o (suc i) = o i

before_inside : (j : ℕ) (o : ℕ → ℕ) (k m : ℕ) → Order o k m → j < k → (i : ℕ) → i < suc m → before j o i < k
unfolding before
before_inside j o k m ord l zero h = l
before_inside j o k m ord l (suc i) h = ord.inside i (omega arith)

before_fresh : (j : ℕ) (o : ℕ → ℕ) (k m : ℕ) → Order o k m → ((i : ℕ) → i < m → o i ≢ j) → (a b : ℕ) → a < b → b < suc m → before j o a ≢ before j o b
unfolding before
before_fresh j o k m ord ne a zero h l = absurd (omega arith)
before_fresh j o k m ord ne zero (suc b) h l = λ e. ne b (omega arith) (sym e)
before_fresh j o k m ord ne (suc a) (suc b) h l = ord.fresh a b (omega arith) (omega arith)

-- an order without its first
rest_order : (o : ℕ → ℕ) (k m : ℕ) → Order o k (suc m) → Order (λ i. o (suc i)) k m
rest_order o k m ord = record { inside = λ i l. ord.inside (suc i) (omega arith); fresh = λ a b h l. ord.fresh (suc a) (suc b) (omega arith) (omega arith) }

module _ (guard : ℕ → ℕ → ℕ) (k : ℕ) where
  -- the guards along the first m + 1 of an order
  abbrev pub steps : (ℕ → ℕ) → ℕ → ℕ
  steps o m = sum (λ i. guard (o i) (o (suc i))) m

  -- a walk from j through the set s: along the first m + 1 of an order
  pub record Through (s j : ℕ) (o : ℕ → ℕ) (m : ℕ) : Type 0 where
    pub order : Order o k (suc m)
    pub begins : o 0 ≡ j
    pub all : members o (suc m) ≡ s

  -- v is the least of the walks from j through s; 255 where none is below that
  pub record Least (s j v : ℕ) : Type 0 where
    pub low : (o : ℕ → ℕ) (m : ℕ) → Through s j o m → v ≤ steps o m
    pub some : v < 255 → (o : ℕ → ℕ) × (m : ℕ) × Through s j o m × (v ≡ steps o m)

  through_has : (s j : ℕ) (o : ℕ → ℕ) (m : ℕ) → Through s j o m → (i : ℕ) → has s i ≡ placed o (suc m) i
  through_has s j o m t i = rw (sym t.all) (members_have o k (suc m) t.order i)

  -- the positions on a walk are in its set
  pub through_at : (s j : ℕ) (o : ℕ → ℕ) (m : ℕ) → Through s j o m → (i : ℕ) → i < suc m → has s (o i) ≡ true
  unfolding placed
  through_at s j o m t i l = through_has s j o m t (o i) ∙ found_at (λ x. eqb (o x) (o i)) (suc m) i l (eq-eqb (o i) (o i) refl)

  pub through_own : (s j : ℕ) (o : ℕ → ℕ) (m : ℕ) → Through s j o m → has s j ≡ true
  through_own s j o m t = ap (has s) (sym t.begins) ∙ through_at s j o m t 0 (omega arith)

  -- no walk begins outside the set, or past the positions that there are
  pub least_outside : (s j : ℕ) → has s j ≡ false → Least s j 255
  least_outside s j e = record { low = λ o m t. absurd (true≢false (sym (through_own s j o m t) ∙ e)); some = λ l. absurd (omega arith) }

  pub least_past : (s j : ℕ) → k ≤ j → Least s j 255
  least_past s j l = record { low = λ o m t. absurd (omega (arith, t.order.inside 0 (omega arith), t.begins)); some = λ l. absurd (omega arith) }

  steps_front : (o : ℕ → ℕ) (m : ℕ) → steps o (suc m) ≡ guard (o 0) (o 1) + steps (λ i. o (suc i)) m
  steps_front o m = sum_front (λ i. guard (o i) (o (suc i))) m

  members_front : (o : ℕ → ℕ) (m : ℕ) → members o (suc m) ≡ alone (o 0) + members (λ i. o (suc i)) m
  unfolding members
  members_front o m = sum_front (λ i. alone (o i)) m

  -- a walk through one position has no guards
  pub least_alone : (j : ℕ) → j < k → Least (alone j) j 0
  unfolding sum members
  least_alone j l = record {
    low = λ o m t. omega arith;
    some = λ h. (λ i. j, 0, record { order = record { inside = λ i h. l; fresh = λ a b h g. absurd (omega arith) }; begins = refl; all = omega arith }, refl);
  }

  -- a walk from j through more goes on from some other position of the set through all but j
  pub least_onward : (s j v : ℕ) (row : ℕ → ℕ) → has s j ≡ true → 0 < s - alone j → ((i : ℕ) → i < 8 → Least (s - alone j) i (row i)) → k ≤ 8 → j < k
      → v ≡ least 255 (λ i. guard j i + row i) 8 → Least s j v
  least_onward s j v row own more rows few l e = record { low = low; some = some }
    where
      low : (o : ℕ → ℕ) (m : ℕ) → Through s j o m → v ≤ steps o m
      low o zero t = absurd (omega (arith, members_front o 0, t.all, ap (λ x. alone x) t.begins, none))
        where
          none : members (λ i. o (suc i)) 0 ≡ 0
          none = unfold members sum in refl
      low o (suc m) t =
          let next : Through (s - alone j) (o 1) (λ i. o (suc i)) m = record {
            order = rest_order o k (suc m) t.order;
            begins = refl;
            all = omega (arith, members_front o (suc m), t.all, ap (λ x. alone x) t.begins);
          } in
          let inside = t.order.inside 1 (omega arith) in
          let here = least_le 255 (λ i. guard j i + row i) 8 (o 1) (omega arith) in
          omega (arith, steps_front o m, (rows (o 1) (omega arith)).low (λ i. o (suc i)) m next, ap (λ x. guard x (o 1)) t.begins)

      Found : Type 0
      Found = (o : ℕ → ℕ) × (m : ℕ) × Through s j o m × (v ≡ steps o m)

      joined : (i : ℕ) → v ≡ guard j i + row i → (o : ℕ → ℕ) (m : ℕ) → Through (s - alone j) i o m → row i ≡ steps o m → Found
      joined i z o m t q = (before j o, suc m, record { order = order; begins = begins; all = all }, z ∙ omega (arith, walked))
        where
          free : placed o (suc m) j ≡ false
          free = sym (through_has (s - alone j) i o m t j) ∙ has_taken s j own

          order : Order (before j o) k (suc (suc m))
          order = record {
            inside = before_inside j o k (suc m) t.order l;
            fresh = before_fresh j o k (suc m) t.order (placed_not o (suc m) j free);
          }

          begins : before j o 0 ≡ j
          begins = unfold before in refl

          all : members (before j o) (suc (suc m)) ≡ s
          all = unfold before in omega (arith, members_front (before j o) (suc m), t.all, alone_le s j own)

          walked : steps (before j o) (suc m) ≡ guard j i + row i
          walked = unfold before in omega (arith, steps_front (before j o) m, q, ap (guard j) t.begins)

      some : v < 255 → Found
      some small = go (least_at 255 (λ i. guard j i + row i) 8)
        where
          go : (least 255 (λ i. guard j i + row i) 8 ≡ 255) ⊎ ((i : ℕ) × (i < 8) × (least 255 (λ i. guard j i + row i) 8 ≡ guard j i + row i)) → Found
          go (inl z) = absurd (omega arith)
          go (inr (i, h, z)) = let x = (rows i h).some (omega arith) in joined i (e ∙ z) x.0 x.1 x.2 x.3

  -- a walk through all positions is along a whole order
  whole : (i : ℕ) (o : ℕ → ℕ) (m : ℕ) → Through (alone k - 1) i o m → suc m ≡ k
  whole i o m t = pick (dec_lt (suc m) k)
    where
      pick : Dec (suc m < k) → suc m ≡ k
      pick (yes l) =
          let x = count_some (placed o (suc m)) k (omega (arith, count_placed o k (suc m) t.order)) in
          absurd (true≢false (sym (has_all k x.0 x.1) ∙ through_has (alone k - 1) i o m t x.0 ∙ x.2))
      pick (no g) = omega (arith, count_placed o k (suc m) t.order, count_le (placed o (suc m)) k)

  -- a walk through all that no order is below is the shortest
  pub through_shortest : (i r : ℕ) (o : ℕ → ℕ) (m : ℕ) → Through (alone k - 1) i o m → r ≡ steps o m → ((x : ℕ → ℕ) → Order x k k → r ≤ steps x (k - 1))
      → r ≡ shortest guard k
  unfolding walk_length
  through_shortest i r o m t e below =
      let w = whole i o m t in
      let q : m ≡ k - 1 = omega arith in
      shortest_is guard k r below o (rw w at t.order) (rw q at e)
