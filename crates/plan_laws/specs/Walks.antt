-- Trying the orders finds one that costs least, and so the shortest walk. Assumes nothing.
use Prim.Native.Nat.{ℕ, zero, suc, ◌+◌, ◌-◌, ◌≤◌, ◌<◌}
use Rattle.std.specs.Prelude.{◌≡◌, refl, ◌⊎◌, Bool, true, List, length, set}
use Rattle.std.proofs.Math.Path.{sym}
use Rattle.std.proofs.Common.{◌∙◌, inl}
use Rattle.std.proofs.Math.Logic.{inr}
use Rattle.std.proofs.Math.Bool.{false, cond}
use native.Mathlib.Omega.{arith}
use Rattle.std.proofs.Math.ListN.{length-set}
use Rattle.rules.specs.Tables.{at, cleared}
use Rattle.rules.specs.Scan.{least}
use Rattle.rules.specs.Packing.{Order, placed}
use Rattle.rules.specs.Floor.{walk_length, least_order, shortest}
use Rattle.table_laws.specs.Count.{each_suc}
use Rattle.table_laws.specs.Scans.{least_le, least_at, sum_same}
use Rattle.table_laws.specs.Tables.{at_same, at_other, cleared_length}
use Rattle.table_laws.specs.Orders.{placed_none, placed_not, place, spot, spot_holds, spots, own_order, order_more}
use Rattle.table_laws.specs.Limits.{order_once}

module _ (cost : (ℕ → ℕ) → ℕ) (bid k : ℕ) (same : (r s : ℕ → ℕ) → ((i : ℕ) → i < k → r i ≡ s i) → cost r ≡ cost s) where
  -- no order that begins with the first m of the table costs less
  least_order_le : (left m : ℕ) (o : List ℕ) → left + m ≡ k → k ≤ length o → (r : ℕ → ℕ) → Order r k k → ((i : ℕ) → i < m → r i ≡ at o i) → least_order cost bid k left m o ≤ cost r
  unfolding least_order
  least_order_le zero m o e room r ord begins = omega (arith, same r (at o) (λ i l. begins i (omega arith)))
  least_order_le (suc left) m o e room r ord begins =
      let free : placed (at o) m (r m) ≡ false = placed_none (at o) m (r m) (λ i l q. ord.fresh i m l (omega arith) (begins i l ∙ q)) in
      let next = least_order_le left (suc m) (set o m (r m)) (omega arith) (omega (arith, length-set o m (r m))) r ord
      (each_suc (λ i. r i ≡ at (set o m (r m)) i) m (λ i l. begins i l ∙ sym (at_other o m (r m) i (λ q. omega arith))) (sym (at_same o m (r m) (omega arith)))) in
      let here = least_le bid (λ j. cond (placed (at o) m j) bid (least_order cost bid k left (suc m) (set o m j))) k (r m) (ord.inside m (omega arith)) in
      omega (arith, next, rw free at here)

  -- some order costs it, or it is the bid
  least_order_at : (left m : ℕ) (o : List ℕ) → left + m ≡ k → k ≤ length o → Order (at o) k m
      → (least_order cost bid k left m o ≡ bid) ⊎ ((r : ℕ → ℕ) × Order r k k × (least_order cost bid k left m o ≡ cost r))
  unfolding least_order
  least_order_at zero m o e room ord = let q : m ≡ k = omega arith in inr (at o, rw q at ord, refl)
  least_order_at (suc left) m o e room ord = go (least_at bid (λ j. cond (placed (at o) m j) bid (least_order cost bid k left (suc m) (set o m j))) k)
      (λ j l f. least_order_at left (suc m) (set o m j) (omega arith) (omega (arith, length-set o m j)) (order_more o k m j (omega arith) ord l (placed_not (at o) m j f)))
    where
      value : ℕ
      value = least bid (λ j. cond (placed (at o) m j) bid (least_order cost bid k left (suc m) (set o m j))) k

      Reached : ℕ → Type 0
      Reached x = (x ≡ bid) ⊎ ((r : ℕ → ℕ) × Order r k k × (x ≡ cost r))

      pick : (j : ℕ) (b : Bool) → placed (at o) m j ≡ b → (placed (at o) m j ≡ false → Reached (least_order cost bid k left (suc m) (set o m j)))
          → Reached (cond b bid (least_order cost bid k left (suc m) (set o m j)))
      pick j true f deeper = inl refl
      pick j false f deeper = deeper f

      go : (value ≡ bid) ⊎ ((j : ℕ) × (j < k) × (value ≡ cond (placed (at o) m j) bid (least_order cost bid k left (suc m) (set o m j))))
          → ((j : ℕ) → j < k → placed (at o) m j ≡ false → Reached (least_order cost bid k left (suc m) (set o m j))) → Reached value
      go (inl z) deeper = inl z
      go (inr (j, l, z)) deeper = rw z (pick j (placed (at o) m j) refl (deeper j l))

-- two walks with the same steps have the same length
walk_same : (guard other : ℕ → ℕ → ℕ) (r s : ℕ → ℕ) (k : ℕ) → ((i : ℕ) → suc i < k → guard (r i) (r (suc i)) ≡ other (s i) (s (suc i))) → walk_length guard k r ≡ walk_length other k s
unfolding walk_length
walk_same guard other r s k h = sum_same _ _ (k - 1) (λ i l. h i (omega arith))

module _ (guard : ℕ → ℕ → ℕ) (k : ℕ) where
  by_entries : (r s : ℕ → ℕ) → ((i : ℕ) → i < k → r i ≡ s i) → walk_length guard k r ≡ walk_length guard k s
  by_entries r s h = walk_same guard guard r s k (λ i l. rw (h i (omega arith), h (suc i) l))

  room : k ≤ length (cleared k 0)
  room = omega (arith, cleared_length k 0)

  -- the shortest walk is no longer than any other, and some order has it
  pub shortest_le : (r : ℕ → ℕ) → Order r k k → shortest guard k ≤ walk_length guard k r
  unfolding shortest
  shortest_le r ord = least_order_le (walk_length guard k) (walk_length guard k (λ i. i)) k by_entries k 0 (cleared k 0) (omega arith) room r ord (λ i l. absurd (omega arith))

  pub shortest_at : (r : ℕ → ℕ) × Order r k k × (shortest guard k ≡ walk_length guard k r)
  unfolding shortest
  shortest_at = go (least_order_at (walk_length guard k) (walk_length guard k (λ i. i)) k by_entries k 0 (cleared k 0) (omega arith) room
      record { inside = λ i l. absurd (omega arith); fresh = λ i j h l. absurd (omega arith) })
    where
      go : (shortest guard k ≡ walk_length guard k (λ i. i)) ⊎ ((r : ℕ → ℕ) × Order r k k × (shortest guard k ≡ walk_length guard k r)) → (r : ℕ → ℕ) × Order r k k × (shortest guard k ≡ walk_length guard k r)
      go (inl e) = ((λ i. i), own_order k, e)
      go (inr x) = x

  -- nothing else is so
  pub shortest_is : (x : ℕ) → ((r : ℕ → ℕ) → Order r k k → x ≤ walk_length guard k r) → (r : ℕ → ℕ) → Order r k k → x ≡ walk_length guard k r → x ≡ shortest guard k
  shortest_is x below r ord e =
      let s = shortest_at in
      omega (arith, below s.0 s.1, s.2, shortest_le r ord)

-- guards that agree have the same shortest walk
pub shortest_same : (guard other : ℕ → ℕ → ℕ) (k : ℕ) → ((i j : ℕ) → i < k → j < k → guard i j ≡ other i j) → shortest guard k ≡ shortest other k
shortest_same guard other k h =
    let s = shortest_at guard k in
    shortest_is other k (shortest guard k) (λ r ord. rw (sym (agree r ord)) (shortest_le guard k r ord)) s.0 s.1 (s.2 ∙ agree s.0 s.1)
  where
    agree : (r : ℕ → ℕ) → Order r k k → walk_length guard k r ≡ walk_length other k r
    agree r ord = walk_same guard other r r k (λ i l. h (r i) (r (suc i)) (ord.inside i (omega arith)) (ord.inside (suc i) l))

-- an order of an order
pub turned_order : (turn r : ℕ → ℕ) (k : ℕ) → Order turn k k → Order r k k → Order (λ i. turn (r i)) k k
turned_order turn r k ord o =
    let once = order_once turn k ord in
    record {
      inside = λ i l. ord.inside (r i) (o.inside i l);
      fresh = λ i j h l e. o.fresh i j h l (once.once (r i) (r j) (o.inside i (omega arith)) (o.inside j l) (ord.inside (r i) (o.inside i (omega arith))) e);
    }

-- the shortest walk is the same in whatever order the list is given
pub shortest_turned : (guard : ℕ → ℕ → ℕ) (k : ℕ) (turn : ℕ → ℕ) → Order turn k k → shortest (λ i j. guard (turn i) (turn j)) k ≡ shortest guard k
shortest_turned guard k turn ord = omega (arith, up, down)
  where
    turned : ℕ → ℕ → ℕ
    turned i j = guard (turn i) (turn j)

    down : shortest guard k ≤ shortest turned k
    down =
        let s = shortest_at turned k in
        let r : ℕ → ℕ = λ i. turn (s.0 i) in
        omega (arith, s.2, walk_same turned guard s.0 r k (λ i l. refl), shortest_le guard k r (turned_order turn s.0 k ord s.1))

    up : shortest turned k ≤ shortest guard k
    up =
        let s = shortest_at guard k in
        let holds = place turn k ord in
        let r : ℕ → ℕ = λ i. spot turn k (s.0 i) in
        let back : (i : ℕ) → i < k → turn (r i) ≡ s.0 i = λ i l. (spot_holds turn k holds (s.0 i) (s.1.inside i l)).1 in
        omega (
          arith,
          s.2,
          walk_same turned guard r s.0 k (λ i l. rw (back i (omega arith), back (suc i) l)),
          shortest_le turned k r (turned_order (spot turn k) s.0 k (spots turn k holds) s.1),
        )
