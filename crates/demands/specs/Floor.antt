-- The floor: no valid plan's highest slot is below it, and it is not below the coarse floor. Assumes nothing.
use Prim.Native.Nat.{ℕ, zero, suc, ◌+◌, ◌-◌, ◌*◌, ◌≤◌, ◌<◌}
use Rattle.std.specs.Prelude.{◌≡◌, ◌≢◌, ◌⊎◌, List, length, replicate}
use Rattle.std.proofs.Common.{inl, inr}
use native.Mathlib.Omega.{arith}
use Rattle.std.proofs.Math.Decide.{dec_lt}
use Rattle.std.proofs.lemmas.List.{length-replicate}
use Rattle.rules.specs.Tables.{at}
use Rattle.rules.specs.Plan.{Net, Conflict, Clear, Valid, end, highest}
use Rattle.plan_laws.specs.Good.{Good}
use Rattle.rules.specs.Packing.{Order}
use Rattle.rules.specs.Scan.{least, sum}
use Rattle.rules.specs.Floor.{Clique, walk_length, floor, least_guard, coarse_floor}
use Rattle.rules.specs.Pressing.{by_start}
use Rattle.table_laws.specs.Scans.{sum_ge, least_le}
use Rattle.table_laws.specs.Orders.{sum_order}
use Rattle.plan_laws.specs.Arranged.{arranged_order, arranged_least}
use Rattle.plan_laws.specs.Heights.{highest_ge}
use Rattle.plan_laws.specs.Apart.{either, clear_lt}
use Rattle.plan_laws.specs.Walks.{shortest_le, shortest_at}

enough : (k : ℕ) → k ≤ length (replicate {A = ℕ} k 0)
enough k = omega (arith, length-replicate {A = ℕ} k 0)

guard_le : (net : Net) (c : ℕ → ℕ) (k i j : ℕ) → i < j → j < k → least_guard net c k ≤ net.guard (c i) (c j)
unfolding least_guard
guard_le net c k i j h l =
    omega (arith, least_le 255 (λ j. least 255 (λ i. net.guard (c i) (c j)) j) k j l, least_le 255 (λ i. net.guard (c i) (c j)) j i h)

module _ (net : Net) (n : ℕ) (good : Good net n) (c : ℕ → ℕ) (k : ℕ) (q : Clique net n c k) where
  -- the guard of two positions of the list
  abbrev guards : ℕ → ℕ → ℕ
  guards i j = net.guard (c i) (c j)

  -- two different paths of the list, whichever comes first, are in conflict and have no less than the least
  -- guard
  pub both : (i j : ℕ) → i < k → j < k → i ≢ j → Conflict net (c i) (c j) × (least_guard net c k ≤ net.guard (c i) (c j))
  both i j h l ne = go (dec_lt i j)
    where
      go : Dec (i < j) → Conflict net (c i) (c j) × (least_guard net c k ≤ net.guard (c i) (c j))
      go (yes x) = (q.all i j x l, guard_le net c k i j x l)
      go (no x) =
          let e = good.mirrored (c i) (c j) (q.inside i h) (q.inside j l) in
          (omega (arith, q.all j i (omega arith) h), omega (arith, guard_le net c k j i (omega arith) h))

  -- no walk is shorter than the least guard at each step
  walk_ge : (o : ℕ → ℕ) → Order o k k → (k - 1) * least_guard net c k ≤ walk_length guards k o
  unfolding walk_length
  walk_ge o ord = sum_ge (λ i. guards (o i) (o (suc i))) (least_guard net c k) (k - 1)
      (λ i l. (both (o i) (o (suc i)) (ord.inside i (omega arith)) (ord.inside (suc i) (omega arith)) (ord.fresh i (suc i) (omega arith) (omega arith))).1)

  -- the floor is not below the coarse one
  pub floor_finer : coarse_floor net c k ≤ floor net c k
  unfolding coarse_floor floor
  floor_finer = let s = shortest_at guards k in omega (arith, walk_ge s.0 s.1, s.2)

  module _ (p : ℕ → ℕ) (v : Valid net n p) where
    -- the list by start
    abbrev o : List ℕ
    o = by_start k (λ i. p (c i)) (replicate k 0) k

    ord : Order (at o) k k
    ord = arranged_order (λ s i j. p (c j)) k (replicate k 0) (enough k) k (omega arith)

    step : (m : ℕ) → suc m < k → Clear net p (c (at o m)) (c (at o (suc m)))
    step m l = go (either net n good v (c (at o m)) (c (at o (suc m))) (q.inside (at o m) ha) (q.inside (at o (suc m)) hb) (both (at o m) (at o (suc m)) ha hb (ord.fresh m (suc m) (omega arith) l)).0)
      where
        ha : at o m < k
        ha = ord.inside m (omega arith)

        hb : at o (suc m) < k
        hb = ord.inside (suc m) l

        sorted : p (c (at o m)) ≤ p (c (at o (suc m)))
        sorted = arranged_least (λ s i j. p (c j)) k (replicate k 0) (enough k) k m (at o (suc m)) (omega arith) (omega arith) hb (λ h g. ord.fresh h (suc m) (omega arith) l)

        go : Clear net p (c (at o m)) (c (at o (suc m))) ⊎ Clear net p (c (at o (suc m))) (c (at o m)) → Clear net p (c (at o m)) (c (at o (suc m)))
        go (inl x) = x
        go (inr x) = absurd (omega (arith, sorted, clear_lt net n good p (c (at o (suc m))) (c (at o m)) (q.inside (at o (suc m)) hb) x))

    climb : (m : ℕ) → m < k → sum (λ i. net.width (c (at o i))) (suc m) + sum (λ i. net.guard (c (at o i)) (c (at o (suc i)))) m ≤ end net (c (at o m)) (p (c (at o m)))
    unfolding sum
    climb zero l = let h = q.inside (at o 0) (ord.inside 0 l) in omega (arith, v.lows (c (at o 0)) h, good.above (c (at o 0)) h)
    climb (suc m) l = omega (arith, climb m (omega arith), step m l)

    -- the widths and the walk by start fit below the highest slot
    along : 1 ≤ k → sum (λ i. net.width (c i)) k + walk_length guards k (at o) ≤ highest net p n
    unfolding walk_length
    along pos =
        let e : suc (k - 1) ≡ k = omega arith in
        omega (
          arith,
          rw e at (climb (k - 1) (omega arith)),
          sum_order (λ i. net.width (c i)) (at o) k ord,
          highest_ge net p n (c (at o (k - 1))) (q.inside (at o (k - 1)) (ord.inside (k - 1) (omega arith))),
        )

    -- T5: no valid plan's highest slot is below the floor
    pub floor_holds : 1 ≤ k → floor net c k ≤ highest net p n
    unfolding floor
    floor_holds pos = omega (arith, along pos, shortest_le guards k (at o) ord)
