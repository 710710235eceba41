-- Where a floor is met: in a network of the listed paths alone, if no guard reaches past a path in between. The
-- paths are put one above another in the order of the shortest walk. Assumes nothing.
use Prim.Native.Nat.{ℕ, zero, suc, ◌+◌, ◌-◌, ◌≤◌, ◌<◌}
use Rattle.std.specs.Prelude.{◌≡◌, ◌≢◌, ◌⊎◌}
use Rattle.std.proofs.Math.Path.{ap}
use Rattle.std.proofs.Common.{inl}
use Rattle.std.proofs.Math.Logic.{inr}
use native.Mathlib.Omega.{arith}
use Rattle.std.proofs.Math.Decide.{dec_lt, ℕ_discrete}
use Rattle.rules.specs.Scan.{sum}
use Rattle.rules.specs.Plan.{Net, Clear, Valid, end, highest}
use Rattle.rules.specs.Packing.{Order}
use Rattle.plan_laws.specs.Good.{Good}
use Rattle.plan_laws.specs.Heights.{highest_le}
use Rattle.table_laws.specs.Orders.{place, spot, spot_holds}

-- a path between two others takes as much room, with its guards, as their own guard asks for
abbrev pub Between : Net → ℕ → Type 0
Between net n = (a b c : ℕ) → a < n → b < n → c < n → a ≢ b → b ≢ c → a ≢ c → net.guard a c ≤ net.guard a b + net.width b + net.guard b c

module _ (net : Net) (n : ℕ) (good : Good net n) (lows : (k : ℕ) → k < n → net.low k ≡ 1) (rule : Between net n) (o : ℕ → ℕ) (ord : Order o n n) where
  -- the starts along the order, each past the end of the one before and their guard
  start : ℕ → ℕ
  start zero = 1
  start (suc m) = start m + net.width (o m) + net.guard (o m) (o (suc m))

  start_pos : (m : ℕ) → 1 ≤ start m
  unfolding start
  start_pos zero = omega arith
  start_pos (suc m) = omega (arith, start_pos m)

  ends : (m : ℕ) → m < n → end net (o m) (start m) ≡ sum (λ i. net.width (o i)) (suc m) + sum (λ i. net.guard (o i) (o (suc i))) m
  unfolding start sum
  ends zero l = omega (arith, good.wide (o 0) (ord.inside 0 l))
  ends (suc m) l = omega (arith, ends m (omega arith), good.wide (o m) (ord.inside m (omega arith)), good.wide (o (suc m)) (ord.inside (suc m) l), start_pos m)

  -- each is clear of all below it, not only of the one before
  above : (i j : ℕ) → i < j → j < n → end net (o i) (start i) + net.guard (o i) (o j) < start j
  unfolding start
  above i zero h l = absurd (omega arith)
  above i (suc m) h l = go (ℕ_discrete i m) (λ g. above i m g (omega arith))
    where
      wide : (k : ℕ) → k < n → 1 ≤ net.width (o k)
      wide k g = good.wide (o k) (ord.inside k g)

      go : Dec (i ≡ m) → (i < m → end net (o i) (start i) + net.guard (o i) (o m) < start m)
          → end net (o i) (start i) + net.guard (o i) (o (suc m)) < start m + net.width (o m) + net.guard (o m) (o (suc m))
      go (yes e) ih = rw e (omega (arith, wide m (omega arith), start_pos m))
      go (no ne) ih = omega (
        arith,
        ih (omega arith),
        rule (o i) (o m) (o (suc m)) (ord.inside i (omega arith)) (ord.inside m (omega arith)) (ord.inside (suc m) l) (ord.fresh i m (omega arith) (omega arith)) (ord.fresh m (suc m) (omega arith) l) (ord.fresh i (suc m) h l),
      )

  -- no end is above the last one
  rises : (i j : ℕ) → i ≤ j → j < n → end net (o i) (start i) ≤ end net (o j) (start j)
  rises i j h l = go (dec_lt i j)
    where
      go : Dec (i < j) → end net (o i) (start i) ≤ end net (o j) (start j)
      go (yes g) = omega (arith, above i j g l, good.wide (o j) (ord.inside j l))
      go (no g) = let e : i ≡ j = omega arith in rw e (omega arith)

  -- the plan, and that it is valid
  pub stack : ℕ → ℕ
  stack k = start (spot o n k)

  at_spot : (k : ℕ) → k < n → (spot o n k < n) × (o (spot o n k) ≡ k)
  at_spot k l = spot_holds o n (place o n ord) k l

  pub stack_valid : Valid net n stack
  unfolding stack
  stack_valid = record { lows = λ k l. omega (arith, lows k l, start_pos (spot o n k)); apart = λ i j h l c. apart i j h l }
    where
      clear : (i j : ℕ) → i < n → j < n → spot o n i < spot o n j → end net i (start (spot o n i)) + net.guard i j < start (spot o n j)
      clear i j h l g =
          let x = at_spot i h in
          let y = at_spot j l in
          rw (x.1, y.1) at (above (spot o n i) (spot o n j) g y.0)

      apart : (i j : ℕ) → i < j → j < n → Clear net stack i j ⊎ Clear net stack j i
      apart i j h l = go (dec_lt (spot o n i) (spot o n j)) (dec_lt (spot o n j) (spot o n i))
        where
          go : Dec (spot o n i < spot o n j) → Dec (spot o n j < spot o n i) → Clear net stack i j ⊎ Clear net stack j i
          go (yes g) d = inl (unfold stack in clear i j (omega arith) l g)
          go (no g) (yes d) = inr (unfold stack in clear j i l (omega arith) d)
          go (no g) (no d) = absurd (omega (arith, ap o (same g d), (at_spot i (omega arith)).1, (at_spot j l).1))
            where
              same : (spot o n i < spot o n j → ⊥) → (spot o n j < spot o n i → ⊥) → spot o n i ≡ spot o n j
              same g d = omega arith

  pub stack_highest : 1 ≤ n → highest net stack n ≤ sum (λ i. net.width (o i)) n + sum (λ i. net.guard (o i) (o (suc i))) (n - 1)
  stack_highest pos = highest_le net stack n _ (λ k l. each k l)
    where
      last : suc (n - 1) ≡ n
      last = omega arith

      each : (k : ℕ) → k < n → end net k (stack k) ≤ sum (λ i. net.width (o i)) n + sum (λ i. net.guard (o i) (o (suc i))) (n - 1)
      each k l = unfold stack in (
          let x = at_spot k l in
          omega (arith, rw x.1 at (rises (spot o n k) (n - 1) (omega arith) (omega arith)), rw last at (ends (n - 1) (omega arith)))
          )
