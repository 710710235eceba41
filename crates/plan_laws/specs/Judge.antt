-- Judging: a plan is called valid exactly when RULES 4 calls it so, and that is 001's set distance. Assumes
-- nothing.
use Rattle.std.specs.Prelude.{ℕ, ◌+◌, ◌-◌, ◌≤◌, ◌<◌, ◌≡◌, ◌⊎◌, Bool, ◌&&◌, eqb}
use Rattle.std.proofs.Math.Path.{refl}
use Rattle.std.proofs.Math.Logic.{inl, inr}
use Rattle.std.proofs.Math.Bool.{true, false, not}
use native.Mathlib.Omega.{arith}
use Rattle.std.proofs.Math.Decide.{dec_lt}
use Rattle.std.proofs.Math.Dec.{ltb}
use borrow.Author.Tests.{ltb-true, lt-ltb, eq-eqb, eqb-true, not-false}
use Rattle.rules.specs.Scan.{found_pair, least}
use Rattle.rules.specs.Plan.{Net, Conflict, in_conflict, end, Clear, Valid, short, too_close, between, set_distance, Published}
use Rattle.plan_laws.specs.Short.{zero_clear, clear_zero}
use Rattle.table_laws.specs.Scans.{pair_none, pair_not, least_le, least_ge}

module _ (net : Net) (p : ℕ → ℕ) where
  -- the test of a pair is false exactly where the pair is not in conflict or one of the two is clear of the
  -- other
  pub quiet_clear : (i j : ℕ) → i < j → Conflict net i j → too_close net p i j ≡ false → Clear net p i j ⊎ Clear net p j i
  unfolding too_close
  quiet_clear i j h c e =
      zero_clear net p i j h (eqb-true _ 0 (not-false _ (rw (lt-ltb i j h, lt-ltb (net.guard i j) 255 c) at e)))

  pub clear_quiet : (i j : ℕ) → 1 ≤ net.width i → 1 ≤ net.width j → (i < j → Conflict net i j → Clear net p i j ⊎ Clear net p j i)
      → too_close net p i j ≡ false
  unfolding too_close
  clear_quiet i j wi wj h = go (ltb i j) refl (in_conflict net i j) refl
    where
      go : (a : Bool) → ltb i j ≡ a → (b : Bool) → in_conflict net i j ≡ b → (a && (b && not (eqb (short net p i j) 0))) ≡ false
      go false e b f = refl
      go true e false f = refl
      go true e true f =
          let l = ltb-true i j e in
          rw (eq-eqb (short net p i j) 0 (clear_zero net p i j l wi wj (h l (ltb-true _ _ f))))

  -- no pair is too close exactly where the plan is valid
  pub judged_valid : (n : ℕ) → ((k : ℕ) → k < n → net.low k ≤ p k) → found_pair (too_close net p) n ≡ false → Valid net n p
  judged_valid n lows e =
      record { lows = lows; apart = λ i j h l c. quiet_clear i j h c (pair_not (too_close net p) n e i j (omega arith) l) }

  pub valid_judged : (n : ℕ) → ((k : ℕ) → k < n → 1 ≤ net.width k) → Valid net n p → found_pair (too_close net p) n ≡ false
  valid_judged n wide v = pair_none (too_close net p) n (λ i j h l. clear_quiet i j (wide i h) (wide j l) (λ lt c. v.apart i j lt l c))

  -- 001's set distance of a pair is above its guard exactly where one is clear of the other
  distance_ge : (i j x : ℕ) → 1 ≤ net.width i → 1 ≤ net.width j
      → ((a b : ℕ) → a < net.width i → b < net.width j → x ≤ between (p i + a) (p j + b)) → x ≤ set_distance net p i j
  unfolding set_distance
  distance_ge i j x wi wj h =
      let d : x ≤ between (p i) (p j) = rw (plus_zero (p i), plus_zero (p j)) at (h 0 0 wi wj) in
      least_ge (between (p i) (p j)) (λ a. least (between (p i) (p j)) (λ b. between (p i + a) (p j + b)) (net.width j)) (net.width i) x d
      (λ a l. least_ge (between (p i) (p j)) (λ b. between (p i + a) (p j + b)) (net.width j) x d (λ b g. h a b l g))
    where
      plus_zero : (m : ℕ) → m + 0 ≡ m
      plus_zero m = omega arith

  distance_le : (i j a b : ℕ) → a < net.width i → b < net.width j → set_distance net p i j ≤ between (p i + a) (p j + b)
  unfolding set_distance
  distance_le i j a b l g =
      omega (
        arith,
        least_le (between (p i) (p j)) (λ a. least (between (p i) (p j)) (λ b. between (p i + a) (p j + b)) (net.width j)) (net.width i) a l,
        least_le (between (p i) (p j)) (λ b. between (p i + a) (p j + b)) (net.width j) b g,
      )

  pub clear_distance : (i j : ℕ) → 1 ≤ net.width i → 1 ≤ net.width j → net.guard j i ≡ net.guard i j
      → Clear net p i j ⊎ Clear net p j i → net.guard i j < set_distance net p i j
  unfolding between
  clear_distance i j wi wj e (inl x) = distance_ge i j _ wi wj (λ a b l g. omega arith)
  clear_distance i j wi wj e (inr x) = distance_ge i j _ wi wj (λ a b l g. omega arith)

  pub distance_clear : (i j : ℕ) → 1 ≤ net.width i → 1 ≤ net.width j → net.guard j i ≡ net.guard i j
      → net.guard i j < set_distance net p i j → Clear net p i j ⊎ Clear net p j i
  unfolding between
  distance_clear i j wi wj e h = go (dec_lt (end net i (p i)) (p j)) (dec_lt (end net j (p j)) (p i))
    where
      go : Dec (end net i (p i) < p j) → Dec (end net j (p j) < p i) → Clear net p i j ⊎ Clear net p j i
      go (yes x) d = inl (omega (arith, distance_le i j (net.width i - 1) 0 (omega arith) (omega arith)))
      go (no x) (yes y) = inr (omega (arith, distance_le i j 0 (net.width j - 1) (omega arith) (omega arith)))
      go (no x) (no y) = meet (dec_lt (p i) (p j))
        where
          meet : Dec (p i < p j) → Clear net p i j ⊎ Clear net p j i
          meet (yes z) = absurd (omega (arith, distance_le i j (p j - p i) 0 (omega arith) (omega arith)))
          meet (no z) = absurd (omega (arith, distance_le i j 0 (p i - p j) (omega arith) (omega arith)))

  -- where the two blocks lie apart it is from the end of the lower to the start of the upper
  pub distance_below : (i j : ℕ) → 1 ≤ net.width i → 1 ≤ net.width j → end net i (p i) < p j → set_distance net p i j ≡ p j - end net i (p i)
  unfolding between
  distance_below i j wi wj x =
      omega (
        arith,
        distance_le i j (net.width i - 1) 0 (omega arith) (omega arith),
        distance_ge i j (p j - end net i (p i)) wi wj (λ a b l g. omega arith),
      )

  pub distance_above : (i j : ℕ) → 1 ≤ net.width i → 1 ≤ net.width j → end net j (p j) < p i → set_distance net p i j ≡ p i - end net j (p j)
  unfolding between
  distance_above i j wi wj x =
      omega (
        arith,
        distance_le i j 0 (net.width j - 1) (omega arith) (omega arith),
        distance_ge i j (p i - end net j (p j)) wi wj (λ a b l g. omega arith),
      )

  module _ (n : ℕ) (wide : (k : ℕ) → k < n → 1 ≤ net.width k) (mirrored : (i j : ℕ) → i < n → j < n → net.guard i j ≡ net.guard j i) where
    pub valid_published : Valid net n p → Published net n p
    valid_published v = record {
      lows = v.lows;
      apart = λ i j h l c. clear_distance i j (wide i (omega arith)) (wide j l) (mirrored j i l (omega arith)) (v.apart i j h l c);
    }

    pub published_valid : Published net n p → Valid net n p
    published_valid v = record {
      lows = v.lows;
      apart = λ i j h l c. distance_clear i j (wide i (omega arith)) (wide j l) (mirrored j i l (omega arith)) (v.apart i j h l c);
    }
