-- The rule of packing (RULES 5): it is monotone, and what respects it. Assumes nothing.
use Prim.Native.Nat.{ℕ, zero, suc, ◌≤◌, ◌<◌, max}
use Rattle.std.specs.Prelude.{◌≡◌, Bool}
use Rattle.std.proofs.Math.Path.{refl}
use Rattle.std.proofs.Math.Bool.{true, false, cond}
use native.Mathlib.Omega.{arith}
use Rattle.std.proofs.Math.Dec.{ltb}
use Rattle.std.proofs.Common.{ltb-true, lt-ltb, le-ltb}
use Rattle.rules.specs.Plan.{Net, Conflict, past}
use Rattle.rules.specs.Packing.{reach, lowest}
use Rattle.table_laws.specs.Count.{each_suc}
use Rattle.plan_laws.specs.Pack.{Monotone, Local}

module _ (net : Net) where
  -- what the reach of a placed path asks
  reach_le : (j k s x : ℕ) → (Conflict net j k → past net j k s ≤ x) → reach net j k s ≤ x
  unfolding reach
  reach_le j k s x h = go (ltb (net.guard j k) 255) refl
    where
      go : (b : Bool) → ltb (net.guard j k) 255 ≡ b → cond b (past net j k s) 0 ≤ x
      go true e = h (ltb-true _ _ e)
      go false e = omega arith

  reach_ge : (j k s : ℕ) → Conflict net j k → past net j k s ≤ reach net j k s
  unfolding reach
  reach_ge j k s c = rw (lt-ltb (net.guard j k) 255 c) (omega arith)

  reach_mono : (j k s t : ℕ) → s ≤ t → reach net j k s ≤ reach net j k t
  reach_mono j k s t h = reach_le j k s _ (λ c. omega (arith, reach_ge j k t c))

  pub lowest_mono : Monotone (lowest net)
  unfolding lowest
  lowest_mono p q o zero k h = omega arith
  lowest_mono p q o (suc m) k h = omega (arith, lowest_mono p q o m k (λ i l. h i (omega arith)), reach_mono (o m) k (p (o m)) (q (o m)) (h m (omega arith)))

  pub lowest_low : (p o : ℕ → ℕ) (m k : ℕ) → net.low k ≤ lowest net p o m k
  unfolding lowest
  lowest_low p o zero k = omega arith
  lowest_low p o (suc m) k = omega (arith, lowest_low p o m k)

  pub lowest_past : (p o : ℕ → ℕ) (m k i : ℕ) → i < m → Conflict net (o i) k → past net (o i) k (p (o i)) ≤ lowest net p o m k
  unfolding lowest
  lowest_past p o zero k i l = absurd (omega arith)
  lowest_past p o (suc m) k i l =
      each_suc (λ i. Conflict net (o i) k → past net (o i) k (p (o i)) ≤ max (lowest net p o m k) (reach net (o m) k (p (o m)))) m
      (λ i l c. omega (arith, lowest_past p o m k i l c)) (λ c. omega (arith, reach_ge (o m) k (p (o m)) c)) i l

  pub lowest_le : (p o : ℕ → ℕ) (m k x : ℕ) → net.low k ≤ x → ((i : ℕ) → i < m → Conflict net (o i) k → past net (o i) k (p (o i)) ≤ x) → lowest net p o m k ≤ x
  unfolding lowest
  lowest_le p o zero k x l h = l
  lowest_le p o (suc m) k x l h = omega (arith, lowest_le p o m k x l (λ i g. h i (omega arith)), reach_le (o m) k (p (o m)) x (h m (omega arith)))

  -- it goes by the first m of the order and their starts alone
  pub lowest_local : Local (lowest net)
  unfolding lowest
  lowest_local p q o r zero k h g = refl
  lowest_local p q o r (suc m) k h g = rw (lowest_local p q o r m k (λ i l. h i (omega arith)) (λ i l. g i (omega arith)), g m (omega arith), h m (omega arith))

  -- what a path asks of another: the slot past it and their guard, or nothing
  pub reach_conflict : (j k s r : ℕ) → Conflict net j k → r ≡ past net j k s → r ≡ reach net j k s
  unfolding reach
  reach_conflict j k s r c e = rw (lt-ltb (net.guard j k) 255 c) e

  pub reach_free : (j k s : ℕ) → 255 ≤ net.guard j k → 0 ≡ reach net j k s
  unfolding reach
  reach_free j k s c = rw (le-ltb (net.guard j k) 255 c)
