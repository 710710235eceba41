-- How many slots short a pair is: the number of RULES 4 by its two cases, and what it means. Assumes nothing.
use Rattle.std.specs.Prelude.{ℕ, ◌-◌, ◌≤◌, ◌<◌, ◌≡◌, true, false, ◌⊎◌}
use Rattle.std.proofs.Common.{inl, inr, arith}
use Rattle.std.proofs.Math.Decide.{dec_lt}
use borrow.Author.Tests.{eq-eqb, ne_eqb, lt-ltb, le-ltb}
use Rattle.rules.specs.Plan.{Net, past, Clear, is_lower, short}
use Rattle.rules.specs.Refusing.{Lacks}

-- of two paths i<j one is the lower
module _ (p : ℕ → ℕ) (i j : ℕ) where
  pub lower_below : i < j → p i ≤ p j → is_lower p i j ≡ true
  lower_below l h = go (dec_lt (p i) (p j))
    where
      go : Dec (p i < p j) → is_lower p i j ≡ true
      go (yes x) = unfold is_lower in (rw (lt-ltb (p i) (p j) x))
      go (no x) = unfold is_lower in (rw (le-ltb (p i) (p j) (omega arith), eq-eqb (p i) (p j) (omega arith), lt-ltb i j l))

  pub lower_above : p j < p i → is_lower p i j ≡ false
  unfolding is_lower
  lower_above h = rw (le-ltb (p i) (p j) (omega arith), ne_eqb (p i) (p j) (λ e. omega arith))

module _ (net : Net) (p : ℕ → ℕ) (i j : ℕ) where
  pub short_below : i < j → p i ≤ p j → short net p i j ≡ past net i j (p i) - p j
  unfolding short
  short_below l h = rw (lower_below p i j l h)

  pub short_above : p j < p i → short net p i j ≡ past net j i (p j) - p i
  unfolding short
  short_above h = rw (lower_above p i j h)

  -- it is 0 exactly where one of the two is clear of the other
  pub zero_clear : i < j → short net p i j ≡ 0 → Clear net p i j ⊎ Clear net p j i
  zero_clear l z = go (dec_lt (p j) (p i))
    where
      go : Dec (p j < p i) → Clear net p i j ⊎ Clear net p j i
      go (yes x) = inr (omega (arith, short_above x))
      go (no x) = inl (omega (arith, short_below l (omega arith)))

  pub clear_zero : i < j → 1 ≤ net.width i → 1 ≤ net.width j → Clear net p i j ⊎ Clear net p j i → short net p i j ≡ 0
  clear_zero l wi wj c = go (dec_lt (p j) (p i)) c
    where
      go : Dec (p j < p i) → Clear net p i j ⊎ Clear net p j i → short net p i j ≡ 0
      go (yes x) (inl a) = absurd (omega arith)
      go (yes x) (inr b) = omega (arith, short_above x)
      go (no x) (inl a) = omega (arith, short_below l (omega arith))
      go (no x) (inr b) = absurd (omega arith)

  -- in the words of rules/specs/Refusing: so many are lacking, and no other number
  pub short_lacks : i < j → 0 < short net p i j → Lacks net p i j (short net p i j)
  short_lacks l s = go (dec_lt (p j) (p i))
    where
      go : Dec (p j < p i) → Lacks net p i j (short net p i j)
      go (yes x) = inr (x, omega (arith, short_above x))
      go (no x) = inl (omega arith, omega (arith, short_below l (omega arith)))

  pub lacks_short : i < j → (s : ℕ) → Lacks net p i j s → s ≡ short net p i j
  lacks_short l s (inl (h, e)) = omega (arith, short_below l h)
  lacks_short l s (inr (h, e)) = omega (arith, short_above h)
