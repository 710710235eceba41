-- Of two conflicting paths of a valid plan one is clear below the other, and so lower. Assumes nothing.
use Rattle.std.specs.Prelude.{ℕ, ◌<◌, ◌≡◌, ◌⊎◌}
use Rattle.std.proofs.Common.{subst, inl, inr, arith}
use Rattle.std.proofs.Math.Decide.{dec_lt}
use Rattle.rules.specs.Plan.{Net, Conflict, Clear, Valid}
use Rattle.plan_laws.specs.Good.{Good}

module _ (net : Net) (n : ℕ) (good : Good net n) where
  pub either : {q : ℕ → ℕ} → Valid net n q → (i j : ℕ) → i < n → j < n → Conflict net i j → Clear net q i j ⊎ Clear net q j i
  either {q} v i j h l c = go (dec_lt i j) (dec_lt j i)
    where
      flip : Clear net q j i ⊎ Clear net q i j → Clear net q i j ⊎ Clear net q j i
      flip (inl x) = inr x
      flip (inr x) = inl x

      go : Dec (i < j) → Dec (j < i) → Clear net q i j ⊎ Clear net q j i
      go (yes x) d = v.apart i j x l c
      go (no x) (yes y) = flip (v.apart j i y h (omega (arith, good.mirrored i j h l)))
      go (no x) (no y) = let e : i ≡ j = omega arith in absurd (omega (arith, good.alone j l, subst (λ x. net.guard x j < 255) e c))

  pub clear_lt : (q : ℕ → ℕ) (i j : ℕ) → i < n → Clear net q i j → q i < q j
  clear_lt q i j h x = omega (arith, good.wide i h)

  pub lower_clear : {q : ℕ → ℕ} → Valid net n q → (i j : ℕ) → i < n → j < n → Conflict net i j → q i < q j → Clear net q i j
  lower_clear {q} v i j h l c lt = go (either v i j h l c)
    where
      go : Clear net q i j ⊎ Clear net q j i → Clear net q i j
      go (inl x) = x
      go (inr x) = absurd (omega (arith, clear_lt q j i l x))
