-- That a network is within its limits has one proof at most, as a fact that a value carries must. Assumes nothing.
use Rattle.std.specs.Prelude.{ℕ, ◌≤◌, ◌≡◌, ◌⊎◌}
use Rattle.std.proofs.Common.{ap, inl, inr, arith}
use Rattle.std.specs.Coded.{le_prop}
use Rattle.std.proofs.Math.Nat.{ℕ_set}
use Rattle.std.proofs.Props as std_props

-- a guard is 0 to 32 or 255, and never both
pub guard_prop : {x : ℕ} → IsProp ((x ≤ 32) ⊎ (x ≡ 255))
guard_prop (inl a) (inl b) = ap inl (le_prop a b)
guard_prop (inr a) (inr b) = ap inr (ℕ_set _ _ a b)
guard_prop (inl a) (inr b) = absurd (omega arith)
guard_prop (inr a) (inl b) = absurd (omega arith)

pub ruleset props = (guard_prop, std_props.props)
