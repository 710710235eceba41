-- A text that is taken but for a rest of it. Assumes nothing.
use Prim.Native.Nat.{ℕ, ◌≤◌}
use Rattle.std.specs.Prelude.{◌≡◌, refl, length}
use Rattle.std.proofs.Common.{ap, ◌∙◌, sym, append_assoc, length-append}
use Rattle.std.proofs.lemmas.List.{append-nil}
use mathlib.Core.List.{List, [], ◌++◌}
use native.Mathlib.Omega.{arith}
use Rattle.spelling.specs.Sinks.{IsSink}

abbrev pub TakesAllBut : {S : Type 0} → (S → List ℕ → S → Type 0) → List ℕ → S → List ℕ → S → Type 0
TakesAllBut takes rest s whole t = (w : List ℕ) × (takes s w t × (w ++ rest ≡ whole))

module _ {S : Type 0} {room : S → ℕ} {takes : S → List ℕ → S → Type 0} (laws : IsSink room takes) (whole : List ℕ) where
  -- before the first byte, and behind the last
  pub rest_all : (s : S) → TakesAllBut takes whole s whole s
  rest_all s = ([], (laws.none s, refl))

  pub rest_none : {s t : S} → TakesAllBut takes [] s whole t → takes s whole t
  rest_none h = rw (sym (append-nil h.0) ∙ h.1.1) at h.1.0

  -- there is room for what comes next, and then that is taken too
  pub rest_room : {s t : S} (v rest : List ℕ) → length whole ≤ room s → TakesAllBut takes (v ++ rest) s whole t → length v ≤ room t
  rest_room v rest l h = omega (arith, laws.left h.1.0, ap length h.1.1, length-append h.0 (v ++ rest), length-append v rest)

  pub rest_less : {s t u : S} (v rest : List ℕ) → TakesAllBut takes (v ++ rest) s whole t → takes t v u → TakesAllBut takes rest s whole u
  rest_less v rest h k = (h.0 ++ v, (laws.both h.1.0 k, append_assoc h.0 v rest ∙ h.1.1))
