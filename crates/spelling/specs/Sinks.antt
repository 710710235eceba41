-- What holds of all that takes a text: no piece changes nothing, two pieces are one, and each takes its bytes of the
-- room. Assumes nothing.
use Rattle.std.specs.Prelude.{ℕ, ◌+◌, ◌≡◌, List, [], ◌++◌, length}

pub record IsSink {S : Type 0} (room : S → ℕ) (takes : S → List ℕ → S → Type 0) : Type 0 where
  pub none : (s : S) → takes s [] s
  pub both : {s t u : S} {v w : List ℕ} → takes s v t → takes t w u → takes s (v ++ w) u
  pub left : {s t : S} {w : List ℕ} → takes s w t → room t + length w ≡ room s
