-- What the theorems ask of a network. The tests give it (Limits). Assumes nothing.
use Rattle.std.specs.Prelude.{ℕ, ◌≤◌, ◌<◌, ◌≡◌}
use Rattle.rules.specs.Plan.{Net}

pub record Good (net : Net) (n : ℕ) : Type 0 where
  pub wide : (k : ℕ) → k < n → 1 ≤ net.width k
  pub above : (k : ℕ) → k < n → 1 ≤ net.low k
  pub mirrored : (i j : ℕ) → i < n → j < n → net.guard i j ≡ net.guard j i
  pub alone : (k : ℕ) → k < n → net.guard k k ≡ 255
