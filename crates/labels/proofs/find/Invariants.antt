use Rattle.std.proofs.Common.{◌≡◌, ℕ, ◌*◌, ◌<◌, false}
use Rattle.rules.specs.Sheet.{is_row}
use Rattle.labels.proofs.find.Given as goal

-- no row before the b-th eight holds the name
abbrev pub invariant-loop-b : goal.invariant-loop-b
invariant-loop-b l = (j : ℕ) → j < 8 * l.b → is_row l.labels l.name j ≡ false

-- nor one of the eight before k, where none is found
abbrev pub invariant-loop-k : goal.invariant-loop-k
invariant-loop-k l = l.is_here ≡ false → (j : ℕ) → j < l.k → is_row l.labels l.name j ≡ false
