use Prim.Native.Nat.{ℕ, ◌≤◌, ◌<◌}
use mathlib.Core.Path.{◌≡◌}
use Rattle.rules.specs.Tables.{at, cell}
use Rattle.guard_rows.proofs.row_top.Given as goal

abbrev pub invariant-loop-j : goal.invariant-loop-j
invariant-loop-j l = (k : ℕ) → k < l.j → l.top ≤ 33 → (at l.guards (cell l.i k) ≡ 255 → ⊥) → at l.guards (cell l.i k) ≤ 32
