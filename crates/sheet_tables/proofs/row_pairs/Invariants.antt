use Prim.Native.Nat.{◌≤◌}
use mathlib.Core.Path.{◌≡◌}
use mathlib.Core.Bool.{cond}
use Rattle.rules.specs.Scan.{sum}
use Rattle.rules.specs.Writing.{is_pair}
use Rattle.sheet_tables.proofs.row_pairs.Given as goal

abbrev pub invariant-loop-j : goal.invariant-loop-j
invariant-loop-j l = (l.count ≡ sum (λ k. cond (is_pair l.guards l.i k) 1 0) l.j) × (l.count ≤ l.j)
