use Rattle.std.proofs.Common.{◌≡◌, ℕ, ◌<◌, length}
use Rattle.rules.specs.Tables.{at}
use Rattle.walks.specs.Square.{row_at, Row}
use Rattle.walks.proofs.square_of.Given as goal

abbrev pub invariant-loop-p : goal.invariant-loop-p
invariant-loop-p l = (length l.square ≡ 8) × ((i : ℕ) → i < l.p → Row l.guards l.list (at l.list i) (row_at l.square i))
