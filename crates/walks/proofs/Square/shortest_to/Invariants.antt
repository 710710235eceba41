use Rattle.std.proofs.Common.{◌≡◌, length}
use Rattle.walks.specs.Square.{guard_in}
use Rattle.walks.specs.Filled.{Filled}
use Rattle.walks.proofs.Square.shortest_to.Given as goal

abbrev pub invariant-loop-s : goal.invariant-loop-s
invariant-loop-s l = (length l.walks ≡ length l.initial.walks) × Filled (guard_in l.self.guards) l.last l.s l.walks
