use Rattle.walks.specs.Filled.{Filling}
use Rattle.walks.proofs.Square.fill_set.Given as goal

abbrev pub invariant-loop-j : goal.invariant-loop-j
invariant-loop-j l = Filling l.self.guards l.s l.j l.initial.walks l.walks
