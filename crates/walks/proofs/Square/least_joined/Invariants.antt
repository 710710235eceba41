use Rattle.std.proofs.Common.{◌≡◌}
use Rattle.walks.specs.Joined.{least_joined}
use Rattle.walks.proofs.Square.least_joined.Given as goal

abbrev pub invariant-loop-s : goal.invariant-loop-s
invariant-loop-s l = l.best ≡ least_joined l.guards l.walks l.half l.s
