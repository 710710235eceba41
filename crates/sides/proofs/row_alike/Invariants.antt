use Rattle.std.proofs.Common.{◌≡◌}
use Rattle.rules.specs.Scan.{found}
use Rattle.plan_laws.specs.Alike.{alike}
use Rattle.sides.proofs.row_alike.Given as goal

abbrev pub invariant-loop-j : goal.invariant-loop-j
invariant-loop-j l = l.any ≡ found (alike l.net.guards.now l.mark l.i) l.j
