use Rattle.std.proofs.Common.{◌≡◌}
use Rattle.rules.specs.Tables.{Lent}
use Rattle.plan_laws.specs.Spreading.{Spreading}
use Rattle.sides.proofs.mark_sides.Given as goal

abbrev pub invariant-loop-m : goal.invariant-loop-m
invariant-loop-m l = (lent : Lent) → lent.guards ≡ l.net.guards.now → Spreading l.net.n lent l.mark l._m
