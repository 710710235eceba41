use Rattle.rules.specs.Tables.{at, cell}
use Rattle.table_laws.specs.Updates.{Updated}
use Rattle.plan_laws.specs.Spreading.{meeting}
use Rattle.sides.proofs.meet_row.Given as goal

abbrev pub invariant-loop-k : goal.invariant-loop-k
invariant-loop-k l = Updated (λ k x. meeting l.asked (at l.net.guards.now (cell l.c k)) x) l.initial.mark l.mark l.k
