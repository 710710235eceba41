use Rattle.tables.proofs.Tests.{Met}
use Rattle.tables.proofs.check_order.Given as goal

abbrev pub invariant-loop-p : goal.invariant-loop-p
invariant-loop-p l = Met l.n l.order l.seen l.p
