use Rattle.rules.specs.Limits.{KeptFrom}
use Rattle.network.specs.Lent.{lent}
use Rattle.rounds.proofs.Kept.{Improving}
use Rattle.rounds.proofs.improve_order.Given as goal

abbrev pub invariant-loop : goal.invariant-loop
invariant-loop l = Improving l.net.n (lent l.net) l.initial.order l.seed l.order l.run l.counter × KeptFrom l.net.n l.initial.need l.need
