use Rattle.rules.specs.Asking.{asked}
use Rattle.console.proofs.Making.{wrote_from}
use Rattle.ask.proofs.respond.Goals as goal

pub returns : goal.returns
returns g c = λ t. wrote_from (asked c.args.count c.args.first.now c.args.second.now) c.args.input.now c.answer-m.new.out c.answer-m.result _ _ c.answer-m.ensures (c.print.ensures.wrote t)
