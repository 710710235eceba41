use Rattle.std.proofs.Common.{ap, arith}
use Rattle.std.specs.Option.{is_some}
use Rattle.rules.specs.Asking.{asked}
use Rattle.console.proofs.Making.{wrote_of, wrote_same}
use Rattle.ask.proofs.run.Goals as goal

pub returns-then-not-needs_input : goal.returns-then-not-needs_input
returns-then-not-needs_input g c = λ t. wrote_same (asked c.args.count c.args.first.now c.args.second.now) _ _ _ (c.needs_input.ensures c.if-not-needs_input.true) (c.respond.ensures t)

pub returns : goal.returns
returns g c = λ t. wrote_of (asked c.args.count c.args.first.now c.args.second.now) _ _ _ _ c.read_all-came.result.length c.read_all-came.new.text c.read_all-came.ensures.took (c.read_all-came.ensures.end (ap is_some c.in_default.is)) (omega arith) (c.respond-2.ensures t)
