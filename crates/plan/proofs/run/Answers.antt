use Rattle.std.proofs.Common.{ap, arith}
use Rattle.std.specs.Option.{is_some}
use Rattle.rules.specs.Program.{printed}
use Rattle.printing.specs.Made.{noted}
use Rattle.console.proofs.Making.{wrote_of}
use Rattle.plan.proofs.run.Goals as goal

pub returns-clause-wrote : goal.returns-clause-wrote
returns-clause-wrote g c = λ t.
    wrote_of printed _ _ _ _ c.read_all-came.result.length c.read_all-came.new.text c.read_all-came.ensures.took
    (c.read_all-came.ensures.end (ap is_some c.in_default.is)) (omega arith) (c.respond.ensures.wrote t)

pub returns-clause-told : goal.returns-clause-told
returns-clause-told g c = λ t v.
    wrote_of noted _ _ _ _ c.read_all-came.result.length c.read_all-came.new.text c.read_all-came.ensures.took
    (c.read_all-came.ensures.end (ap is_some c.in_default.is)) (omega arith) (c.respond.ensures.told t v)
