use Rattle.std.proofs.Common.{subst, take}
use Rattle.std.specs.Io.KnownBytes.{Appends}
use Rattle.rules.specs.Program.{printed}
use Rattle.printing.specs.Made.{noted}
use Rattle.console.proofs.Making.{wrote_from}
use Rattle.plan.proofs.respond.Goals as goal

pub returns-then-not-is_printed-clause-wrote : goal.returns-then-not-is_printed-clause-wrote
returns-then-not-is_printed-clause-wrote g c = λ t.
    wrote_from printed c.args.input.now c.answer-made.new.out c.answer-made.result.out _ _ c.answer-made.ensures.prints (c.print-is_printed.ensures.wrote t)

pub returns-clause-wrote : goal.returns-clause-wrote
returns-clause-wrote g c = λ t.
    wrote_from printed c.args.input.now c.answer-made.new.out c.answer-made.result.out _ _ c.answer-made.ensures.prints (c.print-is_printed.ensures.wrote c.if-not-is_printed.false)

-- nothing was told before
pub returns-clause-told : goal.returns-clause-told
returns-clause-told g c = λ t v.
    wrote_from noted c.args.input.now c.answer-made.new.line c.answer-made.result.line _ _ c.answer-made.ensures.notes
    (subst (λ e. Appends (g.E.Write.contents e) (g.E.Write.contents c.note.new.errors) (take c.answer-made.result.line c.answer-made.new.line))
    (c.print-is_printed.ensures.silent c.if-not-is_printed.false) (c.note.ensures t))
