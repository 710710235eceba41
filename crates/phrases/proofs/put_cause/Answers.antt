use Rattle.std.proofs.Common.{◌∙◌, sym}
use borrow.Author.Tests.{eq-eqb}
use Rattle.rules.specs.Asking.{refused_text, no_plan_text}
use Rattle.phrases.proofs.Causes.{other_number}
use Rattle.phrases.proofs.put_cause.Goals as goal

pub returns-then-number-clause-wrote : goal.returns-then-number-clause-wrote
unfolding refused_text
returns-then-number-clause-wrote g c = rw (eq-eqb c.args.number 6 (c.if-number.true ∙ c.number.ensures)) c.put_unknown.ensures.wrote

pub returns-then-number-2-clause-wrote : goal.returns-then-number-2-clause-wrote
unfolding refused_text
returns-then-number-2-clause-wrote g c = rw (c.if-number-2.true ∙ c.number-else-number.ensures) c.put_clash.ensures.wrote

pub returns-else-number-2-clause-wrote : goal.returns-else-number-2-clause-wrote
unfolding no_plan_text
returns-else-number-2-clause-wrote g c =
    rw (other_number c.args.labels.now c.args.name.now c.args.number c.args.cell c.args.short
    (λ e. c.if-number.false (e ∙ sym c.number.ensures)) (λ e. c.if-number-2.false (e ∙ sym c.number-else-number.ensures))) c.put_word.ensures
