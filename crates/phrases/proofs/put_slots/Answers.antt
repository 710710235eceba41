use Rattle.rules.specs.Asking.{slots_text}
use borrow.Author.Tests.{eq-eqb, ne_eqb}
use Rattle.phrases.proofs.put_slots.Goals as goal

pub returns-then-d-eq1-clause-wrote : goal.returns-then-d-eq1-clause-wrote
unfolding slots_text
returns-then-d-eq1-clause-wrote g c = rw (eq-eqb c.args.d 1 c.if-d-eq1.true) (g.met.S.Sink.laws.both c.put_number.ensures c.put_word.ensures)

pub returns-else-d-eq1-clause-wrote : goal.returns-else-d-eq1-clause-wrote
unfolding slots_text
returns-else-d-eq1-clause-wrote g c = rw (ne_eqb c.args.d 1 c.if-d-eq1.false) (g.met.S.Sink.laws.both c.put_number.ensures c.put_word-else-d-eq1.ensures)
