use Rattle.rules.specs.Asking.{block_text}
use borrow.Author.Tests.{eq-eqb, ne_eqb}
use Rattle.phrases.proofs.put_block.Goals as goal

pub returns-then-s-e-clause-wrote : goal.returns-then-s-e-clause-wrote
unfolding block_text
returns-then-s-e-clause-wrote g c = rw (eq-eqb c.args.s c.args.e c.if-s-e.true) c.put_part.ensures.wrote

pub returns-else-s-e-clause-wrote : goal.returns-else-s-e-clause-wrote
unfolding block_text
returns-else-s-e-clause-wrote g c =
    rw (ne_eqb c.args.s c.args.e c.if-s-e.false) (g.met.S.Sink.laws.both c.put_part-else-s-e.ensures.wrote c.put_part-else-s-e-2.ensures.wrote)
