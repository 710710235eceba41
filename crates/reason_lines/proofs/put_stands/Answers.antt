use Rattle.rules.specs.Asking.{stands_text}
use Rattle.reason_lines.proofs.put_stands.Goals as goal

pub returns-clause-wrote : goal.returns-clause-wrote
unfolding stands_text
returns-clause-wrote g c = g.met.S.Sink.laws.both c.put_label.ensures (rw (c.from-s.ensures, c.from.ensures) at c.put_block.ensures.wrote)
