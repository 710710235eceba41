use Rattle.reason_lines.specs.Told.{held_text}
use Rattle.reason_lines.proofs.put_held.Goals as goal

pub returns-clause-wrote : goal.returns-clause-wrote
unfolding held_text
returns-clause-wrote g c = g.met.S.Sink.laws.both c.put_word.ensures c.put_named.ensures.wrote
