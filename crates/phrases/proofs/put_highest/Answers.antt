use Rattle.rules.specs.Asking.{valid_text}
use Rattle.phrases.proofs.put_highest.Goals as goal

pub returns-clause-wrote : goal.returns-clause-wrote
unfolding valid_text
returns-clause-wrote g c = g.met.S.Sink.laws.both c.put_part.ensures.wrote c.put_word.ensures
