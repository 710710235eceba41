use Rattle.rules.specs.Asking.{unknown_text}
use Rattle.phrases.proofs.put_unknown.Goals as goal

pub returns-clause-wrote : goal.returns-clause-wrote
unfolding unknown_text
returns-clause-wrote g c =
    let laws = g.met.S.Sink.laws in
    laws.both c.put_word.ensures (laws.both c.put_word-2.ensures c.put_word-3.ensures)
