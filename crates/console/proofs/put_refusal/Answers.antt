use Rattle.rules.specs.Program.{refusal_text}
use Rattle.console.proofs.put_refusal.Goals as goal

pub returns-clause-wrote : goal.returns-clause-wrote
unfolding refusal_text
returns-clause-wrote g c =
    let laws = g.met.S.Sink.laws in
    laws.both c.put_part.ensures.wrote (laws.both c.put_part-2.ensures.wrote c.put_word.ensures)
