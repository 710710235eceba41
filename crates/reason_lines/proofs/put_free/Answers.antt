use Rattle.reason_lines.specs.Told.{free_text}
use Rattle.reason_lines.proofs.put_free.Goals as goal

pub returns-clause-wrote : goal.returns-clause-wrote
unfolding free_text
returns-clause-wrote g c =
    let laws = g.met.S.Sink.laws in
    laws.both c.put_word.ensures (laws.both c.put_slots.ensures.wrote c.put_word-2.ensures)
