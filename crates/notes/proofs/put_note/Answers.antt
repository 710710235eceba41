use Rattle.notes.specs.Note.{ending, note_text}
use Rattle.notes.proofs.put_note.Goals as goal

pub returns-then-sided-clause-wrote : goal.returns-then-sided-clause-wrote
unfolding note_text ending
returns-then-sided-clause-wrote g c =
    let laws = g.met.S.Sink.laws in
    rw c.if-sided.true (laws.both c.put_part.ensures.wrote (laws.both c.put_part-2.ensures.wrote (laws.both c.put_part-3.ensures.wrote c.put_word.ensures)))

pub returns-else-sided-clause-wrote : goal.returns-else-sided-clause-wrote
unfolding note_text ending
returns-else-sided-clause-wrote g c =
    let laws = g.met.S.Sink.laws in
    let swaps = laws.both c.put_part-else-sided.ensures.wrote c.put_word-else-sided.ensures in
    rw c.if-sided.false (laws.both c.put_part.ensures.wrote (laws.both c.put_part-2.ensures.wrote (laws.both c.put_part-3.ensures.wrote swaps)))
