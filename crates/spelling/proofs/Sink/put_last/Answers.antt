use Rattle.spelling.proofs.Sink.put_last.Goals as goal

pub returns : goal.returns
returns g c =
    let laws = g.met.Self.Sink.laws in
    laws.both c.put_word.ensures (laws.both c.put_number.ensures c.put_word-2.ensures)
