use Rattle.order_writer.proofs.Fields.{line_fields}
use Rattle.order_writer.proofs.put_line.Goals as goal

pub returns : goal.returns
returns g c =
    let laws = g.met.S.Sink.laws in
    rw (line_fields c.args.anchor c.args.labels.now c.args.widths.now c.args.starts.now c.args.k c.from.result c.from-m.result c.number-n.result c.from.ensures c.from-m.ensures c.number-n.ensures.0)
    (laws.both c.put_label.ensures (laws.both c.put_word.ensures (laws.both c.put_signed.ensures c.put_last.ensures)))
