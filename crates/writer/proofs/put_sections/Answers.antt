use Rattle.writer.proofs.Sheets.{sheet_pieces}
use Rattle.writer.proofs.put_sections.Goals as goal

pub returns : goal.returns
returns g c =
    let laws = g.met.S.Sink.laws in
    let counted = rw c.pair_count.ensures.0 at c.put_count_line-2.ensures in
    rw (sheet_pieces c.args.n c.args.labels.now c.args.widths.now c.args.guards.now c.args.starts.now)
    (laws.both (laws.both c.put_count_line.ensures c.put_paths.ensures) (laws.both (laws.both counted c.put_guards.ensures) c.put_starts.ensures))
