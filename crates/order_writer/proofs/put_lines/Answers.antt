use mathlib.Core.Path.{◌≡◌}
use native.Mathlib.Omega.{arith}
use Rattle.rules.specs.Grid.{order_line_text, order_text}
use Rattle.sheet_laws.specs.Grid.{lowered, order_length}
use Rattle.spelling.specs.Joins.{joins_none, joins_room, joins_more}
use Rattle.order_writer.proofs.put_lines.Goals as goal

pub loop-k-init : goal.loop-k-init
loop-k-init g c =
    joins_none g.met.S.Sink.laws (order_line_text (lowered c.args.anchor) c.args.labels.now c.args.widths.now c.args.starts.now) c.put_count_line.new.self

pub put_line-requires : goal.put_line-requires
put_line-requires g c =
    let laws = g.met.S.Sink.laws in
    let line = order_line_text (lowered c.args.anchor) c.args.labels.now c.args.widths.now c.args.starts.now in
    let whole = order_length (lowered c.args.anchor) c.args.n c.args.labels.now c.args.widths.now c.args.starts.now in (
      c.requires.0.block c.loop-k.k (omega arith),
      joins_room laws line c.loop-k.k c.args.n (omega arith) (omega (arith, whole, laws.left c.put_count_line.ensures)) c.loop-k.invariant,
    )

pub loop-k-preserved : goal.loop-k-preserved
loop-k-preserved g c =
    let line = order_line_text (lowered c.args.anchor) c.args.labels.now c.args.widths.now c.args.starts.now in
    joins_more g.met.S.Sink.laws line c.loop-k.k c.loop-k.invariant c.put_line.ensures

pub returns : goal.returns
unfolding order_text
returns g c =
    let e : c.args.n ≡ c.loop-k.k = omega arith in
    let lines = rw (← e) at c.loop-k.invariant in
    g.met.S.Sink.laws.both c.put_count_line.ensures lines
