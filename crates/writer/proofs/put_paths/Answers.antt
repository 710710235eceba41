use native.Mathlib.Omega.{arith}
use Rattle.rules.specs.Writing.{path_text}
use Rattle.spelling.specs.Joins.{joins_none, joins_room, joins_more}
use Rattle.writer.proofs.put_paths.Goals as goal

pub loop-k-init : goal.loop-k-init
loop-k-init g c = joins_none g.met.S.Sink.laws (path_text c.args.labels.now c.args.table.now) c.args.sink.now

pub put_path_line-requires : goal.put_path_line-requires
put_path_line-requires g c =
    let room = joins_room g.met.S.Sink.laws (path_text c.args.labels.now c.args.table.now) c.loop-k.k c.args.n (omega arith) (omega arith) c.loop-k.invariant in
    (omega arith, omega arith, room)

pub loop-k-preserved : goal.loop-k-preserved
loop-k-preserved g c =
    joins_more g.met.S.Sink.laws (path_text c.args.labels.now c.args.table.now) c.loop-k.k c.loop-k.invariant c.put_path_line.ensures
