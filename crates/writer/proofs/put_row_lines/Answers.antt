use native.Mathlib.Omega.{arith}
use Prim.Native.Nat.{◌+◌}
use Rattle.rules.specs.Writing.{guard_text}
use Rattle.sheet_laws.specs.Writes.{guard_none, pair_late}
use Rattle.spelling.specs.Joins.{join_empty, joins_room, joins_more}
use Rattle.writer.proofs.put_row_lines.Goals as goal

pub loop-j-init : goal.loop-j-init
loop-j-init g c =
    let line = guard_text c.args.labels.now c.args.guards.now c.args.i in
    rw (join_empty (c.args.i + 1) line (λ j l. guard_none c.args.labels.now c.args.guards.now c.args.i j (pair_late c.args.guards.now c.args.i j (omega arith))))
    (g.met.S.Sink.laws.none c.args.sink.now)

pub put_guard_line-requires : goal.put_guard_line-requires
put_guard_line-requires g c =
    let line = guard_text c.args.labels.now c.args.guards.now c.args.i in
    let room = joins_room g.met.S.Sink.laws line c.loop-j.j c.args.n (omega arith) (omega arith) c.loop-j.invariant in
    (omega arith, omega arith, omega arith, omega arith, room)

pub loop-j-preserved : goal.loop-j-preserved
loop-j-preserved g c =
    joins_more g.met.S.Sink.laws (guard_text c.args.labels.now c.args.guards.now c.args.i) c.loop-j.j c.loop-j.invariant c.put_guard_line.ensures
