use native.Mathlib.Omega.{arith}
use Rattle.rules.specs.Writing.{join_from, guard_text}
use Rattle.spelling.specs.Joins.{joins_none, joins_room, joins_more}
use Rattle.writer.proofs.put_guards.Goals as goal

pub loop-i-init : goal.loop-i-init
loop-i-init g c = joins_none g.met.S.Sink.laws (λ i. join_from c.args.n 0 (guard_text c.args.labels.now c.args.guards.now i)) c.args.sink.now

pub put_row_lines-requires : goal.put_row_lines-requires
put_row_lines-requires g c =
    let room = joins_room g.met.S.Sink.laws (λ i. join_from c.args.n 0 (guard_text c.args.labels.now c.args.guards.now i)) c.loop-i.i c.args.n (omega arith) (omega arith) c.loop-i.invariant in
    (omega arith, omega arith, omega arith, omega arith, room)

pub loop-i-preserved : goal.loop-i-preserved
loop-i-preserved g c =
    joins_more g.met.S.Sink.laws (λ i. join_from c.args.n 0 (guard_text c.args.labels.now c.args.guards.now i)) c.loop-i.i c.loop-i.invariant c.put_row_lines.ensures
