use Rattle.rules.specs.Writing.{join_from, guard_text}
use Rattle.writer.proofs.put_row_lines.Given as goal

abbrev pub invariant-loop-j : goal.invariant-loop-j
invariant-loop-j g l = g.S.Sink.takes l.initial.sink (join_from l.j 0 (guard_text l.labels l.guards l.i)) l.sink
