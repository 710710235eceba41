use Rattle.rules.specs.Writing.{join_from}
use Rattle.rules.specs.Grid.{order_line_text}
use Rattle.sheet_laws.specs.Grid.{lowered}
use Rattle.order_writer.proofs.put_lines.Given as goal

abbrev pub invariant-loop-k : goal.invariant-loop-k
invariant-loop-k g l = g.S.Sink.takes l.initial.sink (join_from l.k 0 (order_line_text (lowered l.anchor) l.labels l.widths l.starts)) l.sink
