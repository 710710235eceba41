use Rattle.rules.specs.Writing.{join_from, path_text}
use Rattle.writer.proofs.put_paths.Given as goal

abbrev pub invariant-loop-k : goal.invariant-loop-k
invariant-loop-k g l = g.S.Sink.takes l.initial.sink (join_from l.k 0 (path_text l.labels l.table)) l.sink
