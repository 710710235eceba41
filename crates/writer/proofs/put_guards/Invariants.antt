use Rattle.rules.specs.Writing.{join_from, guard_text}
use Rattle.writer.proofs.put_guards.Given as goal

abbrev pub invariant-loop-i : goal.invariant-loop-i
invariant-loop-i g l = g.S.Sink.takes l.initial.sink (join_from l.i 0 (λ i. join_from l.n 0 (guard_text l.labels l.guards i))) l.sink
