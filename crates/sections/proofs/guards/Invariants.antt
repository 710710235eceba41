use Rattle.std.proofs.Common.{◌≡◌, ◌+◌, ◌-◌}
use Rattle.rules.specs.Sheet.{lines, guard_step}
use Rattle.sections.proofs.guards.Given as goal

abbrev pub invariant-loop-k : goal.invariant-loop-k
invariant-loop-k l =
    lines (guard_step l.n l.labels) (l.n + 3) (l.m - l.k-counter) l.k-counter l.guards l.rest ≡ lines (guard_step l.n l.labels) (l.n + 3) l.m 0 l.initial.guards l.initial.rest
