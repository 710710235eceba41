use Rattle.std.proofs.Common.{◌≡◌, ◌-◌}
use Rattle.rules.specs.Sheet.{lines, start_step}
use Rattle.sections.proofs.starts.Given as goal

abbrev pub invariant-loop-k : goal.invariant-loop-k
invariant-loop-k l =
    lines (start_step l.labels) l.line (l.n - l.k-counter) l.k-counter l.starts l.rest ≡ lines (start_step l.labels) l.line l.n 0 l.initial.starts l.initial.rest
