use Rattle.std.proofs.Common.{◌≡◌, ◌-◌}
use Rattle.rules.specs.Sheet.{lines, path_step}
use Rattle.sections.proofs.paths.Given as goal

abbrev pub invariant-loop-k : goal.invariant-loop-k
invariant-loop-k l =
    lines path_step 2 (l.n - l.k-counter) l.k-counter (l.labels, l.widths) l.rest ≡ lines path_step 2 l.n 0 (l.initial.labels, l.initial.widths) l.initial.rest
