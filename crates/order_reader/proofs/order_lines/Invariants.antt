use Rattle.std.proofs.Common.{◌≡◌, ◌-◌}
use Rattle.rules.specs.Sheet.{lines}
use Rattle.rules.specs.Grid.{order_step}
use Rattle.sheet_laws.specs.Grid.{lowered}
use Rattle.order_reader.proofs.order_lines.Given as goal

abbrev pub invariant-loop-k : goal.invariant-loop-k
invariant-loop-k l =
    lines (order_step (lowered l.anchor) l.labels l.widths) 2 (l.n - l.k-counter) l.k-counter l.starts l.rest ≡ lines (order_step (lowered l.anchor) l.labels l.widths) 2 l.n 0 l.initial.starts l.initial.rest
