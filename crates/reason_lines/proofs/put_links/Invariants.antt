use Prim.Native.Nat.{◌+◌, ◌*◌, ◌≤◌}
use Rattle.rules.specs.Tables.{at, lend}
use Rattle.rules.specs.Plan.{net_of}
use Rattle.rules.specs.Writing.{join_from}
use Rattle.rules.specs.Asking.{link_text}
use Rattle.reason_lines.proofs.put_links.Given as goal

abbrev pub invariant-loop-i : goal.invariant-loop-i
invariant-loop-i g l =
    record {
      wrote : g.S.Sink.takes l.initial.sink (join_from l.i 0 (λ m. link_text l.labels (net_of (lend l.widths l.guards)) (at l.starts) (at l.chain m) (at l.chain (m + 1)))) l.sink;
      upper_bound : g.S.Sink.room l.initial.sink ≤ g.S.Sink.room l.sink + 68 * l.i;
    }
