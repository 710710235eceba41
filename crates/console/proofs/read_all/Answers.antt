use Rattle.std.proofs.Common.{arith}
use Rattle.console.proofs.Keeping.{more_came, more_took, same_took}
use Rattle.console.proofs.read_all.Goals as goal
use Rattle.console.proofs.read_all.Goals.{in-Ok, in-Err+else-has_failed}

pub turns-preserved : goal.turns-preserved
turns-preserved g c =
    let h = c.turns.invariant in
    elim c.match-read.branch [
      | in-Ok w ↦ rw (w.length-is, w.text-is) (record {
        came = more_came _ _ _ _ _ _ h.came w.keep-length.ensures (omega arith);
        took = more_took _ _ _ _ _ _ _ _ _ h.came w.keep-length.ensures (omega arith) (omega arith) h.took w.in-Ok.ensures.bytes.0;
      })
      | in-Err+else-has_failed w ↦ rw (w.length-is, w.text-is) (record { came = h.came; took = same_took _ _ _ _ _ h.took w.in-Err.ensures.bytes })
    ]
