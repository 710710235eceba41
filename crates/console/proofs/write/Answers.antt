use Rattle.std.proofs.Common.{arith}
use Rattle.std.proofs.lemmas.List.{take_rest}
use Rattle.std.proofs.Math.Seq.{take-add}
use Rattle.std.proofs.KnownBytes.{Appends-trans, Appends-kept}
use Rattle.console.proofs.write.Goals as goal
use Rattle.console.proofs.write.Goals.{in-Ok, in-Err+else-has_failed}

pub turns-preserved : goal.turns-preserved
turns-preserved g c =
    let h = c.turns.invariant in
    let bytes = c.args.bytes.now in
    let done = c.turns.length in
    elim c.match-write.branch [
      | in-Ok w ↦ rw w.length-is (record {
        within = omega (arith, w.in-Ok.ensures.bound);
        wrote = rw take-add (Appends-trans _ _ _ _ _ h.wrote (rw (take_rest bytes done) at w.in-Ok.ensures.bytes));
      })
      | in-Err+else-has_failed w ↦ rw w.length-is (record { within = h.within; wrote = Appends-kept _ _ _ _ h.wrote w.in-Err.ensures.bytes })
    ]
