use Rattle.std.proofs.Common.{arith, below_more}
use Rattle.tables.proofs.first_cell.Goals as goal

pub returns-in-Some : goal.returns-in-Some
returns-in-Some g c =
    λ bad h. (omega arith, rw c.in-Some.is at (h c.loop-i.i c.in_row.result (omega arith) c.in_row.ensures), c.loop-i.invariant bad h)

pub loop-i-preserved : goal.loop-i-preserved
loop-i-preserved g c =
    λ bad h. below_more _ _ (c.loop-i.invariant bad h) (rw c.in_default.is at (h c.loop-i.i c.in_row.result (omega arith) c.in_row.ensures))

pub returns : goal.returns
returns g c = λ bad h i l. c.loop-i.invariant bad h i (omega arith)
