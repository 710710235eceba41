use Rattle.std.proofs.Common.{arith}
use Rattle.walks.specs.Filled.{filling_more}
use Rattle.walks.proofs.Square.fill_set.Goals as goal

pub loop-j-preserved : goal.loop-j-preserved
loop-j-preserved c =
    filling_more _ _ _ _ c.loop-j.j _ c.loop-j.invariant (omega (arith, c.requires.0)) (omega (arith, c.requires.1)) c.least_from.ensures
