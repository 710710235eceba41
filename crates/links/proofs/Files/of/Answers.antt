use Rattle.std.proofs.Common.{arith}
use Rattle.rules.specs.Tables.{cleared}
use Rattle.links.specs.Files.{filed_none, filed_more}
use Rattle.links.proofs.Files.of.Goals as goal

pub loop-j-init : goal.loop-j-init
unfolding cleared
loop-j-init c = filed_none _ _ _ _ c.args.plan.now.net.within.few (omega arith) (omega arith)

pub loop-j-preserved : goal.loop-j-preserved
loop-j-preserved c =
    filed_more _ _ c.loop-j.j _ _ _ _ (omega arith) (omega arith) c.args.plan.now.net.within.few c.file_of-own.ensures.0 c.file_of-own.ensures.1 c.loop-j.invariant
