use Rattle.links.specs.Files.{search_step}
use Rattle.links.proofs.Files.link_of.Goals as goal

pub loop-j-preserved : goal.loop-j-preserved
loop-j-preserved c =
    (search_step _ _ _ _ _ _ _ _ _ c.args.self.now.filed c.loop-j.invariant c.loop-j-test.true (cc) (cc)).0
