use Rattle.network.specs.Lent.{lent}
use Rattle.rules.specs.Tables.{at}
use Rattle.rules.specs.Plan.{net_of}
use Rattle.plan_laws.specs.Clash.{pair_lack}
use Rattle.std.proofs.Common.{arith}
use Rattle.clashes.proofs.cell_short.Goals as goal

pub returns : goal.returns
returns c =
    let p = c.args.plan.now in
    cc (pair_lack (net_of (lent p.net)) (at p.starts.now) c.args.i c.args.j c.requires.0 (p.net.within.mirrored c.args.i c.args.j (omega arith) c.requires.1))
