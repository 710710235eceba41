use Rattle.std.proofs.Common.{◌+◌, set, subst, arith}
use Rattle.network.specs.Lent.{lent}
use Rattle.rules.specs.Tables.{at}
use Rattle.rules.specs.Plan.{net_of}
use Rattle.plan_laws.specs.Reason.{Writing, writing_first, writing_stop, writing_more, writing_full}
use Rattle.reason.proofs.Told.{chain_ends, chain_goes}
use Rattle.reason.proofs.write_chain.Goals as goal

pub loop-m-init : goal.loop-m-init
loop-m-init c = writing_first _ _ _ _ _ c.requires.0

pub returns-in-None : goal.returns-in-None
returns-in-None c =
    let w = writing_stop _ _ _ _ _ _ _ _ c.loop-m.invariant (omega (arith, c.requires.1, c.args.files.now.plan.now.net.within.few)) c.loop-m-test.true (chain_ends _ _ _ _ c.in-None.ensures) in
    record { value = w.0; table_after = w.1 }

pub loop-m-preserved : goal.loop-m-preserved
loop-m-preserved c =
    let p = c.args.files.now.plan.now in
    let g = chain_goes _ _ _ _ c.in-Some.below c.in-Some.ensures in
    subst (λ k. Writing (net_of (lent p.net)) (at p.starts.now) p.net.n c.args.path c.args.table.now (c.loop-m.m + 1) k (set c.loop-m.table c.loop-m.m c.loop-m.k)) g.1 (writing_more _ _ _ _ _ _ _ _ c.loop-m.invariant c.loop-m-test.true g.0)

pub returns : goal.returns
returns c =
    let w = writing_full _ _ _ _ _ _ _ _ c.loop-m.invariant (omega (arith, c.requires.1, c.args.files.now.plan.now.net.within.few)) c.loop-m-test.false in
    record { value = omega (arith, w.0); table_after = w.1 }
