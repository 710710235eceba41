use Rattle.std.proofs.Common.{◌<◌, refl, arith}
use Rattle.network.specs.Lent.{lent}
use Rattle.plan_laws.specs.Spreading.{spreading_first, spreading_below, spreading_side, spreading_more, spreading_last, spreading_all}
use Rattle.sides.proofs.mark_sides.Goals as goal
use Rattle.sides.proofs.mark_sides.Goals.{After-next_path-c}

-- the next path is a path
below : (c : After-next_path-c) → c.next_path-c.result < c.args.net.now.n
below c =
    let net = c.args.net.now in
    spreading_below net.n (lent net) net.within.few c.loop-m.mark c.loop-m._m (c.loop-m.invariant (lent net) refl) c.loop-m-test.true c.next_path-c.result _ c.next_path-c.ensures refl

pub loop-m-init : goal.loop-m-init
loop-m-init c = let net = c.args.net.now in λ l q. spreading_first net.n l net.within.few _ c.requires

pub bounds-mark-c : goal.bounds-mark-c
bounds-mark-c c = omega (arith, below (goal.at.bounds-mark-c c).After-next_path-c, c.args.net.now.within.few)

pub bounds-mark-c-in-loop-m : goal.bounds-mark-c-in-loop-m
bounds-mark-c-in-loop-m c = omega (arith, below (goal.at.bounds-mark-c-in-loop-m c).After-next_path-c, c.args.net.now.within.few)

pub overflow_sub-s : goal.overflow_sub-s
overflow_sub-s c =
    let net = c.args.net.now in
    omega (arith, spreading_side net.n (lent net) net.within.few c.loop-m.mark c.loop-m._m (c.loop-m.invariant (lent net) refl) c.loop-m-test.true c.next_path-c.result _ c.next_path-c.ensures c.asked_mark-s.ensures)

pub meet_row-requires : goal.meet_row-requires
meet_row-requires c = below (goal.at.meet_row-requires c).After-next_path-c

pub loop-m-preserved : goal.loop-m-preserved
loop-m-preserved c =
    let net = c.args.net.now in λ l q.
    spreading_more net.n l net.within.few c.loop-m.mark c.loop-m._m (c.loop-m.invariant l q) c.loop-m-test.true c.next_path-c.result _ c.next_path-c.ensures c.asked_mark-s.ensures _ (rw q c.meet_row.ensures)

pub returns-clause-mark_after : goal.returns-clause-mark_after
returns-clause-mark_after c =
    let net = c.args.net.now in λ l q.
    spreading_last net.n l net.within.few c.loop-m.mark c.loop-m._m (c.loop-m.invariant l q) c.loop-m-test.false

pub returns-clause-all_marked : goal.returns-clause-all_marked
returns-clause-all_marked c =
    let net = c.args.net.now in
    spreading_all net.n (lent net) net.within.few c.loop-m.mark c.loop-m._m (c.loop-m.invariant (lent net) refl) c.loop-m-test.false
