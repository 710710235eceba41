use mathlib.Core.Path.{refl}
use native.Mathlib.Omega.{arith}
use lib.ListN.{replicate}
use Rattle.network.specs.Lent.{lent}
use Rattle.table_laws.specs.Updates.{update_set}
use Rattle.plan_laws.specs.Growing.{growing_first, growing_bound, growing_more}
use Rattle.greedy.proofs.greedy_order.Goals as goal

pub loop-m-init : goal.loop-m-init
loop-m-init c =
    let w = c.args.net.now.within in
    (c.lowest_starts.ensures.long, λ table l. growing_first _ (lent c.args.net.now) _ table w c.requires l _ c.lowest_starts.ensures.done)

-- over any table: the sums fit
pub place-requires : goal.place-requires
place-requires c =
    let w = c.args.net.now.within in
    let k = c.least_key-c.ensures.below in
    let g = c.loop-m.invariant.1 (replicate 128 0) refl in
    let low = growing_bound _ (lent c.args.net.now) _ _ w c.requires refl _ _ _ g c.loop-m-test.true _ c.least_key-c.ensures.least in
    (k, (omega (arith, low, w.few, c.loop-m-test.true, w.width _ k), c.loop-m.invariant.0))

pub loop-m-preserved : goal.loop-m-preserved
loop-m-preserved c =
    let w = c.args.net.now.within in (
      update_set _ _ _ _ _ _ _ c.place.ensures.1 c.loop-m.invariant.0,
      λ table l. growing_more _ (lent c.args.net.now) _ table w c.requires l _ _ _ (c.loop-m.invariant.1 table l) c.loop-m-test.true _ c.least_key-c.ensures.least _ _ refl (omega (arith, c.loop-m.invariant.0, w.few)) (rw c.width.ensures at c.place.ensures.1),
    )
