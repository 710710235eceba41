use Rattle.std.proofs.Common.{refl}
use Rattle.plan_laws.specs.Passes.{Passing, sides_of, passing_first, passing_next, passing_low, passing_last}
use Rattle.sides.proofs.order_sides.Goals as goal
use Rattle.sides.proofs.order_sides.Goals.{After-put_side-low}

-- the low paths are in the order
low_put : (c : After-put_side-low) → Passing (sides_of c.args.mark.now) c.args.n c.args.order.now c.put_side-low.new.order 1 0 c.put_side-low.result
low_put c =
    let key = sides_of c.args.mark.now in
    passing_next key c.args.n c.args.order.now _ 0 c.args.n c.put_side-low.result (c.put_side-low.ensures c.args.order.now (passing_first key c.args.n c.args.order.now c.requires.1)) refl

pub put_side-low-requires : goal.put_side-low-requires
put_side-low-requires c =
    (c.requires.0, (c.args.order.now, passing_first (sides_of c.args.mark.now) c.args.n c.args.order.now c.requires.1))

pub put_side-requires : goal.put_side-requires
put_side-requires c =
    (c.requires.0, (c.args.order.now, low_put (goal.at.put_side-requires c).After-put_side-low))

pub returns : goal.returns
returns c =
    let l = low_put (goal.at.returns c).After-put_side-low in record {
      value = passing_low c.args.n c.args.mark.now c.args.order.now _ c.put_side-low.result l;
      order_after = passing_last c.args.n c.args.mark.now c.args.order.now _ c.put_side.result
          (passing_next (sides_of c.args.mark.now) c.args.n c.args.order.now _ 1 c.args.n c.put_side.result (c.put_side.ensures c.args.order.now l) refl);
    }
