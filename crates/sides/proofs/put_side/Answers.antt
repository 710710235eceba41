use Rattle.std.proofs.Common.{◌≡◌, ℕ, cond, eqb-true, arith, ◌∙◌}
use Rattle.rules.specs.Tables.{at}
use Rattle.plan_laws.specs.Passes.{sides_of, passing_long, passing_room, passing_more}
use Rattle.sides.proofs.Steps.{side_test}
use Rattle.sides.proofs.put_side.Goals as goal
use Rattle.sides.proofs.put_side.Goals.{then-mark-k, else-mark-k}

pub bounds-order-p : goal.bounds-order-p
bounds-order-p c =
    let key = sides_of c.args.mark.now in
    let value : ℕ = cond c.args.high 1 0 in
    let before = c.requires.1.0 in
    let a = c.loop-k.invariant before c.requires.1.1 in
    let e : key c.loop-k.k ≡ value = eqb-true _ _ (side_test (at c.args.mark.now c.loop-k.k) c.args.high ∙ c.if-mark-k.true) in
    omega (arith, a.room, passing_long key c.args.n before c.loop-k.order value c.loop-k.k c.loop-k.p a, passing_room key c.args.n before c.loop-k.order value c.loop-k.k c.loop-k.p a c.loop-k-test.true e)

pub loop-k-preserved : goal.loop-k-preserved
loop-k-preserved c = λ before a.
    passing_more (sides_of c.args.mark.now) c.args.n before c.loop-k.order (cond c.args.high 1 0) c.loop-k.k c.loop-k.p (c.loop-k.invariant before a) c.loop-k-test.true c.if-mark-k.order c.if-mark-k.p
    (elim c.if-mark-k.branch [ then-mark-k w ↦ rw (side_test, w.if-mark-k.true) w.p-is | else-mark-k w ↦ rw (side_test, w.if-mark-k.false) w.p-is ])
    (elim c.if-mark-k.branch [ then-mark-k w ↦ rw (side_test, w.if-mark-k.true) w.order-is | else-mark-k w ↦ rw (side_test, w.if-mark-k.false) w.order-is ])
