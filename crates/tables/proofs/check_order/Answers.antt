use Rattle.std.proofs.Common.{refl, sym, ◌∙◌, arith}
use lib.ListN.{replicate, get_or-replicate}
use Rattle.rules.specs.Numbers.{bad_entry, order_fault}
use Rattle.table_laws.specs.Faults.{scan_none, scan_at}
use Rattle.tables.proofs.Tests.{met_none, entry_over, entry_seen, met_more}
use Rattle.tables.proofs.check_order.Goals as goal
use Rattle.tables.proofs.check_order.Goals.{then-n-k-via-then-n-k, then-n-k-via-else-n-k+then-seen-k-ne0}

pub loop-p-init : goal.loop-p-init
loop-p-init c =
    met_none c.args.n c.args.order.now (replicate 128 0) refl (λ k l. get_or-replicate 128 k 0 0 (omega (arith, c.requires)))

pub returns-then-n-k : goal.returns-then-n-k
unfolding order_fault
returns-then-n-k c =
    let m = c.loop-p.invariant in
    c.at.ensures ∙ sym (scan_at 6 (bad_entry c.args.n c.args.order.now) c.args.n c.loop-p.p m.right
    (elim c.then-n-k.branch [
      | then-n-k-via-then-n-k w ↦ entry_over c.args.n c.args.order.now c.loop-p.seen c.loop-p.p (rw c.from-k.ensures at w.if-n-k.true)
      | then-n-k-via-else-n-k+then-seen-k-ne0 w ↦ entry_seen c.args.n c.args.order.now c.loop-p.seen c.loop-p.p m (rw c.from-k.ensures at w.if-n-k.false) (rw c.from-k.ensures at w.if-seen-k-ne0.true)
    ]) (omega arith))

pub loop-p-preserved : goal.loop-p-preserved
loop-p-preserved c =
    rw c.from-k.ensures
    (met_more c.args.n c.args.order.now c.loop-p.seen c.loop-p.p c.requires.0 (omega arith) c.loop-p.invariant (rw c.from-k.ensures at c.if-n-k.false) (rw c.from-k.ensures at c.if-seen-k-ne0.false))

pub returns : goal.returns
unfolding order_fault
returns c =
    sym (scan_none 6 (bad_entry c.args.n c.args.order.now) c.args.n (λ k l. c.loop-p.invariant.right k (omega arith)))
