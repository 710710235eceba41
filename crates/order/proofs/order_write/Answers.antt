use Rattle.std.proofs.Common.{◌≡◌, ℤ, sym, ap, ◌∙◌, to_z-of_z}
use Rattle.std.proofs.lemmas.Result.{err_from_is_err_and}
use Rattle.rules.specs.Tables.{lend}
use Rattle.rules.specs.Numbers.{no_fault}
use Rattle.rules.specs.Calls.{order_writing}
use Rattle.sheet_laws.specs.Grid.{lowered}
use Rattle.sheet_laws.specs.Outcomes.{room_is, room_clear, written_err, written_ok}
use Rattle.sheet_laws.specs.Shorts.{refuse_short, refused_short, handed_short}
use Rattle.table_laws.specs.Results.{clear_none, err_stop, ok_on}
use Rattle.order_writer.specs.Ready.{Ready}
use Rattle.order.specs.Tests.{table_fault}
use Rattle.order.proofs.Outcomes.{table_passed, table_short, table_ready, writing_is}
use Rattle.order.proofs.order_write.Goals as goal
use Rattle.order.proofs.order_write.Goals.{After-counted-low}

-- the tests, by the anchor as it is counted; and so the call
tested : (c : After-counted-low) → no_fault ≡ table_fault (lowered c.counted-low.result) c.args.n c.args.labels.now (lend c.args.widths.now c.args.guards.now) c.args.starts.now
tested c = rw c.counted-low.ensures.0 at c.in_ok-check_tables.ensures

the_call : (c : After-counted-low) → order_writing (lowered c.counted-low.result) c.args.n c.args.labels.now (lend c.args.widths.now c.args.guards.now) c.args.starts.now c.args.text.now ≡ order_writing c.args.anchor c.args.n c.args.labels.now (lend c.args.widths.now c.args.guards.now) c.args.starts.now c.args.text.now
the_call c =
    ap (λ (z : ℤ). order_writing z c.args.n c.args.labels.now (lend c.args.widths.now c.args.guards.now) c.args.starts.now c.args.text.now) (sym c.counted-low.ensures.0 ∙ to_z-of_z c.ranges.anchor)

ready : (c : After-counted-low) → Ready c.counted-low.result c.args.n c.args.labels.now c.args.widths.now c.args.starts.now
ready c = table_ready _ _ _ _ _ _ c.counted-low.ensures.1 c.counted-low.ensures.2 (clear_none (tested c))

pub returns-in_err-check_tables-clause-writes : goal.returns-in_err-check_tables-clause-writes
returns-in_err-check_tables-clause-writes c =
    let p = err_from_is_err_and c.from_residual.result c.from_residual.ensures.1 in
    rw (p.1, p.2) (written_err _ _ _ (err_stop _ _ (rw (to_z-of_z c.ranges.anchor) at c.in_err-check_tables.ensures)) ∙ writing_is _ _ _ _ _ _)

pub returns-in_err-check_tables-clause-short : goal.returns-in_err-check_tables-clause-short
returns-in_err-check_tables-clause-short c =
    handed_short _ _ c.from_residual.ensures.1 (refused_short _ c.in_err-check_tables.ensures (table_short _ _ _ _ _))

pub counted-low-requires : goal.counted-low-requires
counted-low-requires c = (table_passed _ _ _ _ _ (clear_none c.in_ok-check_tables.ensures)).in_range

pub order_length-length-requires : goal.order_length-length-requires
order_length-length-requires c = ready (goal.at.order_length-length-requires c).After-counted-low

pub returns-in_err-refuse_if-clause-writes : goal.returns-in_err-refuse_if-clause-writes
returns-in_err-refuse_if-clause-writes c =
    let p = err_from_is_err_and c.from_residual-in_err-refuse_if.result c.from_residual-in_err-refuse_if.ensures.1 in
    let d = (goal.at.returns-in_err-refuse_if-clause-writes c).After-counted-low in
    rw (p.1, p.2)
    (written_err _ _ _ (ok_on _ (tested d) (c.in_err-refuse_if.ensures ∙ room_is _ _ c.order_length-length.ensures)) ∙ writing_is _ _ _ _ _ _ ∙ the_call d)

pub returns-in_err-refuse_if-clause-short : goal.returns-in_err-refuse_if-clause-short
returns-in_err-refuse_if-clause-short c =
    handed_short _ _ c.from_residual-in_err-refuse_if.ensures.1 (refused_short _ c.in_err-refuse_if.ensures (refuse_short _ 16 0))

pub put_order-requires : goal.put_order-requires
put_order-requires c =
    (ready (goal.at.put_order-requires c).After-counted-low, room_clear _ _ (c.in_ok-refuse_if.ensures ∙ room_is _ _ c.order_length-length.ensures))

pub returns-clause-writes : goal.returns-clause-writes
returns-clause-writes c =
    let room = c.in_ok-refuse_if.ensures ∙ room_is _ _ c.order_length-length.ensures in
    let d = (goal.at.returns-clause-writes c).After-counted-low in
    written_ok _ _ (ok_on _ (tested d) room) (room_clear _ _ room) _ _ c.put_order.ensures ∙ writing_is _ _ _ _ _ _ ∙ the_call d
