use Rattle.std.proofs.Common.{◌≡◌, ℤ, length, sym, ap, ◌∙◌, to_z-of_z}
use Rattle.std.proofs.lemmas.Result.{err_from_is_err_and}
use Rattle.rules.specs.Tables.{lend}
use Rattle.rules.specs.Numbers.{no_fault, order_read_fault}
use Rattle.rules.specs.Calls.{order_reading}
use Rattle.sheet_laws.specs.Grid.{lowered}
use Rattle.sheet_laws.specs.Shorts.{order_short, refused_short, handed_short}
use Rattle.table_laws.specs.Results.{clear_none}
use Rattle.order.proofs.Outcomes.{Passed, lent_passed, read_refused, read_halt, read_done}
use Rattle.order.proofs.order_read.Goals as goal
use Rattle.order.proofs.order_read.Goals.{In_ok-check_lent, After-counted-low}

passed : (c : In_ok-check_lent) → Passed c.args.anchor c.args.n c.args.labels.now (lend c.args.widths.now c.args.guards.now) c.args.starts.now
passed c = lent_passed _ _ _ _ _ (clear_none (rw (to_z-of_z c.ranges.anchor) at c.in_ok-check_lent.ensures))

-- the tests, by the anchor as it is counted; and so the call
tested : (c : After-counted-low) → no_fault ≡ order_read_fault (lowered c.counted-low.result) c.args.n c.args.labels.now (lend c.args.widths.now c.args.guards.now) c.args.starts.now
tested c = rw c.counted-low.ensures.0 at c.in_ok-check_lent.ensures

the_call : (c : After-counted-low) → order_reading (lowered c.counted-low.result) c.args.text.now c.args.n c.args.labels.now (lend c.args.widths.now c.args.guards.now) c.args.starts.now
    ≡ order_reading c.args.anchor c.args.text.now c.args.n c.args.labels.now (lend c.args.widths.now c.args.guards.now) c.args.starts.now
the_call c =
    ap (λ (z : ℤ). order_reading z c.args.text.now c.args.n c.args.labels.now (lend c.args.widths.now c.args.guards.now) c.args.starts.now) (sym c.counted-low.ensures.0 ∙ to_z-of_z c.ranges.anchor)

pub returns-in_err-check_lent-clause-reads : goal.returns-in_err-check_lent-clause-reads
returns-in_err-check_lent-clause-reads c =
    let p = err_from_is_err_and c.from_residual.result c.from_residual.ensures.1 in
    rw (p.1, p.2) (read_refused _ _ _ _ _ _ _ (rw (to_z-of_z c.ranges.anchor) at c.in_err-check_lent.ensures))

pub returns-in_err-check_lent-clause-short : goal.returns-in_err-check_lent-clause-short
returns-in_err-check_lent-clause-short c =
    handed_short _ _ c.from_residual.ensures.1 (refused_short _ c.in_err-check_lent.ensures (order_short _ _ _ _ _))

pub counted-low-requires : goal.counted-low-requires
counted-low-requires c = rw (to_z-of_z c.ranges.anchor) (passed (goal.at.counted-low-requires c).In_ok-check_lent).in_range

pub copy_from_slice-requires : goal.copy_from_slice-requires
copy_from_slice-requires c = sym (passed (goal.at.copy_from_slice-requires c).In_ok-check_lent).starts_size

pub order_part-requires : goal.order_part-requires
order_part-requires c =
    let p = passed (goal.at.order_part-requires c).In_ok-check_lent in
    (c.counted-low.ensures.2, p.network.few, p.labels_size, p.network.widths_size, ap length c.copy_from_slice.ensures.after ∙ p.starts_size)

pub returns-in_err-order_part-clause-reads : goal.returns-in_err-order_part-clause-reads
returns-in_err-order_part-clause-reads c =
    let p = err_from_is_err_and c.from_residual-in_err-order_part.result c.from_residual-in_err-order_part.ensures.1 in
    let d = (goal.at.returns-in_err-order_part-clause-reads c).After-counted-low in
    rw (p.1, p.2)
    (read_halt _ _ _ _ _ _ (tested d) c.in_err-order_part.field-0.0 c.order_part.new.starts (rw c.copy_from_slice.ensures.after at c.in_err-order_part.ensures.sheet) ∙ the_call d)

pub returns-in_err-order_part-clause-short : goal.returns-in_err-order_part-clause-short
returns-in_err-order_part-clause-short c = handed_short _ _ c.from_residual-in_err-order_part.ensures.1 c.in_err-order_part.ensures.short

pub returns-clause-reads : goal.returns-clause-reads
returns-clause-reads c =
    let d = (goal.at.returns-clause-reads c).After-counted-low in
    rw c.copy_from_slice-2.ensures.after
    (read_done _ _ _ _ _ _ (tested d) c.order_part.new.starts (rw c.copy_from_slice.ensures.after at c.in_ok-order_part.ensures.sheet) ∙ the_call d)
