use Rattle.std.proofs.Common.{◌≡◌, ◌∙◌, to_z-of_z}
use Rattle.rules.specs.Tables.{lend}
use Rattle.rules.specs.Numbers.{no_fault, order_read_fault}
use Rattle.table_laws.specs.Faults.{or_assoc}
use Rattle.table_laws.specs.Results.{clear_none, handed_on, err_stop, ok_on}
use Rattle.order.specs.Tests.{table_fault}
use Rattle.order.proofs.Outcomes.{Passed, lent_passed}
use Rattle.order.proofs.check_tables.Goals as goal
use Rattle.order.proofs.check_tables.Goals.{In_ok-check_lent}

lent : (c : In_ok-check_lent) → no_fault ≡ order_read_fault c.args.anchor c.args.n c.args.labels.now (lend c.args.widths.now c.args.guards.now) c.args.starts.now
lent c = rw (to_z-of_z c.ranges.anchor) at c.in_ok-check_lent.ensures

passed : (c : In_ok-check_lent) → Passed c.args.anchor c.args.n c.args.labels.now (lend c.args.widths.now c.args.guards.now) c.args.starts.now
passed c = lent_passed _ _ _ _ _ (clear_none (lent c))

pub returns-in_err-check_lent : goal.returns-in_err-check_lent
unfolding table_fault
returns-in_err-check_lent c =
    handed_on _ _ c.from_residual.ensures.1 ∙ err_stop _ _ (rw (to_z-of_z c.ranges.anchor) at c.in_err-check_lent.ensures)

pub check_labels-requires : goal.check_labels-requires
check_labels-requires c = let p = passed (goal.at.check_labels-requires c).In_ok-check_lent in (p.network.few, p.labels_size)

pub returns-in_err-check_labels : goal.returns-in_err-check_labels
unfolding table_fault
returns-in_err-check_labels c =
    handed_on _ _ c.from_residual-in_err-check_labels.ensures.1
    ∙ ok_on _ (lent (goal.at.returns-in_err-check_labels c).In_ok-check_lent) (err_stop _ _ c.in_err-check_labels.ensures ∙ or_assoc _ _ _)

pub check_starts-requires : goal.check_starts-requires
check_starts-requires c = let p = passed (goal.at.check_starts-requires c).In_ok-check_lent in (p.network.few, p.starts_size)

pub returns : goal.returns
unfolding table_fault
returns c = ok_on _ (lent (goal.at.returns c).In_ok-check_lent) (ok_on _ c.in_ok-check_labels.ensures c.check_starts.ensures ∙ or_assoc _ _ _)
