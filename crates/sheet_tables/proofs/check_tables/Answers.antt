use Rattle.std.proofs.Common.{ℕ, ◌≡◌, ◌≤◌, length, ltb, ap, ◌∙◌}
use Rattle.rules.specs.Tables.{lend}
use Rattle.rules.specs.Numbers.{no_fault, refuse_if, label_sizes, lent_fault}
use Rattle.table_laws.specs.Faults.{or_assoc}
use Rattle.table_laws.specs.Chains.{lent_clear}
use Rattle.table_laws.specs.Results.{clear_none, handed_on, err_stop, ok_on}
use Rattle.sheet_laws.specs.Sizes.{labels_clear}
use Rattle.sheet_tables.specs.Tests.{table_fault}
use Rattle.sheet_tables.proofs.check_tables.Goals as goal
use Rattle.sheet_tables.proofs.check_tables.Goals.{In_ok-check_network}

-- the tests of the network found no fault, beside the sizes of the labels and the starts
lent : (c : In_ok-check_network) → no_fault ≡ lent_fault c.args.n (lend c.args.widths.now c.args.guards.now) (label_sizes c.args.labels.now c.args.starts.now)
lent c = c.in_ok-check_network.ensures.number ∙ ap (lent_fault _ _) c.check_label_sizes.ensures

fit : (c : In_ok-check_network) → (c.args.n ≤ 128) × (length c.args.labels.now ≡ 1024) × (length c.args.guards.now ≡ 16384) × (length c.args.starts.now ≡ 128)
fit c =
    let w = lent_clear _ _ _ (clear_none (lent c)) in
    let l = labels_clear c.args.labels.now c.args.starts.now w.1 in
    (w.0.few, l.0, w.0.guards_size, l.1)

pairs_tested : {m k : ℕ} → m ≡ k → refuse_if (ltb 2000 m) 1 0 ≡ refuse_if (ltb 2000 k) 1 0
pairs_tested e = ap (λ (m : ℕ). refuse_if (ltb 2000 m) 1 0) e

pub returns-in_err-check_network : goal.returns-in_err-check_network
unfolding table_fault
returns-in_err-check_network c =
    handed_on _ _ c.from_residual.ensures.1 ∙ err_stop _ _ (c.in_err-check_network.ensures.number ∙ ap (lent_fault _ _) c.check_label_sizes.ensures)

pub check_labels-requires : goal.check_labels-requires
check_labels-requires c = let f = fit (goal.at.check_labels-requires c).In_ok-check_network in (f.0, f.1)

pub returns-in_err-check_labels : goal.returns-in_err-check_labels
unfolding table_fault
returns-in_err-check_labels c =
    handed_on _ _ c.from_residual-in_err-check_labels.ensures.1
    ∙ ok_on _ (lent (goal.at.returns-in_err-check_labels c).In_ok-check_network) (err_stop _ _ c.in_err-check_labels.ensures ∙ or_assoc _ _ _)

pub returns-in_err-refuse_if : goal.returns-in_err-refuse_if
unfolding table_fault
returns-in_err-refuse_if c =
    handed_on _ _ c.from_residual-in_err-refuse_if.ensures.1
    ∙ ok_on _ (lent (goal.at.returns-in_err-refuse_if c).In_ok-check_network) (ok_on _ c.in_ok-check_labels.ensures
    (err_stop _ _ (c.in_err-refuse_if.ensures ∙ pairs_tested c.pair_count.ensures.0)) ∙ or_assoc _ _ _)

pub check_plan-requires : goal.check_plan-requires
check_plan-requires c = let f = fit (goal.at.check_plan-requires c).In_ok-check_network in (f.0, f.3)

pub returns : goal.returns
unfolding table_fault
returns c =
    ok_on _ (lent (goal.at.returns c).In_ok-check_network) (ok_on _ c.in_ok-check_labels.ensures
    (ok_on _ (c.in_ok-refuse_if.ensures ∙ pairs_tested c.pair_count.ensures.0) c.check_plan.ensures) ∙ or_assoc _ _ _)
