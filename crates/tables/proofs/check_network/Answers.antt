use Rattle.std.proofs.Common.{refl, ◌∙◌}
use Rattle.rules.specs.Numbers.{network_fault, lent_fault}
use Rattle.table_laws.specs.Chains.{count_clear, sizes_clear}
use Rattle.table_laws.specs.Limits.{network_within}
use Rattle.table_laws.specs.Results.{clear_none, handed_on, err_stop, ok_on}
use Rattle.tables.proofs.check_network.Goals as goal

pub returns-in_err-check_network_sizes-clause-number : goal.returns-in_err-check_network_sizes-clause-number
unfolding lent_fault
returns-in_err-check_network_sizes-clause-number c = handed_on _ _ c.from_residual.ensures.1 ∙ err_stop _ _ c.in_err-check_network_sizes.ensures

pub returns-in_err-others-clause-number : goal.returns-in_err-others-clause-number
unfolding lent_fault
returns-in_err-others-clause-number c =
    rw c.in_err-others.was
    (handed_on _ _ c.from_residual-in_err-others.ensures.1 ∙ ok_on _ c.in_ok-check_network_sizes.ensures (err_stop _ c.in_err-others.field-0.0 refl))

pub returns-in_err-check_count-clause-number : goal.returns-in_err-check_count-clause-number
unfolding lent_fault network_fault
returns-in_err-check_count-clause-number c =
    rw c.in_ok-others.was
    (handed_on _ _ c.from_residual-in_err-check_count.ensures.1
    ∙ ok_on _ c.in_ok-check_network_sizes.ensures (ok_on _ refl (err_stop _ _ c.in_err-check_count.ensures)))

pub check_range-requires : goal.check_range-requires
check_range-requires c =
    ((count_clear _ (clear_none c.in_ok-check_count.ensures)).1, (sizes_clear _ (clear_none c.in_ok-check_network_sizes.ensures)).0)

pub returns-in_err-check_range-clause-number : goal.returns-in_err-check_range-clause-number
unfolding lent_fault network_fault
returns-in_err-check_range-clause-number c =
    rw c.in_ok-others.was
    (handed_on _ _ c.from_residual-in_err-check_range.ensures.1
    ∙ ok_on _ c.in_ok-check_network_sizes.ensures (ok_on _ refl (ok_on _ c.in_ok-check_count.ensures (err_stop _ _ c.in_err-check_range.ensures))))

pub check_guards-requires : goal.check_guards-requires
check_guards-requires c =
    ((count_clear _ (clear_none c.in_ok-check_count.ensures)).1, (sizes_clear _ (clear_none c.in_ok-check_network_sizes.ensures)).1)

pub returns-in_err-check_guards-clause-number : goal.returns-in_err-check_guards-clause-number
unfolding lent_fault network_fault
returns-in_err-check_guards-clause-number c =
    rw c.in_ok-others.was
    (handed_on _ _ c.from_residual-in_err-check_guards.ensures.1
    ∙ ok_on _ c.in_ok-check_network_sizes.ensures (ok_on _ refl (ok_on _ c.in_ok-check_count.ensures
    (ok_on _ c.in_ok-check_range.ensures c.in_err-check_guards.ensures))))

pub invariant_of-result : goal.invariant_of-result
unfolding network_fault
invariant_of-result c = record {
  within = network_within _ _ (clear_none c.in_ok-check_network_sizes.ensures)
      (clear_none (ok_on _ c.in_ok-check_count.ensures (ok_on _ c.in_ok-check_range.ensures c.in_ok-check_guards.ensures)));
}

pub returns-clause-number : goal.returns-clause-number
unfolding lent_fault network_fault
returns-clause-number c =
    rw c.in_ok-others.was
    (ok_on _ c.in_ok-check_network_sizes.ensures (ok_on _ refl (ok_on _ c.in_ok-check_count.ensures
    (ok_on _ c.in_ok-check_range.ensures c.in_ok-check_guards.ensures))))
