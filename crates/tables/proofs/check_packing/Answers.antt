use Rattle.std.proofs.Common.{refl, ap, ◌∙◌}
use Rattle.rules.specs.Tables.{cleared}
use Rattle.rules.specs.Numbers.{lent_fault, pack_fault}
use Rattle.table_laws.specs.Tables.{cleared_length}
use Rattle.table_laws.specs.Chains.{number_of, lent_clear, plan_sizes_lem}
use Rattle.table_laws.specs.Results.{clear_none, handed_on, err_stop, ok_on}
use Rattle.tables.proofs.check_packing.Goals as goal

pub returns-in_err-net-clause-number : goal.returns-in_err-net-clause-number
unfolding pack_fault
returns-in_err-net-clause-number c =
    λ s e. handed_on _ _ c.from_residual.ensures.1 ∙ err_stop _ _ (c.in_err-net.ensures.number ∙ ap (lent_fault _ _) (c.check_plan_sizes.ensures _ s refl e))

pub check_order-requires : goal.check_order-requires
check_order-requires c =
    let w = lent_clear _ _ _ (clear_none c.in_ok-net.ensures.number) in
    (w.0.few, (plan_sizes_lem c.args.order.now (cleared c.args.starts 0) (number_of (c.check_plan_sizes.ensures c.args.order.now (cleared c.args.starts 0) refl (cleared_length c.args.starts 0)) w.1)).0)

pub returns-in_err-check_order-clause-number : goal.returns-in_err-check_order-clause-number
unfolding pack_fault
returns-in_err-check_order-clause-number c =
    λ s e. handed_on _ _ c.from_residual-in_err-check_order.ensures.1
    ∙ ok_on _ (c.in_ok-net.ensures.number ∙ ap (lent_fault _ _) (c.check_plan_sizes.ensures _ s refl e)) c.in_err-check_order.ensures

pub returns-clause-number : goal.returns-clause-number
unfolding pack_fault
returns-clause-number c =
    λ s e. ok_on _ (c.in_ok-net.ensures.number ∙ ap (lent_fault _ _) (c.check_plan_sizes.ensures _ s refl e)) c.in_ok-check_order.ensures
