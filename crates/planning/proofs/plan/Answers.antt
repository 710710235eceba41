use Rattle.std.proofs.Common.{◌≡◌, refl, sym, ap, ◌∙◌}
use Rattle.rules.specs.Tables.{lend}
use Rattle.std.proofs.lemmas.Result.{err_from_is_err_and}
use Rattle.rules.specs.Numbers.{lent_fault, plan_sizes, plan_fault}
use Rattle.rules.specs.Calls.{planning, refused_planned}
use Rattle.rules.specs.Told.{told}
use Rattle.table_laws.specs.Results.{err_stop, ok_on, unless_err}
use Rattle.table_laws.specs.Shorts.{plan_sizes_short, lent_short, rounds_short, err_short}
use Rattle.planning.proofs.Outcomes.{plan_ready, plan_done}
use Rattle.planning.proofs.plan.Goals as goal
use Rattle.planning.proofs.plan.Goals.{After-check_plan_sizes-sizes}

-- the test of the sizes of both tables
sized : (c : After-check_plan_sizes-sizes) → lent_fault c.args.n (lend c.args.widths.now c.args.guards.now) (told c.check_plan_sizes-sizes.result) ≡ lent_fault c.args.n (lend c.args.widths.now c.args.guards.now) (plan_sizes c.args.order.now c.args.starts.now)
sized c = ap (lent_fault _ _) (c.check_plan_sizes-sizes.ensures _ _ refl refl)

pub returns-in_err-net-clause-leaves : goal.returns-in_err-net-clause-leaves
unfolding planning plan_fault refused_planned
returns-in_err-net-clause-leaves c =
    let p = err_from_is_err_and c.from_residual.result c.from_residual.ensures.1 in
    rw (p.1, p.2) (sym (unless_err _ _ _ (err_stop _ _ (c.in_err-net.ensures.number ∙ sized (goal.at.returns-in_err-net-clause-leaves c).After-check_plan_sizes-sizes))))

pub returns-in_err-net-clause-short : goal.returns-in_err-net-clause-short
returns-in_err-net-clause-short c =
    err_short (lent_short _ _ _ (plan_sizes_short _ _)) _ (c.in_err-net.ensures.number ∙ sized (goal.at.returns-in_err-net-clause-short c).After-check_plan_sizes-sizes) _ c.from_residual.ensures.1

pub returns-in_err-check_rounds-clause-leaves : goal.returns-in_err-check_rounds-clause-leaves
unfolding planning plan_fault refused_planned
returns-in_err-check_rounds-clause-leaves c =
    let p = err_from_is_err_and c.from_residual-in_err-check_rounds.result c.from_residual-in_err-check_rounds.ensures.1 in
    rw (p.1, p.2) (sym (unless_err _ _ _ (ok_on _ (c.in_ok-net.ensures.number ∙ sized (goal.at.returns-in_err-check_rounds-clause-leaves c).After-check_plan_sizes-sizes) c.in_err-check_rounds.ensures)))

pub returns-in_err-check_rounds-clause-short : goal.returns-in_err-check_rounds-clause-short
returns-in_err-check_rounds-clause-short c =
    err_short (rounds_short _) _ c.in_err-check_rounds.ensures _ c.from_residual-in_err-check_rounds.ensures.1

pub chosen_order-kept-requires : goal.chosen_order-kept-requires
chosen_order-kept-requires c =
    plan_ready _ _ _ _ _ _ (c.in_ok-net.ensures.number ∙ sized (goal.at.chosen_order-kept-requires c).After-check_plan_sizes-sizes) c.in_ok-check_rounds.ensures _ _ c.in_ok-net.ensures.network

pub returns-clause-leaves : goal.returns-clause-leaves
returns-clause-leaves c =
    plan_done _ _ _ _ _ _ (c.in_ok-net.ensures.number ∙ sized (goal.at.returns-clause-leaves c).After-check_plan_sizes-sizes) c.in_ok-check_rounds.ensures _ _ c.in_ok-net.ensures.network
    _ _ _ c.chosen_order-kept.ensures.chosen c.chosen_order-kept.ensures.kept_from _ c.packed_plan.ensures
