use Rattle.std.proofs.Common.{refl, sym}
use Rattle.std.proofs.lemmas.Result.{err_from_is_err_and}
use Rattle.rules.specs.Numbers.{improve_fault}
use Rattle.rules.specs.Calls.{improving, refused_planned}
use Rattle.table_laws.specs.Results.{err_stop, ok_on, unless_err}
use Rattle.table_laws.specs.Shorts.{pack_short, rounds_short, err_short}
use Rattle.planning.proofs.Outcomes.{improve_ready, improve_packable, improve_done}
use Rattle.planning.proofs.improve.Goals as goal

pub returns-in_err-net-clause-leaves : goal.returns-in_err-net-clause-leaves
unfolding improving improve_fault refused_planned
returns-in_err-net-clause-leaves c =
    let p = err_from_is_err_and c.from_residual.result c.from_residual.ensures.1 in
    rw (p.1, p.2) (sym (unless_err _ _ _ (err_stop _ _ (c.in_err-net.ensures.number _ refl))))

pub returns-in_err-net-clause-short : goal.returns-in_err-net-clause-short
returns-in_err-net-clause-short c =
    err_short (pack_short _ _ _ _) _ (c.in_err-net.ensures.number _ refl) _ c.from_residual.ensures.1

pub returns-in_err-check_rounds-clause-leaves : goal.returns-in_err-check_rounds-clause-leaves
unfolding improving improve_fault refused_planned
returns-in_err-check_rounds-clause-leaves c =
    let p = err_from_is_err_and c.from_residual-in_err-check_rounds.result c.from_residual-in_err-check_rounds.ensures.1 in
    rw (p.1, p.2) (sym (unless_err _ _ _ (ok_on _ (c.in_ok-net.ensures.number _ refl) c.in_err-check_rounds.ensures)))

pub returns-in_err-check_rounds-clause-short : goal.returns-in_err-check_rounds-clause-short
returns-in_err-check_rounds-clause-short c =
    err_short (rounds_short _) _ c.in_err-check_rounds.ensures _ c.from_residual-in_err-check_rounds.ensures.1

pub improve_order-run-requires : goal.improve_order-run-requires
improve_order-run-requires c =
    improve_ready _ _ _ _ c.args.seed _ (c.in_ok-net.ensures.number _ refl) c.in_ok-check_rounds.ensures _ _ c.in_ok-net.ensures.network

pub packed_plan-requires : goal.packed_plan-requires
packed_plan-requires c =
    improve_packable _ _ _ _ c.args.seed _ (c.in_ok-net.ensures.number _ refl) c.in_ok-check_rounds.ensures _ _ c.in_ok-net.ensures.network
    c.improve_order-run.result _ _ c.improve_order-run.ensures.by_index c.improve_order-run.ensures.kept_from

pub returns-clause-leaves : goal.returns-clause-leaves
returns-clause-leaves c =
    improve_done _ _ _ _ c.args.seed _ (c.in_ok-net.ensures.number _ refl) c.in_ok-check_rounds.ensures _ _ c.in_ok-net.ensures.network
    c.improve_order-run.result _ _ c.improve_order-run.ensures.by_index c.improve_order-run.ensures.kept_from _ c.packed_plan.ensures
