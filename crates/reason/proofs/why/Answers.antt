use Rattle.std.proofs.Common.{sym}
use Rattle.rules.specs.Calls.{explaining, refused_why}
use Rattle.std.proofs.lemmas.Result.{err_from_is_err_and}
use Rattle.table_laws.specs.Results.{clear_none, unless_err}
use Rattle.plan_laws.specs.Answers.{why_clear}
use Rattle.reason.proofs.Told.{plan_refused, path_tested, why_done}
use Rattle.reason.proofs.why.Goals as goal

pub returns-in_err-plan : goal.returns-in_err-plan
unfolding explaining refused_why
returns-in_err-plan c =
    let p = err_from_is_err_and c.from_residual.result c.from_residual.ensures.1 in
    rw (p.1, p.2) (sym (unless_err _ _ _ (plan_refused _ _ _ _ _ _ c.check_size-others.ensures _ c.in_err-plan.ensures.number)))

pub returns-in_err-refuse_if : goal.returns-in_err-refuse_if
unfolding explaining refused_why
returns-in_err-refuse_if c =
    let p = err_from_is_err_and c.from_residual-in_err-refuse_if.result c.from_residual-in_err-refuse_if.ensures.1 in
    rw (p.1, p.2) (sym (unless_err _ _ _ (path_tested _ _ _ _ _ _ c.check_size-others.ensures c.in_ok-plan.ensures.number _ c.in_err-refuse_if.ensures)))

pub explain-requires : goal.explain-requires
explain-requires c =
    let e = why_clear _ _ _ _ _ (clear_none (path_tested _ _ _ _ _ _ c.check_size-others.ensures c.in_ok-plan.ensures.number _ c.in_ok-refuse_if.ensures)) in
    (rw c.in_ok-plan.ensures.plan.0 e.inside, e.table_size)

pub returns : goal.returns
returns c =
    why_done _ _ _ _ _ (path_tested _ _ _ _ _ _ c.check_size-others.ensures c.in_ok-plan.ensures.number _ c.in_ok-refuse_if.ensures) _ _ _ c.in_ok-plan.ensures.plan _ c.explain.ensures
