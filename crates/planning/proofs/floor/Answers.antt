use Rattle.std.proofs.Common.{refl, sym}
use Rattle.std.proofs.lemmas.Result.{err_from_is_err_and}
use Rattle.network.specs.Lent.{lent}
use Rattle.rules.specs.Numbers.{floor_fault}
use Rattle.rules.specs.Calls.{flooring}
use Rattle.table_laws.specs.Results.{err_stop, unless_err}
use Rattle.table_laws.specs.Shorts.{lent_short, list_short, err_short}
use Rattle.planning.proofs.Outcomes.{floor_refused, floor_ready, floor_done}
use Rattle.planning.proofs.floor.Goals as goal

pub returns-in_err-net-clause-answers : goal.returns-in_err-net-clause-answers
unfolding flooring floor_fault
returns-in_err-net-clause-answers c =
    let p = err_from_is_err_and c.from_residual.result c.from_residual.ensures.1 in
    rw (p.1, p.2) (sym (unless_err _ _ _ (err_stop _ _ c.in_err-net.ensures.number)))

pub returns-in_err-net-clause-short : goal.returns-in_err-net-clause-short
returns-in_err-net-clause-short c =
    err_short (lent_short _ _ _ refl) _ c.in_err-net.ensures.number _ c.from_residual.ensures.1

pub returns-in_err-check_list-clause-answers : goal.returns-in_err-check_list-clause-answers
returns-in_err-check_list-clause-answers c =
    let p = err_from_is_err_and c.from_residual-in_err-check_list.result c.from_residual-in_err-check_list.ensures.1 in
    rw (p.1, p.2) (floor_refused _ _ _ c.in_ok-net.ensures.number _ _ c.in_ok-net.ensures.network _ (c.in_err-check_list.ensures (lent c.in_ok-net.net) refl))

pub returns-in_err-check_list-clause-short : goal.returns-in_err-check_list-clause-short
returns-in_err-check_list-clause-short c =
    err_short (list_short _ _ _) _ (c.in_err-check_list.ensures (lent c.in_ok-net.net) refl) _ c.from_residual-in_err-check_list.ensures.1

pub floor_of-requires : goal.floor_of-requires
floor_of-requires c = floor_ready _ _ _ c.in_ok-net.ensures.number _ _ c.in_ok-net.ensures.network (c.in_ok-check_list.ensures (lent c.in_ok-net.net) refl)

pub returns-clause-answers : goal.returns-clause-answers
returns-clause-answers c =
    floor_done _ _ _ c.in_ok-net.ensures.number _ _ c.in_ok-net.ensures.network (c.in_ok-check_list.ensures (lent c.in_ok-net.net) refl) _ c.floor_of.ensures
