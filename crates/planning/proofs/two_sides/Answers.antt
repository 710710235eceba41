use Rattle.std.proofs.Common.{◌≡◌, refl, sym, ap, arith, ◌∙◌}
use Rattle.rules.specs.declared.Fault.{Fault}
use Rattle.rules.specs.Tables.{lend}
use Rattle.network.specs.Lent.{lent}
use Rattle.std.proofs.lemmas.Result.{err_from_is_err_and}
use Rattle.rules.specs.Numbers.{size_fault, lent_fault, two_sides_fault}
use Rattle.rules.specs.Calls.{siding}
use Rattle.rules.specs.Told.{told}
use Rattle.table_laws.specs.Chains.{size_is}
use Rattle.table_laws.specs.Results.{err_stop, unless_err}
use Rattle.table_laws.specs.Shorts.{size_short, lent_short, err_short, ok_or_short}
use Rattle.planning.proofs.Outcomes.{sides_room, sides_done}
use Rattle.planning.proofs.two_sides.Goals as goal
use Rattle.planning.proofs.two_sides.Goals.{After-check_size-size}

-- the test of the order's size
sized : (c : After-check_size-size) → lent_fault c.args.n (lend c.args.widths.now c.args.guards.now) (told c.check_size-size.result) ≡ lent_fault c.args.n (lend c.args.widths.now c.args.guards.now) (size_fault c.args.order.now 128)
sized c = ap (lent_fault _ _) (size_is c.args.order.now _ 128 c.check_size-size.ensures refl)

pub returns-in_err-net-clause-leaves : goal.returns-in_err-net-clause-leaves
unfolding siding two_sides_fault
returns-in_err-net-clause-leaves c =
    let p = err_from_is_err_and c.from_residual.result c.from_residual.ensures.1 in
    rw (p.1, p.2) (sym (unless_err _ _ _ (err_stop _ _ (c.in_err-net.ensures.number ∙ sized (goal.at.returns-in_err-net-clause-leaves c).After-check_size-size))))

pub returns-in_err-net-clause-short : goal.returns-in_err-net-clause-short
returns-in_err-net-clause-short c =
    err_short (lent_short _ _ _ (size_short _ _)) _ (c.in_err-net.ensures.number ∙ sized (goal.at.returns-in_err-net-clause-short c).After-check_size-size) _ c.from_residual.ensures.1

pub sided_order-requires : goal.sided_order-requires
sided_order-requires c =
    rw c.in_ok-net.ensures.network.0 (sides_room _ _ _ (c.in_ok-net.ensures.number ∙ sized (goal.at.sided_order-requires c).After-check_size-size))

pub returns-clause-leaves : goal.returns-clause-leaves
returns-clause-leaves c =
    rw c.ok_or.ensures.value
    (sides_done _ _ _ (c.in_ok-net.ensures.number ∙ sized (goal.at.returns-clause-leaves c).After-check_size-size) _ _ c.in_ok-net.ensures.network _ _ (c.sided_order.ensures (lent c.in_ok-net.net) refl) _ (ap (λ (f : Fault). f.number) c.whole.ensures) (ap (λ (f : Fault). f.place) c.whole.ensures))

pub returns-clause-short : goal.returns-clause-short
returns-clause-short c =
    let none : c.whole.result.short ≡ 0 = ap (λ (f : Fault). f.short) c.whole.ensures in
    rw c.ok_or.ensures.value (ok_or_short c.sided_order.result _ (omega (arith, none)))
