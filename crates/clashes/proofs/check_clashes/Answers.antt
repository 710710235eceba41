use Rattle.std.proofs.Common.{rules, arith, sym, Some}
use Rattle.network.specs.Lent.{lent}
use Rattle.rules.specs.Tables.{at}
use Rattle.rules.specs.Plan.{net_of, short, too_close}
use Rattle.rules.specs.Numbers.{clash_fault}
use Rattle.table_laws.specs.Firsts.{FirstCellIs}
use Rattle.table_laws.specs.Results.{square_search, square_found}
use Rattle.plan_laws.specs.Clash.{close_parts, close_lack}
use Rattle.clashes.proofs.check_clashes.Goals as goal
use Rattle.clashes.proofs.check_clashes.Goals.{In-Some}

-- what the search answers
close_at : (c : In-Some) → FirstCellIs (too_close (net_of (lent c.args.plan.now.net)) (at c.args.plan.now.starts.now)) c.args.plan.now.net.n (Some (c.in-Some.i, c.in-Some.j))
close_at c =
    rw c.in-Some.is at (c.first_cell.ensures (too_close (net_of (lent c.args.plan.now.net)) (at c.args.plan.now.starts.now)) (λ i r l p. search rules))

pub overflow_mul-result : goal.overflow_mul-result
overflow_mul-result c = let f = close_at c in omega (arith, f.0, f.1.0, c.args.plan.now.net.within.few)

pub overflow_add-result : goal.overflow_add-result
overflow_add-result c = let f = close_at c in omega (arith, f.0, f.1.0, c.args.plan.now.net.within.few)

pub cell_short-requires : goal.cell_short-requires
cell_short-requires c = let f = close_at c in ((close_parts _ _ _ _ f.1.1).0, f.1.0)

pub returns-in-Some : goal.returns-in-Some
unfolding clash_fault
returns-in-Some c =
    let p = c.args.plan.now in
    let net = net_of (lent p.net) in
    let f = close_at (goal.at.returns-in-Some c).In-Some in
    rw (c.from.ensures, c.cell_short.ensures, close_lack net (at p.starts.now) c.in-Some.i c.in-Some.j f.1.1)
    (square_found 8 (too_close net (at p.starts.now)) (short net (at p.starts.now)) p.net.n c.in-Some.i c.in-Some.j f)

pub returns-in-None : goal.returns-in-None
unfolding clash_fault
returns-in-None c =
    let p = c.args.plan.now in
    let net = net_of (lent p.net) in
    sym (square_search 8 (too_close net (at p.starts.now)) (short net (at p.starts.now)) p.net.n (rw c.in-None.is at (c.first_cell.ensures (too_close net (at p.starts.now)) (λ i r l p. search rules))))
