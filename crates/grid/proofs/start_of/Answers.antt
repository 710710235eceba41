use Rattle.std.proofs.Common.{arith, tests}
use Rattle.rules.specs.Grid.{start_above}
use Rattle.sheet_laws.specs.Grid.{start_under, start_over}
use Rattle.grid.proofs.start_of.Goals as goal

pub returns-in_err-steps-clause-value : goal.returns-in_err-steps-clause-value
returns-in_err-steps-clause-value c =
    let e = start_under c.args.anchor c.args.width c.args.n (omega (arith, c.in_err-steps.ensures)) in
    cc

pub returns-clause-value : goal.returns-clause-value
unfolding start_above
returns-clause-value c =
    let e = start_over c.args.anchor c.args.width c.args.n c.in_ok-steps.ensures.0 in
    grind (arith, tests)
