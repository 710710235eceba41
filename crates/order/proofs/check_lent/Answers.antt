use Rattle.std.proofs.Common.{◌≡◌, ap, ◌∙◌, to_z-of_z}
use Rattle.rules.specs.Numbers.{lent_fault, order_read_fault}
use Rattle.rules.specs.Told.{told}
use Rattle.table_laws.specs.Results.{handed_on}
use Rattle.order.specs.Tests.{given_fault}
use Rattle.order.proofs.check_lent.Goals as goal
use Rattle.order.proofs.check_lent.Goals.{After-check_given-given}

-- the sizes and the anchor
given : (c : After-check_given-given) → told c.check_given-given.result ≡ given_fault c.args.anchor c.args.labels.now c.args.starts.now
given c = rw (to_z-of_z c.ranges.anchor) at c.check_given-given.ensures

pub returns-in_err-check_network : goal.returns-in_err-check_network
unfolding order_read_fault given_fault
returns-in_err-check_network c =
    handed_on _ _ c.from_residual.ensures.1 ∙ c.in_err-check_network.ensures.number
    ∙ ap (lent_fault _ _) (given (goal.at.returns-in_err-check_network c).After-check_given-given)

pub returns : goal.returns
unfolding order_read_fault given_fault
returns c = c.in_ok-check_network.ensures.number ∙ ap (lent_fault _ _) (given (goal.at.returns c).After-check_given-given)
