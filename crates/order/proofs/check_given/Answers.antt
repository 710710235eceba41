use Rattle.std.proofs.Common.{ap, ◌∙◌, to_z-of_z}
use Rattle.rules.specs.Numbers.{anchor_fault}
use Rattle.table_laws.specs.Results.{handed_on, err_stop, ok_on}
use Rattle.order.specs.Tests.{given_fault}
use Rattle.order.proofs.check_given.Goals as goal

pub returns-in_err-check_label_sizes : goal.returns-in_err-check_label_sizes
unfolding given_fault
returns-in_err-check_label_sizes c = handed_on _ _ c.from_residual.ensures.1 ∙ err_stop _ _ c.in_err-check_label_sizes.ensures

pub returns : goal.returns
unfolding given_fault
returns c = ok_on _ c.in_ok-check_label_sizes.ensures (c.check_anchor.ensures ∙ ap anchor_fault (to_z-of_z c.ranges.anchor))
