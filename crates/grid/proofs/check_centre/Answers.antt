use Rattle.std.proofs.Common.{◌∙◌, ap, to_z-of_z}
use Rattle.rules.specs.Numbers.{anchor_fault, centre_fault}
use Rattle.table_laws.specs.Results.{handed_on, err_stop, ok_on}
use Rattle.grid.specs.Block.{block_fault}
use Rattle.grid.proofs.check_centre.Goals as goal

pub returns-in_err-check_anchor : goal.returns-in_err-check_anchor
unfolding centre_fault
returns-in_err-check_anchor c =
    handed_on _ _ c.from_residual.ensures.1 ∙ err_stop _ _ (c.in_err-check_anchor.ensures ∙ ap anchor_fault (to_z-of_z c.ranges.anchor))

pub returns : goal.returns
unfolding centre_fault block_fault
returns c = ok_on _ (c.in_ok-check_anchor.ensures ∙ ap anchor_fault (to_z-of_z c.ranges.anchor)) c.check_block.ensures
