use Rattle.std.proofs.Common.{◌∙◌}
use Rattle.rules.specs.Numbers.{sheet_sizes}
use Rattle.table_laws.specs.Results.{handed_on, err_stop, ok_on}
use Rattle.sheet_tables.proofs.check_sheet_sizes.Goals as goal

pub returns-in_err-check_network_sizes : goal.returns-in_err-check_network_sizes
unfolding sheet_sizes
returns-in_err-check_network_sizes c = handed_on _ _ c.from_residual.ensures.1 ∙ err_stop _ _ c.in_err-check_network_sizes.ensures

pub returns : goal.returns
unfolding sheet_sizes
returns c = ok_on _ c.in_ok-check_network_sizes.ensures c.check_label_sizes.ensures
