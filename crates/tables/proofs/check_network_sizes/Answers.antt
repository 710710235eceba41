use Rattle.std.proofs.Common.{◌∙◌}
use Rattle.rules.specs.Numbers.{size_fault, network_sizes}
use Rattle.table_laws.specs.Results.{handed_on, err_stop, ok_on}
use Rattle.tables.proofs.check_network_sizes.Goals as goal

pub returns-in_err-check_size : goal.returns-in_err-check_size
unfolding network_sizes size_fault
returns-in_err-check_size c = handed_on _ _ c.from_residual.ensures.1 ∙ err_stop _ _ c.in_err-check_size.ensures

pub returns : goal.returns
unfolding network_sizes size_fault
returns c = ok_on _ c.in_ok-check_size.ensures c.check_size-2.ensures
