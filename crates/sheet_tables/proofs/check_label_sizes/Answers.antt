use Rattle.std.proofs.Common.{◌∙◌}
use Rattle.rules.specs.Numbers.{size_fault, label_sizes}
use Rattle.table_laws.specs.Results.{handed_on, err_stop, ok_on}
use Rattle.sheet_tables.proofs.check_label_sizes.Goals as goal

pub returns-in_err-check_size : goal.returns-in_err-check_size
unfolding label_sizes size_fault
returns-in_err-check_size c = handed_on _ _ c.from_residual.ensures.1 ∙ err_stop _ _ c.in_err-check_size.ensures

pub returns : goal.returns
unfolding label_sizes size_fault
returns c = ok_on _ c.in_ok-check_size.ensures c.check_size-2.ensures
