use Rattle.std.proofs.Common.{◌∙◌}
use Rattle.rules.specs.Numbers.{plan_sizes}
use Rattle.table_laws.specs.Chains.{size_is}
use Rattle.table_laws.specs.Results.{handed_on, err_stop, ok_on}
use Rattle.tables.proofs.check_plan_sizes.Goals as goal

pub returns-in_err-check_size : goal.returns-in_err-check_size
unfolding plan_sizes
returns-in_err-check_size c =
    λ o s e f. handed_on _ _ c.from_residual.ensures.1 ∙ err_stop _ _ (size_is o _ 128 c.in_err-check_size.ensures e)

pub returns : goal.returns
unfolding plan_sizes
returns c =
    λ o s e f. ok_on _ (size_is o _ 128 c.in_ok-check_size.ensures e) (size_is s _ 128 c.check_size-2.ensures f)
