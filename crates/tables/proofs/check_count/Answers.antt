use Rattle.std.proofs.Common.{arith, tests, ◌∙◌, ap}
use Rattle.rules.specs.Numbers.{refuse_if, count_fault}
use Rattle.tables.proofs.check_count.Goals as goal

pub returns : goal.returns
unfolding count_fault
returns c = c.refuse_if.ensures ∙ ap (λ x. refuse_if x 1 0) (grind (arith, tests))
