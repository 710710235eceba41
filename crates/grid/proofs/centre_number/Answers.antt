use Rattle.std.proofs.Common.{ap, ◌∙◌, to_z-of_z, ℤ}
use Rattle.rules.specs.declared.Fault.{Fault}
use Rattle.rules.specs.Numbers.{centre_fault}
use Rattle.rules.specs.Calls.{centre_number}
use Rattle.grid.proofs.centre_number.Goals as goal

pub returns-in-Ok : goal.returns-in-Ok
unfolding centre_number
returns-in-Ok c =
    ap (λ (f : Fault). f.number) (c.in-Ok.ensures ∙ ap (λ (a : ℤ). centre_fault a c.args.start c.args.width) (to_z-of_z c.ranges.anchor))

pub returns-in-Err : goal.returns-in-Err
unfolding centre_number
returns-in-Err c =
    c.number.ensures
    ∙ ap (λ (f : Fault). f.number) (c.in-Err.ensures ∙ ap (λ (a : ℤ). centre_fault a c.args.start c.args.width) (to_z-of_z c.ranges.anchor))
