use Rattle.std.proofs.Common.{arith, tests, ◌∙◌, ap, ◌≡◌, not}
use Rattle.rules.specs.Numbers.{refuse_if, outside}
use Rattle.table_laws.specs.Results.{handed_on, err_stop, ok_on}
use Rattle.grid.specs.Block.{block_fault}
use Rattle.grid.proofs.check_block.Goals as goal

pub returns-in_err-refuse_if : goal.returns-in_err-refuse_if
unfolding block_fault
returns-in_err-refuse_if c =
    let w : not c.contains.result ≡ outside 1 64 c.args.width = grind (arith, tests) in
    handed_on _ _ c.from_residual.ensures.1 ∙ err_stop _ _ (c.in_err-refuse_if.ensures ∙ ap (λ x. refuse_if x 3 0) w)

pub returns : goal.returns
unfolding block_fault
returns c =
    let w : not c.contains.result ≡ outside 1 64 c.args.width = grind (arith, tests) in
    let s : not c.contains-2.result ≡ outside 1 16384 c.args.start = grind (arith, tests) in
    ok_on _ (c.in_ok-refuse_if.ensures ∙ ap (λ x. refuse_if x 3 0) w) (c.refuse_if-2.ensures ∙ ap (λ x. refuse_if x 7 0) s)
