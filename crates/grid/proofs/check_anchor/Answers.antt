use Rattle.std.proofs.Common.{arith, tests, ◌≡◌, ◌∙◌, ap, not, ◌||◌, pos}
use lib.IntN.{negsuc}
use lib.Signed.{lt_z}
use Rattle.std.proofs.lemmas.Int.{ints}
use Rattle.rules.specs.Numbers.{refuse_if, anchor_fault}
use Rattle.grid.proofs.check_anchor.Goals as goal

pub returns : goal.returns
unfolding anchor_fault
returns c =
    let t : not c.contains.result ≡ (lt_z c.args.anchor (negsuc 1023) || lt_z (pos 1024) c.args.anchor) = grind (arith, tests, ints) in
    c.refuse_if.ensures ∙ ap (λ x. refuse_if x 17 0) t
