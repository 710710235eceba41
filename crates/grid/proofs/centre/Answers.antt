use Rattle.std.proofs.Common.{◌≡◌, sym, ap, ◌∙◌, to_z-of_z, ℤ}
use lib.Ieee.{of_bits}
use Rattle.rules.specs.Grid.{grid_number, quarters}
use Rattle.rules.specs.Numbers.{no_fault, centre_fault}
use Rattle.grid.proofs.Tests.{centre_clear, block_clear}
use Rattle.grid.proofs.Centres.{centre_refused, centre_done}
use Rattle.grid.proofs.centre.Goals as goal

pub counted-requires : goal.counted-requires
counted-requires c = (centre_clear _ c.args.start c.args.width c.in-Ok.ensures).0

pub number-requires : goal.number-requires
number-requires c =
    let t = block_clear _ _ (centre_clear _ c.args.start c.args.width c.in-Ok.ensures).1 in
    (c.counted.ensures.1, c.counted.ensures.2, t.1.0, t.1.1, t.0.1)

pub returns-in-Ok : goal.returns-in-Ok
unfolding of_bits
returns-in-Ok c =
    let anchor : c.args.anchor ≡ _ = sym (to_z-of_z c.ranges.anchor) ∙ c.counted.ensures.0 in
    let n : grid_number c.args.anchor c.args.start c.args.width ≡ _ = ap (λ (z : ℤ). grid_number z c.args.start c.args.width) anchor ∙ c.number.ensures.0 in
    let done : no_fault ≡ centre_fault c.args.anchor c.args.start c.args.width = rw (to_z-of_z c.ranges.anchor) at c.in-Ok.ensures in
    rw c.from.ensures
    (centre_done c.args.anchor c.args.start c.args.width done c.in_quarters.result (ap quarters n ∙ c.in_quarters.ensures.0) c.in_quarters.ensures.1 c.in_quarters.ensures.2)

pub returns-in-Err : goal.returns-in-Err
unfolding of_bits
returns-in-Err c =
    centre_refused c.args.anchor c.args.start c.args.width c.in-Err.field-0 (rw (to_z-of_z c.ranges.anchor) at c.in-Err.ensures)
