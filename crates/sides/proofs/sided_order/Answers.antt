use Rattle.std.proofs.Common.{refl, sym, ◌∙◌}
use Rattle.table_laws.specs.Tables.{blank}
use Rattle.sides.proofs.Steps.{split_two}
use Rattle.sides.proofs.sided_order.Goals as goal

pub mark_sides-requires : goal.mark_sides-requires
mark_sides-requires c = blank 128 0

pub returns-then-are_sides : goal.returns-then-are_sides
returns-then-are_sides c = λ l q.
    let m = c.mark_sides.ensures.mark_after l q in
    split_two _ _ _ _ c.mark_sides.new.mark _ m (sym (c.are_sides.ensures l q m) ∙ c.if-are_sides.true) c.order_sides.ensures.value c.order_sides.ensures.order_after

pub returns-else-are_sides : goal.returns-else-are_sides
returns-else-are_sides c = λ l q.
    let m = c.mark_sides.ensures.mark_after l q in
    (sym (c.are_sides.ensures l q m) ∙ c.if-are_sides.false, refl)
