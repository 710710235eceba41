use native.Mathlib.Omega.{arith}
use Rattle.std.proofs.lemmas.Int.{ints}
use Rattle.grid.proofs.Tests.{anchor_clear}
use Rattle.grid.proofs.counted.Goals as goal

pub overflow_add-result : goal.overflow_add-result
overflow_add-result c =
    let t = anchor_clear c.args.anchor c.requires in
    grind (arith, ints)

pub overflow_cast-result : goal.overflow_cast-result
overflow_cast-result c =
    let t = anchor_clear c.args.anchor c.requires in
    grind (arith, ints)

pub returns : goal.returns
returns c =
    let t = anchor_clear c.args.anchor c.requires in
    grind (arith, ints)
