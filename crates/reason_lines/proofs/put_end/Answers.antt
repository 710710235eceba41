use Prim.Native.Nat.{◌-◌}
use native.Mathlib.Omega.{arith}
use lib.ListN.{length}
use borrow.Author.Tests.{eq-eqb, ne_eqb}
use Rattle.rules.specs.Tables.{at}
use Rattle.rules.specs.Asking.{end_text}
use Rattle.sheet_laws.specs.Writes.{label_short}
use Rattle.reason_lines.specs.Told.{held_text, free_text}
use Rattle.reason_lines.proofs.put_end.Goals as goal

pub put_label-requires : goal.put_label-requires
put_label-requires g c =
    let last = c.requires.2 (length c.args.chain.now - 1) (omega (arith, c.requires.1)) in
    rw c.from.ensures (omega arith, omega (arith, label_short c.args.labels.now (at c.args.chain.now (length c.args.chain.now - 1))))

pub put_held-requires : goal.put_held-requires
put_held-requires g c =
    let first = c.requires.2 0 (omega (arith, c.requires.1)) in
    rw c.from-else-chain-eq1.ensures (omega arith, omega (arith, label_short c.args.labels.now c.from.result, g.met.S.Sink.laws.left c.put_label.ensures))

pub returns-then-d-ne0-clause-wrote : goal.returns-then-d-ne0-clause-wrote
unfolding end_text free_text
returns-then-d-ne0-clause-wrote g c =
    rw (ne_eqb c.args.d 0 c.if-d-ne0.true) (g.met.S.Sink.laws.both (rw c.from.ensures at c.put_label.ensures) c.put_free.ensures.wrote)

pub returns-then-chain-eq1-clause-wrote : goal.returns-then-chain-eq1-clause-wrote
unfolding end_text
returns-then-chain-eq1-clause-wrote g c =
    rw (eq-eqb c.args.d 0 c.if-d-ne0.false, eq-eqb (length c.args.chain.now) 1 c.if-chain-eq1.true)
    (g.met.S.Sink.laws.both (rw c.from.ensures at c.put_label.ensures) c.put_word.ensures)

pub returns-else-chain-eq1-clause-wrote : goal.returns-else-chain-eq1-clause-wrote
unfolding end_text held_text
returns-else-chain-eq1-clause-wrote g c =
    let held = rw c.from-else-chain-eq1.ensures at c.put_held.ensures.wrote in
    rw (eq-eqb c.args.d 0 c.if-d-ne0.false, ne_eqb (length c.args.chain.now) 1 c.if-chain-eq1.false)
    (g.met.S.Sink.laws.both (rw c.from.ensures at c.put_label.ensures) held)
