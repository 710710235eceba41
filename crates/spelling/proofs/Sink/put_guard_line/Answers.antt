use Prim.Native.Nat.{◌+◌, ◌*◌}
use mathlib.Core.Path.{◌≡◌, ap, ◌∙◌}
use native.Mathlib.Omega.{arith}
use lib.ListN.{length}
use Rattle.rules.specs.Tables.{at, cell}
use Rattle.rules.specs.Text.{numeral}
use Rattle.rules.specs.Writing.{label_of, guard_text}
use Rattle.sheet_laws.specs.Writes.{pair_text, pair_length, guard_none, guard_some, pair_apart, pair_joined}
use Rattle.spelling.proofs.Sink.put_guard_line.Goals as goal
use Rattle.spelling.proofs.Sink.put_guard_line.Given.{Over}
use Rattle.spelling.proofs.Sink.put_guard_line.Goals.{Then-guard}

module _ (g : Over) (c : Then-guard g) where
  its_text : guard_text c.args.labels.now c.args.guards.now c.args.i c.args.j ≡ pair_text c.args.labels.now c.args.guards.now c.args.i c.args.j
  its_text =
      guard_some c.args.labels.now c.args.guards.now c.args.i c.args.j
      (pair_joined c.args.guards.now c.args.i c.args.j (omega arith) (omega (arith, c.type_inv.guards (128 * c.args.i + c.args.j), c.if-guard.true)))

  its_length : length (guard_text c.args.labels.now c.args.guards.now c.args.i c.args.j)
      ≡ length (label_of c.args.labels.now c.args.i) + length (label_of c.args.labels.now c.args.j) + length (numeral (at c.args.guards.now (cell c.args.i c.args.j))) + 3
  its_length = ap length its_text ∙ pair_length c.args.labels.now c.args.guards.now c.args.i c.args.j

pub put_label-requires : goal.put_label-requires
put_label-requires g c = (omega arith, omega (arith, its_length g (goal.at.put_label-requires g c).Then-guard))

pub put_word-requires : goal.put_word-requires
put_word-requires g c =
    omega (arith, its_length g (goal.at.put_word-requires g c).Then-guard, g.met.Self.Sink.laws.left c.put_label.ensures)

pub put_label-requires-then-guard : goal.put_label-requires-then-guard
put_label-requires-then-guard g c =
    let laws = g.met.Self.Sink.laws in
    (omega arith, omega (arith, its_length g (goal.at.put_label-requires-then-guard g c).Then-guard, laws.left c.put_label.ensures, laws.left c.put_word.ensures))

pub put_last-requires : goal.put_last-requires
put_last-requires g c =
    let laws = g.met.Self.Sink.laws in
    let few = its_length g (goal.at.put_last-requires g c).Then-guard in
    rw c.from.ensures (
      omega (arith, c.type_inv.guards (128 * c.args.i + c.args.j)),
      omega (arith, few, laws.left c.put_label.ensures, laws.left c.put_word.ensures, laws.left c.put_label-then-guard.ensures),
    )

pub returns-then-guard : goal.returns-then-guard
returns-then-guard g c =
    let laws = g.met.Self.Sink.laws in
    rw (its_text g (goal.at.returns-then-guard g c).Then-guard)
    (laws.both c.put_label.ensures (laws.both c.put_word.ensures (laws.both c.put_label-then-guard.ensures (rw c.from.ensures at c.put_last.ensures))))

pub returns-else-guard : goal.returns-else-guard
returns-else-guard g c = rw (guard_none c.args.labels.now c.args.guards.now c.args.i c.args.j (pair_apart c.args.guards.now c.args.i c.args.j (omega arith) c.if-guard.false)) (g.met.Self.Sink.laws.none c.args.self.now)
