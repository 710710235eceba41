use Prim.Native.Nat.{◌+◌, ◌/◌, ◌%◌}
use mathlib.Core.List.{[], ◌∷◌}
use lib.ListN.{drop}
use native.Mathlib.Omega.{arith}
use Rattle.rules.specs.Tables.{at}
use Rattle.rules.specs.Text.{numeral}
use Rattle.spelling.proofs.Digits.{digits, powers, digit_reached, digit_passed, digit_last, numeral_digits}
use Rattle.spelling.proofs.Rests.{rest_all, rest_none, rest_room, rest_less}
use Rattle.spelling.proofs.Sink.put_number.Goals as goal
use Rattle.spelling.proofs.Sink.put_number.Goals.{then-power-v, else-power-v}

pub loop-power-init : goal.loop-power-init
loop-power-init g c = rw (numeral_digits c.args.v c.requires.0) (rest_all g.met.Self.Sink.laws (numeral c.args.v) c.args.self.now)

pub put_word-requires : goal.put_word-requires
put_word-requires g c =
    let i = c.loop-power.power-index in
    let e = digit_reached i c.args.v c.loop-power-test.true c.if-power-v.true in
    rest_room g.met.Self.Sink.laws (numeral c.args.v) ((48 + c.args.v / at powers i % 10) ∷ []) (digits (drop (i + 1) powers) c.args.v) c.requires.1
    (rw e at c.loop-power.invariant)

pub loop-power-preserved : goal.loop-power-preserved
loop-power-preserved g c =
    let laws = g.met.Self.Sink.laws in
    let i = c.loop-power.power-index in
    let rest = digits (drop (i + 1) powers) c.args.v in
    elim c.if-power-v.branch [
      | then-power-v w ↦
          let e = digit_reached i c.args.v c.loop-power-test.true w.if-power-v.true in
          let put = rw w.digit.ensures at w.put_word.ensures in
          rw w.self-is (rest_less laws (numeral c.args.v) ((48 + c.args.v / at powers i % 10) ∷ []) rest (rw e at c.loop-power.invariant) put)
      | else-power-v w ↦ rw (w.self-is, ← digit_passed i c.args.v c.loop-power-test.true w.if-power-v.false) c.loop-power.invariant
    ]

pub put_word-requires-2 : goal.put_word-requires-2
put_word-requires-2 g c =
    let e = digit_last c.loop-power.power-index c.args.v (omega arith) in
    rest_room g.met.Self.Sink.laws (numeral c.args.v) ((48 + c.args.v % 10) ∷ []) [] c.requires.1 (rw e at c.loop-power.invariant)

pub returns : goal.returns
returns g c =
    let laws = g.met.Self.Sink.laws in
    let e = digit_last c.loop-power.power-index c.args.v (omega arith) in
    let put = rw c.digit-2.ensures at c.put_word-2.ensures in
    rest_none laws (numeral c.args.v) (rest_less laws (numeral c.args.v) ((48 + c.args.v % 10) ∷ []) [] (rw e at c.loop-power.invariant) put)
