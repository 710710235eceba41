use lib.ListN.{drop}
use Rattle.rules.specs.Text.{numeral}
use Rattle.spelling.proofs.Digits.{digits}
use Rattle.spelling.proofs.Rests.{TakesAllBut}
use Rattle.spelling.proofs.Sink.put_number.Given as goal

abbrev pub invariant-loop-power : goal.invariant-loop-power
invariant-loop-power g l =
    TakesAllBut g.Self.Sink.takes (digits (drop l.power-index l.power-items) l.v) l.initial.self (numeral l.v) l.self
