use Rattle.std.proofs.Common.{◌≡◌, ◌^◌, ◌<◌, drop}
use Rattle.rules.specs.Text.{value_from}
use Rattle.text.proofs.value.Given as goal

abbrev pub invariant-loop-digit : goal.invariant-loop-digit
invariant-loop-digit l =
    (value_from l.value (drop l.digit-index l.digits) ≡ value_from 0 l.digits) × (l.value < 10 ^ l.digit-index)
