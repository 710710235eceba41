use Rattle.rules.specs.Text.{is_digit}
use Rattle.text.proofs.Fields.{run_passes}
use Rattle.text.proofs.number.Goals as goal

pub value-requires-clause-digits : goal.value-requires-clause-digits
value-requires-clause-digits c = let e = (c.run.ensures is_digit (λ x b h. h)).0 in rw e (run_passes is_digit c.args.text.now)
