-- The number of a refusal, in its line. Assumes nothing.
use Prim.Native.Nat.{◌<◌}
use native.Mathlib.Omega.{arith}
use Rattle.rules.specs.declared.Cause.{Cause}
use Rattle.rules.specs.Told.{number_of}

pub number_few : (cause : Cause) → number_of cause < 100000
number_few cause = grind arith
