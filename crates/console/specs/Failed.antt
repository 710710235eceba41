-- Which failures of a call are for good. Assumes nothing.
use Rattle.std.specs.Prelude.{◌≢◌}
use Rattle.std.specs.IoError.{error_kind}
use Rattle.std.specs.declared.io.Error.{Error}
use Rattle.std.specs.declared.io.ErrorKind.TheVariants.{Interrupted, WouldBlock}

-- the call was neither interrupted nor one that would have had to wait
abbrev pub IsLasting : Error → Type 0
IsLasting error = (error_kind error ≢ WouldBlock) × (error_kind error ≢ Interrupted)
