use Prim.Native.Nat.{◌<◌}
use Rattle.sheets.proofs.checksum.Given as goal

abbrev pub invariant-loop-cell : goal.invariant-loop-cell
invariant-loop-cell g l = l.total < 65521
