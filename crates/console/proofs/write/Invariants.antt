use Rattle.std.proofs.Common.{◌≤◌, length, take}
use Rattle.std.specs.Io.KnownBytes.{Appends}
use Rattle.console.proofs.write.Given as goal

abbrev pub invariant-turns : goal.invariant-turns
invariant-turns g l = record {
  within : l.length ≤ length l.bytes;
  wrote : Appends (g.W.Write.contents l.initial.out) (g.W.Write.contents l.out) (take l.length l.bytes);
}
