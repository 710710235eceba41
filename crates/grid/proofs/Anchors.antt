-- A number that is counted, as the machine hands it on. Assumes nothing.
use Prim.Native.Nat.{ℕ, ◌<◌}
use mathlib.Core.Path.{◌≡◌}
use native.Mathlib.Omega.{arith}
use lib.IntN.{ℤ}
use mir.Syntax.{w32}
use mir.Val.{to_z, of_z}
use Rattle.std.proofs.lemmas.Int.{ints}
use Rattle.sheet_laws.specs.Grid.{lowered}

pub lowered_on : (u : ℕ) → u < 200000 → (z : ℤ) → z ≡ lowered u → to_z w32 (of_z w32 z) ≡ lowered u
lowered_on u l z e = grind (arith, ints)
