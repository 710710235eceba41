-- What the tests of an anchor and of a block say, where they find no fault. Assumes nothing.
use Prim.Native.Nat.{ℕ, ◌≤◌}
use mathlib.Core.Path.{◌≡◌, refl}
use mathlib.Core.Bool.{Bool, true, false, ◌||◌, true≢false}
use native.Mathlib.Omega.{arith}
use lib.IntN.{ℤ, pos, negsuc}
use lib.Signed.{lt_z}
use Rattle.rules.specs.Numbers.{no_fault, anchor_fault, centre_fault}
use Rattle.table_laws.specs.Faults.{refuse_clear, or_clear}
use Rattle.table_laws.specs.Limits.{outside_not}
use Rattle.table_laws.specs.Results.{clear_none}
use Rattle.grid.specs.Block.{block_fault}

or_false : (x y : Bool) → (x || y) ≡ false → (x ≡ false) × (y ≡ false)
or_false false y h = (refl, h)
or_false true y h = absurd (true≢false h)

pub anchor_clear : (a : ℤ) → (anchor_fault a).number ≡ 0 → (lt_z a (negsuc 1023) ≡ false) × (lt_z (pos 1024) a ≡ false)
unfolding anchor_fault
anchor_clear a z = or_false (lt_z a (negsuc 1023)) (lt_z (pos 1024) a) (refuse_clear _ 17 0 (omega arith) z)

pub block_clear : (b w : ℕ) → (block_fault b w).number ≡ 0 → ((1 ≤ w) × (w ≤ 64)) × ((1 ≤ b) × (b ≤ 16384))
unfolding block_fault
block_clear b w z =
    let t = or_clear _ _ z in
    (outside_not 1 64 w (refuse_clear _ 3 0 (omega arith) t.0), outside_not 1 16384 b (refuse_clear _ 7 0 (omega arith) t.1))

-- the two after each other
pub centre_clear : (a : ℤ) (b w : ℕ) → no_fault ≡ centre_fault a b w → ((anchor_fault a).number ≡ 0) × ((block_fault b w).number ≡ 0)
unfolding centre_fault block_fault
centre_clear a b w e = or_clear _ _ (clear_none e)
