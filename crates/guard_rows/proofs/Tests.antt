-- What one test of a cell of the guards says. Assumes nothing.
use Prim.Native.Nat.{ℕ, ◌≤◌, ◌<◌}
use mathlib.Core.Path.{◌≡◌, refl}
use mathlib.Core.Logic.{◌≢◌}
use mathlib.Core.Bool.{Bool, true, false, not, ◌||◌, ◌&&◌}
use mathlib.Core.List.{List}
use lib.Dec.{ltb, eqb}
use borrow.Author.Tests.{lt-ltb, le-ltb, eq-eqb, ne_eqb, eqb-false}
use Rattle.rules.specs.Tables.{at, cell}
use Rattle.rules.specs.Numbers.{bad_guard, bad_mirror}

-- 4: a guard within its range, and 255 on the diagonal
pub guard_right : (guards : List ℕ) (i j : ℕ) → (i ≡ j → at guards (cell i j) ≡ 255) → (at guards (cell i j) ≢ 255 → at guards (cell i j) ≤ 32) → bad_guard guards i j ≡ false
guard_right guards i j d h = go (eqb g 255) refl
  where
    g : ℕ
    g = at guards (cell i j)

    go : (b : Bool) → eqb g 255 ≡ b → (not b && (eqb i j || ltb 32 g)) ≡ false
    go true e = refl
    go false e = rw (ne_eqb i j (λ q. eqb-false g 255 e (d q)), le-ltb 32 g (h (eqb-false g 255 e)))

-- 5: on or before the diagonal; equal to its mirror; unequal
pub mirror_before : (guards : List ℕ) (i j : ℕ) → j ≤ i → bad_mirror guards i j ≡ false
mirror_before guards i j l = rw (le-ltb i j l)

pub mirror_same : (guards : List ℕ) (i j : ℕ) → i < j → at guards (cell i j) ≡ at guards (cell j i) → bad_mirror guards i j ≡ false
mirror_same guards i j l e = rw (lt-ltb i j l, eq-eqb (at guards (cell i j)) (at guards (cell j i)) e)

pub mirror_other : (guards : List ℕ) (i j : ℕ) → i < j → at guards (cell i j) ≢ at guards (cell j i) → bad_mirror guards i j ≡ true
mirror_other guards i j l e = rw (lt-ltb i j l, ne_eqb (at guards (cell i j)) (at guards (cell j i)) e)
