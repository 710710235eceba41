-- The line that `--verbose` adds on standard error, as `planned 3 paths, 2 pairs, highest slot 9, two sides`.
-- Assumes nothing.
use Rattle.std.specs.Prelude.{ℕ, min, ◌≡◌, refl, Bool, true, false, List, ◌++◌}
use Rattle.rules.specs.Text.{bytes, spell, numeral}

-- some words and a number. A number over 99,999 would stand as that; none is: a highest slot is at most
-- 12,256, and 1,000 rounds are run
unfoldable pub part : List ℕ → ℕ → List ℕ
part w v = w ++ numeral (min v 99999)

unfoldable pub ending : Bool → ℕ → List ℕ
ending true kept = bytes ", two sides\n"
ending false kept = part (bytes ", ") kept ++ bytes " swaps kept\n"

unfoldable pub note_text : ℕ → ℕ → ℕ → Bool → ℕ → List ℕ
note_text n conflicts highest sided kept =
    part (bytes "planned ") n ++ (part (bytes " paths, ") conflicts ++ (part (bytes " pairs, highest slot ") highest ++ ending sided kept))

-- the worked example, and network T
worked : note_text 3 2 9 true 0 ≡ bytes "planned 3 paths, 2 pairs, highest slot 9, two sides\n"
unfolding note_text part ending spell numeral
worked = refl

swapped : note_text 3 3 10 false 1 ≡ bytes "planned 3 paths, 3 pairs, highest slot 10, 1 swaps kept\n"
unfolding note_text part ending spell numeral
swapped = refl
