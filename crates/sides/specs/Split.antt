-- What finding the two-sided order leaves: no sides, and the order as it was; or so many low paths, and the order of the two
-- sides. Assumes nothing.
use Rattle.std.specs.Prelude.{ℕ, ◌≡◌, true, false, List, Option, None, Some}
use Rattle.rules.specs.Plan.{Net}
use Rattle.rules.specs.Sides.{has_sides, is_high, two_sided, low_side}

abbrev pub SplitIs : Net → ℕ → List ℕ → Option ℕ → List ℕ → Type 0
SplitIs net n before None after = (has_sides net n ≡ false) × (after ≡ before)
SplitIs net n before (Some low) after = (has_sides net n ≡ true) × (low ≡ low_side n (is_high net n)) × (after ≡ two_sided n (is_high net n) before)
