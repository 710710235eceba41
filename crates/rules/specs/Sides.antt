-- RULES 7, the two sides: every conflict is between a low and a high path, and the first path of each
-- connected part is low. Assumes nothing.
use Rattle.std.specs.Prelude.{ℕ, zero, suc, ◌+◌, ◌-◌, ◌<◌, max, ◌≡◌, Bool, false, cond, not, ◌&&◌, List, ltb, eqb}
use Rattle.rules.specs.Tables.{at, cleared}
use Rattle.rules.specs.Scan.{found, found_pair, largest, sum}
use Rattle.rules.specs.Plan.{Net, Conflict, in_conflict}
use Rattle.rules.specs.Packing.{Rule, packed}
use Rattle.rules.specs.Pressing.{arranged}

-- a walk along conflicts from path i, with whether it is of odd length. Two paths are in one connected part
-- where a walk joins them
pub data Walk (net : Net) (n i : ℕ) : ℕ → Bool → Type 0 where
  here : Walk net n i i false
  step : {j k : ℕ} {odd : Bool} → Walk net n i j odd → k < n → Conflict net j k → Walk net n i k (not odd)

-- every conflict is across: a side is false for low and true for high
abbrev pub Split : Net → ℕ → (ℕ → Bool) → Type 0
Split net n high = (i j : ℕ) → i < n → j < n → Conflict net i j → high j ≡ not (high i)

-- the sides: path k that no walk joins to a path of a lower number has the lowest number of its connected
-- part, and is low
pub record Sides (net : Net) (n : ℕ) (high : ℕ → Bool) : Type 0 where
  pub split : Split net n high
  pub lowest : (k : ℕ) → k < n → ((j : ℕ) (odd : Bool) → j < k → Walk net n j k odd → ⊥) → high k ≡ false

-- Finding them. An order that goes on to a path in conflict with an earlier one wherever there is one, and
-- else to the lowest number left
unfoldable pub touches : Net → (ℕ → ℕ) → ℕ → ℕ → Bool
touches net order m k = found (λ i. in_conflict net (order i) k) m

abbrev pub grown : Net → ℕ → List ℕ → ℕ → List ℕ
grown net n order m = arranged (λ s i k. cond (touches net (at s) i k) 0 1) n order m

-- along it each path is marked 1 (low), or the other mark (2 is high) than a conflicting path before it
unfoldable pub opposite : Net → Rule
opposite net mark order zero k = 1
opposite net mark order (suc m) k = cond (in_conflict net (order m) k) (3 - mark (order m)) (opposite net mark order m k)

unfoldable pub marks : Net → ℕ → List ℕ
marks net n = packed (opposite net) (at (grown net n (cleared 128 0) n)) (cleared 128 0) n

unfoldable pub is_high : Net → ℕ → ℕ → Bool
is_high net n k = eqb (at (marks net n) k) 2

-- there are two sides exactly where no conflict joins two paths of one mark
unfoldable pub same_mark : Net → (ℕ → ℕ) → ℕ → ℕ → Bool
same_mark net mark i j = ltb i j && (in_conflict net i j && eqb (mark i) (mark j))

unfoldable pub has_sides : Net → ℕ → Bool
has_sides net n = not (found_pair (same_mark net (at (marks net n))) n)

-- the two-sided order, first the low paths and then the high ones, each by number; and how many are low
unfoldable pub two_sided : ℕ → (ℕ → Bool) → List ℕ → List ℕ
two_sided n high order = arranged (λ s i k. cond (high k) 1 0) n order n

unfoldable pub low_side : ℕ → (ℕ → Bool) → ℕ
low_side n high = sum (λ k. cond (high k) 0 1) n

-- RULES 7: the highest slot that the two-sided order reaches when it is packed
unfoldable pub across_conflict : Net → ℕ → ℕ → ℕ
across_conflict net i j = cond (in_conflict net i j) (net.width i + net.guard i j + net.width j) 0

unfoldable pub two_sided_highest : Net → ℕ → ℕ
two_sided_highest net n = max (largest net.width n) (largest (λ i. largest (across_conflict net i) n) n)
