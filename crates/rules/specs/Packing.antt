-- RULES 5. An order is the function from a position to the path that stands there. Assumes nothing.
use Rattle.std.specs.Prelude.{ℕ, zero, suc, ◌-◌, ◌<◌, max, ◌≡◌, ◌≢◌, Bool, cond, List, set, eqb}
use Rattle.rules.specs.Tables.{at}
use Rattle.rules.specs.Scan.{found}
use Rattle.rules.specs.Plan.{Net, in_conflict, past, highest}

-- path k is among the first m of an order
unfoldable pub placed : (ℕ → ℕ) → ℕ → ℕ → Bool
placed order m k = found (λ i. eqb (order i) k) m

-- an order as it is tested: its first m entries are below n and none equals an earlier one. In a whole order
-- m is n
pub record Order (order : ℕ → ℕ) (n m : ℕ) : Type 0 where
  pub inside : (i : ℕ) → i < m → order i < n
  pub fresh : (i j : ℕ) → i < j → j < m → order i ≢ order j

-- an order as it is meant: each path below n stands at one of the n positions, and at no second one
pub record Once (order : ℕ → ℕ) (n : ℕ) : Type 0 where
  pub holds : (k : ℕ) → k < n → (i : ℕ) × (i < n) × (order i ≡ k)
  pub once : (i j : ℕ) → i < n → j < n → order i < n → order i ≡ order j → i ≡ j

-- an order backwards
abbrev pub Reversed : (ℕ → ℕ) → (ℕ → ℕ) → ℕ → Type 0
Reversed order reverse n = (i : ℕ) → i < n → reverse i ≡ order (n - 1 - i)

-- a rule of packing: the start of path k, when the first m of an order stand as in a plan
abbrev pub Rule : Type 0
Rule = (ℕ → ℕ) → (ℕ → ℕ) → ℕ → ℕ → ℕ

-- what path j at s asks of path k: 0 where they are not in conflict
unfoldable pub reach : Net → ℕ → ℕ → ℕ → ℕ
reach net j k s = cond (in_conflict net j k) (past net j k s) 0

-- the start of path k after the first m of an order: its lowest, or past all of those that are in conflict
-- with it
unfoldable pub lowest : Net → Rule
lowest net plan order zero k = net.low k
lowest net plan order (suc m) k = max (lowest net plan order m k) (reach net (order m) k (plan (order m)))

-- the table with the starts of the first m paths of the order, each by the rule over those before it
unfoldable pub packed : Rule → (ℕ → ℕ) → List ℕ → ℕ → List ℕ
packed rule order table zero = table
packed rule order table (suc m) = let s = packed rule order table m in set s (order m) (rule (at s) order m (order m))

-- the highest slot of an order packed by a rule into a table
unfoldable pub height : Net → ℕ → Rule → List ℕ → List ℕ → ℕ
height net n rule table order = highest net (at (packed rule (at order) table n)) n
