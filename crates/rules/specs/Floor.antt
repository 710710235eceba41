-- RULES 12: the floor of a list of paths, each two in conflict: all their widths, and the guards along the
-- shortest walk through the list. Assumes nothing.
use Rattle.std.specs.Prelude.{ℕ, zero, suc, ◌+◌, ◌-◌, ◌*◌, ◌<◌, cond, List, set}
use Rattle.rules.specs.Tables.{at, cleared}
use Rattle.rules.specs.Scan.{least, sum}
use Rattle.rules.specs.Plan.{Net, Conflict}
use Rattle.rules.specs.Packing.{placed}

-- k paths of the network, each two in conflict
pub record Clique (net : Net) (n : ℕ) (list : ℕ → ℕ) (k : ℕ) : Type 0 where
  pub inside : (i : ℕ) → i < k → list i < n
  pub all : (i j : ℕ) → i < j → j < k → Conflict net (list i) (list j)

-- a walk through k goes along an order of them: its length is the guards of neighbours, added
unfoldable pub walk_length : (ℕ → ℕ → ℕ) → ℕ → (ℕ → ℕ) → ℕ
walk_length guard k order = sum (λ i. guard (order i) (order (suc i))) (k - 1)

-- the least that an order of k costs, or a bid where that is less. Tried are the orders whose first m
-- positions are those of a table: at the next one each number that is not among them, and so on, until none
-- is left
unfoldable pub least_order : ((ℕ → ℕ) → ℕ) → ℕ → ℕ → ℕ → ℕ → List ℕ → ℕ
least_order cost bid k zero m order = cost (at order)
least_order cost bid k (suc left) m order =
    least bid (λ j. cond (placed (at order) m j) bid (least_order cost bid k left (suc m) (set order m j))) k

-- the length of the shortest walk through k: over all orders, the bid being the walk along 0, 1, 2 and on
unfoldable pub shortest : (ℕ → ℕ → ℕ) → ℕ → ℕ
shortest guard k = least_order (walk_length guard k) (walk_length guard k (λ i. i)) k k 0 (cleared k 0)

-- the floor: the widths, and the guards of the shortest walk
unfoldable pub floor : Net → (ℕ → ℕ) → ℕ → ℕ
floor net list k = sum (λ i. net.width (list i)) k + shortest (λ i j. net.guard (list i) (list j)) k

-- the least guard among the first k of the list; 255 where there are no two
unfoldable pub least_guard : Net → (ℕ → ℕ) → ℕ → ℕ
least_guard net list k = least 255 (λ j. least 255 (λ i. net.guard (list i) (list j)) j) k

-- the coarse floor, with the least guard in each gap: no floor is below it
unfoldable pub coarse_floor : Net → (ℕ → ℕ) → ℕ → ℕ
coarse_floor net list k = sum (λ i. net.width (list i)) k + (k - 1) * least_guard net list k
