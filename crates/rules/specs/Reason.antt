-- RULES 25: why a path stands where it stands. The chain of paths below it, each just clear of the one above,
-- and how many slots the last of them can come down. Assumes nothing.
use Rattle.std.specs.Prelude.{ℕ, zero, suc, ◌+◌, ◌-◌, ◌≤◌, ◌<◌, max, ◌≡◌, ◌≢◌, ◌⊎◌, Bool, cond, not, ◌&&◌, ◌||◌, List, [], ◌∷◌, length, ltb, eqb}
use Rattle.rules.specs.Tables.{at}
use Rattle.rules.specs.Scan.{first, found, largest, sum}
use Rattle.rules.specs.Plan.{Net, Conflict, in_conflict, end, past}

-- path j is below path k: they are in conflict, and it starts lower
unfoldable pub is_below : Net → (ℕ → ℕ) → ℕ → ℕ → Bool
is_below net plan k j = in_conflict net j k && ltb (plan j) (plan k)

-- it holds path k up: it is below, and its end + guard + 1 is k's start
unfoldable pub holds_up : Net → (ℕ → ℕ) → ℕ → ℕ → Bool
holds_up net plan k j = is_below net plan k j && eqb (past net j k (plan j)) (plan k)

-- the link of path k: the lowest number that holds it up, n where none does
unfoldable pub link : Net → (ℕ → ℕ) → ℕ → ℕ → ℕ
link net plan n k = first (holds_up net plan k) n

-- a chain ends at a path on its lowest start, which is slot 1, whatever stands below it, and at one that has no
-- link
unfoldable pub is_last : Net → (ℕ → ℕ) → ℕ → ℕ → Bool
is_last net plan n k = eqb (plan k) (net.low k) || not (found (holds_up net plan k) n)

-- the chain from path k downwards, m paths of it at most
unfoldable pub chain_of : Net → (ℕ → ℕ) → ℕ → ℕ → ℕ → List ℕ
chain_of net plan n zero k = []
chain_of net plan n (suc m) k = k ∷ cond (is_last net plan n k) [] (chain_of net plan n m (link net plan n k))

-- all of it: starts fall along a chain, so it has n paths at most
unfoldable pub chain : Net → (ℕ → ℕ) → ℕ → ℕ → List ℕ
chain net plan n k = chain_of net plan n n k

-- the lowest slot that path k can come down to: its own lowest start, or what a path below it asks for
unfoldable pub bottom : Net → (ℕ → ℕ) → ℕ → ℕ → ℕ
bottom net plan n k = max (net.low k) (largest (λ j. cond (is_below net plan k j) (past net j k (plan j)) 0) n)

-- so many slots
unfoldable pub down : Net → (ℕ → ℕ) → ℕ → ℕ → ℕ
down net plan n k = plan k - bottom net plan n k

-- The same as statements, which the definitions are held to. Path j holds path k up
pub record HoldsUp (net : Net) (plan : ℕ → ℕ) (n k j : ℕ) : Type 0 where
  pub path : j < n
  pub conflict : Conflict net j k
  pub lower : plan j < plan k
  pub meets : past net j k (plan j) ≡ plan k

-- the last path of a chain
abbrev pub last : List ℕ → ℕ
last c = at c (length c - 1)

-- c is the chain of path k: it begins with k; each path but the last stands above its lowest start and is
-- followed by the path of the lowest number that holds it up; the last one stands on its lowest start, or
-- nothing holds it up
pub record Chain (net : Net) (plan : ℕ → ℕ) (n k : ℕ) (c : List ℕ) : Type 0 where
  pub some : 1 ≤ length c
  pub from : at c 0 ≡ k
  pub above : (i : ℕ) → suc i < length c → plan (at c i) ≢ net.low (at c i)
  pub links : (i : ℕ) → suc i < length c → HoldsUp net plan n (at c i) (at c (suc i))
  pub lowest : (i j : ℕ) → suc i < length c → HoldsUp net plan n (at c i) j → at c (suc i) ≤ j
  pub ends : (plan (last c) ≡ net.low (last c)) ⊎ ((j : ℕ) → HoldsUp net plan n (last c) j → ⊥)

-- path k can stand in slot s, the paths below it held: not under its lowest start, and each of them is still
-- below it, with at least the guard between
abbrev pub CanStand : Net → (ℕ → ℕ) → ℕ → ℕ → ℕ → Type 0
CanStand net plan n k s =
    (net.low k ≤ s) × ((j : ℕ) → j < n → Conflict net j k → plan j < plan k → end net j (plan j) + net.guard j k < s)

-- the widths and the guards along a chain, but for the first path's width
unfoldable pub along : Net → List ℕ → ℕ
along net c = sum (λ i. net.width (at c (suc i)) + net.guard (at c (suc i)) (at c i)) (length c - 1)
