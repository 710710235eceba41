-- RULES 4: what a network is, the end of a path, the highest slot, what makes a plan valid, and how many slots
-- short a pair is. A plan is the function from a path to its start. Assumes nothing.
use Rattle.std.specs.Prelude.{ℕ, ◌+◌, ◌-◌, ◌≤◌, ◌<◌, max, ◌⊎◌, Bool, cond, not, ◌||◌, ◌&&◌, ltb, eqb}
use Rattle.rules.specs.Tables.{at, cell, Lent}
use Rattle.rules.specs.Scan.{largest, least}

-- a network: each path's width, the guard of two paths (255: no conflict), and each path's lowest start
pub record Net : Type 0 where
  pub width : ℕ → ℕ
  pub guard : ℕ → ℕ → ℕ
  pub low : ℕ → ℕ

-- the network of the lent tables. Every lowest start is 1
abbrev pub net_of : Lent → Net
net_of lent = record { width = at lent.widths; guard = λ i j. at lent.guards (cell i j); low = λ k. 1 }

-- each guard is a conflict, 0 too; 255 is none, and the tests let no other value pass (RULES 3)
abbrev pub Conflict : Net → ℕ → ℕ → Type 0
Conflict net i j = net.guard i j < 255

abbrev pub in_conflict : Net → ℕ → ℕ → Bool
in_conflict net i j = ltb (net.guard i j) 255

-- the last slot of path k, if it starts at s
abbrev pub end : Net → ℕ → ℕ → ℕ
end net k s = s + net.width k - 1

-- end + guard + 1: the first slot past path j at s and its guard towards k
abbrev pub past : Net → ℕ → ℕ → ℕ → ℕ
past net j k s = end net j s + net.guard j k + 1

-- the highest slot in use
unfoldable pub highest : Net → (ℕ → ℕ) → ℕ → ℕ
highest net plan n = largest (λ k. end net k (plan k)) n

-- path j lies above path i, with at least their guard between the two
abbrev pub Clear : Net → (ℕ → ℕ) → ℕ → ℕ → Type 0
Clear net plan i j = end net i (plan i) + net.guard i j < plan j

-- RULES 4: of each conflicting pair one path is clear above the other. And no start is below the path's
-- lowest
pub record Valid (net : Net) (n : ℕ) (plan : ℕ → ℕ) : Type 0 where
  pub lows : (k : ℕ) → k < n → net.low k ≤ plan k
  pub apart : (i j : ℕ) → i < j → j < n → Conflict net i j → Clear net plan i j ⊎ Clear net plan j i

-- of two paths i is the lower: it starts lower, or they start together and its number is lower
unfoldable pub is_lower : (ℕ → ℕ) → ℕ → ℕ → Bool
is_lower plan i j = ltb (plan i) (plan j) || (eqb (plan i) (plan j) && ltb i j)

-- how many slots short a pair is: so many as lie between the upper path's start and the first slot past the
-- lower one and their guard; 0 where it starts there or higher
unfoldable pub short : Net → (ℕ → ℕ) → ℕ → ℕ → ℕ
short net plan i j = cond (is_lower plan i j) (past net i j (plan i) - plan j) (past net j i (plan j) - plan i)

-- the pair of i and j, i<j, is in conflict and too close: it is short of a slot at least
unfoldable pub too_close : Net → (ℕ → ℕ) → ℕ → ℕ → Bool
too_close net plan i j = ltb i j && (in_conflict net i j && not (eqb (short net plan i j) 0))

-- The published rule (001, equations 2 and 3; RULES 4): path k's slots are one block, plan k + a for each a
-- below its width, and the distance of a conflicting pair, the least |s - t| - 1 over a slot s of the one and
-- a slot t of the other, is at least the guard. It is -1 where blocks overlap, so both sides stand here with
-- 1 added: the least |s - t| is above the guard.
unfoldable pub between : ℕ → ℕ → ℕ
between s t = max (s - t) (t - s)

unfoldable pub set_distance : Net → (ℕ → ℕ) → ℕ → ℕ → ℕ
set_distance net plan i j =
    let d = between (plan i) (plan j) in
    least d (λ a. least d (λ b. between (plan i + a) (plan j + b)) (net.width j)) (net.width i)

pub record Published (net : Net) (n : ℕ) (plan : ℕ → ℕ) : Type 0 where
  pub lows : (k : ℕ) → k < n → net.low k ≤ plan k
  pub apart : (i j : ℕ) → i < j → j < n → Conflict net i j → net.guard i j < set_distance net plan i j
