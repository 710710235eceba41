-- RULES 8 to 10: the greedy order, the draws and the rounds. Assumes nothing.
use Rattle.std.specs.Prelude.{ℕ, zero, suc, ◌+◌, ◌*◌, ◌/◌, ◌%◌, cond, List, set, ltb}
use Rattle.rules.specs.Tables.{at}
use Rattle.rules.specs.Plan.{Net}
use Rattle.rules.specs.Packing.{Rule, packed, height}
use Rattle.rules.specs.Pressing.{arranged}

-- RULES 8, the greedy order: the key of path k is the start that the rule gives it after the order so far
abbrev pub start_next : Rule → List ℕ → List ℕ → ℕ → ℕ → ℕ
start_next rule table s i k = rule (at (packed rule (at s) table i)) (at s) i k

abbrev pub greedy : Rule → ℕ → List ℕ → List ℕ → ℕ → List ℕ
greedy rule n table order m = arranged (start_next rule table) n order m

-- RULES 9, a draw: the next state, in 32 bits
unfoldable pub draw : ℕ → ℕ
draw x = (1664525 * x + 1013904223) % 4294967296

-- and the place below n that the upper 16 bits of the state give
unfoldable pub drawn_place : ℕ → ℕ → ℕ
drawn_place n x = x / 65536 * n / 65536

-- an order with two places changed about
unfoldable pub swapped : List ℕ → ℕ → ℕ → List ℕ
swapped order a b = set (set order a (at order b)) b (at order a)

-- where improving stands
pub record Run : Type 0 where
  pub state : ℕ
  pub order : List ℕ
  pub highest : ℕ
  pub kept : ℕ

-- the order that a round tries, and the state after its two draws
unfoldable pub state_after : Run → ℕ
state_after r = draw (draw r.state)

unfoldable pub tried : ℕ → Run → List ℕ
tried n r = swapped r.order (drawn_place n (draw r.state)) (drawn_place n (state_after r))

-- RULES 9, a round: the order that is tried stays only where it lowers the highest slot. `highestOf` packs
unfoldable pub round : (List ℕ → ℕ) → ℕ → Run → Run
round highest_of n r =
    cond (ltb (highest_of (tried n r)) r.highest)
    (record { state = state_after r; order = tried n r; highest = highest_of (tried n r); kept = suc r.kept })
    (record { state = state_after r; order = r.order; highest = r.highest; kept = r.kept })

unfoldable pub rounds : (List ℕ → ℕ) → ℕ → ℕ → Run → Run
rounds highest_of n zero r = r
rounds highest_of n (suc k) r = round highest_of n (rounds highest_of n k r)

-- improving an order, for a seed, by a rule into a table
unfoldable pub improved : Net → ℕ → Rule → List ℕ → List ℕ → ℕ → ℕ → Run
improved net n rule table order seed k =
    rounds (height net n rule table) n k (record { state = seed; order = order; highest = height net n rule table order; kept = 0 })
