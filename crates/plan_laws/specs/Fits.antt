-- What a network within the limits gives the theorems of plans, and the test 8. Assumes nothing.
use Rattle.std.specs.Prelude.{ℕ, ◌≤◌, ◌<◌, ◌≡◌, ◌⊎◌, List}
use Rattle.std.proofs.Common.{inl, inr, arith}
use Rattle.rules.specs.Tables.{at, cell, Lent}
use Rattle.rules.specs.Limits.{Network}
use Rattle.rules.specs.Plan.{Net, net_of, Conflict, Valid, short, too_close}
use Rattle.rules.specs.Numbers.{no_fault, clash_fault}
use Rattle.plan_laws.specs.Good.{Good}
use Rattle.table_laws.specs.Scans.{pair_none, pair_not}
use Rattle.table_laws.specs.Faults.{square_none, square_clear}
use Rattle.plan_laws.specs.Bound.{Within}
use Rattle.plan_laws.specs.Judge.{judged_valid, valid_judged}

-- a network within the limits has what the theorems ask
pub network_good : (n : ℕ) (lent : Lent) → Network n lent → Good (net_of lent) n
network_good n lent w = record { wide = λ k l. (w.width k l).0; above = λ k l. omega arith; mirrored = w.mirrored; alone = w.diagonal }

pub network_bounds : (n : ℕ) (lent : Lent) → Network n lent → Within (net_of lent) n 1
network_bounds n lent w = record { narrow = λ k l. (w.width k l).1; near = λ i j l g c. small i j c (w.guard i j l g); low = λ k l. omega arith }
  where
    small : (i j : ℕ) → Conflict (net_of lent) i j → (at lent.guards (cell i j) ≤ 32) ⊎ (at lent.guards (cell i j) ≡ 255) → at lent.guards (cell i j) ≤ 32
    small i j c (inl l) = l
    small i j c (inr e) = absurd (omega arith)

-- 8
pub clash_valid : (n : ℕ) (net : Net) (starts : List ℕ) → ((k : ℕ) → k < n → net.low k ≤ at starts k) → (clash_fault n net starts).number ≡ 0 → Valid net n (at starts)
unfolding clash_fault
clash_valid n net starts lows z =
    judged_valid net (at starts) n lows (pair_none _ n (square_clear 8 (too_close net (at starts)) (short net (at starts)) n (omega arith) z))

pub valid_clash : (n : ℕ) (net : Net) (starts : List ℕ) → ((k : ℕ) → k < n → 1 ≤ net.width k) → Valid net n (at starts)
    → clash_fault n net starts ≡ no_fault
unfolding clash_fault
valid_clash n net starts wide v =
    square_none 8 (too_close net (at starts)) (short net (at starts)) n (pair_not _ n (valid_judged net (at starts) n wide v))
