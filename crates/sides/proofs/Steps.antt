-- What the loops of the sides keep, step by step. Assumes nothing.
use Rattle.std.proofs.Common.{◌≡◌, ℕ, zero, suc, ◌+◌, ◌≤◌, Bool, true, false, not, cond, ◌||◌, eqb, List, [], ◌∷◌, length, take, position, Option, Some, None, unwrap_or, refl, arith, add-one, length-take}
use Rattle.std.proofs.lemmas.Bool.Decides.{nat_tests}
use Rattle.std.specs.List.{position_or_len}
use Rattle.std.specs.Bool.{beq}
use Rattle.rules.specs.Tables.{at}
use Rattle.rules.specs.Scan.{first, found}
use Rattle.table_laws.specs.Scans.{First, none, some, first_is, found_none, found_suc}
use Rattle.plan_laws.specs.Spreading.{between, next_path}
use Rattle.plan_laws.specs.Passes.{side_of}
use Rattle.rules.specs.Plan.{Net}
use Rattle.rules.specs.Sides.{marks, is_high, has_sides, two_sided, low_side}
use Rattle.sides.specs.Split.{SplitIs}

-- the first of n that passes a test, by its position
first_position : (test : ℕ → Bool) (xs : List ℕ) (n : ℕ) → n ≤ length xs → first (λ k. test (at xs k)) n ≡ position_or_len test (take n xs)
unfolding first
first_position test xs zero l = refl
first_position test [] (suc n) l = absurd (omega arith)
first_position test (x ∷ xs) (suc n) l = go (test x) (first_position test xs n (omega arith))
  where
    go : (b : Bool) → first (λ k. test (at xs k)) n ≡ position_or_len test (take n xs)
        → cond b 0 (suc (first (λ k. test (at xs k)) n)) ≡ cond (not b) (1 + position_or_len test (take n xs)) 0
    go true h = refl
    go false h = omega arith

first_le : (test : ℕ → Bool) (n : ℕ) → first test n ≤ n
first_le test n = go (first_is test n)
  where
    go : First test n (first test n) → first test n ≤ n
    go (some l e h) = omega arith
    go (none e h) = omega arith

-- the next path is met, or none is and it is the first that is not marked
pub next_met : (n c : ℕ) (mark : List ℕ) → n ≤ length mark → Some c ≡ position (λ x. between 3 4 x) (take n mark) → c ≡ next_path n mark
unfolding next_path
next_met n c mark l h = let e = first_position (λ x. between 3 4 x) mark n l in grind (arith, nat_tests, length-take {A = ℕ})

pub next_unmet : (n : ℕ) (mark : List ℕ) (q : Option ℕ) → n ≤ length mark → None ≡ position (λ x. between 3 4 x) (take n mark) → q ≡ position (λ x. between 0 0 x) (take n mark)
    → unwrap_or q n ≡ next_path n mark
unfolding next_path
next_unmet n mark q l h g =
    let e = first_position (λ x. between 3 4 x) mark n l in
    let d = first_position (λ x. between 0 0 x) mark n l in
    let m = first_le (λ k. between 0 0 (at mark k)) n in
    grind (arith, nat_tests, length-take {A = ℕ})

-- a test of each number so far
pub found_start : (test : ℕ → Bool) → found test 0 ≡ false
found_start test = found_none test 0 (λ k l. absurd (omega arith))

pub found_more : (test : ℕ → Bool) (n : ℕ) → found test (n + 1) ≡ (found test n || test n)
found_more test n = rw add-one (found_suc test n)

-- the test of a side
pub side_test : (x : ℕ) (high : Bool) → eqb (side_of x) (cond high 1 0) ≡ beq (eqb x 2) high
side_test x high = go (eqb x 2) high
  where
    go : (a b : Bool) → eqb (cond a 1 0) (cond b 1 0) ≡ beq a b
    go true true = refl
    go true false = refl
    go false true = refl
    go false false = refl

pub ruleset nexts = (next_met, next_unmet)

pub ruleset founds = (found_start, found_more)

-- the two-sided order, by the marks
pub split_two : (net : Net) (n low : ℕ) (before mark after : List ℕ) → mark ≡ marks net n → has_sides net n ≡ true → low ≡ low_side n (λ k. eqb (at mark k) 2)
    → after ≡ two_sided n (λ k. eqb (at mark k) 2) before → SplitIs net n before (Some low) after
unfolding is_high low_side two_sided
split_two net n low before mark after e h a b = (h, rw (← e) a, rw (← e) b)
