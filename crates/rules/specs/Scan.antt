-- The one scan behind every test, from the lowest index up (RULES 18). Also the largest, the least and the
-- sum of what stands below an index. Assumes nothing.
use Rattle.std.specs.Prelude.{ℕ, zero, suc, ◌+◌, max, min, Bool, cond, ltb}

-- the first index below n that passes a test; n if none does
unfoldable pub first : (ℕ → Bool) → ℕ → ℕ
first test zero = zero
first test (suc n) = cond (test zero) zero (suc (first (λ k. test (suc k)) n))

-- some index below n passes
unfoldable pub found : (ℕ → Bool) → ℕ → Bool
found test n = ltb (first test n) n

-- over the square, by i then j: the first row below n that has a cell that passes, and some row has one
unfoldable pub first_row : (ℕ → ℕ → Bool) → ℕ → ℕ
first_row test n = first (λ i. found (test i) n) n

unfoldable pub found_pair : (ℕ → ℕ → Bool) → ℕ → Bool
found_pair test n = found (λ i. found (test i) n) n

-- the largest of f below n, 0 if there is none
unfoldable pub largest : (ℕ → ℕ) → ℕ → ℕ
largest f zero = 0
largest f (suc n) = max (largest f n) (f n)

-- the least of f below n and of a number given
unfoldable pub least : ℕ → (ℕ → ℕ) → ℕ → ℕ
least d f zero = d
least d f (suc n) = min (least d f n) (f n)

-- the sum of f below n
unfoldable pub sum : (ℕ → ℕ) → ℕ → ℕ
sum f zero = 0
sum f (suc n) = sum f n + f n
