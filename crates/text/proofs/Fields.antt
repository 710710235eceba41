-- Fields by the words of std, and the number that digits spell, digit by digit. Assumes nothing.
use Rattle.std.proofs.Common.{◌≡◌, refl, ℕ, ◌+◌, ◌-◌, ◌*◌, ◌^◌, ◌<◌, ◌≤◌, Bool, true, false, cond, ◌&&◌, eqb, List, [], ◌∷◌, length, get_or, take, drop, get_or-take, add-one, lt_of_lt_of_le, lit<, sym, Option, Some, None, MatchOption, Bor, arith}
use Rattle.std.specs.List.{prefix_len}
use Rattle.std.proofs.lemmas.Bool.Decides.{nat_tests}
use Rattle.std.specs.Cmp.Lexicographic.{pointwise}
use Rattle.std.proofs.Math.Nat.{pow-le-pow_right}
use Rattle.std.proofs.lemmas.List.Sums.{prefix_len_passes}
use Rattle.rules.specs.Text.{none, some, run, word, value_from}
use Rattle.sheet_laws.specs.Texts.{here, past, run_take, digit_bounds}
use Rattle.sheet_laws.specs.Grid.{hyphen_none, hyphen_zero, hyphen_some, plain_none, plain_some}
use Rattle.text.specs.Says.{parsed_word}

-- the run of a class is std's front part of bytes that pass, whose length is `prefix_len`
pub run_length : (p : ℕ → Bool) (l : List ℕ) → length (run p l) ≡ prefix_len p l
unfolding run
run_length p [] = refl
run_length p (x ∷ l) = go (p x) (run_length p l)
  where
    go : (t : Bool) → length (run p l) ≡ prefix_len p l → length (cond t (x ∷ run p l) []) ≡ cond t (1 + prefix_len p l) 0
    go true h = omega (arith, h)
    go false h = refl

eqb_comm : (x y : ℕ) → eqb x y ≡ eqb y x
eqb_comm x y = grind (arith, nat_tests)

word_strip : (w l : List ℕ) → word w l ≡ cond (pointwise eqb (take (length w) l) w) (some tt (drop (length w) l)) none
unfolding word
word_strip [] l = refl
word_strip (x ∷ w) [] = refl
word_strip (x ∷ w) (y ∷ l) = rw (eqb_comm x y) (go (eqb y x) (word_strip w l))
  where
    go : (t : Bool) → word w l ≡ cond (pointwise eqb (take (length w) l) w) (some tt (drop (length w) l)) none
        → cond t (word w l) none ≡ cond (t && pointwise eqb (take (length w) l) w) (some tt (drop (length w) l)) none
    go true h = h
    go false h = refl

pub word_is : (w l : List ℕ) (r : Option (Bor (List ℕ)))
    → MatchOption r (pointwise eqb (take (length w) l) w ≡ false) (λ x. (pointwise eqb (take (length w) l) w ≡ true) × (x.now ≡ drop (length w) l) × (length x.now + length w ≡ length l))
    → parsed_word r ≡ word w l
word_is w l None h = sym (rw (word_strip w l, h))
word_is w l (Some x) h = sym (rw (word_strip w l, h.0, h.1))

-- every byte of a run passes
pub run_passes : (p : ℕ → Bool) (l : List ℕ) (k : ℕ) → k < length (run p l) → p (get_or (run p l) k 0) ≡ true
run_passes p l k h =
    let q : k < prefix_len p l = omega (arith, h, run_length p l) in
    rw (run_take p l, run_length p l, get_or-take) (prefix_len_passes p l k 0 q)

-- the digit at i, read after those before it, which spell v
pub value_here : (s : List ℕ) (i v : ℕ) → i < length s → value_from v (drop i s) ≡ value_from (10 * v + (get_or s i 0 - 48)) (drop (i + 1) s)
unfolding value_from
value_here s i v h = rw (here s i h)

pub value_all : (s : List ℕ) (i v : ℕ) → length s ≤ i → value_from v (drop i s) ≡ v
unfolding value_from
value_all s i v h = rw (past s i h)

-- v has i digits, and one more is put after it; five are few
pub below_more : (v d i : ℕ) → v < 10 ^ i → d < 10 → 10 * v + d < 10 ^ (i + 1)
below_more v d i h k = rw add-one (omega arith)

pub below_few : (v i n : ℕ) → v < 10 ^ i → i ≤ n → v < 10 ^ n
below_few v i n h k = lt_of_lt_of_le h (pow-le-pow_right (lit< tt) k)

pub ruleset digit_by_digit = (value_here, value_all, digit_bounds, below_more, below_few)

pub ruleset with_hyphen = (hyphen_none, hyphen_zero, hyphen_some, plain_none, plain_some)
