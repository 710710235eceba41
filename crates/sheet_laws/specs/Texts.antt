-- The laws of fields. A field at a place of a text, as code finds it: the text from that place on. And a
-- field as the writer puts it down, read back. Assumes nothing.
use Rattle.std.specs.Prelude.{ℕ, zero, suc, ◌+◌, ◌-◌, ◌*◌, ◌/◌, ◌%◌, ◌^◌, ◌≤◌, ◌<◌, ◌≡◌, refl, Bool, true, false, ◌&&◌, ◌||◌, List, [], ◌∷◌, ◌++◌, get_or, take, drop, leb}
use Rattle.std.proofs.Common.{sym, ap, ◌∙◌, true≢false, drop_of_length-le, length-append, drop-cons, lit<, lt_of_lt_of_le, add-one}
use Rattle.std.proofs.Math.ListN.{length, get_or-append}
use Rattle.std.proofs.Math.Seq.{drop-drop, drop-append_seam}
use Rattle.std.proofs.Math.Decide.{dec_lt}
use Rattle.std.proofs.Math.Nat.{pow-le-pow_right}
use native.Mathlib.Omega.{arith}
use borrow.Author.Tests.{leb-true, le-leb, lt-leb, eq-eqb, ne_eqb, lt-ltb, le-ltb}
use Rattle.rules.specs.Text.{none, some, word, is_digit, is_label_byte, run, label, is_plain, value_from, number, spell, numeral}

pub here : (s : List ℕ) (i : ℕ) → i < length s → drop i s ≡ get_or s i 0 ∷ drop (i + 1) s
here s i h = rw (add-one, drop-cons s i 0)

pub past : (s : List ℕ) (i : ℕ) → length s ≤ i → drop i s ≡ []
past s i h = drop_of_length-le s h

module _ (p : ℕ → Bool) (s : List ℕ) (i : ℕ) where
  pub run_end : length s ≤ i → run p (drop i s) ≡ []
  unfolding run
  run_end h = rw (past s i h)

  pub run_stop : i < length s → p (get_or s i 0) ≡ false → run p (drop i s) ≡ []
  unfolding run
  run_stop h e = rw (here s i h, e)

  pub run_step : i < length s → p (get_or s i 0) ≡ true → run p (drop i s) ≡ get_or s i 0 ∷ run p (drop (i + 1) s)
  unfolding run
  run_step h e = rw (here s i h, e)

-- the run is a front part
pub run_take : (p : ℕ → Bool) (l : List ℕ) → run p l ≡ take (length (run p l)) l
unfolding run
run_take p [] = refl
run_take p (x ∷ l) = go (p x) refl (run_take p l)
  where
    go : (t : Bool) → p x ≡ t → run p l ≡ take (length (run p l)) l → run p (x ∷ l) ≡ take (length (run p (x ∷ l))) (x ∷ l)
    go true e h = rw e (ap (λ (w : List ℕ). x ∷ w) h)
    go false e h = rw e

-- where the run at i is not empty, the byte there is of the class
pub run_first : (p : ℕ → Bool) (x : ℕ) (l : List ℕ) → 0 < length (run p (x ∷ l)) → p x ≡ true
unfolding run
run_first p x l = go (p x) refl
  where
    go : (t : Bool) → p x ≡ t → 0 < length (run p (x ∷ l)) → p x ≡ true
    go true e h = e
    go false e h = absurd (let h' : 0 < 0 = rw e at h in omega arith)

-- where a digit's class says yes
pub digit_bounds : (x : ℕ) → is_digit x ≡ true → (48 ≤ x) × (x ≤ 57)
unfolding is_digit
digit_bounds x = go (leb 48 x) (leb x 57) refl refl
  where
    go : (a b : Bool) → leb 48 x ≡ a → leb x 57 ≡ b → a && b ≡ true → (48 ≤ x) × (x ≤ 57)
    go true true p q e = (leb-true 48 x p, leb-true x 57 q)
    go true false p q e = absurd (true≢false (sym e))
    go false b p q e = absurd (true≢false (sym e))

-- where the run at a place of s is not empty
pub run_more : (p : ℕ → Bool) (s : List ℕ) (i : ℕ) → 0 < length (run p (drop i s)) → (i < length s) × (p (get_or s i 0) ≡ true)
unfolding run
run_more p s i h = go (dec_lt i (length s))
  where
    go : Dec (i < length s) → (i < length s) × (p (get_or s i 0) ≡ true)
    go (yes k) = (k, run_first p (get_or s i 0) (drop (i + 1) s) (rw (here s i k) at h))
    go (no k) = absurd (let e = run_end p s i (omega (arith, k)) in omega (arith, ap length e))

-- a turn of the loop over digits
pub value_step : (s : List ℕ) (i v : ℕ) → i < length s → is_digit (get_or s i 0) ≡ true
    → value_from v (run is_digit (drop i s)) ≡ value_from (10 * v + (get_or s i 0 - 48)) (run is_digit (drop (i + 1) s))
unfolding value_from
value_step s i v h e = rw (run_step is_digit s i h e)

pub value_end : (s : List ℕ) (i v : ℕ) → length (run is_digit (drop i s)) ≡ 0 → value_from v (run is_digit (drop i s)) ≡ v
unfolding value_from
value_end s i v h = go (run is_digit (drop i s)) h
  where
    go : (w : List ℕ) → length w ≡ 0 → value_from v w ≡ v
    go [] e = refl
    go (x ∷ w) e = absurd (let k : suc (length w) ≡ 0 = e in omega arith)

-- v has k digits, and one more is put after it
pub digits_more : (v d a i : ℕ) → a ≤ i → v < 10 ^ (i - a) → d < 10 → 10 * v + d < 10 ^ (i + 1 - a)
digits_more v d a i h b k =
    let e : i + 1 - a ≡ suc (i - a) = omega arith in
    rw e (omega arith)

pub digits_few : (v a i n : ℕ) → i ≤ a + n → v < 10 ^ (i - a) → v < 10 ^ n
digits_few v a i n h b = lt_of_lt_of_le b (pow-le-pow_right (lit< tt) (omega arith))

module _ (w s : List ℕ) (j i : ℕ) where
  pub word_step : j < length w → i < length s → get_or w j 0 ≡ get_or s i 0 → word (drop j w) (drop i s) ≡ word (drop (j + 1) w) (drop (i + 1) s)
  unfolding word
  word_step h k e = rw (here w j h, here s i k, eq-eqb _ _ e)

  pub word_differs : j < length w → i < length s → (get_or w j 0 ≡ get_or s i 0 → ⊥) → word (drop j w) (drop i s) ≡ none
  unfolding word
  word_differs h k e = rw (here w j h, here s i k, ne_eqb _ _ e)

  pub word_short : j < length w → length s ≤ i → word (drop j w) (drop i s) ≡ none
  unfolding word
  word_short h k = rw (here w j h, past s i k)

  pub word_done : length w ≤ j → word (drop j w) (drop i s) ≡ some tt (drop i s)
  unfolding word
  word_done h = rw (past w j h)

-- e is the end of the run of a class at a place
module _ (s : List ℕ) (at e : ℕ) where
  pub label_none : e ≡ at + length (run is_label_byte (drop at s)) → e - at ≡ 0 → label (drop at s) ≡ none
  unfolding label
  label_none h k = simp (le-ltb 0 (length (run is_label_byte (drop at s))) (omega arith))

  pub label_long : e ≡ at + length (run is_label_byte (drop at s)) → 8 < e - at → label (drop at s) ≡ none
  unfolding label
  label_long h k = simp (lt-ltb 0 (length (run is_label_byte (drop at s))) (omega arith), lt-leb (length (run is_label_byte (drop at s))) 8 (omega arith))

  pub label_some : e ≡ at + length (run is_label_byte (drop at s)) → 0 < e - at → e - at ≤ 8 → label (drop at s) ≡ some (take (e - at) (drop at s)) (drop e s)
  unfolding label
  label_some h k m =
      let n : e - at ≡ length (run is_label_byte (drop at s)) = omega arith in
      rw (n, h, ← drop-drop _ at s, ← run_take is_label_byte (drop at s))
      (simp (lt-ltb 0 (length (run is_label_byte (drop at s))) (omega arith), le-leb (length (run is_label_byte (drop at s))) 8 (omega arith)))

or_true : (t : Bool) → t || true ≡ true
or_true true = refl
or_true false = refl

pub run_head : (p : ℕ → Bool) (s : List ℕ) (i : ℕ) → 0 < length (run p (drop i s)) → get_or (run p (drop i s)) 0 0 ≡ get_or s i 0
run_head p s i h = let m = run_more p s i h in rw (run_step p s i m.0 m.1)

pub value_zero : (w : List ℕ) → length w ≡ 1 → get_or w 0 0 ≡ 48 → value_from 0 w ≡ 0
unfolding value_from
value_zero [] h e = refl
value_zero (x ∷ []) h e = let k : x ≡ 48 = e in rw k
value_zero (x ∷ y ∷ w) h e = absurd (let k : suc (suc (length w)) ≡ 1 = h in omega arith)

module _ (s : List ℕ) (at e : ℕ) where
  pub number_none : e ≡ at + length (run is_digit (drop at s)) → e - at ≡ 0 → number (drop at s) ≡ none
  unfolding number is_plain
  number_none h k = simp (le-ltb 0 (length (run is_digit (drop at s))) (omega arith))

  pub number_long : e ≡ at + length (run is_digit (drop at s)) → 5 < e - at → number (drop at s) ≡ none
  unfolding number is_plain
  number_long h k = simp (lt-ltb 0 (length (run is_digit (drop at s))) (omega arith), lt-leb (length (run is_digit (drop at s))) 5 (omega arith))

  module _ (h : e ≡ at + length (run is_digit (drop at s))) (low : 0 < e - at) (high : e - at ≤ 5) where
    pub number_led : get_or s at 0 ≡ 48 → 1 < e - at → number (drop at s) ≡ none
    unfolding number is_plain
    number_led z k =
        let d = run_head is_digit s at (omega arith) in
        simp (
          lt-ltb 0 (length (run is_digit (drop at s))) (omega arith),
          le-leb (length (run is_digit (drop at s))) 5 (omega arith),
          lt-leb (length (run is_digit (drop at s))) 1 (omega arith),
          eq-eqb (get_or (run is_digit (drop at s)) 0 0) 48 (d ∙ z),
        )

    pub number_zero : get_or s at 0 ≡ 48 → e - at ≤ 1 → number (drop at s) ≡ some 0 (drop e s)
    unfolding number is_plain
    number_zero z k =
        let d = run_head is_digit s at (omega arith) in
        rw (h, ← drop-drop _ at s)
        (simp (
          lt-ltb 0 (length (run is_digit (drop at s))) (omega arith),
          le-leb (length (run is_digit (drop at s))) 5 (omega arith),
          le-leb (length (run is_digit (drop at s))) 1 (omega arith),
          value_zero (run is_digit (drop at s)) (omega arith) (d ∙ z),
        ))

    pub number_some : (get_or s at 0 ≡ 48 → ⊥) → number (drop at s) ≡ some (value_from 0 (run is_digit (drop at s))) (drop e s)
    unfolding number is_plain
    number_some z =
        let d = run_head is_digit s at (omega arith) in
        rw (h, ← drop-drop _ at s)
        (simp (
          lt-ltb 0 (length (run is_digit (drop at s))) (omega arith),
          le-leb (length (run is_digit (drop at s))) 5 (omega arith),
          ne_eqb (get_or (run is_digit (drop at s)) 0 0) 48 (λ q. z (sym d ∙ q)),
          or_true,
        ))

-- every byte of w passes p
abbrev pub All : (ℕ → Bool) → List ℕ → Type 0
All p [] = Unit {0}
All p (x ∷ w) = (p x ≡ true) × All p w

pub all_append : (p : ℕ → Bool) (w : List ℕ) (v : List ℕ) → All p w → All p v → All p (w ++ v)
all_append p [] v h k = k
all_append p (x ∷ w) v h k = (h.0, all_append p w v h.1 k)

-- r does not begin with a byte that passes p
abbrev pub Stops : (ℕ → Bool) → List ℕ → Type 0
Stops p [] = Unit {0}
Stops p (x ∷ l) = p x ≡ false

-- the run of w, where what follows stops it, as x does
pub run_stops : (p : ℕ → Bool) (w r : List ℕ) → All p w → Stops p r → run p (w ++ r) ≡ w
unfolding run
run_stops p [] [] h e = refl
run_stops p [] (x ∷ l) h e = rw e
run_stops p (y ∷ w) r h e = rw h.0 (ap (λ (v : List ℕ). y ∷ v) (run_stops p w r h.1 e))

pub run_stopped : (p : ℕ → Bool) (w : List ℕ) (x : ℕ) (l : List ℕ) → All p w → p x ≡ false → run p (w ++ x ∷ l) ≡ w
run_stopped p w x l h e = run_stops p w (x ∷ l) h e

pub word_trip : (w l : List ℕ) → word w (w ++ l) ≡ some tt l
unfolding word
word_trip [] l = refl
word_trip (x ∷ w) l = rw (eq-eqb x x refl) (word_trip w l)

pub label_trip : (w : List ℕ) (x : ℕ) (l : List ℕ) → All is_label_byte w → 0 < length w → length w ≤ 8 → is_label_byte x ≡ false → label (w ++ x ∷ l) ≡ some w (x ∷ l)
unfolding label
label_trip w x l h low high e =
    simp (run_stopped is_label_byte w x l h e, drop-append_seam w (x ∷ l), lt-ltb 0 (length w) low, le-leb (length w) 8 high)

-- numbers
value_snoc : (w : List ℕ) (v x : ℕ) → value_from v (w ++ (x ∷ [])) ≡ 10 * value_from v w + (x - 48)
unfolding value_from
value_snoc [] v x = refl
value_snoc (y ∷ w) v x = value_snoc w (10 * v + (y - 48)) x

pub spell_small : (k n : ℕ) → n < 10 → spell (suc k) n ≡ (48 + n) ∷ []
unfolding spell
spell_small k n h = rw (lt-ltb n 10 h)

pub spell_big : (k n : ℕ) → 10 ≤ n → spell (suc k) n ≡ spell k (n / 10) ++ ((48 + n % 10) ∷ [])
unfolding spell
spell_big k n h = rw (le-ltb n 10 h)

less : (k n : ℕ) → n < 10 ^ suc k → n / 10 < 10 ^ k
less k n h = omega arith

-- enough digits are enough
pub spell_more : (k n : ℕ) → n < 10 ^ suc k → spell (suc (suc k)) n ≡ spell (suc k) n
spell_more zero n h = spell_small 1 n h ∙ sym (spell_small 0 n h)
spell_more (suc k) n h = go (dec_lt n 10) (spell_more k (n / 10) (less (suc k) n h))
  where
    go : Dec (n < 10) → spell (suc (suc k)) (n / 10) ≡ spell (suc k) (n / 10) → spell (suc (suc (suc k))) n ≡ spell (suc (suc k)) n
    go (yes s) e = spell_small _ n s ∙ sym (spell_small _ n s)
    go (no s) e = rw (spell_big (suc (suc k)) n (omega (arith, s)), spell_big (suc k) n (omega (arith, s)), e)

-- what the digits of n are: they spell n, they are digits, they are 1 to k, and they begin with 0 only
-- where n is 0
pub record Spelled (k n : ℕ) (w : List ℕ) : Type 0 where
  pub value : value_from 0 w ≡ n
  pub digits : All is_digit w
  pub some_digit : 0 < length w
  pub few : length w ≤ k
  pub led : 0 < n → get_or w 0 0 ≡ 48 → ⊥

digit_yes : (d : ℕ) → d < 10 → is_digit (48 + d) ≡ true
unfolding is_digit
digit_yes d h = simp (le-leb 48 (48 + d) (omega arith), le-leb (48 + d) 57 (omega arith))

one_digit : (k n : ℕ) → n < 10 → Spelled (suc k) n ((48 + n) ∷ [])
unfolding value_from
one_digit k n h = record {
  value = omega arith;
  digits = (digit_yes n h, tt);
  some_digit = omega arith;
  few = omega arith;
  led = λ p (q : 48 + n ≡ 48). omega arith;
}

more_digits : (k n : ℕ) (w : List ℕ) → 10 ≤ n → Spelled k (n / 10) w → Spelled (suc k) n (w ++ ((48 + n % 10) ∷ []))
more_digits k n w h s =
    let e = length-append w ((48 + n % 10) ∷ []) in
    record {
      value = value_snoc w 0 (48 + n % 10) ∙ omega (arith, s.value);
      digits = all_append is_digit w ((48 + n % 10) ∷ []) s.digits (digit_yes (n % 10) (omega arith), tt);
      some_digit = omega (arith, e);
      few = omega (arith, e, s.few);
      led = λ p q. s.led (omega arith) (sym (get_or-append w ((48 + n % 10) ∷ []) 0 0 s.some_digit) ∙ q);
    }

pub spelled : (k n : ℕ) → n < 10 ^ suc k → Spelled (suc k) n (spell (suc k) n)
spelled zero n h = rw (spell_small 0 n h) (one_digit 0 n h)
spelled (suc k) n h = go (dec_lt n 10) (spelled k (n / 10) (less (suc k) n h))
  where
    go : Dec (n < 10) → Spelled (suc k) (n / 10) (spell (suc k) (n / 10)) → Spelled (suc (suc k)) n (spell (suc (suc k)) n)
    go (yes s) r = rw (spell_small (suc k) n s) (one_digit (suc k) n s)
    go (no s) r = rw (spell_big (suc k) n (omega (arith, s))) (more_digits (suc k) n _ (omega (arith, s)) r)

pub numeral_spelled : (n : ℕ) → n < 100000 → Spelled 5 n (numeral n)
unfolding numeral
numeral_spelled n h = spelled 4 n h

-- the code's two cases
pub numeral_small : (n : ℕ) → n < 10 → numeral n ≡ (48 + n) ∷ []
unfolding numeral
numeral_small n h = spell_small 4 n h

pub numeral_big : (n : ℕ) → 10 ≤ n → n < 100000 → numeral n ≡ numeral (n / 10) ++ ((48 + n % 10) ∷ [])
unfolding numeral
numeral_big n h b = spell_big 4 n h ∙ ap (λ (w : List ℕ). w ++ ((48 + n % 10) ∷ [])) (sym (spell_more 3 (n / 10) (less 4 n b)))

plain_yes : (n : ℕ) (w : List ℕ) → Spelled 5 n w → (n < 10 → length w ≡ 1) → is_plain w ≡ true
unfolding is_plain
plain_yes n w s one = go (dec_lt n 10)
  where
    go : Dec (n < 10) → is_plain w ≡ true
    go (yes h) = simp (one h)
    go (no h) = simp (lt-ltb 0 (length w) s.some_digit, le-leb (length w) 5 s.few, ne_eqb (get_or w 0 0) 48 (s.led (omega (arith, h))), or_true)

pub number_stops : (n : ℕ) (r : List ℕ) → n < 100000 → Stops is_digit r → number (numeral n ++ r) ≡ some n r
unfolding number
number_stops n r h e =
    let s = numeral_spelled n h in
    simp (
      run_stops is_digit (numeral n) r s.digits e,
      drop-append_seam (numeral n) r,
      s.value,
      plain_yes n (numeral n) s (λ k. ap length (numeral_small n k)),
    )

pub number_trip : (n x : ℕ) (l : List ℕ) → n < 100000 → is_digit x ≡ false → number (numeral n ++ x ∷ l) ≡ some n (x ∷ l)
number_trip n x l h e = number_stops n (x ∷ l) h e
