-- The laws of the sheet's text: its pieces, their lengths, and writing one piece after the other. Assumes
-- nothing.
use Prim.Native.Nat.{ℕ, zero, suc, ◌+◌, ◌-◌, ◌*◌, ◌/◌, ◌%◌, ◌≤◌, ◌<◌}
use Rattle.std.specs.Prelude.{◌≡◌, refl, ◌≢◌, Bool, true, false, cond, not, ◌||◌, ◌&&◌, length, set, drop, ltb, eqb}
use Rattle.std.proofs.Math.Path.{sym}
use Rattle.std.proofs.Common.{ap, ◌∙◌, true≢false, length-append, eq-eqb, ne_eqb, lt-ltb, le-ltb, ltb-true, ltb-false, add-zero}
use mathlib.Core.List.{List, [], ◌∷◌, ◌++◌}
use Rattle.std.proofs.Math.ListN.{take, length-take, get_or-eq_default}
use Rattle.std.proofs.lemmas.List.Edits.{sets}
use Rattle.std.proofs.Math.Seq.{get_or-take, get_or-drop}
use Rattle.std.proofs.Math.Decide.{dec_lt}
use Rattle.std.proofs.lemmas.Bool.{eqb-false}
use Rattle.std.proofs.Math.Numerals.{add-one}
use native.Mathlib.Omega.{arith}
use Rattle.rules.specs.Tables.{at, cell, label_byte}
use Rattle.rules.specs.Scan.{sum}
use Rattle.rules.specs.Text.{space, line_feed, is_label_byte, run, numeral}
use Rattle.rules.specs.Sheet.{is_row}
use Rattle.rules.specs.Writing.{label_of, bad_label, is_pair, join_from, count_text, path_text, guard_text}
use Rattle.sheet_laws.specs.Rows.{row_same, row_differs}
use Rattle.sheet_laws.specs.Texts.{here, run_take, numeral_small, numeral_big, numeral_spelled}

-- writing v and then w
pub sets_append : (v : List ℕ) (l : List ℕ) (i : ℕ) (w : List ℕ) → sets l i (v ++ w) ≡ sets (sets l i v) (i + length v) w
sets_append [] l i w = rw add-zero
sets_append (x ∷ v) l i w = let e : i + suc (length v) ≡ suc i + length v = omega arith in rw e (sets_append v (set l i x) (suc i) w)

-- a piece v of the work v and w is done: what is left to write, and where it ends
pub piece : (l m : List ℕ) (p r : ℕ) (v w : List ℕ) → (r ≡ p + length v) × (m ≡ sets l p v) → (sets m r w ≡ sets l p (v ++ w)) × (r + length w ≡ p + length (v ++ w))
piece l m p r v w h = (rw (h.1, h.0) (sym (sets_append v l p w)), omega (arith, h.0, length-append v w))

-- a byte of it is done
pub byte : (l m : List ℕ) (p r x : ℕ) (w : List ℕ) → r ≡ p + 1 → m ≡ set l p x → (sets m r w ≡ sets l p (x ∷ w)) × (r + length w ≡ p + length (x ∷ w))
byte l m p r x w e f = let g : p + 1 ≡ suc p = omega arith in (rw (e, f, g), omega arith)

-- a piece is done in two steps
pub both_pieces : (l m o : List ℕ) (p q r : ℕ) (v w : List ℕ) → (q ≡ p + length v) × (m ≡ sets l p v) → (r ≡ q + length w) × (o ≡ sets m q w)
    → (r ≡ p + length (v ++ w)) × (o ≡ sets l p (v ++ w))
both_pieces l m o p q r v w h k = (omega (arith, h.0, k.0, length-append v w), k.1 ∙ (piece l m p q v w h).0)

-- the texts of several numbers, one after the other: one of them, none, and their length
module _ (n k : ℕ) (f : ℕ → List ℕ) where
  pub join_step : k < n → join_from (n - k) k f ≡ f k ++ join_from (n - (k + 1)) (k + 1) f
  unfolding join_from
  join_step h = let m : n - k ≡ suc (n - (k + 1)) = omega arith in rw (m, add-one k)

  pub join_end : n ≤ k → join_from (n - k) k f ≡ []
  unfolding join_from
  join_end h = let m : n - k ≡ 0 = omega arith in rw m

pub join_bound : (m k b : ℕ) (f : ℕ → List ℕ) → ((i : ℕ) → length (f i) ≤ b) → length (join_from m k f) ≤ m * b
unfolding join_from
join_bound zero k b f h = omega arith
join_bound (suc m) k b f h = omega (arith, length-append (f k) (join_from m (suc k) f), h k, join_bound m (suc k) b f h)

-- texts that are empty up to m
pub join_skip : (n m : ℕ) (f : ℕ → List ℕ) → m ≤ n → ((j : ℕ) → j < m → f j ≡ []) → join_from (n - m) m f ≡ join_from n 0 f
join_skip n zero f l h = let e : n - 0 ≡ n = omega arith in rw e
join_skip n (suc m) f l h =
    let e = join_step n m f (omega arith) in
    let g = rw (h m (omega arith), add-one m) at e in
    sym g ∙ join_skip n m f (omega arith) (λ j g. h j (omega arith))

-- the rest of a label's row, from its byte j on
abbrev pub row_rest : List ℕ → ℕ → ℕ → List ℕ
row_rest labels k j = take (8 - j) (drop (8 * k + j) labels)

module _ (labels : List ℕ) (k j : ℕ) where
  row_here : j < 8 → 8 * k + 8 ≤ length labels → row_rest labels k j ≡ label_byte labels k j ∷ row_rest labels k (j + 1)
  row_here h b =
      let m : 8 - j ≡ suc (8 - (j + 1)) = omega arith in
      let e : 8 * k + (j + 1) ≡ 8 * k + j + 1 = omega arith in
      rw (e, m, here labels (8 * k + j) (omega arith))

  pub rest_stop : j < 8 → 8 * k + 8 ≤ length labels → is_label_byte (label_byte labels k j) ≡ false → run is_label_byte (row_rest labels k j) ≡ []
  unfolding run
  rest_stop h b z = rw (row_here h b, z)

  pub rest_byte : j < 8 → 8 * k + 8 ≤ length labels → is_label_byte (label_byte labels k j) ≡ true
      → run is_label_byte (row_rest labels k j) ≡ label_byte labels k j ∷ run is_label_byte (row_rest labels k (j + 1))
  unfolding run
  rest_byte h b z = rw (row_here h b, z)

  pub rest_end : 8 ≤ j → run is_label_byte (row_rest labels k j) ≡ []
  unfolding run
  rest_end h = let m : 8 - j ≡ 0 = omega arith in rw m

pub rest_start : (labels : List ℕ) (k : ℕ) → run is_label_byte (row_rest labels k 0) ≡ label_of labels k
unfolding label_of
rest_start labels k = rw (add-zero (8 * k))

pub run_short : (p : ℕ → Bool) (l : List ℕ) → length (run p l) ≤ length l
run_short p l = omega (arith, ap length (run_take p l), length-take (length (run p l)) l)

pub label_short : (labels : List ℕ) (k : ℕ) → length (label_of labels k) ≤ 8
unfolding label_of
label_short labels k = omega (arith, run_short is_label_byte (take 8 (drop (8 * k) labels)), length-take 8 (drop (8 * k) labels))

-- a label's bytes, and zeros past its end
module _ (labels : List ℕ) (k j : ℕ) where
  pub label_in : j < length (label_of labels k) → label_byte labels k j ≡ at (label_of labels k) j
  unfolding label_of
  label_in l =
      let row = take 8 (drop (8 * k) labels) in
      let w = run is_label_byte row in
      let b : j < 8 = omega (arith, run_short is_label_byte row, length-take 8 (drop (8 * k) labels)) in
      sym (ap (λ (x : List ℕ). at x j) (run_take is_label_byte row) ∙ get_or-take (length w) row j 0 l ∙ get_or-take 8 (drop (8 * k) labels) j 0 b ∙ get_or-drop (8 * k) labels j 0)

  pub label_past : length (label_of labels k) ≤ j → at (label_of labels k) j ≡ 0
  label_past l = get_or-eq_default (label_of labels k) 0 l

-- 11, in the writer: no byte; a byte past the label that is not zero; a label filled with zeros
pub bad_empty : (labels : List ℕ) (k : ℕ) → length (label_of labels k) ≡ 0 → bad_label labels k ≡ true
unfolding bad_label
bad_empty labels k e = rw (eq-eqb (length (label_of labels k)) 0 e)

or_true : (t : Bool) → (t || true) ≡ true
or_true true = refl
or_true false = refl

pub bad_byte : (labels : List ℕ) (k j : ℕ) → length (label_of labels k) ≤ j → j < 8 → label_byte labels k j ≢ 0 → bad_label labels k ≡ true
unfolding bad_label
bad_byte labels k j l g ne =
    rw (row_differs labels (label_of labels k) k j g (λ e. ne (e ∙ label_past labels k j l))) (or_true (eqb (length (label_of labels k)) 0))

filled_row : (labels : List ℕ) (k : ℕ) → ((j : ℕ) → length (label_of labels k) ≤ j → j < 8 → label_byte labels k j ≡ 0) → is_row labels (label_of labels k) k ≡ true
filled_row labels k h = row_same labels (label_of labels k) k (λ j l. go j l (dec_lt j (length (label_of labels k))))
  where
    go : (j : ℕ) → j < 8 → Dec (j < length (label_of labels k)) → label_byte labels k j ≡ at (label_of labels k) j
    go j l (yes g) = label_in labels k j g
    go j l (no g) = h j (omega arith) l ∙ sym (label_past labels k j (omega arith))

pub bad_not : (labels : List ℕ) (k : ℕ) → length (label_of labels k) ≢ 0 → ((j : ℕ) → length (label_of labels k) ≤ j → j < 8 → label_byte labels k j ≡ 0) → bad_label labels k ≡ false
unfolding bad_label
bad_not labels k ne h = rw (ne_eqb (length (label_of labels k)) 0 ne, filled_row labels k h)

-- what a label that is not refused says
pub good_label : (labels : List ℕ) (k : ℕ) → bad_label labels k ≡ false → (0 < length (label_of labels k)) × (is_row labels (label_of labels k) k ≡ true)
unfolding bad_label
good_label labels k e = go (eqb (length (label_of labels k)) 0) refl (is_row labels (label_of labels k) k) refl e
  where
    go : (a : Bool) → eqb (length (label_of labels k)) 0 ≡ a → (b : Bool) → is_row labels (label_of labels k) k ≡ b → (a || not b) ≡ false
        → (0 < length (label_of labels k)) × (is_row labels (label_of labels k) k ≡ true)
    go false p true q f = (let ne = eqb-false (length (label_of labels k)) 0 p in omega arith, q)
    go false p false q f = absurd (true≢false f)
    go true p b q f = absurd (true≢false f)

-- the digits of a number: one, or one more than those of a tenth of it
pub digits_one : (v : ℕ) → v < 10 → length (numeral v) ≡ 1
digits_one v h = ap length (numeral_small v h)

pub digits_more : (v : ℕ) → 10 ≤ v → v < 100000 → length (numeral v) ≡ length (numeral (v / 10)) + 1
digits_more v h b = ap length (numeral_big v h b) ∙ length-append (numeral (v / 10)) ((48 + v % 10) ∷ [])

pub digits_few : (v : ℕ) → v < 100000 → length (numeral v) ≤ 5
digits_few v h = (numeral_spelled v h).few

-- the lengths of lines
pub count_length : (w : List ℕ) (m : ℕ) → length (count_text w m) ≡ length w + length (numeral m) + 2
unfolding count_text
count_length w m = omega (arith, length-append w (space ++ (numeral m ++ line_feed)), length-append (numeral m) line_feed)

pub path_length : (labels table : List ℕ) (k : ℕ) → length (path_text labels table k) ≡ length (label_of labels k) + length (numeral (at table k)) + 2
unfolding path_text
path_length labels table k =
    omega (arith, length-append (label_of labels k) (space ++ (numeral (at table k) ++ line_feed)), length-append (numeral (at table k)) line_feed)

-- a guard's line, where there is one
abbrev pub pair_text : List ℕ → List ℕ → ℕ → ℕ → List ℕ
pair_text labels guards i j = label_of labels i ++ (space ++ (label_of labels j ++ (space ++ (numeral (at guards (cell i j)) ++ line_feed))))

pub guard_none : (labels guards : List ℕ) (i j : ℕ) → is_pair guards i j ≡ false → guard_text labels guards i j ≡ []
unfolding guard_text
guard_none labels guards i j e = rw e

pub guard_some : (labels guards : List ℕ) (i j : ℕ) → is_pair guards i j ≡ true → guard_text labels guards i j ≡ pair_text labels guards i j
unfolding guard_text
guard_some labels guards i j e = rw e

pub pair_length : (labels guards : List ℕ) (i j : ℕ)
    → length (pair_text labels guards i j) ≡ length (label_of labels i) + length (label_of labels j) + length (numeral (at guards (cell i j))) + 3
pair_length labels guards i j =
    let number = numeral (at guards (cell i j)) in
    omega (
      arith,
      length-append (label_of labels i) (space ++ (label_of labels j ++ (space ++ (number ++ line_feed)))),
      length-append (label_of labels j) (space ++ (number ++ line_feed)),
      length-append number line_feed,
    )

-- which pairs have a guard line
pub pair_late : (guards : List ℕ) (i j : ℕ) → j ≤ i → is_pair guards i j ≡ false
unfolding is_pair
pair_late guards i j l = rw (le-ltb i j l)

pub pair_apart : (guards : List ℕ) (i j : ℕ) → i < j → at guards (cell i j) ≡ 255 → is_pair guards i j ≡ false
unfolding is_pair
pair_apart guards i j l e = rw (lt-ltb i j l, e)

pub pair_joined : (guards : List ℕ) (i j : ℕ) → i < j → at guards (cell i j) < 255 → is_pair guards i j ≡ true
unfolding is_pair
pair_joined guards i j l e = rw (lt-ltb i j l, lt-ltb (at guards (cell i j)) 255 e)

pub pair_test : (guards : List ℕ) (i j : ℕ) → i < j → is_pair guards i j ≡ ltb (at guards (cell i j)) 255
unfolding is_pair
pair_test guards i j l = rw (lt-ltb i j l)

pub pair_order : (guards : List ℕ) (i j : ℕ) → is_pair guards i j ≡ true → (i < j) × (at guards (cell i j) < 255)
unfolding is_pair
pair_order guards i j = go (ltb i j) refl (ltb (at guards (cell i j)) 255) refl
  where
    go : (a : Bool) → ltb i j ≡ a → (b : Bool) → ltb (at guards (cell i j)) 255 ≡ b → (a && b) ≡ true → (i < j) × (at guards (cell i j) < 255)
    go true p true q e = (ltb-true i j p, ltb-true (at guards (cell i j)) 255 q)
    go true p false q e = absurd (true≢false (sym e))
    go false p b q e = absurd (true≢false (sym e))

pub pair_none : (guards : List ℕ) (i j : ℕ) → is_pair guards i j ≡ false → i < j → 255 ≤ at guards (cell i j)
pair_none guards i j e l = ltb-false (at guards (cell i j)) 255 (sym (pair_test guards i j l) ∙ e)

-- path i's lines begin after path i
pub row_skip : (n i : ℕ) (labels guards : List ℕ) → i < n → join_from (n - (i + 1)) (i + 1) (guard_text labels guards i) ≡ join_from n 0 (guard_text labels guards i)
row_skip n i labels guards l = join_skip n (i + 1) (guard_text labels guards i) (omega arith) (λ j g. guard_none labels guards i j (pair_late guards i j (omega arith)))

pub join_length : (n k : ℕ) (f : ℕ → List ℕ) → k < n → length (join_from (n - k) k f) ≡ length (f k) + length (join_from (n - (k + 1)) (k + 1) f)
join_length n k f l = ap length (join_step n k f l) ∙ length-append (f k) (join_from (n - (k + 1)) (k + 1) f)

pub join_none : (n k : ℕ) (f : ℕ → List ℕ) → n ≤ k → length (join_from (n - k) k f) ≡ 0
join_none n k f l = ap length (join_end n k f l)

pub sum_zero : (f : ℕ → ℕ) (m : ℕ) → ((j : ℕ) → j < m → f j ≡ 0) → sum f m ≡ 0
unfolding sum
sum_zero f zero h = refl
sum_zero f (suc m) h = omega (arith, sum_zero f m (λ j l. h j (omega arith)), h m (omega arith))

pub pairs_before : (guards : List ℕ) (i m : ℕ) → m ≤ i + 1 → sum (λ j. cond (is_pair guards i j) 1 0) m ≡ 0
pairs_before guards i m l = sum_zero (λ j. cond (is_pair guards i j) 1 0) m (λ j g. ap (λ (b : Bool). cond b 1 0) (pair_late guards i j (omega arith)))
