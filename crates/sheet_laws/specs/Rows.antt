-- The laws of the table of labels: eight bytes a path, looked for and put down. Assumes nothing.
use Rattle.std.specs.Prelude.{ℕ, zero, suc, ◌+◌, ◌*◌, ◌≤◌, ◌<◌, ◌≡◌, refl, Bool, true, false, not, List, [], ◌∷◌, length, set, eqb}
use Rattle.std.proofs.Common.{suc-le-suc, sym, ap, ◌∙◌, length-set, get_or-set_same, get_or-set_other, zero-lt-suc, add-zero, arith, eq-eqb, ne_eqb, eqb-true}
use Rattle.std.proofs.lemmas.List.Edits.{sets}
use Rattle.std.proofs.Math.Seq.{length-sets}
use Rattle.rules.specs.Tables.{at, label_byte}
use Rattle.rules.specs.Scan.{first, found}
use Rattle.rules.specs.Sheet.{is_row, bytes_from, put_row}
use Rattle.table_laws.specs.Scans.{found_at, found_none, found_not}

-- tests that agree below n find the same first index
pub first_same : (test other : ℕ → Bool) (n : ℕ) → ((k : ℕ) → k < n → test k ≡ other k) → first test n ≡ first other n
unfolding first
first_same test other zero h = refl
first_same test other (suc n) h =
    rw (h zero (zero-lt-suc n), first_same (λ k. test (suc k)) (λ k. other (suc k)) n (λ k l. h (suc k) (suc-le-suc l)))

-- path k's label is w, or it is not
pub row_same : (labels w : List ℕ) (k : ℕ) → ((j : ℕ) → j < 8 → label_byte labels k j ≡ at w j) → is_row labels w k ≡ true
unfolding is_row
row_same labels w k h =
    rw (found_none (λ j. not (eqb (label_byte labels k j) (at w j))) 8 (λ j l. ap not (eq-eqb (label_byte labels k j) (at w j) (h j l))))

pub row_differs : (labels w : List ℕ) (k j : ℕ) → j < 8 → (label_byte labels k j ≡ at w j → ⊥) → is_row labels w k ≡ false
unfolding is_row
row_differs labels w k j l h =
    rw (found_at (λ j. not (eqb (label_byte labels k j) (at w j))) 8 j l (ap not (ne_eqb (label_byte labels k j) (at w j) h)))

not_false_is : (b : Bool) → not b ≡ false → b ≡ true
not_false_is true e = refl
not_false_is false e = sym e

not_true_is : (b : Bool) → not b ≡ true → b ≡ false
not_true_is true e = sym e
not_true_is false e = refl

pub row_bytes : (labels w : List ℕ) (k : ℕ) → is_row labels w k ≡ true → (j : ℕ) → j < 8 → label_byte labels k j ≡ at w j
unfolding is_row
row_bytes labels w k e j l =
    eqb-true (label_byte labels k j) (at w j)
    (not_false_is (eqb (label_byte labels k j) (at w j)) (found_not (λ j. not (eqb (label_byte labels k j) (at w j))) 8 (not_true_is (found (λ j. not (eqb (label_byte labels k j) (at w j))) 8) e) j l))

-- the bytes of a row
pub bytes_length : (m j : ℕ) (w : List ℕ) → length (bytes_from m j w) ≡ m
unfolding bytes_from
bytes_length zero j w = refl
bytes_length (suc m) j w = ap suc (bytes_length m (suc j) w)

pub bytes_at : (m j : ℕ) (w : List ℕ) (i : ℕ) → i < m → at (bytes_from m j w) i ≡ at w (j + i)
unfolding bytes_from
bytes_at zero j w i h = absurd (omega arith)
bytes_at (suc m) j w zero h = ap (at w) (sym (add-zero j))
bytes_at (suc m) j w (suc i) h = bytes_at m (suc j) w i (omega arith) ∙ ap (at w) (let e : suc j + i ≡ j + suc i = omega arith in e)

-- cells of a run of stores: before it, after it and in it
pub sets_before : (vs l : List ℕ) (i x : ℕ) → x < i → at (sets l i vs) x ≡ at l x
sets_before [] l i x h = refl
sets_before (v ∷ vs) l i x h = sets_before vs (set l i v) (suc i) x (omega arith) ∙ get_or-set_other l i x v 0 (λ q. omega arith)

pub sets_past : (vs l : List ℕ) (i x : ℕ) → i + length vs ≤ x → at (sets l i vs) x ≡ at l x
sets_past [] l i x h = refl
sets_past (v ∷ vs) l i x h =
    let b : i + suc (length vs) ≤ x = h in
    sets_past vs (set l i v) (suc i) x (omega arith) ∙ get_or-set_other l i x v 0 (λ q. omega arith)

pub sets_in : (vs l : List ℕ) (i j : ℕ) → j < length vs → i + length vs ≤ length l → at (sets l i vs) (i + j) ≡ at vs j
sets_in [] l i j h k = absurd (omega arith)
sets_in (v ∷ vs) l i zero h k =
    let b : i + suc (length vs) ≤ length l = k in
    rw (add-zero i) (sets_before vs (set l i v) (suc i) i (omega arith) ∙ get_or-set_same l i v 0 (omega arith))
sets_in (v ∷ vs) l i (suc j) h k =
    let b : i + suc (length vs) ≤ length l = k in
    let e : i + suc j ≡ suc i + j = omega arith in
    rw e (sets_in vs (set l i v) (suc i) j (omega arith) (omega (arith, length-set l i v)))

-- a label put down as path k's: its own bytes, those of other paths, and the table's length
pub put_length : (labels w : List ℕ) (k : ℕ) → length (put_row labels k w) ≡ length labels
unfolding put_row
put_length labels w k = length-sets labels (8 * k) (bytes_from 8 0 w)

pub put_in : (labels w : List ℕ) (k j : ℕ) → 8 * k + 8 ≤ length labels → j < 8 → label_byte (put_row labels k w) k j ≡ at w j
unfolding put_row
put_in labels w k j h l =
    sets_in (bytes_from 8 0 w) labels (8 * k) j (omega (arith, bytes_length 8 0 w)) (omega (arith, bytes_length 8 0 w))
    ∙ bytes_at 8 0 w j l ∙ ap (at w) (let e : 0 + j ≡ j = omega arith in e)

pub put_before : (labels w : List ℕ) (k x : ℕ) → x < 8 * k → at (put_row labels k w) x ≡ at labels x
unfolding put_row
put_before labels w k x l = sets_before (bytes_from 8 0 w) labels (8 * k) x l

pub put_past : (labels w : List ℕ) (k x : ℕ) → 8 * k + 8 ≤ x → at (put_row labels k w) x ≡ at labels x
unfolding put_row
put_past labels w k x l = sets_past (bytes_from 8 0 w) labels (8 * k) x (omega (arith, bytes_length 8 0 w))
