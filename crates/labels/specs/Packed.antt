-- The same key as a number to the base 256, over any eight bytes; that the number which the code reads from a row, or
-- makes of a label, is this key; and that the search for a label's bytes is the search for its key. Assumes nothing.
use Rattle.std.specs.Prelude.{ℕ, zero, suc, ◌+◌, ◌-◌, ◌*◌, ◌^◌, ◌≤◌, ◌<◌, ◌≡◌, refl, Bool, true, false, List, take, drop, ltb, eqb}
use Rattle.std.specs.Int.{from_le_bytes, w64}
use Rattle.std.proofs.Common.{zero-add, sym, subst, ap, ◌∙◌, lt_of_lt_of_le, arith, lit<, get_or-take, get_or-drop, eq-eqb, ne_eqb}
use Rattle.std.proofs.Math.Nat.{pow-le-pow_right}
use Rattle.std.proofs.Math.Decide.{ℕ_discrete}
use Rattle.rules.specs.Tables.{at, label_byte}
use Rattle.rules.specs.Scan.{first, found}
use Rattle.rules.specs.Sheet.{is_row, find, bytes_from}
use Rattle.rules.specs.Writing.{label_of, bad_label, label_twice}
use Rattle.sheet_laws.specs.Rows.{first_same, row_same, row_bytes, bytes_at}
use Rattle.sheet_laws.specs.Writes.{good_label}
use Rattle.labels.specs.Keys as name

-- m bytes of f from byte j on, the first of them lowest
unfoldable pub pack : ℕ → ℕ → (ℕ → ℕ) → ℕ
pack zero j f = 0
pack (suc m) j f = 256 * pack m (suc j) f + f j

-- the key of eight bytes, and of path k's label
abbrev pub key_of : (ℕ → ℕ) → ℕ
key_of f = pack 8 0 f

abbrev pub row_key : List ℕ → ℕ → ℕ
row_key labels k = key_of (label_byte labels k)

-- the eight are bytes
abbrev pub Bytes : (ℕ → ℕ) → Type 0
Bytes f = (j : ℕ) → j < 8 → f j < 256

-- a property of the m numbers after j, and of j
from_more : (P : ℕ → Type 0) (m j : ℕ) → ((i : ℕ) → suc j ≤ i → i < suc j + m → P i) → P j → (i : ℕ) → j ≤ i → i < j + suc m → P i
from_more P m j h z i a b = go (ℕ_discrete j i)
  where
    go : Dec (j ≡ i) → P i
    go (yes e) = subst P e z
    go (no ne) = h i (omega arith) (omega arith)

pack_bound : (m j : ℕ) (f : ℕ → ℕ) → Bytes f → j + m ≤ 8 → pack m j f < 256 ^ m
unfolding pack
pack_bound zero j f h l = lit< tt
pack_bound (suc m) j f h l = omega (arith, pack_bound m (suc j) f h (omega arith), h j (omega arith))

-- which still fits
pub pack_room : (m j : ℕ) (f : ℕ → ℕ) → Bytes f → j + m ≤ 8 → m ≤ 7 → pack m j f < 256 ^ 7
pack_room m j f h l g = lt_of_lt_of_le (pack_bound m j f h l) (pow-le-pow_right (lit< tt) g)

-- no byte of eight, and one more
pub pack_none : (f : ℕ → ℕ) → 0 ≡ pack (8 - 8) 8 f
unfolding pack
pack_none f = refl

pub pack_next : (f : ℕ → ℕ) (j key b : ℕ) → 0 < j → j ≤ 8 → key ≡ pack (8 - j) j f → b ≡ f (j - 1) → 256 * key + b ≡ pack (8 - (j - 1)) (j - 1) f
unfolding pack
pack_next f j key b l h e q =
    let m : 8 - (j - 1) ≡ suc (8 - j) = omega arith in
    let n : suc (j - 1) ≡ j = omega arith in
    rw (m, n, e, q)

pack_same : (m j : ℕ) (f g : ℕ → ℕ) → Bytes f → Bytes g → j + m ≤ 8 → pack m j f ≡ pack m j g → (i : ℕ) → j ≤ i → i < j + m → f i ≡ g i
unfolding pack
pack_same zero j f g p q l e = λ i a b. absurd (omega arith)
pack_same (suc m) j f g p q l e =
    let a = p j (omega arith) in
    let b = q j (omega arith) in
    from_more (λ i. f i ≡ g i) m j (pack_same m (suc j) f g p q (omega arith) (omega arith)) (omega arith)

pub pack_equal : (m j : ℕ) (f g : ℕ → ℕ) → ((i : ℕ) → j ≤ i → i < j + m → f i ≡ g i) → pack m j f ≡ pack m j g
unfolding pack
pack_equal zero j f g h = refl
pack_equal (suc m) j f g h = rw (pack_equal m (suc j) f g (λ i a b. h i (omega arith) (omega arith)), h j (omega arith) (omega arith))

-- eight bytes, read as one number, the first of them lowest
bytes_key : (bytes : List ℕ) → from_le_bytes w64 bytes ≡ key_of (at bytes)
unfolding pack
bytes_key bytes = omega arith

-- so path k's row is its key, and the key that the code makes of a label is that of its bytes
pub row_packed : (labels : List ℕ) (k : ℕ) → from_le_bytes w64 (take 8 (drop (8 * k) labels)) ≡ row_key labels k
row_packed labels k =
    let row = take 8 (drop (8 * k) labels) in
    bytes_key row ∙ pack_equal 8 0 (at row) (label_byte labels k) (λ j h l. rw (get_or-take, get_or-drop))

pub name_packed : (w : List ℕ) → name.key_of w ≡ key_of (at w)
unfolding name.key_of
name_packed w =
    bytes_key (bytes_from 8 0 w) ∙ pack_equal 8 0 (at (bytes_from 8 0 w)) (at w) (λ j h l. rw zero-add at (bytes_at 8 0 w j l))

-- a path's label is w exactly where their keys are equal
pub row_key_lem : (labels w : List ℕ) (k : ℕ) → Bytes (label_byte labels k) → Bytes (at w) → is_row labels w k ≡ eqb (row_key labels k) (key_of (at w))
row_key_lem labels w k p q = go (ℕ_discrete (row_key labels k) (key_of (at w)))
  where
    go : Dec (row_key labels k ≡ key_of (at w)) → is_row labels w k ≡ eqb (row_key labels k) (key_of (at w))
    go (yes e) =
        let same = pack_same 8 0 (label_byte labels k) (at w) p q (omega arith) e in
        row_same labels w k (λ j l. same j (omega arith) (omega arith)) ∙ sym (eq-eqb (row_key labels k) (key_of (at w)) e)
    go (no ne) = differ (is_row labels w k) refl
      where
        differ : (t : Bool) → is_row labels w k ≡ t → is_row labels w k ≡ eqb (row_key labels k) (key_of (at w))
        differ false r = r ∙ sym (ne_eqb (row_key labels k) (key_of (at w)) ne)
        differ true r = absurd (ne (pack_equal 8 0 (label_byte labels k) (at w) (λ j h l. row_bytes labels w k r j l)))

-- so a label is looked for by its key
pub find_key : (labels w : List ℕ) (n key : ℕ) → ((k : ℕ) → Bytes (label_byte labels k)) → Bytes (at w) → key ≡ key_of (at w)
    → find labels n w ≡ first (λ k. eqb (row_key labels k) key) n
unfolding find
find_key labels w n key p q e = rw e (first_same (is_row labels w) (λ k. eqb (row_key labels k) (key_of (at w))) n (λ k l. row_key_lem labels w k (p k) q))

-- and one that is not refused by its whole row
pub twice_key : (labels : List ℕ) (k : ℕ) → ((k : ℕ) → Bytes (label_byte labels k)) → bad_label labels k ≡ false
    → label_twice labels k ≡ ltb (first (λ i. eqb (row_key labels i) (row_key labels k)) k) k
unfolding label_twice found find
twice_key labels k p g =
    let w = label_of labels k in
    let same = row_bytes labels w k (good_label labels k g).1 in
    ap (λ (i : ℕ). ltb i k)
    (find_key labels w k (row_key labels k) p (λ j l. omega (arith, same j l, p k j l)) (pack_equal 8 0 (label_byte labels k) (at w) (λ j h l. same j l)))
