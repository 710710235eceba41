-- A row of the table, and the eight bytes that a name fills one with. Assumes nothing.
use Rattle.std.proofs.Common.{◌≡◌, ℕ, zero, suc, ◌+◌, ◌*◌, ◌≤◌, ◌<◌, min, eqb, List, [], ◌++◌, length, get_or, take, drop, replicate, zero-add, sym, ◌∙◌, arith, length-take, length-drop, length-append, append_assoc, get_or-take, get_or-drop}
use Rattle.std.proofs.lemmas.Grind.{common_steps, same_number_lists}
use Rattle.std.proofs.Math.Seq.{drop-drop}
use Rattle.std.specs.Int.{from_le_bytes, w64}
use Rattle.std.specs.Simd.{first_chunks}
use borrow.Rule.Slice.PartMut.{put_mid}
use Rattle.std.proofs.lemmas.List.Edits.{sets, sets-eq}
use Rattle.rules.specs.Tables.{at, label_byte}
use Rattle.rules.specs.Sheet.{is_row, bytes_from}
use Rattle.sheet_laws.specs.Rows.{bytes_length, bytes_at}
use Rattle.labels.specs.Keys.{Bytes, key_of}
use Rattle.labels.specs.Packed.{row_packed, name_packed, row_key_lem}

-- path k's row
abbrev pub row_of : List ℕ → ℕ → List ℕ
row_of labels k = take 8 (drop (8 * k) labels)

pub chunk_at : (n m k : ℕ) (xs : List ℕ) → k < m → get_or (first_chunks n m xs) k [] ≡ take n (drop (n * k) xs)
chunk_at n zero k xs h = absurd (omega arith)
chunk_at n (suc m) zero xs h = let e : n * 0 ≡ 0 = omega arith in rw e
chunk_at n (suc m) (suc k) xs h =
    let e : n * suc k ≡ n + n * k = omega arith in
    rw (e, ← drop-drop) (chunk_at n m k (drop n xs) (omega arith))

abbrev zeros : List ℕ
zeros = replicate 8 0

filled_at : (w : List ℕ) (m j : ℕ) → m ≡ min (length w) 8 → j < 8 → at (take m w ++ drop m zeros) j ≡ at w j
filled_at w m j e h = grind (arith, common_steps)

-- byte j of a name, as a row is filled with it
byte_of : (w : List ℕ) (j : ℕ) → j < 8 → at (bytes_from 8 0 w) j ≡ at w j
byte_of w j h = rw zero-add at (bytes_at 8 0 w j h)

pub filled_is : (w : List ℕ) (m : ℕ) → m ≡ min (length w) 8 → take m w ++ drop m zeros ≡ bytes_from 8 0 w
filled_is w m e =
    let n = length-append (take m w) (drop m zeros) in
    let n : length (take m w ++ drop m zeros) ≡ 8 = omega (arith, n, length-take m w, length-drop m zeros) in
    same_number_lists _ _ (n ∙ sym (bytes_length 8 0 w)) (λ j h. filled_at w m j e (omega arith) ∙ sym (byte_of w j (omega arith)))

row_at : (labels : List ℕ) (k j : ℕ) → j < 8 → at (row_of labels k) j ≡ label_byte labels k j
row_at labels k j h = rw (get_or-take, get_or-drop)

-- a row has a name's key exactly where it holds the name
pub same_key : (labels w : List ℕ) (k : ℕ) → Bytes labels → Bytes w → 8 * k + 8 ≤ length labels → eqb (from_le_bytes w64 (row_of labels k)) (key_of w) ≡ is_row labels w k
same_key labels w k p q l = rw (row_packed labels k, name_packed w) (sym (row_key_lem labels w k (λ j h. p (8 * k + j)) (λ j h. q j)))

-- bytes written over a part of the table
pub put_in : (l vs : List ℕ) (i n : ℕ) → length vs ≡ n → i + n ≤ length l → put_mid i n l vs ≡ sets l i vs
put_in l vs i n e h = rw (sets-eq vs l i (omega (arith, e)), e, append_assoc, drop-drop)
