-- Tables by their cells: the cells of the first paths kept, and what lies past them cleared. Assumes nothing.
use Rattle.std.specs.Prelude.{ℕ, zero, suc, ◌+◌, ◌-◌, ◌*◌, ◌≤◌, ◌<◌, ◌≡◌, refl, Bool, true, false, cond, List, [], ◌∷◌, length, set, ltb}
use Rattle.std.proofs.Common.{sym, ap, ◌∙◌, length-set, ext_get_or, add-zero, zero-add, arith, lt-ltb, le-ltb}
use Rattle.std.proofs.Math.Decide.{dec_lt}
use Rattle.rules.specs.Tables.{at, cleared, label_byte}
use Rattle.rules.specs.Sheet.{put_row, find, is_row}
use Rattle.table_laws.specs.Tables.{at_same, at_other, cleared_length, cleared_at}
use Rattle.sheet_laws.specs.Rows.{first_same, put_length, put_in, put_before, put_past, row_same, row_bytes}

-- f at the m numbers from i on
unfoldable pub tab_from : ℕ → ℕ → (ℕ → ℕ) → List ℕ
tab_from zero i f = []
tab_from (suc m) i f = f i ∷ tab_from m (suc i) f

pub tab_length : (m i : ℕ) (f : ℕ → ℕ) → length (tab_from m i f) ≡ m
unfolding tab_from
tab_length zero i f = refl
tab_length (suc m) i f = ap suc (tab_length m (suc i) f)

tab_from_lem : (m i : ℕ) (f : ℕ → ℕ) (j : ℕ) → j < m → at (tab_from m i f) j ≡ f (i + j)
unfolding tab_from
tab_from_lem zero i f j h = absurd (omega arith)
tab_from_lem (suc m) i f zero h = ap f (sym (add-zero i))
tab_from_lem (suc m) i f (suc j) h = tab_from_lem m (suc i) f j (omega arith) ∙ ap f (let e : suc i + j ≡ i + suc j = omega arith in e)

pub tab_at : (m : ℕ) (f : ℕ → ℕ) (j : ℕ) → j < m → at (tab_from m 0 f) j ≡ f j
tab_at m f j h = tab_from_lem m 0 f j h ∙ ap f (zero-add j)

-- a table that has f's cells is that table
pub tab_is : (m : ℕ) (f : ℕ → ℕ) (t : List ℕ) → length t ≡ m → ((j : ℕ) → j < m → at t j ≡ f j) → t ≡ tab_from m 0 f
tab_is m f t e h =
    ext_get_or 0 t (tab_from m 0 f) (e ∙ sym (tab_length m 0 f)) (λ j l. let b : j < m = omega arith in h j b ∙ sym (tab_at m f j b))

-- the first cells of a table
unfoldable pub front : ℕ → List ℕ → ℕ → ℕ
front m table k = cond (ltb k m) (at table k) 0

pub front_in : (m : ℕ) (table : List ℕ) (k : ℕ) → k < m → front m table k ≡ at table k
unfolding front
front_in m table k l = rw (lt-ltb k m l)

pub front_past : (m : ℕ) (table : List ℕ) (k : ℕ) → m ≤ k → front m table k ≡ 0
unfolding front
front_past m table k l = rw (le-ltb k m l)

-- widths and starts of n paths, past them 0; labels of n paths, past them 0
unfoldable pub kept_cells : ℕ → List ℕ → List ℕ
kept_cells n table = tab_from 128 0 (front n table)

unfoldable pub kept_labels : ℕ → List ℕ → List ℕ
kept_labels n labels = tab_from 1024 0 (front (8 * n) labels)

pub cells_length : (n : ℕ) (table : List ℕ) → length (kept_cells n table) ≡ 128
unfolding kept_cells
cells_length n table = tab_length 128 0 (front n table)

pub cells_at : (n : ℕ) (table : List ℕ) (k : ℕ) → k < 128 → at (kept_cells n table) k ≡ front n table k
unfolding kept_cells
cells_at n table k l = tab_at 128 (front n table) k l

pub cells_is : (n : ℕ) (table t : List ℕ) → length t ≡ 128 → ((k : ℕ) → k < 128 → at t k ≡ front n table k) → t ≡ kept_cells n table
unfolding kept_cells
cells_is n table t e h = tab_is 128 (front n table) t e h

pub labels_length : (n : ℕ) (labels : List ℕ) → length (kept_labels n labels) ≡ 1024
unfolding kept_labels
labels_length n labels = tab_length 1024 0 (front (8 * n) labels)

pub labels_at : (n : ℕ) (labels : List ℕ) (c : ℕ) → c < 1024 → at (kept_labels n labels) c ≡ front (8 * n) labels c
unfolding kept_labels
labels_at n labels c l = tab_at 1024 (front (8 * n) labels) c l

pub labels_is : (n : ℕ) (labels t : List ℕ) → length t ≡ 1024 → ((c : ℕ) → c < 1024 → at t c ≡ front (8 * n) labels c) → t ≡ kept_labels n labels
unfolding kept_labels
labels_is n labels t e h = tab_is 1024 (front (8 * n) labels) t e h

-- none kept
pub cells_none : (table : List ℕ) → cleared 128 0 ≡ kept_cells 0 table
cells_none table = cells_is 0 table (cleared 128 0) (cleared_length 128 0) (λ k l. cleared_at 128 0 k l ∙ sym (front_past 0 table k (omega arith)))

pub labels_none : (labels : List ℕ) → cleared 1024 0 ≡ kept_labels 0 labels
labels_none labels = labels_is 0 labels (cleared 1024 0) (cleared_length 1024 0) (λ c l. cleared_at 1024 0 c l ∙ sym (front_past (8 * 0) labels c (omega arith)))

-- one path more
pub cells_more : (table : List ℕ) (k : ℕ) → k < 128 → set (kept_cells k table) k (at table k) ≡ kept_cells (suc k) table
cells_more table k h = cells_is (suc k) table (set (kept_cells k table) k (at table k)) (length-set (kept_cells k table) k (at table k) ∙ cells_length k table) (λ i b. go i b (dec_lt i k) (dec_lt k i))
  where
    go : (i : ℕ) → i < 128 → Dec (i < k) → Dec (k < i) → at (set (kept_cells k table) k (at table k)) i ≡ front (suc k) table i
    go i b (yes s) d = at_other (kept_cells k table) k (at table k) i (λ q. omega arith) ∙ cells_at k table i b ∙ front_in k table i s ∙ sym (front_in (suc k) table i (omega arith))
    go i b (no s) (yes t) = at_other (kept_cells k table) k (at table k) i (λ q. omega arith) ∙ cells_at k table i b ∙ front_past k table i (omega arith) ∙ sym (front_past (suc k) table i (omega arith))
    go i b (no s) (no t) =
        let e : i ≡ k = omega arith in
        rw e (at_same (kept_cells k table) k (at table k) (omega (arith, cells_length k table)) ∙ sym (front_in (suc k) table k (omega arith)))

pub labels_more : (labels : List ℕ) (k : ℕ) (w : List ℕ) → k < 128 → ((j : ℕ) → j < 8 → label_byte labels k j ≡ at w j) → put_row (kept_labels k labels) k w ≡ kept_labels (suc k) labels
labels_more labels k w h pad =
    labels_is (suc k) labels (put_row (kept_labels k labels) k w) (put_length (kept_labels k labels) w k ∙ labels_length k labels) (λ c b. go c b (dec_lt c (8 * k)) (dec_lt c (8 * k + 8)))
  where
    go : (c : ℕ) → c < 1024 → Dec (c < 8 * k) → Dec (c < 8 * k + 8) → at (put_row (kept_labels k labels) k w) c ≡ front (8 * suc k) labels c
    go c b (yes s) d = put_before (kept_labels k labels) w k c s ∙ labels_at k labels c b ∙ front_in (8 * k) labels c s ∙ sym (front_in (8 * suc k) labels c (omega arith))
    go c b (no s) (no t) = put_past (kept_labels k labels) w k c (omega arith) ∙ labels_at k labels c b ∙ front_past (8 * k) labels c (omega arith) ∙ sym (front_past (8 * suc k) labels c (omega arith))
    go c b (no s) (yes t) =
        let j = c - 8 * k in
        let e : c ≡ 8 * k + j = omega arith in
        rw e (put_in (kept_labels k labels) w k j (omega (arith, labels_length k labels)) (omega arith) ∙ sym (pad j (omega arith)) ∙ sym (front_in (8 * suc k) labels (8 * k + j) (omega arith)))

-- a label is looked for in the rows of the first k alone
pub row_kept : (labels : List ℕ) (k : ℕ) (w : List ℕ) (i : ℕ) → k ≤ 128 → i < k → is_row (kept_labels k labels) w i ≡ is_row labels w i
row_kept labels k w i h a = go (is_row labels w i) refl
  where
    same : (j : ℕ) → j < 8 → label_byte (kept_labels k labels) i j ≡ label_byte labels i j
    same j l = labels_at k labels (8 * i + j) (omega arith) ∙ front_in (8 * k) labels (8 * i + j) (omega arith)

    back : (b : Bool) → is_row (kept_labels k labels) w i ≡ b → is_row labels w i ≡ false → is_row (kept_labels k labels) w i ≡ false
    back false e f = e
    back true e f = e ∙ sym (row_same labels w i (λ j l. sym (same j l) ∙ row_bytes (kept_labels k labels) w i e j l)) ∙ f

    go : (b : Bool) → is_row labels w i ≡ b → is_row (kept_labels k labels) w i ≡ is_row labels w i
    go true e = row_same (kept_labels k labels) w i (λ j l. same j l ∙ row_bytes labels w i e j l) ∙ sym e
    go false e = back (is_row (kept_labels k labels) w i) refl e ∙ sym e

pub find_kept : (labels : List ℕ) (k : ℕ) (w : List ℕ) → k ≤ 128 → find (kept_labels k labels) k w ≡ find labels k w
unfolding find
find_kept labels k w h = first_same (is_row (kept_labels k labels) w) (is_row labels w) k (λ i l. row_kept labels k w i h l)
