-- What the writer writes, the reader reads back: a line, a section, and the whole sheet. Assumes nothing.
use Rattle.std.specs.Prelude.{ℕ, zero, suc, ◌+◌, ◌*◌, ◌≤◌, ◌<◌, ◌≡◌, refl, Bool, true, false, cond, List, [], ◌∷◌, ◌++◌, length, set, drop, take}
use Rattle.std.proofs.Common.{sym, ap, ◌∙◌, append_assoc, add-zero, zero-add, arith}
use Rattle.rules.specs.Tables.{at, Lent}
use Rattle.rules.specs.Text.{some, then, space, line_feed, is_digit, is_label_byte, run, numeral}
use Rattle.rules.specs.Sheet.{is_row, find, Line, right, done, follow, lines, last_field, count_line, path_line, guard_line, path_step, start_step}
use Rattle.rules.specs.Writing.{label_of, label_twice, has_plan, join_from, count_text, path_text}
use Rattle.table_laws.specs.Scans.{first_at, first_none, found_not}
use Rattle.sheet_laws.specs.Texts.{All, label_trip, word_trip, number_trip}
use Rattle.sheet_laws.specs.Rows.{row_bytes}
use Rattle.sheet_laws.specs.Lines.{path_fine, start_fine}
use Rattle.sheet_laws.specs.Writes.{label_short, good_label}
use Rattle.demands.specs.Writable.{Writable}
use Rattle.demands.specs.Kept.{kept_cells, kept_labels, cells_more, labels_more, row_kept, find_kept}

-- the lines
pub last_trip : (v : ℕ) (l : List ℕ) → v < 100000 → last_field (32 ∷ (numeral v ++ 10 ∷ l)) ≡ some v l
unfolding last_field then is_digit
last_trip v l b = rw (word_trip space (numeral v ++ 10 ∷ l), number_trip v 10 l b refl, word_trip line_feed l)

pub count_trip : (w : List ℕ) (m : ℕ) (l : List ℕ) → m < 100000 → count_line w (count_text w m ++ l) ≡ some m l
unfolding count_line count_text then
count_trip w m l b =
    rw (append_assoc w (space ++ (numeral m ++ line_feed)) l, word_trip w (32 ∷ ((numeral m ++ line_feed) ++ l)), append_assoc (numeral m) line_feed l, last_trip m l b)

line_flat : (labels table : List ℕ) (k : ℕ) (l : List ℕ) → path_text labels table k ++ l ≡ label_of labels k ++ 32 ∷ (numeral (at table k) ++ 10 ∷ l)
unfolding path_text
line_flat labels table k l = simp append_assoc

pub line_trip : (w : List ℕ) (v : ℕ) (l : List ℕ) → All is_label_byte w → 0 < length w → length w ≤ 8 → v < 100000
    → path_line (w ++ 32 ∷ (numeral v ++ 10 ∷ l)) ≡ some (w, v) l
unfolding path_line then is_label_byte is_digit
line_trip w v l h low high b = rw (label_trip w 32 (numeral v ++ 10 ∷ l) h low high refl, last_trip v l b)

pub guard_trip : (a b : List ℕ) (g : ℕ) (l : List ℕ) → All is_label_byte a → 0 < length a → length a ≤ 8 → All is_label_byte b → 0 < length b → length b ≤ 8 → g < 100000
    → guard_line (a ++ 32 ∷ (b ++ 32 ∷ (numeral g ++ 10 ∷ l))) ≡ some (a, (b, g)) l
unfolding guard_line then is_label_byte is_digit
guard_trip a b g l p q r p' q' r' h =
    rw (label_trip a 32 (b ++ 32 ∷ (numeral g ++ 10 ∷ l)) p q r refl, word_trip space (b ++ 32 ∷ (numeral g ++ 10 ∷ l)), line_trip b g l p' q' r' h)

-- every byte of a run passes
pub run_all : (p : ℕ → Bool) (l : List ℕ) → All p (run p l)
unfolding run
run_all p [] = tt
run_all p (x ∷ l) = go (p x) refl (run_all p l)
  where
    go : (t : Bool) → p x ≡ t → All p (run p l) → All p (cond t (x ∷ run p l) [])
    go true e h = (e, h)
    go false e h = tt

pub label_all : (labels : List ℕ) (k : ℕ) → All is_label_byte (label_of labels k)
unfolding label_of
label_all labels k = run_all is_label_byte (take 8 (drop (8 * k) labels))

-- a section of which each line leads from one state of the tables to the next
pub lines_back : {T : Type 0} (step : ℕ → T → List ℕ → Line T) (top n : ℕ) (state : ℕ → T) (text : ℕ → List ℕ)
    → ((k : ℕ) → k < n → (l : List ℕ) → step k (state k) (text k ++ l) ≡ right (state (suc k)) l)
    → (m k : ℕ) → k + m ≤ n → (l : List ℕ) → lines step top m k (state k) (join_from m k text ++ l) ≡ done (state (k + m)) l
unfolding lines join_from follow
lines_back step top n state text h zero k b l = rw (add-zero k)
lines_back step top n state text h (suc m) k b l =
    let e : k + suc m ≡ suc k + m = omega arith in
    rw (append_assoc (text k) (join_from m (suc k) text) l, h k (omega arith) (join_from m (suc k) text ++ l), e)
    (lines_back step top n state text h m (suc k) (omega arith) l)

module _ (n : ℕ) (labels : List ℕ) (lent : Lent) (starts : List ℕ) (ok : Writable n labels lent starts) where
  pub some_byte : (k : ℕ) → k < n → 0 < length (label_of labels k)
  some_byte k l = (good_label labels k (ok.formed k l)).0

  pub its_row : (k : ℕ) → k < n → is_row labels (label_of labels k) k ≡ true
  its_row k l = (good_label labels k (ok.formed k l)).1

  none_before : (k : ℕ) → k < n → (i : ℕ) → i < k → is_row labels (label_of labels k) i ≡ false
  unfolding label_twice
  none_before k l = found_not (is_row labels (label_of labels k)) k (ok.once k l)

  new_label : (k : ℕ) → k < n → find labels k (label_of labels k) ≡ k
  unfolding find
  new_label k l = first_none (is_row labels (label_of labels k)) k (none_before k l)

  pub found_label : (k : ℕ) → k < n → find (kept_labels n labels) n (label_of labels k) ≡ k
  unfolding find
  found_label k l = find_kept labels n (label_of labels k) ok.network.few ∙ first_at (is_row labels (label_of labels k)) n k (none_before k l) (its_row k l) l

  -- the paths
  path_back : (k : ℕ) → k < n → (l : List ℕ) → path_step k (kept_labels k labels, kept_cells k lent.widths) (path_text labels lent.widths k ++ l) ≡ right (kept_labels (suc k) labels, kept_cells (suc k) lent.widths) l
  path_back k h l =
      let b : k < 128 = omega (arith, ok.network.few) in
      let w = ok.network.width k h in
      path_fine k (kept_labels k labels) (kept_cells k lent.widths) (path_text labels lent.widths k ++ l) (label_of labels k) (at lent.widths k) l
      (ap path_line (line_flat labels lent.widths k l) ∙ line_trip (label_of labels k) (at lent.widths k) l (label_all labels k) (some_byte k h) (label_short labels k) (omega arith))
      k (sym (find_kept labels k (label_of labels k) (omega arith) ∙ new_label k h)) (omega arith) w.0 w.1
      ∙ ap (λ (x : List ℕ). right (x, set (kept_cells k lent.widths) k (at lent.widths k)) l) (labels_more labels k (label_of labels k) b (row_bytes labels (label_of labels k) k (its_row k h)))
      ∙ ap (λ (x : List ℕ). right (kept_labels (suc k) labels, x) l) (cells_more lent.widths k b)

  pub paths_back : (l : List ℕ) → lines path_step 2 n 0 (kept_labels 0 labels, kept_cells 0 lent.widths) (join_from n 0 (path_text labels lent.widths) ++ l) ≡ done (kept_labels n labels, kept_cells n lent.widths) l
  paths_back l = lines_back path_step 2 n (λ k. (kept_labels k labels, kept_cells k lent.widths)) (path_text labels lent.widths) path_back n 0 (omega arith) l
      ∙ ap (λ (m : ℕ). done (kept_labels m labels, kept_cells m lent.widths) l) (zero-add n)

  -- the starts
  module _ (plan : has_plan n starts ≡ true) where
    start_back : (k : ℕ) → k < n → (l : List ℕ) → start_step (kept_labels n labels) k (kept_cells k starts) (path_text labels starts k ++ l) ≡ right (kept_cells (suc k) starts) l
    start_back k h l =
        let s = ok.planned plan k h in
        start_fine (kept_labels n labels) k (kept_cells k starts) (path_text labels starts k ++ l) (label_of labels k) (at starts k) l
        (ap path_line (line_flat labels starts k l) ∙ line_trip (label_of labels k) (at starts k) l (label_all labels k) (some_byte k h) (label_short labels k) (omega arith))
        (row_kept labels n (label_of labels k) k ok.network.few h ∙ its_row k h) s.0 s.1
        ∙ ap (λ (x : List ℕ). right x l) (cells_more starts k (omega (arith, ok.network.few)))

    pub starts_back : (top : ℕ) (l : List ℕ) → lines (start_step (kept_labels n labels)) top n 0 (kept_cells 0 starts) (join_from n 0 (path_text labels starts) ++ l) ≡ done (kept_cells n starts) l
    starts_back top l = lines_back (start_step (kept_labels n labels)) top n (λ k. kept_cells k starts) (path_text labels starts) start_back n 0 (omega arith) l
        ∙ ap (λ (m : ℕ). done (kept_cells m starts) l) (zero-add n)
