-- "The longest sheet has 45,489 bytes": no text that is read is longer, and a sheet of that length is
-- written and read. Assumes nothing.
use Rattle.std.specs.Prelude.{ℕ, zero, suc, ◌+◌, ◌*◌, ◌/◌, ◌%◌, ◌≤◌, ◌<◌, ◌≡◌, ◌≢◌, ◌⊎◌, Bool, true, false, cond, not, ◌&&◌, ◌||◌, List, [], ◌∷◌, ◌++◌, length, take, drop, ltb, leb, eqb}
use Rattle.std.proofs.Math.Path.{refl}
use Rattle.std.proofs.Common.{sym, ap, ◌∙◌, inl, inr, arith, zero-add, length-append, length-take, length-drop, ext_get_or, get_or-take, get_or-drop, ltb-true, leb-true, lt-ltb, le-ltb, ne_eqb}
use Rattle.std.proofs.lemmas.Bool.{false≢true}
use Rattle.std.proofs.Math.Decide.{dec_lt}
use Rattle.rules.specs.declared.SheetRead.{SheetRead}
use Rattle.rules.specs.declared.SheetWritten.{SheetWritten}
use Rattle.rules.specs.Tables.{at, cell, cleared, Lent, lend, label_byte}
use Rattle.rules.specs.Limits.{Network}
use Rattle.rules.specs.Scan.{sum}
use Rattle.rules.specs.Text.{paths_word, guards_word, starts_word, is_label_byte, run, spell, numeral}
use Rattle.rules.specs.Sheet.{is_row, bytes_from, path_step, guard_step, start_step}
use Rattle.rules.specs.Writing.{label_of, bad_label, label_twice, is_pair, pairs, has_plan, join_from, count_text, path_text, guard_text, paths_text, guards_text, starts_text, sheet_text}
use Rattle.rules.specs.Numbers.{write_fault}
use Rattle.rules.specs.Calls.{Left, reading, writing}
use Rattle.table_laws.specs.Scans.{sum_from, sum_from_lem, sum_same, found_at, found_none}
use Rattle.table_laws.specs.Tables.{cleared_length, cleared_at}
use Rattle.plan_laws.specs.Answers.{unless_done}
use Rattle.sheet_laws.specs.Rows.{bytes_length, bytes_at, row_same, row_differs}
use Rattle.sheet_laws.specs.Writes.{digits_few, count_length, path_length, pair_length, guard_none, guard_some}
use Rattle.demands.specs.Writable.{Writable, clear_write, writing_writable}
use Rattle.demands.specs.Kept.{tab_from, tab_length, tab_at}
use Rattle.demands.specs.SheetTrip.{written_sheet, written_read}
use Rattle.demands.specs.Longest.{two_digits, three_digits, four_digits}
use Rattle.demands.specs.ReadBack.{run_bytes}
use Rattle.demands.specs.Forms.{LabelByte, Label, bytes_all, CountForm, PathForm, GuardForm, line_text, pair_line}
use Rattle.demands.specs.OnLines.{HasLabel, FirstRight, start, more, path_says, guard_says, start_says}
use Rattle.demands.specs.OnReading.{SheetTables, SheetRight, sizes_right, GuardsRight, without_plan, with_plan, reading_right}
use Rattle.demands.specs.ReadCells.{path_put, guard_put, start_put}

-- How long a line of the form is
line_length : (l w : List ℕ) (v : ℕ) (r : List ℕ) → PathForm l w v r → length l ≡ length w + length (numeral v) + 2 + length r
line_length l w v r f =
    omega (
      arith,
      ap length f.text,
      length-append (line_text w v) r,
      length-append w (32 ∷ (numeral v ++ (10 ∷ []))),
      length-append (numeral v) (10 ∷ []),
    )

pair_line_length : (l a b : List ℕ) (g : ℕ) (r : List ℕ) → GuardForm l a b g r → length l ≡ length a + length b + length (numeral g) + 3 + length r
pair_line_length l a b g r f =
    omega (
      arith,
      ap length f.text,
      length-append (pair_line a b g) r,
      length-append a (32 ∷ line_text b g),
      length-append b (32 ∷ (numeral g ++ (10 ∷ []))),
      length-append (numeral g) (10 ∷ []),
    )

count_line_length : (w l : List ℕ) (m : ℕ) (r : List ℕ) → CountForm w l m r → length l ≡ length w + length (numeral m) + 2 + length r
count_line_length w l m r f = omega (arith, ap length f.text, length-append (count_text w m) r, count_length w m)

-- k lines that are right are at most 12, 21 and 15 bytes each
paths_short : (t₀ : List ℕ × List ℕ) (l : List ℕ) (k : ℕ) (t : List ℕ × List ℕ) (l' : List ℕ) → FirstRight path_step t₀ l k t l' → length l ≤ 12 * k + length l'
paths_short t₀ l k t l' start = omega arith
paths_short t₀ l k'' t'' l'' (more k t l' t' r f e) =
    let p = path_put k t l' _ t' r (path_says k t.0 t.1 l') e in
    omega (arith, paths_short t₀ l k t l' f, line_length l' p.w p.v r p.formed, p.formed.label.few, two_digits p.v (omega (arith, p.most)))

guards_short : (n : ℕ) (labels t₀ l : List ℕ) (k : ℕ) (t l' : List ℕ) → FirstRight (guard_step n labels) t₀ l k t l' → length l ≤ 21 * k + length l'
guards_short n labels t₀ l k t l' start = omega arith
guards_short n labels t₀ l k'' t'' l'' (more k t l' t' r f e) =
    let p = guard_put n labels t l' _ t' r (guard_says n labels k t l') e in
    omega (arith, guards_short n labels t₀ l k t l' f, pair_line_length l' p.a p.b p.g r p.formed, p.formed.first.few, p.formed.second.few, two_digits p.g (omega (arith, p.most)))

starts_short : (labels t₀ l : List ℕ) (k : ℕ) (t l' : List ℕ) → FirstRight (start_step labels) t₀ l k t l' → length l ≤ 15 * k + length l'
starts_short labels t₀ l k t l' start = omega arith
starts_short labels t₀ l k'' t'' l'' (more k t l' t' r f e) =
    let p = start_put labels k t l' _ t' r (start_says labels k t l') e in
    omega (arith, starts_short labels t₀ l k t l' f, line_length l' p.w p.v r p.formed, p.formed.label.few, digits_few p.v (omega (arith, p.most)))

guarded_short : (l : List ℕ) (n : ℕ) (labels widths : List ℕ) (m : ℕ) (guards l₄ : List ℕ) → GuardsRight l n labels widths m guards l₄ → length l ≤ 10 + 12 * n + 12 + 21 * m + length l₄
guarded_short l n labels widths m guards l₄ g =
    omega (
      arith,
      count_line_length paths_word l n g.paths.l₁ g.paths.count,
      three_digits n (omega (arith, g.paths.most)),
      paths_short _ g.paths.l₁ n (labels, widths) g.l₂ g.paths.each,
      count_line_length guards_word g.l₂ m g.l₃ g.count,
      four_digits m (omega (arith, g.most)),
      guards_short n labels _ g.l₃ m guards l₄ g.each,
    )

sheet_short : (l : List ℕ) (t : ℕ × List ℕ × Lent × List ℕ) → SheetRight l t → length l ≤ 45489
sheet_short l t (without_plan n labels widths m guards g) = omega (arith, guarded_short l n labels widths m guards [] g, g.paths.most, g.most)
sheet_short l t (with_plan n labels widths m guards starts s) =
    let g = s.guarded in
    omega (
      arith,
      guarded_short l n labels widths m guards s.l₄ g,
      g.paths.most,
      g.most,
      count_line_length starts_word s.l₄ n s.l₅ s.count,
      three_digits n (omega (arith, g.paths.most)),
      starts_short labels _ s.l₅ n starts [] s.each,
    )

-- no longer text is read
pub read_most : (text labels : List ℕ) (lent : Lent) (starts : List ℕ) → (reading text labels lent starts).answer.number ≡ 0 → length text ≤ 45489
read_most text labels lent starts z = sheet_short text _ (reading_right text labels lent starts z).1

-- The longest sheet: 128 paths of 64 slots with labels of eight bytes, each of the first 20 in conflict
-- with each of the next 100, with a guard of 32, and each at 16,384
unfoldable pub longest_label : ℕ → List ℕ
longest_label k = 65 ∷ 65 ∷ 65 ∷ 65 ∷ 65 ∷ 65 ∷ (65 + k / 16) ∷ (65 + k % 16) ∷ []

unfoldable pub longest_labels : List ℕ
longest_labels = tab_from 1024 0 (λ c. at (longest_label (c / 8)) (c % 8))

unfoldable pub joined : ℕ → ℕ → Bool
joined i j = ltb i 20 && leb 20 j && ltb j 120

unfoldable pub longest_guards : List ℕ
longest_guards = tab_from 16384 0 (λ c. cond (joined (c / 128) (c % 128) || joined (c % 128) (c / 128)) 32 255)

abbrev pub longest_network : Lent
longest_network = lend (cleared 128 64) longest_guards

abbrev pub longest_starts : List ℕ
longest_starts = cleared 128 16384

-- its labels
longest_has : (k : ℕ) → k < 128 → HasLabel longest_labels k (longest_label k)
unfolding longest_labels
longest_has k l j h =
    let a : (8 * k + j) / 8 ≡ k = omega arith in
    let b : (8 * k + j) % 8 ≡ j = omega arith in
    tab_at 1024 (λ c. at (longest_label (c / 8)) (c % 8)) (8 * k + j) (omega arith) ∙ (λ i. at (longest_label (a i)) (b i))

longest_label_lem : (k : ℕ) → k < 128 → Label (longest_label k)
unfolding longest_label
longest_label_lem k l = record { some = omega arith; few = omega arith; bytes = each }
  where
    A : LabelByte 65
    A = inr (inl (omega arith, omega arith))

    each : (j : ℕ) → j < 8 → LabelByte (at (65 ∷ 65 ∷ 65 ∷ 65 ∷ 65 ∷ 65 ∷ (65 + k / 16) ∷ (65 + k % 16) ∷ []) j)
    each zero h = A
    each (suc zero) h = A
    each (suc (suc zero)) h = A
    each (suc (suc (suc zero))) h = A
    each (suc (suc (suc (suc zero)))) h = A
    each (suc (suc (suc (suc (suc zero))))) h = A
    each (suc (suc (suc (suc (suc (suc zero)))))) h = inr (inl (omega arith, omega arith))
    each (suc (suc (suc (suc (suc (suc (suc zero))))))) h = inr (inl (omega arith, omega arith))
    each (suc (suc (suc (suc (suc (suc (suc (suc j)))))))) h = absurd (omega arith)

labels_size_lem : length longest_labels ≡ 1024
unfolding longest_labels
labels_size_lem = tab_length 1024 0 (λ c. at (longest_label (c / 8)) (c % 8))

-- a row that holds w has the label w
pub row_label : (labels w : List ℕ) (k : ℕ) → length labels ≡ 1024 → k < 128 → HasLabel labels k w → Label w → label_of labels k ≡ w
unfolding label_of
row_label labels w k long l has f =
    let eight : length (take 8 (drop (8 * k) labels)) ≡ 8 = omega (arith, length-take 8 (drop (8 * k) labels), length-drop (8 * k) labels) in
    ap (run is_label_byte)
    (ext_get_or 0 (take 8 (drop (8 * k) labels)) (bytes_from 8 0 w) (eight ∙ sym (bytes_length 8 0 w))
    (λ j g.
    let b : j < 8 = omega arith in
    get_or-take 8 (drop (8 * k) labels) j 0 b ∙ get_or-drop (8 * k) labels j 0 ∙ has j b ∙ sym (bytes_at 8 0 w j b ∙ ap (at w) (zero-add j))))
    ∙ run_bytes 8 0 w (bytes_all w f.bytes) f.few

longest_row : (k : ℕ) → k < 128 → label_of longest_labels k ≡ longest_label k
longest_row k l = row_label longest_labels (longest_label k) k labels_size_lem l (longest_has k l) (longest_label_lem k l)

pub eight_bytes : (k : ℕ) → k < 128 → length (label_of longest_labels k) ≡ 8
unfolding longest_label
eight_bytes k l = ap length (longest_row k l)

longest_formed : (k : ℕ) → k < 128 → bad_label longest_labels k ≡ false
unfolding bad_label
longest_formed k l =
    rw (longest_row k l, ne_eqb (length (longest_label k)) 0 (λ e. omega (arith, (longest_label_lem k l).some)), row_same longest_labels (longest_label k) k (longest_has k l))

longest_once : (k : ℕ) → k < 128 → label_twice longest_labels k ≡ false
unfolding label_twice
longest_once k l = rw (longest_row k l) (found_none (is_row longest_labels (longest_label k)) k (λ i h. differs i h (dec_lt (i / 16) (k / 16))))
  where
    high : (i : ℕ) → i < 128 → label_byte longest_labels i 6 ≡ 65 + i / 16
    high i h = longest_has i h 6 (omega arith) ∙ (unfold longest_label in refl)

    low : (i : ℕ) → i < 128 → label_byte longest_labels i 7 ≡ 65 + i % 16
    low i h = longest_has i h 7 (omega arith) ∙ (unfold longest_label in refl)

    sixth : at (longest_label k) 6 ≡ 65 + k / 16
    sixth = unfold longest_label in refl

    seventh : at (longest_label k) 7 ≡ 65 + k % 16
    seventh = unfold longest_label in refl

    differs : (i : ℕ) → i < k → Dec (i / 16 < k / 16) → is_row longest_labels (longest_label k) i ≡ false
    differs i h (yes d) = row_differs longest_labels (longest_label k) i 6 (omega arith) (λ e. omega (arith, high i (omega arith), sixth))
    differs i h (no d) = row_differs longest_labels (longest_label k) i 7 (omega arith) (λ e. omega (arith, low i (omega arith), seventh))

-- its guards
joined_true : (i j : ℕ) → joined i j ≡ true → (i < 20) × (20 ≤ j) × (j < 120)
unfolding joined
joined_true i j = go (ltb i 20) refl (leb 20 j) refl (ltb j 120) refl
  where
    go : (a : Bool) → ltb i 20 ≡ a → (b : Bool) → leb 20 j ≡ b → (c : Bool) → ltb j 120 ≡ c → (a && b && c) ≡ true → (i < 20) × (20 ≤ j) × (j < 120)
    go true p true q true r e = (ltb-true i 20 p, leb-true 20 j q, ltb-true j 120 r)
    go true p true q false r e = absurd (false≢true e)
    go true p false q c r e = absurd (false≢true e)
    go false p b q c r e = absurd (false≢true e)

longest_guard : (i j : ℕ) → i < 128 → j < 128 → at longest_guards (cell i j) ≡ cond (joined i j || joined j i) 32 255
unfolding longest_guards
longest_guard i j h l =
    let a : cell i j / 128 ≡ i = omega arith in
    let b : cell i j % 128 ≡ j = omega arith in
    tab_at 16384 (λ c. cond (joined (c / 128) (c % 128) || joined (c % 128) (c / 128)) 32 255) (cell i j) (omega arith) ∙ (λ k. cond (joined (a k) (b k) || joined (b k) (a k)) 32 255)

longest_network_lem : Network 128 longest_network
longest_network_lem = record {
  some = omega arith;
  few = omega arith;
  widths_size = cleared_length 128 64;
  guards_size = guards_size_lem;
  width = λ k l. let e = cleared_at 128 64 k l in (omega arith, omega arith);
  guard = λ i j h l. rw (longest_guard i j h l) (kind (joined i j || joined j i));
  diagonal = λ k l. longest_guard k k l l ∙ self k (joined k k) refl;
  mirrored = λ i j h l. longest_guard i j h l ∙ ap (λ (b : Bool). cond b 32 255) (or_swap (joined i j) (joined j i)) ∙ sym (longest_guard j i l h);
}
  where
    guards_size_lem : length longest_guards ≡ 16384
    guards_size_lem = unfold longest_guards in (tab_length 16384 0 _)

    kind : (b : Bool) → (cond b 32 255 ≤ 32) ⊎ ◌≡◌ {A = ℕ} (cond b 32 255) 255
    kind true = inl (omega arith)
    kind false = inr refl

    or_swap : (a b : Bool) → (a || b) ≡ (b || a)
    or_swap true true = refl
    or_swap true false = refl
    or_swap false true = refl
    or_swap false false = refl

    self : (k : ℕ) (b : Bool) → joined k k ≡ b → ◌≡◌ {A = ℕ} (cond (b || b) 32 255) 255
    self k true e = let h = joined_true k k e in absurd (omega arith)
    self k false e = refl

pair_is : (i j : ℕ) → i < 128 → j < 128 → is_pair longest_guards i j ≡ joined i j
unfolding is_pair
pair_is i j h l = rw (longest_guard i j h l) (go (joined i j) refl (joined j i) refl (dec_lt i j))
  where
    go : (a : Bool) → joined i j ≡ a → (b : Bool) → joined j i ≡ b → Dec (i < j) → (ltb i j && ltb (cond (a || b) 32 255) 255) ≡ a
    go true p b q d = let x = joined_true i j p in rw (lt-ltb i j (omega arith))
    go false p b q (no d) = rw (le-ltb i j (omega arith))
    go false p true q (yes d) = let x = joined_true j i q in absurd (omega arith)
    go false p false q (yes d) = rw (lt-ltb i j d)

two_thousand : pairs 128 longest_guards ≡ 2000
unfolding pairs
two_thousand =
    sum_same (λ i. sum (λ j. cond (is_pair longest_guards i j) 1 0) 128) (λ i. sum (λ j. cond (joined i j) 1 0) 128) 128
    (λ i h. sum_same (λ j. cond (is_pair longest_guards i j) 1 0) (λ j. cond (joined i j) 1 0) 128 (λ j l. ap (λ (b : Bool). cond b 1 0) (pair_is i j h l)))
    ∙ (unfold sum joined in refl)

-- it is written
pub longest_writable : Writable 128 longest_labels longest_network longest_starts
longest_writable = record {
  network = longest_network_lem;
  labels_size = labels_size_lem;
  starts_size = cleared_length 128 16384;
  formed = longest_formed;
  once = longest_once;
  not_many = omega (arith, two_thousand);
  planned = λ e k l. let s = cleared_at 128 16384 k l in (omega arith, omega arith);
}

-- texts of so many bytes each
pub join_exact : (b m k : ℕ) (f : ℕ → List ℕ) → ((i : ℕ) → i < k + m → length (f i) ≡ b) → length (join_from m k f) ≡ m * b
unfolding join_from
join_exact b zero k f h = omega arith
join_exact b (suc m) k f h = omega (arith, length-append (f k) (join_from m (suc k) f), h k (omega arith), join_exact b m (suc k) f (λ i l. h i (omega arith)))

join_counts : (b r j : ℕ) (f : ℕ → List ℕ) (g : ℕ → ℕ) → ((i : ℕ) → i < j + r → length (f i) ≡ b * g i) → length (join_from r j f) ≡ b * sum_from r j g
unfolding join_from sum_from
join_counts b zero j f g h = omega arith
join_counts b (suc r) j f g h = omega (arith, length-append (f j) (join_from r (suc j) f), h j (omega arith), join_counts b r (suc j) f g (λ i l. h i (omega arith)))

join_sum : (b n : ℕ) (f : ℕ → List ℕ) (g : ℕ → ℕ) → ((i : ℕ) → i < n → length (f i) ≡ b * g i) → length (join_from n 0 f) ≡ b * sum g n
unfolding sum
join_sum b n f g h =
    let e : sum g n ≡ sum_from n 0 g = ap (sum g) (sym (zero-add n)) ∙ sum_from_lem g n 0 ∙ zero-add (sum_from n 0 g) in
    omega (arith, ap (λ (x : ℕ). b * x) e, join_counts b n 0 f g (λ i l. h i (omega arith)))

digits : (length (numeral 64) ≡ 2) × (length (numeral 32) ≡ 2) × (length (numeral 16384) ≡ 5) × (length (numeral 128) ≡ 3) × (length (numeral 2000) ≡ 4)
unfolding numeral spell
digits = (refl, refl, refl, refl, refl)

longest_paths : length (join_from 128 0 (path_text longest_labels (cleared 128 64))) ≡ 128 * 12
longest_paths =
    join_exact 12 128 0 (path_text longest_labels (cleared 128 64))
    (λ k l. let h : k < 128 = omega arith in omega (arith, path_length longest_labels (cleared 128 64) k, eight_bytes k h, ap (λ (v : ℕ). length (numeral v)) (cleared_at 128 64 k h), digits.0))

longest_starts_lem : length (join_from 128 0 (path_text longest_labels longest_starts)) ≡ 128 * 15
longest_starts_lem =
    join_exact 15 128 0 (path_text longest_labels longest_starts)
    (λ k l. let h : k < 128 = omega arith in omega (arith, path_length longest_labels longest_starts k, eight_bytes k h, ap (λ (v : ℕ). length (numeral v)) (cleared_at 128 16384 k h), digits.2))

longest_pair : (i j : ℕ) → i < 128 → j < 128 → length (guard_text longest_labels longest_guards i j) ≡ 21 * cond (is_pair longest_guards i j) 1 0
longest_pair i j h l = go (is_pair longest_guards i j) refl
  where
    is_32 : is_pair longest_guards i j ≡ true → at longest_guards (cell i j) ≡ 32
    is_32 e = longest_guard i j h l ∙ (rw (sym (pair_is i j h l) ∙ e))

    go : (b : Bool) → is_pair longest_guards i j ≡ b → length (guard_text longest_labels longest_guards i j) ≡ 21 * cond b 1 0
    go true e =
        omega (arith, ap length (guard_some longest_labels longest_guards i j e), pair_length longest_labels longest_guards i j, eight_bytes i h, eight_bytes j l, ap (λ (v : ℕ). length (numeral v)) (is_32 e), digits.1)
    go false e = omega (arith, ap length (guard_none longest_labels longest_guards i j e))

longest_pairs : length (join_from 128 0 (λ i. join_from 128 0 (guard_text longest_labels longest_guards i))) ≡ 42000
unfolding pairs
longest_pairs =
    omega (
      arith,
      two_thousand,
      join_sum 21 128 (λ i. join_from 128 0 (guard_text longest_labels longest_guards i)) (λ i. sum (λ j. cond (is_pair longest_guards i j) 1 0) 128)
          (λ i h. join_sum 21 128 (guard_text longest_labels longest_guards i) (λ j. cond (is_pair longest_guards i j) 1 0) (λ j l. longest_pair i j h l)),
    )

has_plan_lem : has_plan 128 longest_starts ≡ true
unfolding has_plan
has_plan_lem = found_at (λ k. not (eqb (at longest_starts k) 0)) 128 0 (omega arith) (rw (cleared_at 128 16384 0 (omega arith)))

pub longest_length : length (sheet_text 128 longest_labels longest_network longest_starts) ≡ 45489
unfolding sheet_text paths_text guards_text starts_text
longest_length =
    rw has_plan_lem
    (let P = join_from 128 0 (path_text longest_labels (cleared 128 64)) in
    let G = join_from 128 0 (λ i. join_from 128 0 (guard_text longest_labels longest_guards i)) in
    let S = join_from 128 0 (path_text longest_labels longest_starts) in
    let A = count_text paths_word 128 in
    let D = count_text guards_word (pairs 128 longest_guards) in
    let E = count_text starts_word 128 in
    omega (
      arith,
      length-append (A ++ P) ((D ++ G) ++ (E ++ S)),
      length-append A P,
      length-append (D ++ G) (E ++ S),
      length-append D G,
      length-append E S,
      count_length paths_word 128,
      count_length guards_word (pairs 128 longest_guards),
      ap (λ (v : ℕ). length (numeral v)) two_thousand,
      count_length starts_word 128,
      digits.3,
      digits.4,
      longest_paths,
      longest_pairs,
      longest_starts_lem,
    ))

-- and read, and a text that is one byte shorter has no room for it
pub longest_written : (writing 128 longest_labels longest_network longest_starts (cleared 45489 0)).answer ≡ record { number = 0; place = 0; length = 45489 }
unfolding writing
longest_written =
    ap (λ (r : Left SheetWritten (List ℕ)). r.answer)
    (unless_done (write_fault 128 longest_labels longest_network longest_starts (cleared 45489 0)) _ _
    (clear_write 128 longest_labels longest_network longest_starts (cleared 45489 0) longest_writable (omega (arith, longest_length, cleared_length 45489 0))))
    ∙ ap (λ (k : ℕ). record { number = 0; place = 0; length = k }) longest_length

pub longest_read : (labels : List ℕ) (lent : Lent) (starts : List ℕ) → SheetTables labels lent starts
    → (reading (sheet_text 128 longest_labels longest_network longest_starts) labels lent starts).answer ≡ record { number = 0; place = 0; n = 128 }
longest_read labels lent starts sizes =
    let z = ap (λ (r : SheetWritten). r.number) longest_written in
    ap (λ (r : Left SheetRead (List ℕ × Lent × List ℕ)). r.answer)
    (ap (λ (text : List ℕ). reading text labels lent starts) (sym (written_sheet 128 longest_labels longest_network longest_starts (cleared 45489 0) z))
    ∙ written_read 128 longest_labels longest_network longest_starts (cleared 45489 0) z labels lent starts (sizes_right labels lent starts sizes))

pub longest_tight : (text : List ℕ) → length text ≤ 45488 → (writing 128 longest_labels longest_network longest_starts text).answer.number ≢ 0
longest_tight text short z = omega (arith, (writing_writable 128 longest_labels longest_network longest_starts text z).1, longest_length)
