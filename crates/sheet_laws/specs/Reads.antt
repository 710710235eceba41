-- What a program gets of the reader, whatever stood in the tables that it lends: the numbers and lines of
-- refusals have at most five digits, a sheet that is read has at most 128 paths, and what is made on a sheet is
-- made of what was read. Assumes nothing.
use Rattle.std.specs.Prelude.{ℕ, zero, suc, ◌+◌, ◌≤◌, ◌<◌, ◌≡◌, refl, ◌≢◌, Bool, true, false, cond, not, ◌&&◌, List, [], ◌∷◌, length, set, ltb, leb, eqb}
use Rattle.std.proofs.Math.Path.{sym}
use Rattle.std.proofs.Common.{ap, ◌∙◌, true≢false, arith}
use borrow.Author.Tests.{eq-eqb, ne_eqb, leb-true}
use Rattle.rules.specs.declared.SheetRead.{SheetRead}
use Rattle.rules.specs.Tables.{at, cell, cleared, Lent, lend, cleared_network}
use Rattle.rules.specs.Text.{Parsed, none, some, paths_word, guards_word, starts_word}
use Rattle.rules.specs.Sheet.{is_row, find, put_row, Line, wrong, right, Section, halt, done, follow, lines, count_line, path_line, guard_line, path_means, path_step, guard_cell, guard_means, guard_step, start_means, start_step, counted, after, ended, last_part, starts_part, guards_part, sheet_from}
use Rattle.rules.specs.Numbers.{◌or_else◌, no_fault, network_sizes, label_sizes, sheet_sizes}
use Rattle.rules.specs.Calls.{Left, left, unless, read_outcome, reading}
use Rattle.rules.specs.Program.{on_sheet}
use Rattle.table_laws.specs.Tables.{cleared_length}
use Rattle.table_laws.specs.Faults.{size_good}

abbrev Tables : Type 0
Tables = List ℕ × Lent × List ℕ

-- The numbers and lines of the reader's refusals have at most five digits
abbrev ShortLine : {T : Type 0} → Line T → Type 0
ShortLine (wrong number) = number < 100000
ShortLine (right t l) = Unit {0}

abbrev Short : {T : Type 0} → Section T → Type 0
Short (halt number line) = (number < 100000) × (line < 100000)
Short (done t l) = Unit {0}

choice : {T : Type 0} (b : Bool) (x y : Line T) → ShortLine x → ShortLine y → ShortLine (cond b x y)
choice true x y p q = p
choice false x y p q = q

path_means_lem : (k : ℕ) (labels widths : List ℕ) (p : Parsed (List ℕ × ℕ)) → ShortLine (path_means k labels widths p)
unfolding path_means
path_means_lem k labels widths none = omega arith
path_means_lem k labels widths (some (w, v) l) =
    choice (ltb (find labels k w) k) (wrong 12) (cond (leb 1 v && leb v 64) (right (put_row labels k w, set widths k v) l) (wrong 3))
    (omega arith) (choice (leb 1 v && leb v 64) (right (put_row labels k w, set widths k v) l) (wrong 3) tt (omega arith))

path_short : (k : ℕ) (t : List ℕ × List ℕ) (l : List ℕ) → ShortLine (path_step k t l)
unfolding path_step
path_short k t l = path_means_lem k t.0 t.1 (path_line l)

guard_cell_lem : (n i j g : ℕ) (guards l : List ℕ) → ShortLine (guard_cell n i j g guards l)
unfolding guard_cell
guard_cell_lem n i j g guards l = go (ltb i n && ltb j n && not (eqb i j)) (eqb (at guards (cell i j)) 255) (leb g 32)
  where
    go : (a b d : Bool) → ShortLine (cond a (cond b (cond d (right (set (set guards (cell i j) g) (cell j i) g) l) (wrong 4)) (wrong 14)) (wrong 13))
    go true true true = tt
    go true true false = omega arith
    go true false d = omega arith
    go false b d = omega arith

guard_means_lem : (n : ℕ) (labels guards : List ℕ) (p : Parsed (List ℕ × (List ℕ × ℕ))) → ShortLine (guard_means n labels guards p)
unfolding guard_means
guard_means_lem n labels guards none = omega arith
guard_means_lem n labels guards (some t l) = guard_cell_lem n (find labels n t.0) (find labels n t.1.0) t.1.1 guards l

guard_short : (n : ℕ) (labels : List ℕ) (k : ℕ) (guards l : List ℕ) → ShortLine (guard_step n labels k guards l)
unfolding guard_step
guard_short n labels k guards l = guard_means_lem n labels guards (guard_line l)

start_means_lem : (labels : List ℕ) (k : ℕ) (starts : List ℕ) (p : Parsed (List ℕ × ℕ)) → ShortLine (start_means labels k starts p)
unfolding start_means
start_means_lem labels k starts none = omega arith
start_means_lem labels k starts (some t l) = go (is_row labels t.0 k) (leb 1 t.1 && leb t.1 16384)
  where
    go : (a b : Bool) → ShortLine (cond a (cond b (right (set starts k t.1) l) (wrong 7)) (wrong 13))
    go true true = tt
    go true false = omega arith
    go false b = omega arith

start_short : (labels : List ℕ) (k : ℕ) (starts l : List ℕ) → ShortLine (start_step labels k starts l)
unfolding start_step
start_short labels k starts l = start_means_lem labels k starts (path_line l)

follow_short : {T : Type 0} (x : Line T) (line : ℕ) (go : T → List ℕ → Section T) → ShortLine x → line < 100000
    → ((t : T) (l : List ℕ) → Short (go t l)) → Short (follow x line go)
unfolding follow
follow_short (wrong number) line go s b h = (s, b)
follow_short (right t l) line go s b h = h t l

lines_short : {T : Type 0} (step : ℕ → T → List ℕ → Line T) → ((k : ℕ) (t : T) (l : List ℕ) → ShortLine (step k t l)) → (top m k : ℕ) (t : T) (l : List ℕ)
    → top + k + m < 100000 → Short (lines step top m k t l)
unfolding lines
lines_short step s top zero k t l b = tt
lines_short step s top (suc m) k t l b =
    follow_short (step k t l) (top + k) (λ t' l'. lines step top m (suc k) t' l') (s k t l) (omega arith)
    (λ t' l'. lines_short step s top m (suc k) t' l' (omega arith))

counted_short : {T : Type 0} (p : Parsed ℕ) (isRight : ℕ → Bool) (line : ℕ) (go : ℕ → List ℕ → Section T) → line < 100000
    → ((n : ℕ) (l : List ℕ) → isRight n ≡ true → Short (go n l)) → Short (counted p isRight line go)
unfolding counted
counted_short none isRight line go b h = (omega arith, b)
counted_short (some n l) isRight line go b h = pick (isRight n) refl
  where
    pick : (x : Bool) → isRight n ≡ x → Short (cond x (go n l) (halt 1 line))
    pick true e = h n l e
    pick false e = (omega arith, b)

after_short : {T U : Type 0} (x : Section T) (go : T → List ℕ → Section U) → Short x → ((t : T) (l : List ℕ) → Short (go t l)) → Short (after x go)
unfolding after
after_short (halt number line) go s h = s
after_short (done t l) go s h = h t l

ended_short : {T : Type 0} (line : ℕ) (t : T) (l : List ℕ) → line < 100000 → Short (ended line t l)
unfolding ended
ended_short line t [] b = tt
ended_short line t (x ∷ l) b = (omega arith, b)

last_short : {T : Type 0} (w : List ℕ) (step : ℕ → T → List ℕ → Line T) → ((k : ℕ) (t : T) (l : List ℕ) → ShortLine (step k t l)) → (n line : ℕ) (t : T) (l : List ℕ)
    → n ≤ 128 → line ≤ 3000 → Short (last_part w step n line t l)
unfolding last_part
last_short w step h n line t l p q =
    counted_short (count_line w l) (λ m. eqb m n) line (λ m l₁. after (lines step (line + 1) n 0 t l₁) (λ t' l₂. ended (line + 1 + n) t' l₂)) (omega arith)
    (λ m l₁ e. after_short (lines step (line + 1) n 0 t l₁) (λ t' l₂. ended (line + 1 + n) t' l₂)
    (lines_short step h (line + 1) n 0 t l₁ (omega arith)) (λ t' l₂. ended_short (line + 1 + n) t' l₂ (omega arith)))

starts_short : (n line : ℕ) (labels starts l : List ℕ) → n ≤ 128 → line ≤ 3000 → Short (starts_part n line labels starts l)
unfolding starts_part
starts_short n line labels starts [] p q = tt
starts_short n line labels starts (x ∷ l) p q = last_short starts_word (start_step labels) (start_short labels) n line starts (x ∷ l) p q

guards_short : (n : ℕ) (labels guards starts l : List ℕ) → n ≤ 128 → Short (guards_part n labels guards starts l)
unfolding guards_part
guards_short n labels guards starts l p =
    counted_short (count_line guards_word l) (λ m. leb m 2000) (n + 2)
    (λ m l₁. after (lines (guard_step n labels) (n + 3) m 0 guards l₁) (λ t l₂. after (starts_part n (n + m + 3) labels starts l₂) (λ u l₃. done (t, u) l₃)))
    (omega arith)
    (λ m l₁ e. let q = leb-true m 2000 e in after_short (lines (guard_step n labels) (n + 3) m 0 guards l₁)
    (λ t l₂. after (starts_part n (n + m + 3) labels starts l₂) (λ u l₃. done (t, u) l₃))
    (lines_short (guard_step n labels) (guard_short n labels) (n + 3) m 0 guards l₁ (omega (arith, q)))
    (λ t l₂. after_short (starts_part n (n + m + 3) labels starts l₂) (λ u l₃. done (t, u) l₃)
    (starts_short n (n + m + 3) labels starts l₂ p (omega (arith, q))) (λ u l₃. tt)))

and_right : (a b : Bool) → (a && b) ≡ true → b ≡ true
and_right true b e = e
and_right false b e = absurd (true≢false (sym e))

sheet_short : (labels : List ℕ) (lent : Lent) (starts l : List ℕ) → Short (sheet_from labels lent starts l)
unfolding sheet_from
sheet_short labels lent starts l =
    counted_short (count_line paths_word l) (λ n. leb 1 n && leb n 128) 1
    (λ n l₁. after (lines path_step 2 n 0 (labels, lent.widths) l₁) (λ t l₂. after (guards_part n t.0 lent.guards starts l₂) (λ u l₃. done (n, t.0, lend t.1 u.0, u.1) [])))
    (omega arith)
    (λ n l₁ e. let q = leb-true n 128 (and_right (leb 1 n) (leb n 128) e) in after_short (lines path_step 2 n 0 (labels, lent.widths) l₁)
    (λ t l₂. after (guards_part n t.0 lent.guards starts l₂) (λ u l₃. done (n, t.0, lend t.1 u.0, u.1) []))
    (lines_short path_step path_short 2 n 0 (labels, lent.widths) l₁ (omega (arith, q)))
    (λ t l₂. after_short (guards_part n t.0 lent.guards starts l₂) (λ u l₃. done (n, t.0, lend t.1 u.0, u.1) [])
    (guards_short n t.0 lent.guards starts l₂ q) (λ u l₃. tt)))

outcome_short : (x : Section (ℕ × List ℕ × Lent × List ℕ)) → Short x → ((read_outcome x).answer.number < 100000) × ((read_outcome x).answer.place < 100000)
unfolding read_outcome
outcome_short (halt number line) s = s
outcome_short (done t l) s = (omega arith, omega arith)

-- a sheet that is read has at most 128 paths
abbrev Holds : {T : Type 0} → (T → Type 0) → Section T → Type 0
Holds P (halt number line) = Unit {0}
Holds P (done t l) = P t

after_holds : {T U : Type 0} (P : U → Type 0) (x : Section T) (go : T → List ℕ → Section U) → ((t : T) (l : List ℕ) → Holds P (go t l)) → Holds P (after x go)
unfolding after
after_holds P (halt number line) go h = tt
after_holds P (done t l) go h = h t l

counted_holds : {T : Type 0} (P : T → Type 0) (p : Parsed ℕ) (isRight : ℕ → Bool) (line : ℕ) (go : ℕ → List ℕ → Section T)
    → ((n : ℕ) (l : List ℕ) → isRight n ≡ true → Holds P (go n l)) → Holds P (counted p isRight line go)
unfolding counted
counted_holds P none isRight line go h = tt
counted_holds P (some n l) isRight line go h = pick (isRight n) refl
  where
    pick : (x : Bool) → isRight n ≡ x → Holds P (cond x (go n l) (halt 1 line))
    pick true e = h n l e
    pick false e = tt

abbrev FewPaths : ℕ × List ℕ × Lent × List ℕ → Type 0
FewPaths t = t.0 ≤ 128

sheet_few : (labels : List ℕ) (lent : Lent) (starts l : List ℕ) → Holds FewPaths (sheet_from labels lent starts l)
unfolding sheet_from
sheet_few labels lent starts l =
    counted_holds FewPaths (count_line paths_word l) (λ n. leb 1 n && leb n 128) 1
    (λ n l₁. after (lines path_step 2 n 0 (labels, lent.widths) l₁) (λ t l₂. after (guards_part n t.0 lent.guards starts l₂) (λ u l₃. done (n, t.0, lend t.1 u.0, u.1) [])))
    (λ n l₁ e. after_holds FewPaths (lines path_step 2 n 0 (labels, lent.widths) l₁)
    (λ t l₂. after (guards_part n t.0 lent.guards starts l₂) (λ u l₃. done (n, t.0, lend t.1 u.0, u.1) []))
    (λ t l₂. after_holds FewPaths (guards_part n t.0 lent.guards starts l₂) (λ u l₃. done (n, t.0, lend t.1 u.0, u.1) [])
    (λ u l₃. leb-true n 128 (and_right (leb 1 n) (leb n 128) e))))

outcome_few : (x : Section (ℕ × List ℕ × Lent × List ℕ)) → Holds FewPaths x → (read_outcome x).answer.n ≤ 128
unfolding read_outcome
outcome_few (halt number line) s = omega arith
outcome_few (done t l) s = s

-- tables of their sizes are read over alike, whatever stands in them
sizes_none : (labels : List ℕ) (lent : Lent) (starts : List ℕ) → length labels ≡ 1024 → length lent.widths ≡ 128 → length lent.guards ≡ 16384 → length starts ≡ 128
    → sheet_sizes labels lent starts ≡ no_fault
unfolding sheet_sizes label_sizes network_sizes ◌or_else◌
sizes_none labels lent starts a b c d = rw (← size_good labels 1024 a, ← size_good lent.widths 128 b, ← size_good lent.guards 16384 c, ← size_good starts 128 d)

reading_even : (text labels : List ℕ) (lent : Lent) (starts : List ℕ) → length labels ≡ 1024 → length lent.widths ≡ 128 → length lent.guards ≡ 16384 → length starts ≡ 128
    → reading text labels lent starts ≡ read_outcome (sheet_from (cleared 1024 0) cleared_network (cleared 128 0) text)
unfolding reading unless
reading_even text labels lent starts a b c d = rw (sizes_none labels lent starts a b c d)

-- a sheet read into tables of their sizes
module _ (input labels : List ℕ) (lent : Lent) (starts : List ℕ) (a : length labels ≡ 1024) (b : length lent.widths ≡ 128) (c : length lent.guards ≡ 16384) (d : length starts ≡ 128)
    (r : SheetRead) (labels' : List ℕ) (lent' : Lent) (starts' : List ℕ)
    (e : ◌≡◌ {A = Left SheetRead Tables} (left r (labels', lent', starts')) (reading input labels lent starts)) where
  same : ◌≡◌ {A = Left SheetRead Tables} (left r (labels', lent', starts')) (reading input (cleared 1024 0) (lend (cleared 128 0) (cleared 16384 0)) (cleared 128 0))
  same = e ∙ reading_even input labels lent starts a b c d
      ∙ sym (reading_even input (cleared 1024 0) (lend (cleared 128 0) (cleared 16384 0)) (cleared 128 0) (cleared_length 1024 0) (cleared_length 128 0) (cleared_length 16384 0) (cleared_length 128 0))

  pub short_refusal : (r.number < 100000) × (r.place < 100000)
  short_refusal =
      let x = sheet_from (cleared 1024 0) cleared_network (cleared 128 0) input in
      let q = e ∙ reading_even input labels lent starts a b c d in
      let s = outcome_short x (sheet_short (cleared 1024 0) cleared_network (cleared 128 0) input) in
      let p₁ : r.number ≡ (read_outcome x).answer.number = ap (λ (w : Left SheetRead Tables). w.answer.number) q in
      let p₂ : r.place ≡ (read_outcome x).answer.place = ap (λ (w : Left SheetRead Tables). w.answer.place) q in
      (omega (arith, p₁, s.0), omega (arith, p₂, s.1))

  pub few_paths : r.n ≤ 128
  few_paths =
      let x = sheet_from (cleared 1024 0) cleared_network (cleared 128 0) input in
      let q = e ∙ reading_even input labels lent starts a b c d in
      let s = outcome_few x (sheet_few (cleared 1024 0) cleared_network (cleared 128 0) input) in
      let p : r.n ≡ (read_outcome x).answer.n = ap (λ (w : Left SheetRead Tables). w.answer.n) q in
      omega (arith, p, s)

  module _ (refused : ℕ → ℕ → List ℕ) (made : ℕ → List ℕ → Lent → List ℕ → List ℕ) where
    pub on_refusal : r.number ≢ 0 → refused r.number r.place ≡ on_sheet refused made input
    unfolding on_sheet
    on_refusal z = sym (rw (← same, ne_eqb r.number 0 z))

    pub on_tables : r.number ≡ 0 → made r.n labels' lent' starts' ≡ on_sheet refused made input
    unfolding on_sheet
    on_tables z = sym (rw (← same, eq-eqb r.number 0 z))
