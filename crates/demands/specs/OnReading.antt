-- Demand 1, the reader: the answer's number and place are those of the first line at fault; 0 exactly where
-- every line is right; and what the tables then hold. "The reader: 2 first, then the first line at fault."
-- Assumes nothing.
use Prim.Native.Nat.{ℕ, ◌+◌, ◌≤◌, ◌<◌}
use Rattle.std.specs.Prelude.{◌≡◌, ◌≢◌, ◌⊎◌, Bool, not, eqb}
use Rattle.std.proofs.Math.Path.{refl, ap}
use Rattle.std.proofs.Common.{sym, subst, ◌∙◌, arith, eq-eqb}
use Rattle.std.proofs.Math.Logic.{inl, inr}
use Rattle.std.proofs.Math.Bool.{true, false}
use mathlib.Core.List.{List, [], ◌∷◌, ◌++◌}
use Rattle.std.proofs.Math.Decide.{dec_lt, ℕ_discrete}
use Rattle.std.proofs.Math.ListN.{length, length-append}
use Rattle.rules.specs.declared.Fault.{Fault}
use Rattle.rules.specs.declared.SheetRead.{SheetRead}
use Rattle.rules.specs.Tables.{cleared, Lent, lend, cleared_network}
use Rattle.rules.specs.Text.{Parsed, none, some, then, run, label, paths_word, guards_word, starts_word}
use Rattle.rules.specs.Sheet.{Line, wrong, Section, halt, done, lines, count_line, path_line, guard_line, path_means, guard_means, start_means, path_step, guard_step, start_step, counted, after, ended, last_part, starts_part, guards_part, sheet_from}
use Rattle.rules.specs.Writing.{count_text}
use Rattle.rules.specs.Numbers.{fault, no_fault, refuse_if, ◌or_else◌, size_fault, network_sizes, label_sizes, sheet_sizes}
use Rattle.rules.specs.Calls.{Left, left, read_outcome, reading}
use Rattle.table_laws.specs.Faults.{refuse_bad, refuse_not, or_first, or_second, or_clear, or_none, size_good, size_clear}
use Rattle.table_laws.specs.Limits.{clear_of}
use Rattle.table_laws.specs.Chains.{sizes_clear}
use Rattle.plan_laws.specs.Answers.{unless_done, unless_refused}
use Rattle.sheet_laws.specs.Lines.{starts_none, starts_some, part_ill, part_count, part_halt, guards_ill, guards_many, guards_halt, guards_rest, sheet_ill, sheet_few, sheet_many, sheet_halt, sheet_later, sheet_done}
use Rattle.sheet_laws.specs.Writes.{count_length}
use Rattle.demands.specs.Forms.{CountForm, count_form, form_count}
use Rattle.demands.specs.OnLines.{PathSays, form, label_twice, width, fine, GuardSays, unknown, itself, pair_twice, over, StartSays, other, path_says, guard_says, start_says, FirstRight, start, LinesSay, stops, ends, lines_say, lines_only}

-- no count of the section stands here: "a missing line is 11", too
abbrev pub NoCount : List ℕ → List ℕ → Type 0
NoCount word l = (m : ℕ) (r : List ℕ) → CountForm word l m r → ⊥

-- the count and the lines of the paths are right: they are n, leave labels and widths, and the text l₂
-- comes after them
pub record PathsRight (l : List ℕ) (n : ℕ) (labels widths l₂ : List ℕ) : Type 0 where
  pub l₁ : List ℕ
  pub count : CountForm paths_word l n l₁
  pub least : 1 ≤ n
  pub most : n ≤ 128
  pub each : FirstRight path_step (cleared 1024 0, cleared 128 0) l₁ n (labels, widths) l₂

-- so are those of the guards, which are m
pub record GuardsRight (l : List ℕ) (n : ℕ) (labels widths : List ℕ) (m : ℕ) (guards l₄ : List ℕ) : Type 0 where
  pub l₂ : List ℕ
  pub l₃ : List ℕ
  pub paths : PathsRight l n labels widths l₂
  pub count : CountForm guards_word l₂ m l₃
  pub most : m ≤ 2000
  pub each : FirstRight (guard_step n labels) (cleared 16384 255) l₃ m guards l₄

-- a plan follows: its count and lines are right, k of them
pub record StartsRight (l : List ℕ) (n : ℕ) (labels widths : List ℕ) (m : ℕ) (guards : List ℕ) (k : ℕ) (starts l₆ : List ℕ) : Type 0 where
  pub l₄ : List ℕ
  pub l₅ : List ℕ
  pub guarded : GuardsRight l n labels widths m guards l₄
  pub count : CountForm starts_word l₄ n l₅
  pub each : FirstRight (start_step labels) (cleared 128 0) l₅ k starts l₆

-- What a whole sheet comes to. Its first line at fault, as the number and the line: line 1 is the paths'
-- count, n + 2 the guards', n + m + 3 the starts'
pub data SheetWrong (l : List ℕ) : ℕ → ℕ → Type 0 where
  paths_form : NoCount paths_word l → SheetWrong l 11 1
  paths_count : (n : ℕ) (r : List ℕ) → CountForm paths_word l n r → (n < 1) ⊎ (128 < n) → SheetWrong l 1 1
  path_line_wrong : (n : ℕ) (l₁ : List ℕ) → CountForm paths_word l n l₁ → 1 ≤ n → n ≤ 128
      → (k : ℕ) (t : List ℕ × List ℕ) (l₂ : List ℕ) (x : ℕ) → k < n → FirstRight path_step (cleared 1024 0, cleared 128 0) l₁ k t l₂
      → path_step k t l₂ ≡ wrong x → SheetWrong l x (2 + k)
  guards_form : (n : ℕ) (labels widths l₂ : List ℕ) → PathsRight l n labels widths l₂ → NoCount guards_word l₂ → SheetWrong l 11 (n + 2)
  guards_count : (n : ℕ) (labels widths l₂ : List ℕ) → PathsRight l n labels widths l₂ → (m : ℕ) (r : List ℕ) → CountForm guards_word l₂ m r → 2000 < m
      → SheetWrong l 1 (n + 2)
  guard_line_wrong : (n : ℕ) (labels widths l₂ : List ℕ) → PathsRight l n labels widths l₂ → (m : ℕ) (l₃ : List ℕ) → CountForm guards_word l₂ m l₃ → m ≤ 2000
      → (k : ℕ) (t l₄ : List ℕ) (x : ℕ) → k < m → FirstRight (guard_step n labels) (cleared 16384 255) l₃ k t l₄
      → guard_step n labels k t l₄ ≡ wrong x → SheetWrong l x (n + 3 + k)
  starts_form : (n : ℕ) (labels widths : List ℕ) (m : ℕ) (guards : List ℕ) (y : ℕ) (r : List ℕ) → GuardsRight l n labels widths m guards (y ∷ r)
      → NoCount starts_word (y ∷ r) → SheetWrong l 11 (n + m + 3)
  starts_count : (n : ℕ) (labels widths : List ℕ) (m : ℕ) (guards l₄ : List ℕ) → GuardsRight l n labels widths m guards l₄
      → (c : ℕ) (r : List ℕ) → CountForm starts_word l₄ c r → c ≢ n → SheetWrong l 1 (n + m + 3)
  start_line_wrong : (n : ℕ) (labels widths : List ℕ) (m : ℕ) (guards : List ℕ) (k : ℕ) (t l₆ : List ℕ) (x : ℕ) → k < n → StartsRight l n labels widths m guards k t l₆
      → start_step labels k t l₆ ≡ wrong x → SheetWrong l x (n + m + 3 + 1 + k)
  left_over : (n : ℕ) (labels widths : List ℕ) (m : ℕ) (guards starts : List ℕ) (y : ℕ) (r : List ℕ) → StartsRight l n labels widths m guards n starts (y ∷ r)
      → SheetWrong l 11 (n + m + 3 + 1 + n)

-- or no line is at fault: the number of paths, and what the tables then hold
pub data SheetRight (l : List ℕ) : ℕ × List ℕ × Lent × List ℕ → Type 0 where
  without_plan : (n : ℕ) (labels widths : List ℕ) (m : ℕ) (guards : List ℕ) → GuardsRight l n labels widths m guards []
      → SheetRight l (n, labels, lend widths guards, cleared 128 0)
  with_plan : (n : ℕ) (labels widths : List ℕ) (m : ℕ) (guards starts : List ℕ) → StartsRight l n labels widths m guards n starts []
      → SheetRight l (n, labels, lend widths guards, starts)

-- one of the two
pub data SheetSays (l : List ℕ) : Type 0 where
  wrong_at : (x y : ℕ) → SheetWrong l x y → SheetSays l
  rightly : (t : ℕ × List ℕ × Lent × List ℕ) → SheetRight l t → SheetSays l

-- a count stands in front of a text, or none does
pub count_says : (word l : List ℕ) → ((m : ℕ) × (r : List ℕ) × (count_line word l ≡ some m r)) ⊎ (count_line word l ≡ none)
count_says word l = go (count_line word l) refl
  where
    go : (p : Parsed ℕ) → count_line word l ≡ p → ((m : ℕ) × (r : List ℕ) × (count_line word l ≡ some m r)) ⊎ (count_line word l ≡ none)
    go none e = inr e
    go (some m r) e = inl (m, r, e)

pub no_count : (word l : List ℕ) → count_line word l ≡ none → NoCount word l
no_count word l e m r f = let x = form_count word l m r f in let z : ◌≡◌ {A = ℕ} 0 1 = cc in omega arith

pub none_count : (word l : List ℕ) → NoCount word l → count_line word l ≡ none
none_count word l h = go (count_says word l)
  where
    go : ((m : ℕ) × (r : List ℕ) × (count_line word l ≡ some m r)) ⊎ (count_line word l ≡ none) → count_line word l ≡ none
    go (inl c) = absurd (h c.0 c.1 (count_form word l c.0 c.1 c.2))
    go (inr e) = e

-- the sheet as it is read, over cleared tables
abbrev pub sheet_read : List ℕ → Section (ℕ × List ℕ × Lent × List ℕ)
sheet_read l = sheet_from (cleared 1024 0) cleared_network (cleared 128 0) l

-- the starts, once their lines are right: nothing may come after them
starts_end : (n line : ℕ) (labels starts l₄ l₅ l₆ : List ℕ) → count_line starts_word l₄ ≡ some n l₅ → 0 < length l₄
    → lines (start_step labels) (line + 1) n 0 (cleared 128 0) l₅ ≡ done starts l₆ → starts_part n line labels (cleared 128 0) l₄ ≡ ended (line + 1 + n) starts l₆
unfolding starts_part last_part counted after
starts_end n line labels starts [] l₅ l₆ e some_byte f = absurd (omega arith)
starts_end n line labels starts (y ∷ u) l₅ l₆ e some_byte f = rw (e, eq-eqb n n refl, f)

module _ (l : List ℕ) where
  module _ (n : ℕ) (labels widths l₂ : List ℕ) (p : PathsRight l n labels widths l₂) where
    paths_done : lines path_step 2 n 0 (cleared 1024 0, cleared 128 0) p.l₁ ≡ done (labels, widths) l₂
    paths_done = lines_only path_step 2 (cleared 1024 0, cleared 128 0) p.l₁ n _ (ends (labels, widths) l₂ p.each)

    -- what the guards and the starts come to, the sheet comes to
    rest_halts : (x y : ℕ) → guards_part n labels (cleared 16384 255) (cleared 128 0) l₂ ≡ halt x y → sheet_read l ≡ halt x y
    rest_halts x y e =
        sheet_later (cleared 1024 0) cleared_network (cleared 128 0) l n p.l₁ (form_count paths_word l n p.l₁ p.count) p.least p.most labels widths l₂ paths_done x y e

    rest_done : (guards starts l₃ : List ℕ) → guards_part n labels (cleared 16384 255) (cleared 128 0) l₂ ≡ done (guards, starts) l₃
        → sheet_read l ≡ done (n, labels, lend widths guards, starts) []
    rest_done guards starts l₃ e =
        sheet_done (cleared 1024 0) cleared_network (cleared 128 0) l n p.l₁ (form_count paths_word l n p.l₁ p.count) p.least p.most labels widths l₂ paths_done guards starts l₃ e

  module _ (n : ℕ) (labels widths : List ℕ) (m : ℕ) (guards l₄ : List ℕ) (g : GuardsRight l n labels widths m guards l₄) where
    guards_then : guards_part n labels (cleared 16384 255) (cleared 128 0) g.l₂ ≡ after (starts_part n (n + m + 3) labels (cleared 128 0) l₄) (λ (s r : List ℕ). done (guards, s) r)
    guards_then =
        guards_rest n labels (cleared 16384 255) (cleared 128 0) g.l₂ m g.l₃ (form_count guards_word g.l₂ m g.l₃ g.count) g.most guards l₄
        (lines_only (guard_step n labels) (n + 3) (cleared 16384 255) g.l₃ m _ (ends guards l₄ g.each))

    starts_halt_sheet : (x y : ℕ) → starts_part n (n + m + 3) labels (cleared 128 0) l₄ ≡ halt x y → sheet_read l ≡ halt x y
    unfolding after
    starts_halt_sheet x y e = rest_halts n labels widths g.l₂ g.paths x y (guards_then ∙ rw e)

    starts_done_sheet : (starts r : List ℕ) → starts_part n (n + m + 3) labels (cleared 128 0) l₄ ≡ done starts r → sheet_read l ≡ done (n, labels, lend widths guards, starts) []
    unfolding after
    starts_done_sheet starts r e = rest_done n labels widths g.l₂ g.paths guards starts r (guards_then ∙ rw e)

  module _ (n : ℕ) (labels widths : List ℕ) (m : ℕ) (guards : List ℕ) (k : ℕ) (starts l₆ : List ℕ) (s : StartsRight l n labels widths m guards k starts l₆) where
    counted_is : count_line starts_word s.l₄ ≡ some n s.l₅
    counted_is = form_count starts_word s.l₄ n s.l₅ s.count

    some_text : 0 < length s.l₄
    some_text = go s.l₄ s.count.text
      where
        go : (u : List ℕ) → u ≡ count_text starts_word n ++ s.l₅ → 0 < length u
        go [] e = absurd (omega (arith, ap length e, length-append (count_text starts_word n) s.l₅, count_length starts_word n))
        go (y ∷ u) e = omega arith

  -- each of these is what the sheet comes to
  pub wrong_only : (x y : ℕ) → SheetWrong l x y → sheet_read l ≡ halt x y
  unfolding ended
  wrong_only x y (paths_form h) = sheet_ill (cleared 1024 0) cleared_network (cleared 128 0) l (none_count paths_word l h)
  wrong_only x y (paths_count n r c (inl a)) = sheet_few (cleared 1024 0) cleared_network (cleared 128 0) l n r (form_count paths_word l n r c) a
  wrong_only x y (paths_count n r c (inr a)) = sheet_many (cleared 1024 0) cleared_network (cleared 128 0) l n r (form_count paths_word l n r c) a
  wrong_only x y (path_line_wrong n l₁ c a b k t l₂ z h f e) =
      sheet_halt (cleared 1024 0) cleared_network (cleared 128 0) l n l₁ (form_count paths_word l n l₁ c) a b z (2 + k)
      (lines_only path_step 2 (cleared 1024 0, cleared 128 0) l₁ n _ (stops k t l₂ z h f e))
  wrong_only x y (guards_form n labels widths l₂ p h) =
      rest_halts n labels widths l₂ p 11 (n + 2) (guards_ill n labels (cleared 16384 255) (cleared 128 0) l₂ (none_count guards_word l₂ h))
  wrong_only x y (guards_count n labels widths l₂ p m r c h) =
      rest_halts n labels widths l₂ p 1 (n + 2) (guards_many n labels (cleared 16384 255) (cleared 128 0) l₂ m r (form_count guards_word l₂ m r c) h)
  wrong_only x y (guard_line_wrong n labels widths l₂ p m l₃ c b k t l₄ z h f e) =
      rest_halts n labels widths l₂ p z (n + 3 + k)
      (guards_halt n labels (cleared 16384 255) (cleared 128 0) l₂ m l₃ (form_count guards_word l₂ m l₃ c) b z (n + 3 + k)
      (lines_only (guard_step n labels) (n + 3) (cleared 16384 255) l₃ m _ (stops k t l₄ z h f e)))
  wrong_only x y (starts_form n labels widths m guards z r g h) =
      starts_halt_sheet n labels widths m guards (z ∷ r) g 11 (n + m + 3) (starts_some n (n + m + 3) labels (cleared 128 0) (z ∷ r) 0 (omega arith)
      ∙ part_ill starts_word (start_step labels) n (n + m + 3) (cleared 128 0) (z ∷ r) 0 (none_count starts_word (z ∷ r) h))
  wrong_only x y (starts_count n labels widths m guards [] g c r f h) = absurd (omega (arith, ap length f.text, length-append (count_text starts_word c) r, count_length starts_word c))
  wrong_only x y (starts_count n labels widths m guards (z ∷ u) g c r f h) =
      starts_halt_sheet n labels widths m guards (z ∷ u) g 1 (n + m + 3) (starts_some n (n + m + 3) labels (cleared 128 0) (z ∷ u) 0 (omega arith)
      ∙ part_count starts_word (start_step labels) n (n + m + 3) (cleared 128 0) (z ∷ u) 0 c r (form_count starts_word (z ∷ u) c r f) h)
  wrong_only x y (start_line_wrong n labels widths m guards k t l₆ z h s e) =
      starts_halt_sheet n labels widths m guards s.l₄ s.guarded z (n + m + 3 + 1 + k)
      (starts_some n (n + m + 3) labels (cleared 128 0) s.l₄ 0 (some_text n labels widths m guards k t l₆ s)
      ∙ part_halt starts_word (start_step labels) n (n + m + 3) (cleared 128 0) s.l₄ 0 n s.l₅ (counted_is n labels widths m guards k t l₆ s) refl z (n + m + 3 + 1 + k)
      (lines_only (start_step labels) (n + m + 3 + 1) (cleared 128 0) s.l₅ n _ (stops k t l₆ z h s.each e)))
  wrong_only x y (left_over n labels widths m guards starts z r s) =
      starts_halt_sheet n labels widths m guards s.l₄ s.guarded 11 (n + m + 3 + 1 + n)
      (starts_end n (n + m + 3) labels starts s.l₄ s.l₅ (z ∷ r) (counted_is n labels widths m guards n starts (z ∷ r) s) (some_text n labels widths m guards n starts (z ∷ r) s)
      (lines_only (start_step labels) (n + m + 3 + 1) (cleared 128 0) s.l₅ n _ (ends starts (z ∷ r) s.each)))

  pub right_only : (t : ℕ × List ℕ × Lent × List ℕ) → SheetRight l t → sheet_read l ≡ done t []
  unfolding ended
  right_only t (without_plan n labels widths m guards g) =
      starts_done_sheet n labels widths m guards [] g (cleared 128 0) [] (starts_none n (n + m + 3) labels (cleared 128 0) [] 0 (omega arith))
  right_only t (with_plan n labels widths m guards starts s) =
      starts_done_sheet n labels widths m guards s.l₄ s.guarded starts []
      (starts_end n (n + m + 3) labels starts s.l₄ s.l₅ [] (counted_is n labels widths m guards n starts [] s) (some_text n labels widths m guards n starts [] s)
      (lines_only (start_step labels) (n + m + 3 + 1) (cleared 128 0) s.l₅ n _ (ends starts [] s.each)))

  -- and one of them holds
  pub sheet_says : SheetSays l
  sheet_says = paths (count_says paths_word l)
    where
      starts_one : (n : ℕ) (labels widths : List ℕ) (m : ℕ) (guards l₄ : List ℕ) → GuardsRight l n labels widths m guards l₄ → SheetSays l
      starts_one n labels widths m guards [] g = rightly _ (without_plan n labels widths m guards g)
      starts_one n labels widths m guards (y ∷ u) g = counted_one (count_says starts_word (y ∷ u))
        where
          each_one : (l₅ : List ℕ) → CountForm starts_word (y ∷ u) n l₅ → (x : Section (List ℕ)) → LinesSay (start_step labels) 0 n (cleared 128 0) l₅ x
              → SheetSays l
          each_one l₅ c x (stops k t l₆ z h f e) = wrong_at _ _ (start_line_wrong n labels widths m guards k t l₆ z h (record { l₄ = y ∷ u; l₅ = l₅; guarded = g; count = c; each = f }) e)
          each_one l₅ c x (ends t [] f) = rightly _ (with_plan n labels widths m guards t (record { l₄ = y ∷ u; l₅ = l₅; guarded = g; count = c; each = f }))
          each_one l₅ c x (ends t (z ∷ r) f) = wrong_at _ _ (left_over n labels widths m guards t z r (record { l₄ = y ∷ u; l₅ = l₅; guarded = g; count = c; each = f }))

          counted_one : ((c : ℕ) × (r : List ℕ) × (count_line starts_word (y ∷ u) ≡ some c r)) ⊎ (count_line starts_word (y ∷ u) ≡ none) → SheetSays l
          counted_one (inr e) = wrong_at _ _ (starts_form n labels widths m guards y u g (no_count starts_word (y ∷ u) e))
          counted_one (inl c) = by (ℕ_discrete c.0 n)
            where
              f : CountForm starts_word (y ∷ u) c.0 c.1
              f = count_form starts_word (y ∷ u) c.0 c.1 c.2

              by : Dec (c.0 ≡ n) → SheetSays l
              by (no h) = wrong_at _ _ (starts_count n labels widths m guards (y ∷ u) g c.0 c.1 f h)
              by (yes q) = each_one c.1 (subst (λ k. CountForm starts_word (y ∷ u) k c.1) q f) _ (lines_say (start_step labels) 0 (cleared 128 0) c.1 n)

      guards_one : (n : ℕ) (labels widths l₂ : List ℕ) → PathsRight l n labels widths l₂ → ((c : ℕ) × (r : List ℕ) × (count_line guards_word l₂ ≡ some c r)) ⊎ (count_line guards_word l₂ ≡ none)
          → SheetSays l
      guards_one n labels widths l₂ p (inr e) = wrong_at _ _ (guards_form n labels widths l₂ p (no_count guards_word l₂ e))
      guards_one n labels widths l₂ p (inl c) = by (dec_lt 2000 c.0)
        where
          f : CountForm guards_word l₂ c.0 c.1
          f = count_form guards_word l₂ c.0 c.1 c.2

          each_one : c.0 ≤ 2000 → (x : Section (List ℕ)) → LinesSay (guard_step n labels) 0 c.0 (cleared 16384 255) c.1 x → SheetSays l
          each_one b x (stops k t l₄ z h g e) = wrong_at _ _ (guard_line_wrong n labels widths l₂ p c.0 c.1 f b k t l₄ z h g e)
          each_one b x (ends t l₄ g) = starts_one n labels widths c.0 t l₄ (record { l₂ = l₂; l₃ = c.1; paths = p; count = f; most = b; each = g })

          by : Dec (2000 < c.0) → SheetSays l
          by (yes h) = wrong_at _ _ (guards_count n labels widths l₂ p c.0 c.1 f h)
          by (no h) = each_one (omega arith) _ (lines_say (guard_step n labels) 0 (cleared 16384 255) c.1 c.0)

      paths : ((c : ℕ) × (r : List ℕ) × (count_line paths_word l ≡ some c r)) ⊎ (count_line paths_word l ≡ none) → SheetSays l
      paths (inr e) = wrong_at _ _ (paths_form (no_count paths_word l e))
      paths (inl c) = by (dec_lt c.0 1) (dec_lt 128 c.0)
        where
          f : CountForm paths_word l c.0 c.1
          f = count_form paths_word l c.0 c.1 c.2

          each_one : 1 ≤ c.0 → c.0 ≤ 128 → (x : Section (List ℕ × List ℕ)) → LinesSay path_step 0 c.0 (cleared 1024 0, cleared 128 0) c.1 x
              → SheetSays l
          each_one a b x (stops k t l₂ z h g e) = wrong_at _ _ (path_line_wrong c.0 c.1 f a b k t l₂ z h g e)
          each_one a b x (ends t l₂ g) =
              guards_one c.0 t.0 t.1 l₂ (record { l₁ = c.1; count = f; least = a; most = b; each = g }) (count_says guards_word l₂)

          by : Dec (c.0 < 1) → Dec (128 < c.0) → SheetSays l
          by (yes h) k = wrong_at _ _ (paths_count c.0 c.1 f (inl h))
          by (no h) (yes k) = wrong_at _ _ (paths_count c.0 c.1 f (inr k))
          by (no h) (no k) = each_one (omega arith) (omega arith) _ (lines_say path_step 0 (cleared 1024 0, cleared 128 0) c.1 c.0)

-- A line that is missing is of wrong form
pub missing_line : (k n : ℕ) (labels widths table : List ℕ)
    → (path_step k (labels, widths) [] ≡ wrong 11) × (guard_step n labels k table [] ≡ wrong 11) × (start_step labels k table [] ≡ wrong 11)
unfolding path_step path_means path_line guard_step guard_means guard_line start_step start_means then label run
missing_line k n labels widths table = (refl, refl, refl)

pub missing_count : (word : List ℕ) → 1 ≤ length word → NoCount word []
missing_count word some_byte m r f = omega (arith, ap length f.text, length-append (count_text word m) r, count_length word m)

-- the numbers of lines: none is 0, and none is 2
abbrev pub Named : ℕ → Type 0
Named x = (x ≢ 0) × (x ≢ 2)

path_named : (k : ℕ) (labels widths l : List ℕ) (y : Line (List ℕ × List ℕ)) (x : ℕ) → PathSays k labels widths l y → y ≡ wrong x → Named x
path_named k labels widths l y x (form h) e = let q : 11 ≡ x = cc in (λ z. omega arith, λ z. omega arith)
path_named k labels widths l y x (label_twice w v r f i h) e = let q : 12 ≡ x = cc in (λ z. omega arith, λ z. omega arith)
path_named k labels widths l y x (width w v r f u h) e = let q : 3 ≡ x = cc in (λ z. omega arith, λ z. omega arith)
path_named k labels widths l y x (fine w v r f u a b) e = let z : ◌≡◌ {A = ℕ} 0 1 = cc in absurd (omega arith)

guard_named : (n : ℕ) (labels guards l : List ℕ) (y : Line (List ℕ)) (x : ℕ) → GuardSays n labels guards l y → y ≡ wrong x → Named x
guard_named n labels guards l y x (form h) e = let q : 11 ≡ x = cc in (λ z. omega arith, λ z. omega arith)
guard_named n labels guards l y x (unknown a b g r f h) e = let q : 13 ≡ x = cc in (λ z. omega arith, λ z. omega arith)
guard_named n labels guards l y x (itself a b g r f i s t) e = let q : 13 ≡ x = cc in (λ z. omega arith, λ z. omega arith)
guard_named n labels guards l y x (pair_twice a b g r f i j s t d c) e = let q : 14 ≡ x = cc in (λ z. omega arith, λ z. omega arith)
guard_named n labels guards l y x (over a b g r f i j s t d c h) e = let q : 4 ≡ x = cc in (λ z. omega arith, λ z. omega arith)
guard_named n labels guards l y x (fine a b g r f i j s t d c h) e = let z : ◌≡◌ {A = ℕ} 0 1 = cc in absurd (omega arith)

start_named : (labels : List ℕ) (k : ℕ) (starts l : List ℕ) (y : Line (List ℕ)) (x : ℕ) → StartSays labels k starts l y → y ≡ wrong x → Named x
start_named labels k starts l y x (form h) e = let q : 11 ≡ x = cc in (λ z. omega arith, λ z. omega arith)
start_named labels k starts l y x (other w v r f h) e = let q : 13 ≡ x = cc in (λ z. omega arith, λ z. omega arith)
start_named labels k starts l y x (start w v r f h c) e = let q : 7 ≡ x = cc in (λ z. omega arith, λ z. omega arith)
start_named labels k starts l y x (fine w v r f h a b) e = let z : ◌≡◌ {A = ℕ} 0 1 = cc in absurd (omega arith)

pub sheet_named : (l : List ℕ) (x y : ℕ) → SheetWrong l x y → Named x
sheet_named l x y (paths_form h) = (λ z. omega arith, λ z. omega arith)
sheet_named l x y (paths_count n r c h) = (λ z. omega arith, λ z. omega arith)
sheet_named l x y (path_line_wrong n l₁ c a b k t l₂ u h f g) = path_named k t.0 t.1 l₂ _ u (path_says k t.0 t.1 l₂) g
sheet_named l x y (guards_form n labels widths l₂ p h) = (λ z. omega arith, λ z. omega arith)
sheet_named l x y (guards_count n labels widths l₂ p m r c h) = (λ z. omega arith, λ z. omega arith)
sheet_named l x y (guard_line_wrong n labels widths l₂ p m l₃ c b k t l₄ u h f g) = guard_named n labels t l₄ _ u (guard_says n labels k t l₄) g
sheet_named l x y (starts_form n labels widths m guards u r g h) = (λ z. omega arith, λ z. omega arith)
sheet_named l x y (starts_count n labels widths m guards l₄ g c r f h) = (λ z. omega arith, λ z. omega arith)
sheet_named l x y (start_line_wrong n labels widths m guards k t l₆ u h r g) = start_named labels k t l₆ _ u (start_says labels k t l₆) g
sheet_named l x y (left_over n labels widths m guards starts u r g) = (λ z. omega arith, λ z. omega arith)

-- The call. Its tables are of their sizes
pub record SheetTables (labels : List ℕ) (lent : Lent) (starts : List ℕ) : Type 0 where
  pub labels_size : length labels ≡ 1024
  pub widths_size : length lent.widths ≡ 128
  pub guards_size : length lent.guards ≡ 16384
  pub starts_size : length starts ≡ 128

module _ (labels : List ℕ) (lent : Lent) (starts : List ℕ) where
  pub sizes_right : SheetTables labels lent starts → (sheet_sizes labels lent starts).number ≡ 0
  unfolding sheet_sizes network_sizes label_sizes
  sizes_right s =
      or_none _ _ (or_none _ _ (clear_of (sym (size_good lent.widths 128 s.widths_size))) (clear_of (sym (size_good lent.guards 16384 s.guards_size))))
      (or_none _ _ (clear_of (sym (size_good labels 1024 s.labels_size))) (clear_of (sym (size_good starts 128 s.starts_size))))

  pub right_sizes : (sheet_sizes labels lent starts).number ≡ 0 → SheetTables labels lent starts
  unfolding sheet_sizes label_sizes
  right_sizes z =
      let a = or_clear (network_sizes lent) _ z in
      let b = or_clear (size_fault labels 1024) _ a.1 in
      let n = sizes_clear lent a.0 in
      record { labels_size = size_clear labels 1024 b.0; widths_size = n.0; guards_size = n.1; starts_size = size_clear starts 128 b.1 }

  -- the only fault of sizes is 2, and its place is 0
  two_or_none : (f : Fault) → Type 0
  two_or_none f = (f ≡ fault 2 0) ⊎ (f ≡ no_fault)

  size_two : (table : List ℕ) (size : ℕ) → two_or_none (size_fault table size)
  unfolding size_fault two_or_none
  size_two table size = go (not (eqb (length table) size))
    where
      go : (b : Bool) → (refuse_if b 2 0 ≡ fault 2 0) ⊎ (refuse_if b 2 0 ≡ no_fault)
      go true = inl (refuse_bad true 2 0 refl)
      go false = inr (refuse_not false 2 0 refl)

  or_two : (a b : Fault) → two_or_none a → two_or_none b → two_or_none (a or_else b)
  unfolding two_or_none
  or_two a b (inl e) h = inl (or_first a b (λ z. omega (arith, ap (λ (f : Fault). f.number) e)) ∙ e)
  or_two a b (inr e) (inl h) = inl (or_second a b (ap (λ (f : Fault). f.number) e) ∙ h)
  or_two a b (inr e) (inr h) = inr (or_second a b (ap (λ (f : Fault). f.number) e) ∙ h)

  sizes_two : (sheet_sizes labels lent starts).number ≢ 0 → sheet_sizes labels lent starts ≡ fault 2 0
  unfolding sheet_sizes network_sizes label_sizes two_or_none
  sizes_two z = go (or_two _ _ (or_two _ _ (size_two lent.widths 128) (size_two lent.guards 16384)) (or_two _ _ (size_two labels 1024) (size_two starts 128)))
    where
      go : (f : (sheet_sizes labels lent starts ≡ fault 2 0) ⊎ (sheet_sizes labels lent starts ≡ no_fault)) → sheet_sizes labels lent starts ≡ fault 2 0
      go (inl e) = e
      go (inr e) = absurd (z (ap (λ (f : Fault). f.number) e))

module _ (text labels : List ℕ) (lent : Lent) (starts : List ℕ) where
  abbrev left_behind : Left SheetRead (List ℕ × Lent × List ℕ)
  left_behind = reading text labels lent starts

  -- 2 exactly when a lent table is not of its size: the tables are left as they were
  pub reading_two : (SheetTables labels lent starts → ⊥) → left_behind ≡ left (record { number = 2; place = 0; n = 0 }) (labels, lent, starts)
  unfolding reading
  reading_two h =
      let z : (sheet_sizes labels lent starts).number ≢ 0 = λ z. h (right_sizes labels lent starts z) in
      unless_refused (sheet_sizes labels lent starts) _ _ z
      ∙ ap (λ (f : Fault). left {A = SheetRead} {T = List ℕ × Lent × List ℕ} (record { number = f.number; place = f.place; n = 0 }) (labels, lent, starts)) (sizes_two labels lent starts z)

  -- otherwise: the first line at fault, with the tables cleared; or the tables that the lines leave
  module _ (s : SheetTables labels lent starts) where
    reading_on : left_behind ≡ read_outcome (sheet_read text)
    unfolding reading
    reading_on = unless_done (sheet_sizes labels lent starts) _ _ (sizes_right labels lent starts s)

    pub reading_is : (t : ℕ × List ℕ × Lent × List ℕ) (r : List ℕ) → sheet_read text ≡ done t r
        → left_behind ≡ left (record { number = 0; place = 0; n = t.0 }) (t.1, t.2, t.3)
    unfolding read_outcome
    reading_is t r e = reading_on ∙ rw e

    pub reading_halt : (x y : ℕ) → SheetWrong text x y → left_behind ≡ left (record { number = x; place = y; n = 0 }) (cleared 1024 0, cleared_network, cleared 128 0)
    unfolding read_outcome
    reading_halt x y h = reading_on ∙ rw (wrong_only text x y h)

    pub reading_done : (t : ℕ × List ℕ × Lent × List ℕ) → SheetRight text t
        → left_behind ≡ left (record { number = 0; place = 0; n = t.0 }) (t.1, t.2, t.3)
    reading_done t h = reading_is t [] (right_only text t h)

  -- a table of the wrong size, a first line at fault, or a sheet
  pub data ReadSays : Type 0 where
    size_wrong : (SheetTables labels lent starts → ⊥) → left_behind ≡ left (record { number = 2; place = 0; n = 0 }) (labels, lent, starts) → ReadSays
    line_wrong : SheetTables labels lent starts → (x y : ℕ) → SheetWrong text x y → Named x
        → left_behind ≡ left (record { number = x; place = y; n = 0 }) (cleared 1024 0, cleared_network, cleared 128 0) → ReadSays
    sheet_right : SheetTables labels lent starts → (t : ℕ × List ℕ × Lent × List ℕ) → SheetRight text t
        → left_behind ≡ left (record { number = 0; place = 0; n = t.0 }) (t.1, t.2, t.3) → ReadSays

  pub reading_says : ReadSays
  reading_says = go (ℕ_discrete (sheet_sizes labels lent starts).number 0)
    where
      by : SheetTables labels lent starts → SheetSays text → ReadSays
      by s (wrong_at x y h) = line_wrong s x y h (sheet_named text x y h) (reading_halt s x y h)
      by s (rightly t h) = sheet_right s t h (reading_done s t h)

      go : Dec ((sheet_sizes labels lent starts).number ≡ 0) → ReadSays
      go (yes z) = by (right_sizes labels lent starts z) (sheet_says text)
      go (no z) = let h : SheetTables labels lent starts → ⊥ = λ s. z (sizes_right labels lent starts s) in size_wrong h (reading_two h)

  -- so 0 is answered exactly where the tables are of their sizes and every line is right
  pub reading_right : left_behind.answer.number ≡ 0
      → SheetTables labels lent starts × SheetRight text (left_behind.answer.n, left_behind.tables.0, left_behind.tables.1, left_behind.tables.2)
  reading_right z = go reading_says
    where
      number : {r s : Left SheetRead (List ℕ × Lent × List ℕ)} → r ≡ s → r.answer.number ≡ s.answer.number
      number e = ap (λ (r : Left SheetRead (List ℕ × Lent × List ℕ)). r.answer.number) e

      go : ReadSays → SheetTables labels lent starts × SheetRight text (left_behind.answer.n, left_behind.tables.0, left_behind.tables.1, left_behind.tables.2)
      go (size_wrong h e) = absurd (omega (arith, number e))
      go (line_wrong s x y h n e) = absurd (n.0 (sym (number e) ∙ z))
      go (sheet_right s t h e) =
          (s, subst (λ (u : Left SheetRead (List ℕ × Lent × List ℕ)). SheetRight text (u.answer.n, u.tables.0, u.tables.1, u.tables.2)) (sym e) h)

  -- a refused answer: n is 0; with 2 the tables are as they were, with any other number they are cleared
  pub reading_refused : left_behind.answer.number ≢ 0
      → (left_behind.answer.n ≡ 0)
      × (((left_behind.answer.number ≡ 2) × (left_behind.tables ≡ (labels, lent, starts)))
      ⊎ ((left_behind.answer.number ≢ 2) × (left_behind.tables ≡ (cleared 1024 0, cleared_network, cleared 128 0))))
  reading_refused z = go reading_says
    where
      number : {r s : Left SheetRead (List ℕ × Lent × List ℕ)} → r ≡ s → r.answer.number ≡ s.answer.number
      number e = ap (λ (r : Left SheetRead (List ℕ × Lent × List ℕ)). r.answer.number) e

      paths : {r s : Left SheetRead (List ℕ × Lent × List ℕ)} → r ≡ s → r.answer.n ≡ s.answer.n
      paths e = ap (λ (r : Left SheetRead (List ℕ × Lent × List ℕ)). r.answer.n) e

      tables : {r s : Left SheetRead (List ℕ × Lent × List ℕ)} → r ≡ s → r.tables ≡ s.tables
      tables e = ap (λ (r : Left SheetRead (List ℕ × Lent × List ℕ)). r.tables) e

      go : ReadSays
          → (left_behind.answer.n ≡ 0)
          × (((left_behind.answer.number ≡ 2) × (left_behind.tables ≡ (labels, lent, starts)))
          ⊎ ((left_behind.answer.number ≢ 2) × (left_behind.tables ≡ (cleared 1024 0, cleared_network, cleared 128 0))))
      go (size_wrong h e) = (paths e, inl (number e, tables e))
      go (line_wrong s x y h n e) = (paths e, inr (λ q. n.1 (sym (number e) ∙ q), tables e))
      go (sheet_right s t h e) = absurd (z (number e))
