-- The ask program (RULES 26): what it says of a sheet is so. Assumes nothing.
use Rattle.std.specs.Prelude.{ℕ, ◌+◌, ◌*◌, ◌/◌, ◌%◌, ◌≤◌, ◌<◌, ◌≡◌, ◌≢◌, ◌⊎◌, Bool, cond, length, eqb, leb}
use Rattle.std.proofs.Math.Path.{refl, sym, ap}
use Rattle.std.proofs.Common.{◌∙◌, arith}
use Rattle.std.proofs.Math.Logic.{inl, inr}
use Rattle.std.proofs.Math.Bool.{true, false, not}
use mathlib.Core.List.{List, [], ◌++◌}
use borrow.Author.Tests.{eq-eqb, ne_eqb, eqb-true, not-false, lt-ltb, le-leb}
use Rattle.rules.specs.declared.Fault.{Fault}
use Rattle.rules.specs.declared.Why.{Why}
use Rattle.rules.specs.Tables.{at, cleared, Lent, lend}
use Rattle.rules.specs.Limits.{Starts}
use Rattle.rules.specs.Scan.{found_pair}
use Rattle.rules.specs.Plan.{net_of, Valid, highest, too_close}
use Rattle.rules.specs.Reason.{last}
use Rattle.rules.specs.Text.{bytes, word, label}
use Rattle.rules.specs.Sheet.{find}
use Rattle.rules.specs.Writing.{label_of, has_plan}
use Rattle.rules.specs.Numbers.{no_fault, ◌or_else◌, bad_start, size_fault, start_fault, clash_fault, path_fault, square, refuse_if, plan_sizes, judge_fault, why_fault}
use Rattle.rules.specs.Calls.{Left, left, done_packed, packing, judging, refused_why, done_why, explaining}
use Rattle.rules.specs.Program.{refusal_text, on_sheet, printed}
use Rattle.rules.specs.Asking.{slots_text, reason_text, valid_text, clash_text, no_plan_text, unknown_text, refused_text, why_text, judge_text, is_whole, why_word, judge_word, with_one, asked}
use Rattle.table_laws.specs.Scans.{found_not}
use Rattle.table_laws.specs.Tables.{cleared_length}
use Rattle.table_laws.specs.Faults.{or_first, or_second, or_clear, refuse_bad, scan_at, size_good}
use Rattle.table_laws.specs.Limits.{clear_of, within_starts}
use Rattle.table_laws.specs.Chains.{clear_lent, sizes_plan}
use Rattle.plan_laws.specs.Answers.{unless_number, Judgeable, judging_judgeable, judgeable_judging, explainable_explaining, Packable, packable_packing}
use Rattle.demands.specs.Writable.{Writable}
use Rattle.demands.specs.Tests.{told}
use Rattle.demands.specs.OnShort.{explaining_judges}
use Rattle.demands.specs.OnExplaining.{named, packing_ends}
use Rattle.demands.specs.ReadCells.{reading_writable}
use Rattle.demands.specs.OnProgram.{input_read, own_tables, plan, planned_starts, program_plans, printed_starts, printed_valid, printed_packed, printed_read}
use Rattle.demands.specs.OnPlanning.{planning_highest}

-- a sheet that was read: a plan that stands in it is valid or has a clash, and where none stands 7 is the number
module _ (n : ℕ) (labels : List ℕ) (lent : Lent) (starts : List ℕ) (w : Writable n labels lent starts) where
  sized : (size_fault starts 128).number ≡ 0
  sized = clear_of (sym (size_good starts 128 w.starts_size))

  rest : judging n lent starts ≡ (start_fault n starts or_else clash_fault n (net_of lent) starts)
  unfolding judging judge_fault
  rest = or_second _ _ (clear_lent n lent (size_fault starts 128) w.network sized)

  pub judged_plan : has_plan n starts ≡ true → ((judging n lent starts).number ≡ 0) ⊎ ((judging n lent starts).number ≡ 8)
  judged_plan e =
      let s : Starts n starts = record { size = w.starts_size; start = w.planned e } in
      let is : judging n lent starts ≡ clash_fault n (net_of lent) starts = rest ∙ or_second _ _ (within_starts n starts s) in
      rw is (unfold clash_fault square in (go (found_pair (too_close (net_of lent) (at starts)) n) _ refl))
    where
      go : (b : Bool) (f : Fault) → f.number ≡ 8 → ((cond b f no_fault).number ≡ 0) ⊎ ((cond b f no_fault).number ≡ 8)
      go true f q = inr q
      go false f q = inl refl

  pub judged_none : has_plan n starts ≡ false → (judging n lent starts).number ≡ 7
  unfolding has_plan start_fault
  judged_none e =
      let z : at starts 0 ≡ 0 = eqb-true (at starts 0) 0 (not-false _ (found_not (λ k. not (eqb (at starts k) 0)) n e 0 (omega (arith, w.network.some)))) in
      let bad : bad_start starts 0 ≡ true = rw (z, lt-ltb 0 1 (omega arith)) in
      let is : start_fault n starts ≡ _ = scan_at 7 (bad_start starts) n 0 (λ k l. absurd (omega arith)) bad (omega (arith, w.network.some)) in
      ap (λ (f : Fault). f.number) (rest ∙ or_first _ _ (λ q. omega (arith, q, ap (λ (f : Fault). f.number) is)) ∙ is)

-- the questions, whatever the input
judge_asked : (second input : List ℕ) → asked 1 judge_word second input ≡ on_sheet refusal_text judge_text input
unfolding asked is_whole word
judge_asked second input = refl

why_asked : (name input : List ℕ) → is_whole (label name) ≡ true → asked 2 why_word name input ≡ on_sheet refusal_text (why_text name) input
unfolding asked with_one is_whole word
why_asked name input e = rw e

-- what is said by a number
module _ (labels name text : List ℕ) (x p s : ℕ) where
  pub says_none : x ≡ 7 → cond (eqb x 0) text (refused_text labels name x p s) ≡ no_plan_text
  unfolding refused_text
  says_none e = rw e

  pub says_clash : x ≡ 8 → cond (eqb x 0) text (refused_text labels name x p s) ≡ clash_text labels p s
  unfolding refused_text
  says_clash e = rw e

  says_unknown : x ≡ 6 → cond (eqb x 0) text (refused_text labels name x p s) ≡ unknown_text name
  unfolding refused_text
  says_unknown e = rw e

-- 6: a plan that is judged valid, and no such path
no_path : (n : ℕ) (lent : Lent) (starts : List ℕ) (path : ℕ) (table : List ℕ) → (judging n lent starts).number ≡ 0 → length table ≡ 128 → n ≤ path
    → (explaining n lent starts path table).answer.number ≡ 6
unfolding judging judge_fault explaining why_fault path_fault refused_why done_why
no_path n lent starts path table z size l =
    let j = judging_judgeable n lent starts z in
    let a = or_clear _ _ z in
    let b = or_clear _ _ a.1 in
    let is : why_fault n lent starts path table ≡ refuse_if (leb n path) 6 0
    = or_second _ _ (clear_lent n lent (plan_sizes table starts) j.network (sizes_plan table starts size j.legal.size)) ∙ or_second _ _ b.0 ∙ or_second _ _ b.1 in
    unless_number (λ (r : Left Why (List ℕ)). r.answer.number) (why_fault n lent starts path table) (refused_why table) _ refl refl
    ∙ ap (λ (f : Fault). f.number) (is ∙ refuse_bad (leb n path) 6 0 (le-leb n path l))

-- a sheet that is refused: the line of its refusal
pub asked_refused : (input : List ℕ) → (input_read input).answer.number ≢ 0
    → ((second : List ℕ) → asked 1 judge_word second input ≡ refusal_text (input_read input).answer.number (input_read input).answer.place)
    × ((name : List ℕ) → is_whole (label name) ≡ true → asked 2 why_word name input ≡ refusal_text (input_read input).answer.number (input_read input).answer.place)
unfolding on_sheet
asked_refused input z = (λ second. judge_asked second input ∙ rw (ne_eqb (input_read input).answer.number 0 z), λ name e. why_asked name input e ∙ rw (ne_eqb (input_read input).answer.number 0 z))

-- one that is read
module _ (input : List ℕ) (read : (input_read input).answer.number ≡ 0) where
  abbrev n : ℕ
  n = (input_read input).answer.n

  abbrev labels : List ℕ
  labels = (input_read input).tables.0

  abbrev lent : Lent
  lent = (input_read input).tables.1

  abbrev starts : List ℕ
  starts = (input_read input).tables.2

  w : Writable n labels lent starts
  w = reading_writable input (cleared 1024 0) (lend (cleared 128 0) (cleared 16384 0)) (cleared 128 0) read

  judgeable : has_plan n starts ≡ true → Valid (net_of lent) n (at starts) → Judgeable n lent starts
  judgeable e v = record { network = w.network; legal = record { size = w.starts_size; start = w.planned e }; valid = v }

  judged_valid : has_plan n starts ≡ true → Valid (net_of lent) n (at starts) → (judging n lent starts).number ≡ 0
  judged_valid e v = judgeable_judging n lent starts (judgeable e v)

  -- why refuses as judging does
  same : (name : List ℕ) → (judging n lent starts).number ≢ 0
      → told (explaining n lent starts (find labels n name) (cleared 128 0)).answer.number (explaining n lent starts (find labels n name) (cleared 128 0)).answer.place (explaining n lent starts (find labels n name) (cleared 128 0)).answer.short ≡ judging n lent starts
  same name = explaining_judges n lent starts (find labels n name) (cleared 128 0) (cleared_length 128 0)

  why_refused : (name : List ℕ) (x : ℕ) → (judging n lent starts).number ≡ x → 0 < x → (explaining n lent starts (find labels n name) (cleared 128 0)).answer.number ≡ x
  why_refused name x z some = ap (λ (f : Fault). f.number) (same name (λ q. omega (arith, z, q))) ∙ z

  judge_text_lem : (second : List ℕ) → asked 1 judge_word second input ≡ judge_text n labels lent starts
  unfolding on_sheet
  judge_text_lem second = judge_asked second input ∙ rw (eq-eqb (input_read input).answer.number 0 read)

  why_text_lem : (name : List ℕ) → is_whole (label name) ≡ true → asked 2 why_word name input ≡ why_text name n labels lent starts
  unfolding on_sheet
  why_text_lem name e = why_asked name input e ∙ rw (eq-eqb (input_read input).answer.number 0 read)

  -- no plan stands in it: both words say so
  pub asked_none : has_plan n starts ≡ false → ((second : List ℕ) → asked 1 judge_word second input ≡ no_plan_text) × ((name : List ℕ) → is_whole (label name) ≡ true → asked 2 why_word name input ≡ no_plan_text)
  asked_none e =
      let seven = judged_none n labels lent starts w e in
      (λ second. judge_text_lem second ∙ (unfold judge_text in (says_none labels [] _ _ _ _ seven)), λ name q. why_text_lem name q ∙ (unfold why_text in (says_none labels name _ _ _ _ (why_refused name 7 seven (omega arith)))))

  -- the first pair that clashes, with as many slots as it is short: both words name it
  pub asked_clash : (judging n lent starts).number ≡ 8
      → ((second : List ℕ) → asked 1 judge_word second input ≡ clash_text labels (judging n lent starts).place (judging n lent starts).short)
      × ((name : List ℕ) → is_whole (label name) ≡ true → asked 2 why_word name input ≡ clash_text labels (judging n lent starts).place (judging n lent starts).short)
  asked_clash z = (λ second. judge_text_lem second ∙ (unfold judge_text in (says_clash labels [] _ _ _ _ z)), λ name q. why_text_lem name q ∙ why_clash name)
    where
      why_clash : (name : List ℕ) → why_text name n labels lent starts ≡ clash_text labels (judging n lent starts).place (judging n lent starts).short
      why_clash name = unfold why_text in
          (says_clash labels name _ _ _ _ (why_refused name 8 z (omega arith))
          ∙ ap (λ (f : Fault). clash_text labels f.place f.short) (same name (λ q. omega (arith, z, q))))

  -- a valid plan: the highest slot
  pub asked_valid : has_plan n starts ≡ true → Valid (net_of lent) n (at starts) → (second : List ℕ) → asked 1 judge_word second input ≡ valid_text (highest (net_of lent) (at starts) n)
  unfolding judge_text
  asked_valid e v second = judge_text_lem second ∙ rw (eq-eqb (judging n lent starts).number 0 (judged_valid e v))

  -- and the reason that the call gives for the path of a label; or that no path has it
  pub asked_why : (name : List ℕ) → is_whole (label name) ≡ true → (explaining n lent starts (find labels n name) (cleared 128 0)).answer.number ≡ 0
      → asked 2 why_word name input
      ≡ reason_text labels (net_of lent) (at starts) (named (explaining n lent starts (find labels n name) (cleared 128 0))) (explaining n lent starts (find labels n name) (cleared 128 0)).answer.down
  unfolding why_text
  asked_why name q z = why_text_lem name q ∙ rw (eq-eqb (explaining n lent starts (find labels n name) (cleared 128 0)).answer.number 0 z)

  pub asked_known : has_plan n starts ≡ true → Valid (net_of lent) n (at starts) → (name : List ℕ) → find labels n name < n → (explaining n lent starts (find labels n name) (cleared 128 0)).answer.number ≡ 0
  unfolding done_why
  asked_known e v name l =
      let j = judgeable e v in
      ap (λ (r : Left Why (List ℕ)). r.answer.number)
      (explainable_explaining n lent starts (find labels n name) (cleared 128 0) (record { network = j.network; legal = j.legal; valid = j.valid; inside = l; table_size = cleared_length 128 0 }))

  pub asked_unknown : has_plan n starts ≡ true → Valid (net_of lent) n (at starts) → (name : List ℕ) → is_whole (label name) ≡ true → n ≤ find labels n name → asked 2 why_word name input ≡ unknown_text name
  asked_unknown e v name q l =
      why_text_lem name q ∙ (unfold why_text in (says_unknown labels name _ _ _ _ (no_path n lent starts (find labels n name) (cleared 128 0) (judged_valid e v) (cleared_length 128 0) l)))

-- the line of a clash names the two paths of its cell
pub clash_names : (labels : List ℕ) (i j s : ℕ) → j < 128 → clash_text labels (128 * i + j) s ≡ label_of labels i ++ (bytes " and " ++ (label_of labels j ++ (bytes " clash: " ++ (slots_text s ++ bytes " short.\n"))))
unfolding clash_text
clash_names labels i j s l =
    let a : (128 * i + j) / 128 ≡ i = omega arith in
    let b : (128 * i + j) % 128 ≡ j = omega arith in
    rw (a, b)

-- What the plan program printed, asked about: the plan is valid, with the highest slot that planning answered,
-- and the chain of every path ends in slot 1
module _ (input : List ℕ) (read : (input_read input).answer.number ≡ 0) where
  again : input_read (printed input) ≡ left (record { number = 0; place = 0; n = (input_read input).answer.n }) ((input_read input).tables.0, (input_read input).tables.1, planned_starts input read)
  again = printed_read input read (cleared 1024 0) (lend (cleared 128 0) (cleared 16384 0)) (cleared 128 0) own_tables

  pub asked_planned : (second : List ℕ) → asked 1 judge_word second (printed input) ≡ valid_text (plan input read).answer.highest
  unfolding on_sheet judge_text
  asked_planned second =
      judge_asked second (printed input)
      ∙ rw (
        again,
        eq-eqb (judging (input_read input).answer.n (input_read input).tables.1 (planned_starts input read)).number 0 judged,
        ← planning_highest (input_read input).answer.n (input_read input).tables.1 (cleared 128 0) (input_read input).tables.2 1 1000 (program_plans input read),
      )
    where
      p : Packable (input_read input).answer.n (input_read input).tables.1 (printed_packed input read).0 (input_read input).tables.2
      p = (printed_packed input read).1

      judged : (judging (input_read input).answer.n (input_read input).tables.1 (planned_starts input read)).number ≡ 0
      judged = judgeable_judging _ _ _ (record { network = p.network; legal = printed_starts input read; valid = printed_valid input read })

  pub asked_slot_1 : (k : ℕ) → k < (input_read input).answer.n
      → at (planned_starts input read) (last (named (explaining (input_read input).answer.n (input_read input).tables.1 (planned_starts input read) k (cleared 128 0)))) ≡ 1
  unfolding done_packed
  asked_slot_1 k l =
      let n = (input_read input).answer.n in
      let lent = (input_read input).tables.1 in
      let starts = (input_read input).tables.2 in
      let order = (printed_packed input read).0 in
      let p = (printed_packed input read).1 in
      let is = packable_packing n lent order starts p in
      let same : planned_starts input read ≡ (packing n lent order starts).tables = (printed_packed input read).2 ∙ sym (ap (λ r. r.tables) is) in
      ap (λ (t : List ℕ). at t (last (named (explaining n lent t k (cleared 128 0))))) same
      ∙ packing_ends n lent order starts (ap (λ r. r.answer.number) is) k (cleared 128 0) l (cleared_length 128 0)
