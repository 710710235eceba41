-- The ask program's word `order` (RULES 26 and 27): on a sheet with a valid plan it prints the order sheet of that
-- plan, whole, which is read back to the plan's starts; on any other it says what is at fault. Assumes nothing.
use Rattle.std.specs.Prelude.{ℕ, ◌≡◌, refl, ◌≢◌, true, false, cond, length, eqb, ℤ}
use Rattle.std.proofs.Common.{sym, ap, subst, ◌∙◌, arith, eq-eqb, ne_eqb}
use mathlib.Core.List.{List, [], ◌∷◌, append-nil}
use Rattle.std.proofs.Math.Decide.{ℕ_discrete}
use Rattle.rules.specs.declared.SheetRead.{SheetRead}
use Rattle.rules.specs.Tables.{at, cleared, Lent, lend}
use Rattle.rules.specs.Plan.{net_of, Valid}
use Rattle.rules.specs.Text.{Parsed, none, some, word, order_word, signed, signed_numeral}
use Rattle.rules.specs.Writing.{has_plan}
use Rattle.rules.specs.Grid.{order_text}
use Rattle.rules.specs.Numbers.{anchor_fault}
use Rattle.rules.specs.Calls.{Left, left, judging, order_writing, order_reading}
use Rattle.rules.specs.Program.{refusal_text, on_sheet, printed}
use Rattle.rules.specs.Asking.{clash_text, no_plan_text, no_anchor_text, bad_anchor_text, words_text, ordered_text, is_whole, order_asked, with_one, asked}
use Rattle.table_laws.specs.Tables.{cleared_length}
use Rattle.plan_laws.specs.Answers.{judgeable_judging}
use Rattle.demands.specs.Writable.{Writable}
use Rattle.demands.specs.ReadCells.{reading_writable}
use Rattle.demands.specs.OnProgram.{input_read, own_tables, planned_starts, printed_plan, printed_valid, printed_read}
use Rattle.demands.specs.OnAsking.{judged_none, says_none, says_clash}
use Rattle.demands.specs.Grid.{Anchor, anchor_small, anchor_clear}
use Rattle.demands.specs.Orderable.{Orderable, written_order}
use Rattle.demands.specs.LongestOrder.{order_room}
use Rattle.demands.specs.OrderForms.{signed_trip, signed_field}
use Rattle.demands.specs.OrderTrip.{laid, written_order_read}

-- the word alone asks for an anchor, and with more than one more argument it is none of the words
pub order_alone : (second input : List ℕ) → asked 1 order_word second input ≡ no_anchor_text
unfolding asked with_one is_whole word
order_alone second input = refl

pub order_more : (count : ℕ) (second input : List ℕ) → count ≢ 1 → count ≢ 2 → asked count order_word second input ≡ words_text
unfolding asked with_one is_whole word
order_more count second input p q = rw (ne_eqb count 1 p, ne_eqb count 2 q)

-- The argument is to be an anchor, as the writer spells it
anchor_read : (a : ℤ) → Anchor a → signed (signed_numeral a) ≡ some a []
anchor_read a h = ap signed (sym (append-nil (signed_numeral a))) ∙ signed_trip a [] (omega (arith, anchor_small a h)) tt

order_two : (second input : List ℕ) → asked 2 order_word second input ≡ order_asked (signed second) input
unfolding asked with_one is_whole word
order_two second input = refl

pub order_anchor : (a : ℤ) → Anchor a → (input : List ℕ) → asked 2 order_word (signed_numeral a) input ≡ on_sheet refusal_text (ordered_text a) input
unfolding order_asked
order_anchor a h input = order_two (signed_numeral a) input ∙ rw (anchor_read a h, eq-eqb (anchor_fault a).number 0 ((anchor_clear a).1 h))

-- and any other one is none, whatever the input
pub order_bad_anchor : (second input : List ℕ) → ((a : ℤ) → Anchor a → second ≢ signed_numeral a) → asked 2 order_word second input ≡ bad_anchor_text
unfolding order_asked
order_bad_anchor second input h = order_two second input ∙ go (signed second) refl
  where
    go : (p : Parsed ℤ) → signed second ≡ p → order_asked p input ≡ bad_anchor_text
    go none e = refl
    go (some a (x ∷ l)) e = refl
    go (some a []) e = by (ℕ_discrete (anchor_fault a).number 0)
      where
        by : Dec ((anchor_fault a).number ≡ 0) → cond (eqb (anchor_fault a).number 0) (on_sheet refusal_text (ordered_text a) input) bad_anchor_text ≡ bad_anchor_text
        by (yes z) = absurd (h a ((anchor_clear a).0 z) ((signed_field second a [] e).1 ∙ append-nil (signed_numeral a)))
        by (no z) = rw (ne_eqb (anchor_fault a).number 0 z)

-- an anchor, and a sheet that is refused: the line of its refusal
pub order_refused : (a : ℤ) → Anchor a → (input : List ℕ) → (input_read input).answer.number ≢ 0
    → asked 2 order_word (signed_numeral a) input ≡ refusal_text (input_read input).answer.number (input_read input).answer.place
unfolding on_sheet
order_refused a h input z = order_anchor a h input ∙ rw (ne_eqb (input_read input).answer.number 0 z)

-- one that is read
module _ (a : ℤ) (h : Anchor a) (input : List ℕ) (read : (input_read input).answer.number ≡ 0) where
  abbrev n : ℕ
  n = (input_read input).answer.n

  abbrev labels : List ℕ
  labels = (input_read input).tables.0

  abbrev lent : Lent
  lent = (input_read input).tables.1

  abbrev starts : List ℕ
  starts = (input_read input).tables.2

  w : Writable n labels lent starts
  w = reading_writable input (cleared 1024 0) (lend (cleared 128 0) (cleared 16384 0)) (cleared 128 0) read

  order_text_lem : asked 2 order_word (signed_numeral a) input ≡ ordered_text a n labels lent starts
  unfolding on_sheet
  order_text_lem = order_anchor a h input ∙ rw (eq-eqb (input_read input).answer.number 0 read)

  -- no plan stands in it; or two of its paths clash
  pub order_none : has_plan n starts ≡ false → asked 2 order_word (signed_numeral a) input ≡ no_plan_text
  order_none e = order_text_lem ∙ (unfold ordered_text in (says_none labels [] _ _ _ _ (judged_none n labels lent starts w e)))

  pub order_clash : (judging n lent starts).number ≡ 8
      → asked 2 order_word (signed_numeral a) input ≡ clash_text labels (judging n lent starts).place (judging n lent starts).short
  order_clash z = order_text_lem ∙ (unfold ordered_text in (says_clash labels [] _ _ _ _ z))

  -- a valid plan: its order sheet, whole, and so read back to its starts
  module _ (e : has_plan n starts ≡ true) (v : Valid (net_of lent) n (at starts)) where
    orderable : Orderable a n labels lent starts
    orderable = record {
      tables = record { network = w.network; labels_size = w.labels_size; starts_size = w.starts_size; anchored = h };
      formed = w.formed;
      once = w.once;
      planned = w.planned e;
    }

    judged : (judging n lent starts).number ≡ 0
    judged = judgeable_judging n lent starts (record { network = w.network; legal = record { size = w.starts_size; start = w.planned e }; valid = v })

    pub order_writes : (order_writing a n labels lent starts (cleared 2314 0)).answer.number ≡ 0
    order_writes = order_room a n labels lent starts (cleared 2314 0) orderable (omega (arith, cleared_length 2314 0))

    pub order_valid : asked 2 order_word (signed_numeral a) input ≡ order_text a n labels lent.widths starts
    unfolding ordered_text
    order_valid = order_text_lem ∙ rw (eq-eqb (judging n lent starts).number 0 judged) (written_order a n labels lent starts (cleared 2314 0) order_writes)

    pub order_read_back : (under : List ℕ) → length under ≡ 128
        → order_reading a (asked 2 order_word (signed_numeral a) input) n labels lent under ≡ left (record { number = 0; place = 0 }) (laid n starts under)
    order_read_back under size =
        ap (λ (t : List ℕ). order_reading a t n labels lent under) (order_valid ∙ sym (written_order a n labels lent starts (cleared 2314 0) order_writes))
        ∙ written_order_read a n labels lent starts (cleared 2314 0) order_writes under size

-- What the plan program printed, asked for its order sheet: that of the planned starts
abbrev Read : Type 0
Read = Left SheetRead (List ℕ × Lent × List ℕ)

module _ (a : ℤ) (h : Anchor a) (input : List ℕ) (read : (input_read input).answer.number ≡ 0) where
  pub order_planned : asked 2 order_word (signed_numeral a) (printed input)
      ≡ order_text a (input_read input).answer.n (input_read input).tables.0 (input_read input).tables.1.widths (planned_starts input read)
  order_planned =
      order_valid a h (printed input) (ap (λ (r : Read). r.answer.number) again)
      (ap (λ (r : Read). has_plan r.answer.n r.tables.2) again ∙ printed_plan input read)
      (subst (λ (r : Read). Valid (net_of r.tables.1) r.answer.n (at r.tables.2)) (sym again) (printed_valid input read))
      ∙ ap (λ (r : Read). order_text a r.answer.n r.tables.0 r.tables.1.widths r.tables.2) again
    where
      again : input_read (printed input) ≡ left (record { number = 0; place = 0; n = (input_read input).answer.n }) ((input_read input).tables.0, (input_read input).tables.1, planned_starts input read)
      again = printed_read input read (cleared 1024 0) (lend (cleared 128 0) (cleared 16384 0)) (cleared 128 0) own_tables
