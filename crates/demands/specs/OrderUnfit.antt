-- What the calls of the grid answer by computation, and programs for them that are unfit (RULES 21 and 27).
-- Assumes nothing.
use Rattle.std.specs.Prelude.{ℕ, ◌+◌, ◌*◌, ◌≡◌, refl, ◌≢◌, false, List, [], ◌∷◌, ℤ, pos, ◌+ℤ◌, ◌*ℤ◌, Float}
use Rattle.std.proofs.Common.{sym, ap, subst, ◌∙◌, arith}
use Rattle.std.specs.Float.Ieee.Exact.{HasValue}
use Rattle.rules.specs.declared.OrderRead.{OrderRead}
use Rattle.rules.specs.declared.SheetWritten.{SheetWritten}
use Rattle.rules.specs.Tables.{at, cleared, Lent}
use Rattle.rules.specs.Scan.{first, found, first_row, found_pair}
use Rattle.rules.specs.Text.{bytes, then, word, is_digit, is_label_byte, run, label, is_plain, value_from, number, spell, numeral, below_zero, signed, signed_numeral}
use Rattle.rules.specs.Sheet.{is_row, follow, lines, last_field, count_line, counted, after, ended, last_part}
use Rattle.rules.specs.Writing.{label_of, bad_label, label_twice, join_from, count_text}
use Rattle.rules.specs.Grid.{grid_number, start_above, grid_start, order_line, order_means, order_step, order_from, order_line_text, order_text}
use Rattle.rules.specs.Numbers.{refuse_if, ◌or_else◌, scan, square, count_fault, size_fault, start_fault, network_fault, network_sizes, lent_fault, label_sizes, anchor_fault, centre_fault, order_read_fault, order_write_fault}
use Rattle.rules.specs.Calls.{Left, unless, no_centre, centring, centre_number, order_writing, order_outcome, order_reading}
use Rattle.rules.specs.Figures.{three}
use Rattle.demands.specs.Witness.{net_one, label_a}
use Rattle.demands.specs.Unfit.{entry, Meets, Refuses, refusing_unfit}
use Rattle.demands.specs.Grid.{centre_some, centre_only}

-- an order sheet of one path of one slot from the anchor 0: in slot 1, and half a slot higher
unfoldable pub one_order : List ℕ
one_order = bytes "order 1\nA 1 1\n"

unfoldable pub half_order : List ℕ
half_order = bytes "order 1\nA 2 1\n"

-- each call accepts something and refuses something, and a reading that is accepted fills the start in
pub grid_answers :
    (centre_number (pos 0) 1 2
    ∷ centre_number (pos 1025) 1 2
    ∷ (order_writing (pos 0) 1 label_a net_one (three 1 0 0) (cleared 14 0)).answer.number
    ∷ (order_writing (pos 0) 1 label_a net_one (three 0 0 0) (cleared 14 0)).answer.number
    ∷ (order_reading (pos 0) one_order 1 label_a net_one (three 0 0 0)).answer.number
    ∷ (order_reading (pos 0) half_order 1 label_a net_one (three 0 0 0)).answer.number
    ∷ at (order_reading (pos 0) one_order 1 label_a net_one (three 0 0 0)).tables 0
    ∷ at (three 0 0 0) 0
    ∷ [])
    ≡ 0 ∷ 17 ∷ 0 ∷ 7 ∷ 0 ∷ 7 ∷ 1 ∷ 0 ∷ []
unfolding one_order half_order net_one label_a three cleared first found first_row found_pair then word is_digit is_label_byte run label is_plain value_from number spell numeral below_zero signed signed_numeral is_row follow lines last_field count_line counted after ended last_part label_of bad_label label_twice join_from count_text grid_number start_above grid_start order_line order_means order_step order_from order_line_text order_text refuse_if ◌or_else◌ scan square count_fault size_fault start_fault network_fault network_sizes lent_fault label_sizes anchor_fault centre_fault order_read_fault order_write_fault unless centre_number order_writing order_outcome order_reading
grid_answers = refl

-- the definitions of the calls, each over all that the call is given
abbrev Table : Type 0
Table = List ℕ

abbrev pub centring_of : ℤ × ℕ × ℕ → Float
centring_of (anchor, start, width) = centring anchor start width

abbrev pub centre_number_of : ℤ × ℕ × ℕ → ℕ
centre_number_of (anchor, start, width) = centre_number anchor start width

abbrev pub order_writing_of : ℤ × ℕ × Table × Lent × Table × Table → Left SheetWritten Table
order_writing_of (anchor, n, labels, lent, starts, text) = order_writing anchor n labels lent starts text

abbrev pub order_reading_of : ℤ × Table × ℕ × Table × Lent × Table → Left OrderRead Table
order_reading_of (anchor, text, n, labels, lent, starts) = order_reading anchor text n labels lent starts

-- (1) A program that refuses everything
pub centre_refusing : (program : ℤ × ℕ × ℕ → ℕ) → Meets program centre_number_of → Refuses (λ r. r) program → ⊥
centre_refusing program = refusing_unfit (λ r. r) centre_number_of program (pos 0, 1, 2) (entry 0 grid_answers)

pub order_write_refusing : (program : ℤ × ℕ × Table × Lent × Table × Table → Left SheetWritten Table) → Meets program order_writing_of → Refuses (λ r. r.answer.number) program → ⊥
order_write_refusing program = refusing_unfit (λ r. r.answer.number) order_writing_of program (pos 0, 1, label_a, net_one, three 1 0 0, cleared 14 0) (entry 2 grid_answers)

pub order_read_refusing : (program : ℤ × Table × ℕ × Table × Lent × Table → Left OrderRead Table) → Meets program order_reading_of → Refuses (λ r. r.answer.number) program → ⊥
order_read_refusing program = refusing_unfit (λ r. r.answer.number) order_reading_of program (pos 0, one_order, 1, label_a, net_one, three 0 0 0) (entry 4 grid_answers)

-- (2) A program that refuses nothing
abbrev pub Accepts : {Given Leaves : Type 0} → (Leaves → ℕ) → (Given → Leaves) → Type 0
Accepts {Given} number program = (g : Given) → number (program g) ≡ 0

accepting_unfit : {Given Leaves : Type 0} (number : Leaves → ℕ) (definition program : Given → Leaves) (given : Given) → number (definition given) ≢ 0
    → Meets program definition → Accepts number program → ⊥
accepting_unfit number definition program given refused meets accepts = refused (sym (ap number (meets given)) ∙ accepts given)

pub centre_accepting : (program : ℤ × ℕ × ℕ → ℕ) → Meets program centre_number_of → Accepts (λ r. r) program → ⊥
centre_accepting program = accepting_unfit (λ r. r) centre_number_of program (pos 1025, 1, 2) (λ z. omega (arith, entry 1 grid_answers))

pub order_write_accepting : (program : ℤ × ℕ × Table × Lent × Table × Table → Left SheetWritten Table) → Meets program order_writing_of → Accepts (λ r. r.answer.number) program → ⊥
order_write_accepting program =
    accepting_unfit (λ r. r.answer.number) order_writing_of program (pos 0, 1, label_a, net_one, three 0 0 0, cleared 14 0) (λ z. omega (arith, z, entry 3 grid_answers))

pub order_read_accepting : (program : ℤ × Table × ℕ × Table × Lent × Table → Left OrderRead Table) → Meets program order_reading_of → Accepts (λ r. r.answer.number) program → ⊥
order_read_accepting program =
    accepting_unfit (λ r. r.answer.number) order_reading_of program (pos 0, half_order, 1, label_a, net_one, three 0 0 0) (λ z. omega (arith, z, entry 5 grid_answers))

-- (3) A reader that never fills the starts in, wherever it answers 0
pub unfilled_unfit : (program : ℤ × Table × ℕ × Table × Lent × Table → Left OrderRead Table) → Meets program order_reading_of
    → ((anchor : ℤ) (text : Table) (n : ℕ) (labels : Table) (lent : Lent) (starts : Table) → (program (anchor, text, n, labels, lent, starts)).answer.number ≡ 0
    → (program (anchor, text, n, labels, lent, starts)).tables ≡ starts) → ⊥
unfilled_unfit program meets unfilled =
    let is = meets (pos 0, one_order, 1, label_a, net_one, three 0 0 0) in
    let same = unfilled (pos 0) one_order 1 label_a net_one (three 0 0 0) (ap (λ (r : Left OrderRead Table). r.answer.number) is ∙ entry 4 grid_answers) in
    omega (arith, ap (λ (t : Table). at t 0) same, ap (λ (r : Left OrderRead Table). at r.tables 0) is, entry 6 grid_answers, entry 7 grid_answers)

-- (4) A centre that is always 0.0; and one that is a quarter of a GHz too high, wherever the number is 0
pub no_centre_unfit : (program : ℤ × ℕ × ℕ → Float) → Meets program centring_of → ((g : ℤ × ℕ × ℕ) → program g ≡ no_centre) → ⊥
no_centre_unfit program meets none = centre_some (pos 0) 1 2 (entry 0 grid_answers) (sym (meets (pos 0, 1, 2)) ∙ none (pos 0, 1, 2))

pub quarter_off_unfit : (program : ℤ × ℕ × ℕ → Float) → Meets program centring_of
    → ((anchor : ℤ) (start width : ℕ) → centre_number anchor start width ≡ 0
    → (q : ℕ) × (pos q ≡ pos (4 * 193100 + 1) +ℤ pos 25 *ℤ grid_number anchor start width) × HasValue (program (anchor, start, width)) false q 4) → ⊥
unfolding grid_number
quarter_off_unfit program meets high =
    let z = entry 0 grid_answers in
    let h = high (pos 0) 1 2 z in
    let e : pos h.0 ≡ pos 772450 = centre_only (pos 0) 1 2 z h.0 (subst (λ (x : Float). HasValue x false h.0 4) (meets (pos 0, 1, 2)) h.2) in
    let f : pos h.0 ≡ pos 772451 = h.1 in
    let a : h.0 ≡ 772450 = cc in
    let b : h.0 ≡ 772451 = cc in
    omega arith
