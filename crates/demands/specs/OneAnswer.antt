-- No second answer: each public call's contract is met by at most one answer with at most one content of
-- each table that it may write. One law, cited once a call. The one exemption is the ghost name of the
-- reference that `better` hands back: its place and its cells are determined (docs/PROMISES.md). Assumes
-- nothing.
use Rattle.std.specs.Prelude.{ℕ, ◌≡◌, List, ℤ, Float}
use Rattle.std.proofs.Common.{sym, ap, ◌∙◌}
use Rattle.std.specs.Borrow.{Bor}
use Rattle.rules.specs.Tables.{Lent}
use Rattle.rules.specs.declared.Fault.{Fault}
use Rattle.rules.specs.declared.Packed.{Packed}
use Rattle.rules.specs.declared.Pressed.{Pressed}
use Rattle.rules.specs.declared.Sided.{Sided}
use Rattle.rules.specs.declared.Planned.{Planned}
use Rattle.rules.specs.declared.Floored.{Floored}
use Rattle.rules.specs.declared.SheetRead.{SheetRead}
use Rattle.rules.specs.declared.SheetWritten.{SheetWritten}
use Rattle.rules.specs.declared.Why.{Why}
use Rattle.rules.specs.declared.OrderRead.{OrderRead}
use Rattle.rules.specs.Calls.{Left, left, judging, packing, pressing, explaining, siding, improving, planning, flooring, reading, writing, centring, centre_number, order_writing, order_reading}
use Rattle.rules.specs.Better.{Bettered}

-- the law
pub one_answer : {A T : Type 0} {a b : A} {t u : T} {d : Left A T} → left a t ≡ d → left b u ≡ d → (a ≡ b) × (t ≡ u)
one_answer {A} {T} x y = (ap (λ (r : Left A T). r.answer) (x ∙ sym y), ap (λ (r : Left A T). r.tables) (x ∙ sym y))

-- the calls that write tables
pub pack_one : (n : ℕ) (lent : Lent) (order starts : List ℕ) {r s : Packed} {t u : List ℕ}
    → left r t ≡ packing n lent order starts → left s u ≡ packing n lent order starts → (r ≡ s) × (t ≡ u)
pack_one n lent order starts = one_answer

pub press_one : (n : ℕ) (lent : Lent) (starts : List ℕ) {r s : Pressed} {t u : List ℕ}
    → left r t ≡ pressing n lent starts → left s u ≡ pressing n lent starts → (r ≡ s) × (t ≡ u)
press_one n lent starts = one_answer

pub why_one : (n : ℕ) (lent : Lent) (starts : List ℕ) (path : ℕ) (table : List ℕ) {r s : Why} {t u : List ℕ}
    → left r t ≡ explaining n lent starts path table → left s u ≡ explaining n lent starts path table → (r ≡ s) × (t ≡ u)
why_one n lent starts path table = one_answer

pub two_sides_one : (n : ℕ) (lent : Lent) (order : List ℕ) {r s : Sided} {t u : List ℕ}
    → left r t ≡ siding n lent order → left s u ≡ siding n lent order → (r ≡ s) × (t ≡ u)
two_sides_one n lent order = one_answer

pub plan_one : (n : ℕ) (lent : Lent) (order starts : List ℕ) (seed rounds : ℕ) {r s : Planned} {t u : List ℕ × List ℕ}
    → left r t ≡ planning n lent order starts seed rounds → left s u ≡ planning n lent order starts seed rounds → (r ≡ s) × (t ≡ u)
plan_one n lent order starts seed rounds = one_answer

pub improve_one : (n : ℕ) (lent : Lent) (order starts : List ℕ) (seed rounds : ℕ) {r s : Planned} {t u : List ℕ × List ℕ}
    → left r t ≡ improving n lent order starts seed rounds → left s u ≡ improving n lent order starts seed rounds → (r ≡ s) × (t ≡ u)
improve_one n lent order starts seed rounds = one_answer

pub read_one : (text labels : List ℕ) (lent : Lent) (starts : List ℕ) {r s : SheetRead} {t u : List ℕ × Lent × List ℕ}
    → left r t ≡ reading text labels lent starts → left s u ≡ reading text labels lent starts → (r ≡ s) × (t ≡ u)
read_one text labels lent starts = one_answer

pub write_one : (n : ℕ) (labels : List ℕ) (lent : Lent) (starts text : List ℕ) {r s : SheetWritten} {t u : List ℕ}
    → left r t ≡ writing n labels lent starts text → left s u ≡ writing n labels lent starts text → (r ≡ s) × (t ≡ u)
write_one n labels lent starts text = one_answer

pub order_write_one : (anchor : ℤ) (n : ℕ) (labels : List ℕ) (lent : Lent) (starts text : List ℕ) {r s : SheetWritten} {t u : List ℕ}
    → left r t ≡ order_writing anchor n labels lent starts text → left s u ≡ order_writing anchor n labels lent starts text → (r ≡ s) × (t ≡ u)
order_write_one anchor n labels lent starts text = one_answer

pub order_read_one : (anchor : ℤ) (text : List ℕ) (n : ℕ) (labels : List ℕ) (lent : Lent) (starts : List ℕ) {r s : OrderRead} {t u : List ℕ}
    → left r t ≡ order_reading anchor text n labels lent starts → left s u ≡ order_reading anchor text n labels lent starts → (r ≡ s) × (t ≡ u)
order_read_one anchor text n labels lent starts = one_answer

-- the calls that write none
pub judge_one : (n : ℕ) (lent : Lent) (starts : List ℕ) {r s : Fault} → r ≡ judging n lent starts → s ≡ judging n lent starts → r ≡ s
judge_one n lent starts x y = x ∙ sym y

pub floor_one : (n : ℕ) (lent : Lent) (list : List ℕ) {r s : Floored} → r ≡ flooring n lent list → s ≡ flooring n lent list → r ≡ s
floor_one n lent list x y = x ∙ sym y

pub centre_one : (anchor : ℤ) (start width : ℕ) {r s : Float} → r ≡ centring anchor start width → s ≡ centring anchor start width → r ≡ s
centre_one anchor start width x y = x ∙ sym y

pub centre_number_one : (anchor : ℤ) (start width : ℕ) {r s : ℕ} → r ≡ centre_number anchor start width → s ≡ centre_number anchor start width → r ≡ s
centre_number_one anchor start width x y = x ∙ sym y

-- the part handed back: one place, and one content
pub better_one : (n : ℕ) (lent : Lent) (first second r s : Bor (List ℕ))
    → Bettered n lent first second r → Bettered n lent first second s → (r.ref_ptr ≡ s.ref_ptr) × (r.now ≡ s.now)
unfolding Bettered
better_one n lent first second r s x y = (x.place ∙ sym y.place, x.cells ∙ sym y.cells)
