-- What a writer of sheets leaves: a refusal by its tests, or the sheet. Assumes nothing.
use Rattle.std.specs.Prelude.{ℕ, ◌+◌, ◌≤◌, ◌<◌, ◌≡◌, ◌≢◌, List, ◌++◌, ltb, Ok, Err}
use Rattle.std.proofs.Math.Path.{sym, ap}
use borrow.Author.Tests.{ne_eqb, lt-ltb, le-ltb}
use Rattle.std.proofs.Common.{◌∙◌, ltb-false}
use Rattle.std.proofs.Math.ListN.{length, drop}
use Rattle.std.proofs.lemmas.List.Edits.{sets}
use Rattle.std.proofs.Math.Seq.{sets-eq}
use native.Mathlib.Omega.{arith}
use Rattle.rules.specs.declared.Fault.{Fault}
use Rattle.rules.specs.declared.Refusal.{Refusal}
use Rattle.rules.specs.declared.SheetWritten.{SheetWritten}
use Rattle.rules.specs.Numbers.{fault, no_fault, ◌or_else◌, refuse_if, room_fault}
use Rattle.rules.specs.Calls.{Left, left, unless, refused_written, done_written}
use Rattle.rules.specs.Told.{refused, written_of}
use Rattle.table_laws.specs.Faults.{refuse_bad, refuse_not, refuse_clear, or_first, or_second}
use Rattle.table_laws.specs.Results.{clear_none, unless_err, unless_ok}

-- 16, by the sheet's length as code has it; and where it is not refused the sheet fits
module _ (sheet text : List ℕ) where
  pub room_is : {m : ℕ} → m ≡ length sheet → refuse_if (ltb (length text) m) 16 0 ≡ room_fault sheet text
  room_is e = ap (λ (k : ℕ). refuse_if (ltb (length text) k) 16 0) e

  pub room_clear : no_fault ≡ room_fault sheet text → length sheet ≤ length text
  room_clear e = ltb-false (length text) (length sheet) (refuse_clear _ 16 0 (omega arith) (clear_none e))

-- t is what the tests find
module _ (sheet text : List ℕ) {t : Fault} where
  pub written_err : (r : Refusal) → refused r ≡ t → left (written_of (Err r)) text ≡ unless t (refused_written text) (done_written sheet text)
  written_err r e = sym (unless_err (refused_written text) (done_written sheet text) r e)

  pub written_ok : no_fault ≡ t → length sheet ≤ length text → (r : ℕ) (after : List ℕ) → (r ≡ 0 + length sheet) × (after ≡ sets text 0 sheet)
      → left (written_of (Ok r)) after ≡ unless t (refused_written text) (done_written sheet text)
  written_ok z l r after w =
      let g : 0 + length sheet ≡ length sheet = omega arith in
      let v : after ≡ sheet ++ drop (length sheet) text = w.1 ∙ sets-eq sheet text 0 (omega arith) ∙ ap (λ (k : ℕ). sheet ++ drop k text) g in
      rw (w.0, g, v) (sym (unless_ok (refused_written text) (done_written sheet text) z))

-- the same over faults: t is what its tables are refused by, and f the same as code found it
module _ (sheet text : List ℕ) (t f : Fault) (e : f ≡ t) where
  abbrev written : Left SheetWritten (List ℕ)
  written = unless (t or_else room_fault sheet text) (refused_written text) (done_written sheet text)

  its_number : t.number ≡ f.number
  its_number = sym (ap (λ (x : Fault). x.number) e)

  pub written_refused : f.number ≢ 0 → left (record { number = f.number; place = f.place; length = 0 }) text ≡ written
  unfolding unless
  written_refused d =
      let q : (t or_else room_fault sheet text) ≡ f = or_first t (room_fault sheet text) (λ z. d (sym its_number ∙ z)) ∙ sym e in
      sym (rw (q, ne_eqb f.number 0 d))

  module _ (z : f.number ≡ 0) where
    on : (t or_else room_fault sheet text) ≡ room_fault sheet text
    on = or_second t (room_fault sheet text) (its_number ∙ z)

    pub written_short : length text < length sheet → left (record { number = 16; place = 0; length = 0 }) text ≡ written
    unfolding unless
    written_short l =
        let q : (t or_else room_fault sheet text) ≡ fault 16 0 = on ∙ refuse_bad (ltb (length text) (length sheet)) 16 0 (lt-ltb (length text) (length sheet) l) in
        sym (rw q)

    pub written_done : (r : ℕ) (after : List ℕ) → r ≡ length sheet → r ≤ length text → after ≡ sets text 0 sheet
        → left (record { number = 0; place = 0; length = r }) after ≡ written
    unfolding unless
    written_done r after h l w =
        let q : (t or_else room_fault sheet text) ≡ no_fault = on ∙ refuse_not (ltb (length text) (length sheet)) 16 0 (le-ltb (length text) (length sheet) (omega arith)) in
        let v : after ≡ sheet ++ drop (length sheet) text = w ∙ sets-eq sheet text 0 (omega arith) ∙ ap (λ (k : ℕ). sheet ++ drop k text) (let g : 0 + length sheet ≡ length sheet = omega arith in g) in
        sym (rw (q, ← v, ← h))
