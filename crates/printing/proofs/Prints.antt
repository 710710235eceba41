-- What the program prints, against its definition. Assumes nothing.
use Prim.Native.Nat.{ℕ, ◌≤◌}
use mathlib.Core.Path.{◌≡◌, refl, sym, ap, ◌∙◌}
use mathlib.Core.Bool.{Bool, true, false, cond}
use mathlib.Core.List.{List, ◌++◌}
use lib.ListN.{length, take, drop}
use lib.Seq.{take-append_seam}
use lib.Dec.{ltb, eqb}
use native.Mathlib.Omega.{arith}
use borrow.Author.Tests.{eqb-true, ltb-false}
use Rattle.rules.specs.declared.Fault.{Fault}
use Rattle.rules.specs.declared.Planned.{Planned}
use Rattle.rules.specs.declared.SheetWritten.{SheetWritten}
use Rattle.rules.specs.Tables.{cleared, Lent}
use Rattle.rules.specs.Writing.{sheet_text}
use Rattle.rules.specs.Numbers.{write_fault}
use Rattle.rules.specs.Calls.{Left, left, unless, planning, writing}
use Rattle.rules.specs.Program.{planned_text}
use Rattle.table_laws.specs.Tables.{cleared_length}
use Rattle.table_laws.specs.Faults.{or_clear, refuse_clear}

-- the sheet that is written does not depend on what stood in the lent text
abbrev sheet_of : Left SheetWritten (List ℕ) → List ℕ
sheet_of w = take w.answer.length w.tables

abbrev outcome : Bool → Fault → List ℕ → List ℕ → Left SheetWritten (List ℕ)
outcome b f s text = cond b (left (record { number = 0; place = 0; length = length s }) (s ++ drop (length s) text)) (left (record { number = f.number; place = f.place; length = 0 }) text)

module _ (n : ℕ) (labels : List ℕ) (lent : Lent) (starts : List ℕ) where
  fault_even : (text other : List ℕ) → length text ≡ length other → write_fault n labels lent starts text ≡ write_fault n labels lent starts other
  unfolding write_fault
  fault_even text other e = rw e

  writing_is : (text : List ℕ) → writing n labels lent starts text
      ≡ outcome (eqb (write_fault n labels lent starts text).number 0) (write_fault n labels lent starts text) (sheet_text n labels lent starts) text
  unfolding writing unless
  writing_is text = refl

  written_even : (text other : List ℕ) → length text ≡ length other → sheet_of (writing n labels lent starts text) ≡ sheet_of (writing n labels lent starts other)
  written_even text other e =
      rw (writing_is text, writing_is other, fault_even text other e)
      (go (sheet_text n labels lent starts) (write_fault n labels lent starts other) (eqb (write_fault n labels lent starts other).number 0))
    where
      go : (s : List ℕ) (f : Fault) (b : Bool) → sheet_of (outcome b f s text) ≡ sheet_of (outcome b f s other)
      go s f true = take-append_seam s (drop (length s) text) ∙ sym (take-append_seam s (drop (length s) other))
      go s f false = refl

  fits : (text : List ℕ) → (write_fault n labels lent starts text).number ≡ 0 → length (sheet_text n labels lent starts) ≤ length text
  unfolding write_fault
  fits text z =
      let g = (or_clear _ _ (or_clear _ _ (or_clear _ _ (or_clear _ _ (or_clear _ _ z).1).1).1).1).1 in
      ltb-false (length text) (length (sheet_text n labels lent starts))
      (refuse_clear (ltb (length text) (length (sheet_text n labels lent starts))) 16 0 (omega arith) g)

  written_short : (text : List ℕ) → (writing n labels lent starts text).answer.length ≤ length text
  written_short text =
      rw (writing_is text) (go (write_fault n labels lent starts text) refl (eqb (write_fault n labels lent starts text).number 0) refl)
    where
      go : (f : Fault) → write_fault n labels lent starts text ≡ f → (b : Bool) → eqb (write_fault n labels lent starts text).number 0 ≡ b
          → (outcome b f (sheet_text n labels lent starts) text).answer.length ≤ length text
      go f p true q = fits text (eqb-true (write_fault n labels lent starts text).number 0 q)
      go f p false q = omega arith

pub prints_sheet : (n : ℕ) (labels : List ℕ) (lent : Lent) (starts order order' starts' out out' : List ℕ) (p : Planned) (w : SheetWritten) → order ≡ cleared 128 0 → length out ≡ 45489
    → ◌≡◌ {A = Left Planned (List ℕ × List ℕ)} (left p (order', starts')) (planning n lent order starts 1 1000)
    → ◌≡◌ {A = Left SheetWritten (List ℕ)} (left w out') (writing n labels lent starts' out)
    → take w.length out' ≡ planned_text n labels lent starts
unfolding planned_text
prints_sheet n labels lent starts order order' starts' out out' p w z h e f =
    let g : starts' ≡ (planning n lent (cleared 128 0) starts 1 1000).tables.1
    = ap (λ (x : Left Planned (List ℕ × List ℕ)). x.tables.1) e ∙ ap (λ (o : List ℕ). (planning n lent o starts 1 1000).tables.1) z in
    ap sheet_of f ∙ written_even n labels lent starts' out (cleared 45489 0) (h ∙ sym (cleared_length 45489 0)) ∙ ap (λ (s : List ℕ). sheet_of (writing n labels lent s (cleared 45489 0))) g

pub prints_within : (n : ℕ) (labels : List ℕ) (lent : Lent) (starts out out' : List ℕ) (w : SheetWritten) → length out ≡ 45489
    → ◌≡◌ {A = Left SheetWritten (List ℕ)} (left w out') (writing n labels lent starts out) → w.length ≤ 45489
prints_within n labels lent starts out out' w h f =
    let e : w.length ≡ (writing n labels lent starts out).answer.length = ap (λ (x : Left SheetWritten (List ℕ)). x.answer.length) f in
    omega (arith, e, h, written_short n labels lent starts out)
