-- What is made of an input. Assumes nothing.
use Rattle.std.specs.Prelude.{ℕ, ◌≤◌, ◌≡◌, List, ◌++◌, length, take}
use Rattle.std.proofs.Common.{sym, subst, ◌∙◌, arith}
use Rattle.rules.specs.Tables.{Lent}
use Rattle.rules.specs.Program.{refusal_text, on_sheet}
use Rattle.rules.specs.Asking.{asked}
use Rattle.spelling.specs.Says.{Wrote}
use Rattle.console.specs.Made.{Made}
use Rattle.console.proofs.Keeping.{front}
use Rattle.console.proofs.Making.{sheet_front, made_front}

-- a text that was written, told in other words
pub retold : (out after v w : List ℕ) (r : ℕ) → v ≡ w → Wrote out 0 v r after → Wrote out 0 w r after
retold out after v w r e h = subst (λ (x : List ℕ). Wrote out 0 x r after) e h

module _ (count : ℕ) (first second input out after : List ℕ) (r : ℕ) (long : length out ≡ 9000) (kept : length after ≡ length out) where
  told : (w : List ℕ) → r ≤ 9000 → Wrote out 0 w r after → take r after ≡ w
  told w few h = front out after w r h (omega (arith, h.0, few, long))

  -- an answer on a sheet, and one without
  pub made_asked : (made : ℕ → List ℕ → Lent → List ℕ → List ℕ) → ((i : List ℕ) → asked count first second i ≡ on_sheet refusal_text made i) → r ≤ 9000 → Wrote out 0 (on_sheet refusal_text made input) r after
      → Made (asked count first second) input r after
  made_asked made e few h =
      made_front (asked count first second) input after r (omega (arith, long, kept, few)) (told (on_sheet refusal_text made input) few h ∙ sym (e input))
      (λ rest g. e input ∙ sheet_front refusal_text made input rest g ∙ sym (e (input ++ rest)))

  pub made_said : (w : List ℕ) → ((i : List ℕ) → asked count first second i ≡ w) → length w ≤ 9000 → Wrote out 0 w r after → Made (asked count first second) input r after
  made_said w e few h =
      made_front (asked count first second) input after r (omega (arith, h.0, long, kept, few)) (told w (omega (arith, h.0, few)) h ∙ sym (e input))
      (λ rest g. e input ∙ sym (e (input ++ rest)))
