-- What is made of the input on standard output and on standard error. Assumes nothing.
use Prim.Native.Nat.{ℕ, ◌≤◌}
use mathlib.Core.Path.{◌≡◌}
use mathlib.Core.List.{List, []}
use lib.ListN.{length, take}
use Rattle.rules.specs.Program.{refusal_text, planned_text, on_sheet, printed}
use Rattle.console.specs.Made.{Made}
use Rattle.console.proofs.Making.{sheet_front, made_front}
use Rattle.printing.specs.Made.{note_of, noted}

pub made_printed : (input out : List ℕ) (r : ℕ) → r ≤ length out → take r out ≡ on_sheet refusal_text planned_text input → Made printed input r out
unfolding printed
made_printed input out r l e = made_front printed input out r l e (λ rest h. sheet_front refusal_text planned_text input rest h)

pub made_noted : (input out : List ℕ) (r : ℕ) → r ≤ length out → take r out ≡ on_sheet (λ number line. []) note_of input → Made noted input r out
unfolding noted
made_noted input out r l e = made_front noted input out r l e (λ rest h. sheet_front (λ number line. []) note_of input rest h)
