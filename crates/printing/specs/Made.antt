-- The line that `--verbose` adds, from the input on. Assumes nothing.
use Rattle.std.specs.Prelude.{ℕ, List, [], eqb}
use Rattle.rules.specs.Tables.{cleared, Lent}
use Rattle.rules.specs.Writing.{pairs}
use Rattle.rules.specs.Calls.{planning, siding}
use Rattle.rules.specs.Program.{on_sheet}
use Rattle.notes.specs.Note.{note_text}

-- of a network and starts that stood in the sheet: what the program's planning answers, and whether there are
-- two sides
unfoldable pub note_of : ℕ → List ℕ → Lent → List ℕ → List ℕ
note_of n labels lent starts =
    let planned = planning n lent (cleared 128 0) starts 1 1000 in
    let sides = siding n lent (cleared 128 0) in
    note_text n (pairs n lent.guards) planned.answer.highest (eqb sides.answer.number 0) planned.answer.kept

-- from the input to the line; none where the sheet is refused
unfoldable pub noted : List ℕ → List ℕ
noted input = on_sheet (λ number line. []) note_of input
