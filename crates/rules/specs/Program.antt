-- RULES 19, the plan program: from the bytes of its input to the bytes that it prints, a sheet with its plan
-- or one line for a refusal. Assumes nothing.
use Rattle.std.specs.Prelude.{ℕ, cond, List, ◌++◌, take, eqb}
use Rattle.rules.specs.Tables.{cleared, Lent, lend}
use Rattle.rules.specs.Text.{bytes, line_feed, numeral}
use Rattle.rules.specs.Calls.{reading, planning, writing}

unfoldable pub refusal_text : ℕ → ℕ → List ℕ
refusal_text number line = bytes "refused " ++ (numeral number ++ (bytes " line " ++ (numeral line ++ line_feed)))

-- the sheet of n paths with the starts that are planned for them, in room for the longest sheet (RULES 13)
unfoldable pub planned_text : ℕ → List ℕ → Lent → List ℕ → List ℕ
planned_text n labels lent starts =
    let planned = planning n lent (cleared 128 0) starts 1 1000 in
    let written = writing n labels lent planned.tables.1 (cleared 45489 0) in
    take written.answer.length written.tables

-- what a program makes of its input: it reads a sheet into tables of its own, and then makes something of the
-- refusal, or of what it read
unfoldable pub on_sheet : (ℕ → ℕ → List ℕ) → (ℕ → List ℕ → Lent → List ℕ → List ℕ) → List ℕ → List ℕ
on_sheet refused made input =
    let sheet = reading input (cleared 1024 0) (lend (cleared 128 0) (cleared 16384 0)) (cleared 128 0) in
    cond (eqb sheet.answer.number 0)
    (made sheet.answer.n sheet.tables.0 sheet.tables.1 sheet.tables.2)
    (refused sheet.answer.number sheet.answer.place)

-- from the input to what is printed
unfoldable pub printed : List ℕ → List ℕ
printed input = on_sheet refusal_text planned_text input
