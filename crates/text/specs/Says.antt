-- What the functions of this crate answer, as the rules say it: a field with the text after it, or nothing. Assumes
-- nothing.
use Rattle.std.specs.Prelude.{ℕ, List, Option, Some, None, ℤ}
use Rattle.std.specs.Borrow.{Bor}
use Rattle.rules.specs.Text.{Parsed, none, some}
use Rattle.sheet_laws.specs.Grid.{lowered}
use Rattle.text.specs.declared.PathLine.{PathLine}

-- what is found, read as a value and the text after it
abbrev pub parsed_by : {A B : Type 0} → (A → B) → Option (A × Bor (List ℕ)) → Parsed B
parsed_by value None = none
parsed_by value (Some a) = some (value a.0) a.1.now

abbrev pub parsed : {A : Type 0} → Option (A × Bor (List ℕ)) → Parsed A
parsed o = parsed_by (λ a. a) o

-- fixed bytes have no value
abbrev pub parsed_word : Option (Bor (List ℕ)) → Parsed (Unit {0})
parsed_word None = none
parsed_word (Some rest) = some tt rest.now

abbrev pub parsed_label : Option (Bor (List ℕ) × Bor (List ℕ)) → Parsed (List ℕ)
parsed_label o = parsed_by (λ label. label.now) o

abbrev pub parsed_path : Option (PathLine × Bor (List ℕ)) → Parsed (List ℕ × ℕ)
parsed_path o = parsed_by (λ line. (line.label.now, line.number)) o

-- a number that may lie below 0, as it is counted
abbrev pub parsed_signed : Option (ℕ × Bor (List ℕ)) → Parsed ℤ
parsed_signed o = parsed_by lowered o
