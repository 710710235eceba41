-- What the lines answer, as the rules say it. Assumes nothing.
use Rattle.std.specs.Prelude.{ℕ, List, Option, Result, Ok, Err}
use Rattle.std.specs.Borrow.{Bor}
use Rattle.rules.specs.declared.Cause.{Cause}
use Rattle.rules.specs.Text.{Parsed}
use Rattle.rules.specs.Sheet.{Line, wrong, right}
use Rattle.rules.specs.Told.{number_of}
use Rattle.text.specs.Says.{parsed_by}
use Rattle.lines.specs.declared.GuardLine.{GuardLine}

abbrev pub parsed_guard : Option (GuardLine × Bor (List ℕ)) → Parsed (List ℕ × (List ℕ × ℕ))
parsed_guard o = parsed_by (λ line. (line.first.now, (line.second.now, line.guard))) o

-- a line's answer, over tables of which t is what stands in them afterwards: the text after a line that is right. A
-- refused line leaves them anyhow
abbrev pub line_of : {T : Type 0} → T → Result (Bor (List ℕ)) Cause → Line T
line_of t (Ok rest) = right t rest.now
line_of t (Err cause) = wrong (number_of cause)
