-- What a line of the order sheet answers, as the rules say it. Assumes nothing.
use Rattle.std.specs.Prelude.{ℕ, List, Option, ℤ}
use Rattle.std.specs.Borrow.{Bor}
use Rattle.rules.specs.Text.{Parsed}
use Rattle.sheet_laws.specs.Grid.{lowered}
use Rattle.text.specs.Says.{parsed_by}
use Rattle.order_reader.specs.declared.OrderLine.{OrderLine}

abbrev pub parsed_order : Option (OrderLine × Bor (List ℕ)) → Parsed (List ℕ × (ℤ × ℕ))
parsed_order o = parsed_by (λ line. (line.label.now, (lowered line.n, line.m))) o
