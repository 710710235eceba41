-- A line of the order sheet by what its fields are. Assumes nothing.
use Prim.Native.Nat.{ℕ, ◌+◌, ◌*◌, ◌≤◌}
use mathlib.Core.Path.{◌≡◌, refl, ap, ◌∙◌}
use mathlib.Core.List.{List, ◌++◌}
use lib.IntN.{ℤ}
use lib.ListN.{length}
use native.Mathlib.Omega.{arith}
use Rattle.rules.specs.Tables.{at}
use Rattle.rules.specs.Text.{space, line_feed, order_word, numeral, signed_numeral}
use Rattle.rules.specs.Writing.{label_of}
use Rattle.rules.specs.Grid.{grid_number, order_line_text, order_text}
use Rattle.sheet_laws.specs.Writes.{count_length, label_short, join_bound}
use Rattle.sheet_laws.specs.Grid.{lowered, order_line_length, order_length}
use Rattle.spelling.specs.Short.{numeral_short, signed_short}

-- path k starts in slot s and is m wide, and n is its number
module _ (anchor : ℕ) (labels widths starts : List ℕ) (k s m n : ℕ) (start : s ≡ at starts k) (width : m ≡ at widths k) (number : grid_number (lowered anchor) s m ≡ lowered n) where
  spelled : signed_numeral (grid_number (lowered anchor) (at starts k) (at widths k)) ≡ signed_numeral (lowered n)
  spelled = rw (← start, ← width) (ap signed_numeral number)

  pub line_fields : order_line_text (lowered anchor) labels widths starts k ≡ label_of labels k ++ (space ++ (signed_numeral (lowered n) ++ (space ++ (numeral m ++ line_feed))))
  unfolding order_line_text
  line_fields = rw (spelled, width) refl

  pub line_length : length (order_line_text (lowered anchor) labels widths starts k) ≡ length (label_of labels k) + length (signed_numeral (lowered n)) + length (numeral m) + 3
  line_length = order_line_length (lowered anchor) labels widths starts k ∙ rw (spelled, width) refl

-- how long the order sheet is at the most
line_short : (anchor : ℤ) (labels widths starts : List ℕ) (k : ℕ) → length (order_line_text anchor labels widths starts k) ≤ 22
line_short anchor labels widths starts k =
    let n = grid_number anchor (at starts k) (at widths k) in
    omega (arith, order_line_length anchor labels widths starts k, label_short labels k, signed_short n, numeral_short (at widths k))

pub order_short : (anchor : ℤ) (n : ℕ) (labels widths starts : List ℕ) → length (order_text anchor n labels widths starts) ≤ 12 + n * 22
order_short anchor n labels widths starts =
    let lines = join_bound n 0 22 (order_line_text anchor labels widths starts) (line_short anchor labels widths starts) in
    omega (arith, order_length anchor n labels widths starts, count_length order_word n, numeral_short n, lines)
