-- RULES 27, the grid of ITU-T G.694.1: the number n of a block's centre, the centre itself, and the filter order
-- sheet, as it is written and as it is read. Assumes nothing.
use Rattle.std.specs.Prelude.{ℕ, ◌+◌, ◌-◌, ◌*◌, ◌/◌, ◌%◌, false, cond, ◌&&◌, List, ◌++◌, set, ltb, eqb, ℤ, pos, negsuc, nat_abs, neg_ℤ, ◌+ℤ◌, ◌*ℤ◌, Float}
use Rattle.std.specs.Float.{binary64}
use Rattle.std.specs.Float.Ieee.{round}
use Rattle.rules.specs.Tables.{at}
use Rattle.rules.specs.Text.{Parsed, none, some, then, word, space, line_feed, order_word, label, numeral, signed, signed_numeral}
use Rattle.rules.specs.Sheet.{is_row, Line, wrong, right, Section, last_field, last_part}
use Rattle.rules.specs.Writing.{label_of, join_from, count_text}

-- n of a block: its centre in steps of 6.25 GHz from 193.1 THz. A slot is two steps wide, and the anchor is the
-- lower edge of slot 1
unfoldable pub grid_number : ℤ → ℕ → ℕ → ℤ
grid_number anchor start width = anchor +ℤ pos (2 * (start - 1) + width)

-- the start whose lower edge lies so many steps above that of slot 1: a whole one of 1 to 16,384, or 0 for none
unfoldable pub start_above : ℤ → ℕ
start_above (pos d) = cond (eqb (d % 2) 0 && ltb (d / 2) 16384) (d / 2 + 1) 0
start_above (negsuc d) = 0

-- the start that n gives a block of a width, or 0
unfoldable pub grid_start : ℤ → ℕ → ℤ → ℕ
grid_start anchor width n = start_above (n +ℤ neg_ℤ (anchor +ℤ pos width))

-- the centre that n names, in quarters of a GHz: 4 times 193,100 + 6.25 n. It lies above 0 for every n of a block
unfoldable pub quarters : ℤ → ℤ
quarters n = pos 772400 +ℤ pos 25 *ℤ n

-- and in GHz, as the double that is nearest to it
unfoldable pub centre_of : ℤ → Float
centre_of n = round binary64 false (nat_abs (quarters n)) 4

-- The order sheet. A line is `label n m`
unfoldable pub order_line : List ℕ → Parsed (List ℕ × (ℤ × ℕ))
order_line l =
    then (label l) (λ w l₁. then (word space l₁) (λ _ l₂. then (signed l₂) (λ n l₃. then (last_field l₃) (λ m l₄. some (w, (n, m)) l₄))))

-- what path k's line means: 11, 13 not its label, 3 an m that is not its width, 7 an n that gives no start
unfoldable pub order_means : ℤ → List ℕ → List ℕ → ℕ → List ℕ → Parsed (List ℕ × (ℤ × ℕ)) → Line (List ℕ)
order_means anchor labels widths k starts none = wrong 11
order_means anchor labels widths k starts (some (w, (n, m)) l) =
    let start = grid_start anchor (at widths k) n in
    cond (is_row labels w k) (cond (eqb m (at widths k)) (cond (ltb 0 start) (right (set starts k start) l) (wrong 7)) (wrong 3)) (wrong 13)

unfoldable pub order_step : ℤ → List ℕ → List ℕ → ℕ → List ℕ → List ℕ → Line (List ℕ)
order_step anchor labels widths k starts l = order_means anchor labels widths k starts (order_line l)

-- the whole of it, read over the starts of n paths
unfoldable pub order_from : ℤ → ℕ → List ℕ → List ℕ → List ℕ → List ℕ → Section (List ℕ)
order_from anchor n labels widths starts l = last_part order_word (order_step anchor labels widths) n 1 starts l

-- and as it is written: path k's line, and the whole
unfoldable pub order_line_text : ℤ → List ℕ → List ℕ → List ℕ → ℕ → List ℕ
order_line_text anchor labels widths starts k =
    label_of labels k
    ++ (space ++ (signed_numeral (grid_number anchor (at starts k) (at widths k)) ++ (space ++ (numeral (at widths k) ++ line_feed))))

unfoldable pub order_text : ℤ → ℕ → List ℕ → List ℕ → List ℕ → List ℕ
order_text anchor n labels widths starts = count_text order_word n ++ join_from n 0 (order_line_text anchor labels widths starts)
