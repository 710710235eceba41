-- RULES 15, the sheet as it is written. Assumes nothing.
use Rattle.std.specs.Prelude.{ℕ, zero, suc, ◌*◌, Bool, cond, not, ◌&&◌, ◌||◌, List, [], ◌++◌, length, take, drop, ltb, eqb}
use Rattle.rules.specs.Tables.{at, cell, Lent}
use Rattle.rules.specs.Scan.{found, sum}
use Rattle.rules.specs.Text.{space, line_feed, paths_word, guards_word, starts_word, is_label_byte, run, numeral}
use Rattle.rules.specs.Sheet.{is_row}

-- path k's label: the bytes that its row begins with
unfoldable pub label_of : List ℕ → ℕ → List ℕ
label_of labels k = run is_label_byte (take 8 (drop (8 * k) labels))

-- 11: its row is not such a label with zeros after it. 12: its label is an earlier path's
unfoldable pub bad_label : List ℕ → ℕ → Bool
bad_label labels k = eqb (length (label_of labels k)) 0 || not (is_row labels (label_of labels k) k)

unfoldable pub label_twice : List ℕ → ℕ → Bool
label_twice labels k = found (is_row labels (label_of labels k)) k

-- the pair of i and j, i<j, has a guard line; so many pairs have one
unfoldable pub is_pair : List ℕ → ℕ → ℕ → Bool
is_pair guards i j = ltb i j && ltb (at guards (cell i j)) 255

unfoldable pub pairs : ℕ → List ℕ → ℕ
pairs n guards = sum (λ i. sum (λ j. cond (is_pair guards i j) 1 0) n) n

-- there is a plan where one of the n starts is not 0
unfoldable pub has_plan : ℕ → List ℕ → Bool
has_plan n starts = found (λ k. not (eqb (at starts k) 0)) n

-- the texts f of the m numbers from k on, one after the other
unfoldable pub join_from : ℕ → ℕ → (ℕ → List ℕ) → List ℕ
join_from zero k f = []
join_from (suc m) k f = f k ++ join_from m (suc k) f

-- the lines
unfoldable pub count_text : List ℕ → ℕ → List ℕ
count_text w m = w ++ (space ++ (numeral m ++ line_feed))

unfoldable pub path_text : List ℕ → List ℕ → ℕ → List ℕ
path_text labels table k = label_of labels k ++ (space ++ (numeral (at table k) ++ line_feed))

-- a pair's line, the lower path first; the lines stand by first path, then by second
unfoldable pub guard_text : List ℕ → List ℕ → ℕ → ℕ → List ℕ
guard_text labels guards i j =
    cond (is_pair guards i j) (label_of labels i ++ (space ++ (label_of labels j ++ (space ++ (numeral (at guards (cell i j)) ++ line_feed))))) []

-- the sections
unfoldable pub paths_text : ℕ → List ℕ → List ℕ → List ℕ
paths_text n labels widths = count_text paths_word n ++ join_from n 0 (path_text labels widths)

unfoldable pub guards_text : ℕ → List ℕ → List ℕ → List ℕ
guards_text n labels guards = count_text guards_word (pairs n guards) ++ join_from n 0 (λ i. join_from n 0 (guard_text labels guards i))

-- the starts, where there is a plan
unfoldable pub starts_text : ℕ → List ℕ → List ℕ → List ℕ
starts_text n labels starts = cond (has_plan n starts) (count_text starts_word n ++ join_from n 0 (path_text labels starts)) []

unfoldable pub sheet_text : ℕ → List ℕ → Lent → List ℕ → List ℕ
sheet_text n labels lent starts = paths_text n labels lent.widths ++ (guards_text n labels lent.guards ++ starts_text n labels starts)
