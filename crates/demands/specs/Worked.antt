-- More worked figures, beside P1 to P10: sheets, chosen so that each holds several constants of RULES 13 to 19,
-- computed from the definitions over tables of full size. Assumes nothing.
use Rattle.std.specs.Prelude.{ℕ, ◌+◌, ◌≡◌, refl, List, [], ◌∷◌, ◌++◌, set, take, drop}
use Prim.Native.String.{String}
use Rattle.rules.specs.declared.SheetRead.{SheetRead}
use Rattle.rules.specs.declared.SheetWritten.{SheetWritten}
use Rattle.rules.specs.Tables.{cleared, Lent, lend}
use Rattle.rules.specs.Scan.{first, found, first_row, found_pair, largest, least, sum}
use Rattle.rules.specs.Plan.{highest}
use Rattle.rules.specs.Packing.{placed, reach, lowest, packed, height}
use Rattle.rules.specs.Pressing.{picked, choose, arranged}
use Rattle.rules.specs.Sides.{touches, opposite, marks, is_high, same_mark, has_sides, two_sided}
use Rattle.rules.specs.Planning.{draw, drawn_place, swapped, state_after, tried, round, rounds, improved}
use Rattle.rules.specs.Text.{bytes, then, word, is_digit, is_label_byte, run, label, is_plain, value_from, number, spell, numeral}
use Rattle.rules.specs.Sheet.{is_row, find, bytes_from, put_row, follow, lines, last_field, count_line, path_line, guard_line, path_means, path_step, guard_cell, guard_means, guard_step, start_means, start_step, counted, after, ended, last_part, starts_part, guards_part, sheet_from}
use Rattle.rules.specs.Writing.{label_of, bad_label, label_twice, is_pair, pairs, has_plan, join_from, count_text, path_text, guard_text, paths_text, guards_text, starts_text, sheet_text}
use Rattle.rules.specs.Numbers.{refuse_if, ◌or_else◌, scan, square, count_fault, size_fault, rounds_fault, network_fault, network_sizes, lent_fault, plan_sizes, plan_fault, label_sizes, sheet_sizes, write_fault}
use Rattle.rules.specs.Calls.{Left, unless, refused_planned, done_planned, done_improved, done_plan, planning, read_outcome, reading, writing}
use Rattle.rules.specs.Program.{refusal_text, planned_text, on_sheet, printed}

-- a text read over tables that hold 7 everywhere
read_over : List ℕ → Left SheetRead (List ℕ × Lent × List ℕ)
read_over text = reading text (cleared 1024 7) (lend (cleared 128 7) (cleared 16384 7)) (cleared 128 7)

-- the number and the place that each of some texts is answered with
answers_to : List (List ℕ) → List ℕ
answers_to [] = []
answers_to (text ∷ texts) = let r = (read_over text).answer in r.number ∷ r.place ∷ answers_to texts

-- the cells of paths 0 and 1 and the first ones past them: labels, widths, guards, starts
cells_of : List ℕ → List ℕ
cells_of text =
    let t = (read_over text).tables in
    take 17 t.0 ++ take 3 t.1.widths ++ take 3 t.1.guards ++ take 3 (drop 128 t.1.guards) ++ take 3 t.2

-- a sheet of one path; of two paths A and B, of 1 and 64 slots
one : String → List ℕ
one line = bytes "paths 1\n" ++ bytes line ++ bytes "\nguards 0\n"

pair : String → List ℕ
pair rest = bytes "paths 2\nA 1\nB 64\n" ++ bytes rest

-- what the writer does with the sheet of A and B and a guard, where the cell c of the labels is v, and the
-- starts are a and b, in a text of 99 bytes
written : ℕ → ℕ → ℕ → ℕ → Left SheetWritten (List ℕ)
written c v a b =
    let t = (read_over (pair "guards 1\nB A 32\n")).tables in
    writing 2 (set t.0 c v) t.1 (set (set t.2 0 a) 1 b) (cleared 99 7)

written_row : Left SheetWritten (List ℕ) → List ℕ
written_row r = r.answer.number ∷ r.answer.place ∷ r.answer.length ∷ take (r.answer.length + 1) r.tables

-- nine paths that have no two sides: seeds 0 and 2 leave other plans, and so do fewer than 998 rounds, in which the last swap is kept
odd : List ℕ
odd = bytes "paths 9\nA 51\nB 49\nC 30\nD 2\nE 27\nF 2\nG 59\nH 13\nI 31\nguards 29\nA C 11\nA D 29\nA F 4\nA I 31\nB D 2\nB E 4\nB F 12\nB G 31\nB H 22\nC D 20\nC E 16\nC F 24\nC G 32\nC H 0\nC I 22\nD E 2\nD F 11\nD G 2\nD H 10\nD I 8\nE F 20\nE G 16\nE I 11\nF G 11\nF H 32\nF I 20\nG H 10\nG I 21\nH I 5\n"

worked :
    ((answers_to (one "0 1" ∷ one "9 1" ∷ one "A 1" ∷ one "Z 1" ∷ one "- 1" ∷ one "012345-Z 1" ∷ [])
    ++ answers_to (one "/ 1" ∷ one ": 1" ∷ one "@ 1" ∷ one "[ 1" ∷ one ", 1" ∷ one ". 1" ∷ one "012345-ZA 1" ∷ one " 1" ∷ []))
    ∷ answers_to (one "A 0" ∷ one "A 64" ∷ one "A 65" ∷ one "A 99999" ∷ one "A 100000" ∷ one "A 01" ∷ one "A 1 " ∷ one "A 1A" ∷ one "A " ∷ one "A" ∷ [])
    ∷ answers_to (bytes "paths 128\n" ∷ bytes "paths 129\n" ∷ bytes "paths 0\n" ∷ bytes "paths 99999\n" ∷ bytes "paths 100000\n" ∷ bytes "Paths 1\n" ∷ bytes "paths 1" ∷ [] ∷ [])
    ∷ answers_to (pair "guards 2000\n" ∷ pair "guards 2001\n" ∷ pair "guards 1\nB A 32\n" ∷ pair "guards 1\nB A 33\n" ∷ pair "guards 1\nB A 255\n" ∷ pair "" ∷ [])
    ∷ answers_to (pair "guards 0\nstarts 2\nA 16384\nB 1\n" ∷ pair "guards 0\nstarts 2\nA 1\nB 16385\n" ∷ pair "guards 0\nstarts 2\nA 0\nB 1\n" ∷ pair "guards 0\nstarts 1\nA 1\n" ∷ pair "guards 0\nstarts 2\nA 1\nB 1\n\n" ∷ pair "guards 0\nstarts 2\nA 1\n" ∷ pair "guards 0\nStarts 2\n" ∷ [])
    ∷ answers_to (bytes "paths 2\n0123456A 1\n0123456B 1\nguards 0\n" ∷ bytes "paths 2\nA 1\nA 65\n" ∷ pair "guards 1\nA C 33\n" ∷ pair "guards 1\nC A 33\n" ∷ pair "guards 1\nB B 33\n" ∷ pair "guards 2\nA B 0\nB A 33\n" ∷ pair "guards 0\nstarts 2\nB 0\n" ∷ [])
    ∷ (cells_of (one "01234567 64") ++ cells_of (pair "guards 1\nB A 32\nstarts 2\nA 7\nB 16384\n"))
    ∷ (written_row (written 0 65 7 16384) ++ written_row (written 0 65 0 0))
    ∷ (written_row (written 0 65 0 7) ++ written_row (written 8 0 1 1) ++ written_row (written 2 65 1 1) ++ written_row (written 8 65 1 1))
    ∷ printed (bytes "paths 3\nA 1\n0A-----Z 2\n-0 3\nguards 3\n-0 0A-----Z 2\nA -0 0\n0A-----Z A 1\nstarts 3\nA 1\n0A-----Z 1\n-0 1\n")
    ∷ printed (bytes "paths 2\nA 1\nA 1\n")
    ∷ printed odd
    ∷ [])
    ≡ (0 ∷ 0 ∷ 0 ∷ 0 ∷ 0 ∷ 0 ∷ 0 ∷ 0 ∷ 0 ∷ 0 ∷ 0 ∷ 0
    ∷ 11 ∷ 2 ∷ 11 ∷ 2 ∷ 11 ∷ 2 ∷ 11 ∷ 2 ∷ 11 ∷ 2 ∷ 11 ∷ 2 ∷ 11 ∷ 2 ∷ 11 ∷ 2 ∷ [])
    ∷ (3 ∷ 2 ∷ 0 ∷ 0 ∷ 3 ∷ 2 ∷ 3 ∷ 2 ∷ 11 ∷ 2 ∷ 11 ∷ 2 ∷ 11 ∷ 2 ∷ 11 ∷ 2 ∷ 11 ∷ 2 ∷ 11 ∷ 2 ∷ [])
    ∷ (11 ∷ 2 ∷ 1 ∷ 1 ∷ 1 ∷ 1 ∷ 1 ∷ 1 ∷ 11 ∷ 1 ∷ 11 ∷ 1 ∷ 11 ∷ 1 ∷ 11 ∷ 1 ∷ [])
    ∷ (11 ∷ 5 ∷ 1 ∷ 4 ∷ 0 ∷ 0 ∷ 4 ∷ 5 ∷ 4 ∷ 5 ∷ 11 ∷ 4 ∷ [])
    ∷ (0 ∷ 0 ∷ 7 ∷ 7 ∷ 7 ∷ 6 ∷ 1 ∷ 5 ∷ 11 ∷ 8 ∷ 11 ∷ 7 ∷ 11 ∷ 5 ∷ [])
    ∷ (0 ∷ 0 ∷ 12 ∷ 3 ∷ 13 ∷ 5 ∷ 13 ∷ 5 ∷ 13 ∷ 5 ∷ 14 ∷ 6 ∷ 13 ∷ 6 ∷ [])
    ∷ (bytes "01234567" ++ cleared 9 0 ++ (64 ∷ 0 ∷ 0 ∷ 255 ∷ 255 ∷ 255 ∷ 255 ∷ 255 ∷ 255 ∷ 0 ∷ 0 ∷ 0 ∷ [])
    ++ bytes "A" ++ cleared 7 0 ++ bytes "B" ++ cleared 8 0 ++ (1 ∷ 64 ∷ 0 ∷ 255 ∷ 32 ∷ 255 ∷ 32 ∷ 255 ∷ 255 ∷ 7 ∷ 16384 ∷ 0 ∷ []))
    ∷ (0 ∷ 0 ∷ 54 ∷ pair "guards 1\nA B 32\nstarts 2\nA 7\nB 16384\n" ++ (7 ∷ 0 ∷ 0 ∷ 33 ∷ pair "guards 1\nA B 32\n") ++ (7 ∷ []))
    ∷ (7 ∷ 0 ∷ 0 ∷ 7 ∷ 11 ∷ 1 ∷ 0 ∷ 7 ∷ 11 ∷ 0 ∷ 0 ∷ 7 ∷ 12 ∷ 1 ∷ 0 ∷ 7 ∷ [])
    ∷ bytes "paths 3\nA 1\n0A-----Z 2\n-0 3\nguards 3\nA 0A-----Z 1\nA -0 0\n0A-----Z -0 2\nstarts 3\nA 4\n0A-----Z 6\n-0 1\n"
    ∷ bytes "refused 12 line 3\n"
    ∷ (odd ++ bytes "starts 9\nA 123\nB 1\nC 1\nD 92\nE 96\nF 209\nG 139\nH 104\nI 53\n")
    ∷ []
unfolding read_over answers_to cells_of one pair written written_row odd cleared first found first_row found_pair largest least sum highest placed reach lowest packed height picked choose arranged touches opposite marks is_high same_mark has_sides two_sided draw drawn_place swapped state_after tried round rounds improved then word is_digit is_label_byte run label is_plain value_from number spell numeral is_row find bytes_from put_row follow lines last_field count_line path_line guard_line path_means path_step guard_cell guard_means guard_step start_means start_step counted after ended last_part starts_part guards_part sheet_from label_of bad_label label_twice is_pair pairs has_plan join_from count_text path_text guard_text paths_text guards_text starts_text sheet_text refuse_if ◌or_else◌ scan square count_fault size_fault rounds_fault network_fault network_sizes lent_fault plan_sizes plan_fault label_sizes sheet_sizes write_fault unless refused_planned done_planned done_improved done_plan planning read_outcome reading writing refusal_text planned_text on_sheet printed
worked = refl
