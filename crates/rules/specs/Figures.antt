-- RULES 20: P1 to P10 as one table under one statement, and the example of the plan program, each computed
-- from the definitions over tables of full size. Assumes nothing.
use Rattle.std.specs.Prelude.{ℕ, ◌≡◌, refl, List, [], ◌∷◌, ◌++◌, take, set, replicate}
use Rattle.rules.specs.declared.Packed.{Packed}
use Rattle.rules.specs.declared.Pressed.{Pressed}
use Rattle.rules.specs.declared.Planned.{Planned}
use Rattle.rules.specs.declared.Fault.{Fault}
use Rattle.rules.specs.Tables.{at, cell, cleared, Lent, lend}
use Rattle.rules.specs.Scan.{first, found, first_row, found_pair, largest, least, sum}
use Rattle.rules.specs.Plan.{net_of, highest, is_lower, short, too_close}
use Rattle.rules.specs.Packing.{placed, reach, lowest, packed, height}
use Rattle.rules.specs.Pressing.{picked, choose, arranged, pressed}
use Rattle.rules.specs.Sides.{touches, opposite, marks, is_high, same_mark, has_sides, two_sided, low_side}
use Rattle.rules.specs.Planning.{greedy, draw, drawn_place, swapped, state_after, tried, round, rounds, improved}
use Rattle.rules.specs.Floor.{walk_length, least_order, shortest, floor, least_guard, coarse_floor}
use Rattle.rules.specs.Text.{bytes, then, word, is_digit, is_label_byte, run, label, is_plain, value_from, number, spell, numeral}
use Rattle.rules.specs.Sheet.{is_row, find, bytes_from, put_row, follow, lines, last_field, count_line, path_line, guard_line, path_means, path_step, guard_cell, guard_means, guard_step, start_means, start_step, counted, after, ended, last_part, starts_part, guards_part, sheet_from}
use Rattle.rules.specs.Writing.{label_of, bad_label, label_twice, is_pair, pairs, has_plan, join_from, count_text, path_text, guard_text, paths_text, guards_text, starts_text, sheet_text}
use Rattle.rules.specs.Numbers.{refuse_if, ◌or_else◌, scan, square, count_fault, size_fault, order_fault, start_fault, clash_fault, sides_fault, rounds_fault, list_fault, network_fault, network_sizes, lent_fault, plan_sizes, judge_fault, pack_fault, two_sides_fault, plan_fault, improve_fault, floor_fault, label_sizes, sheet_sizes, write_fault}
use Rattle.rules.specs.Calls.{Left, unless, judging, refused_packed, done_packed, packing, refused_pressed, done_pressed, pressing, siding, refused_planned, done_planned, done_improved, improving, done_plan, planning, flooring, read_outcome, reading, writing}
use Rattle.rules.specs.Program.{refusal_text, planned_text, on_sheet, printed}

-- a guard table with the guard g of i and j, in both cells
unfoldable pub with_guard : ℕ → ℕ → ℕ → List ℕ → List ℕ
with_guard i j g guards = set (set guards (cell i j) g) (cell j i) g

-- network T of RULES 20
unfoldable pub widths_t : List ℕ
widths_t = 2 ∷ 4 ∷ 3 ∷ replicate 125 0

unfoldable pub guards_t : List ℕ
guards_t = with_guard 0 1 1 (with_guard 1 2 2 (with_guard 0 2 0 (cleared 16384 255)))

unfoldable pub net_t : Lent
net_t = lend widths_t guards_t

-- three cells, and the rest of a table of 128
unfoldable pub three : ℕ → ℕ → ℕ → List ℕ
three a b c = a ∷ b ∷ c ∷ replicate 125 0

-- what is compared of an answer: its numbers, and the first three cells of what it wrote
packed_row : Left Packed (List ℕ) → List ℕ
packed_row r = r.answer.number ∷ r.answer.place ∷ r.answer.highest ∷ take 3 r.tables

pressed_row : Left Pressed (List ℕ) → List ℕ
pressed_row r = r.answer.number ∷ r.answer.place ∷ r.answer.short ∷ r.answer.highest ∷ take 3 r.tables

planned_row : Left Planned (List ℕ × List ℕ) → List ℕ
planned_row r = r.answer.number ∷ r.answer.place ∷ r.answer.highest ∷ r.answer.kept ∷ take 3 r.tables.0 ++ take 3 r.tables.1

judged_row : Fault → List ℕ
judged_row r = r.number ∷ r.place ∷ r.short ∷ []

pack_t : List ℕ → List ℕ
pack_t order = packed_row (packing 3 net_t order (three 0 0 0))

-- the greedy order of T (RULES 8)
greedy_t : List ℕ
greedy_t = greedy (lowest (net_of net_t)) 3 (three 0 0 0) (three 0 0 0) 3

-- P8: two paths of width 2 with guard 1, judged
judge_two : ℕ → ℕ → List ℕ
judge_two a b = judged_row (judging 2 (lend (three 2 2 0) (with_guard 0 1 1 (cleared 16384 255))) (three a b 0))

-- two draws from a seed, and the places that they take among n paths
draws : ℕ → ℕ → List ℕ
draws n seed = draw seed ∷ draw (draw seed) ∷ drawn_place n (draw seed) ∷ drawn_place n (draw (draw seed)) ∷ []

figures :
    (pack_t (three 0 1 2)
    ∷ pack_t (three 2 1 0)
    ∷ pack_t (three 1 0 2)
    ∷ (take 3 greedy_t ++ pack_t greedy_t)
    ∷ pressed_row (pressing 3 net_t (three 20 10 30))
    ∷ ((siding 3 net_t (three 0 0 0)).answer.number ∷ [])
    ∷ (draws 3 1 ++ planned_row (improving 3 net_t (three 0 2 1) (three 0 0 0) 1 1))
    ∷ (judge_two 1 4 ++ judge_two 1 3)
    ∷ draws 4 0
    ∷ ((flooring 3 net_t (0 ∷ 1 ∷ 2 ∷ [])).floor ∷ [])
    ∷ [])
    ≡ (0 ∷ 0 ∷ 12 ∷ 1 ∷ 4 ∷ 10 ∷ [])
    ∷ (0 ∷ 0 ∷ 12 ∷ 11 ∷ 6 ∷ 1 ∷ [])
    ∷ (0 ∷ 0 ∷ 10 ∷ 6 ∷ 1 ∷ 8 ∷ [])
    ∷ (0 ∷ 2 ∷ 1 ∷ 0 ∷ 0 ∷ 11 ∷ 1 ∷ 8 ∷ 3 ∷ [])
    ∷ (0 ∷ 0 ∷ 0 ∷ 10 ∷ 6 ∷ 1 ∷ 8 ∷ [])
    ∷ (9 ∷ [])
    ∷ (1015568748 ∷ 1586005467 ∷ 0 ∷ 1 ∷ 0 ∷ 0 ∷ 10 ∷ 1 ∷ 2 ∷ 0 ∷ 1 ∷ 4 ∷ 7 ∷ 1 ∷ [])
    ∷ (0 ∷ 0 ∷ 0 ∷ 8 ∷ 1 ∷ 1 ∷ [])
    ∷ (0x3C6EF35F ∷ 0x47502932 ∷ 0 ∷ 1 ∷ [])
    ∷ (10 ∷ [])
    ∷ []
unfolding with_guard widths_t guards_t net_t three packed_row pressed_row planned_row judged_row pack_t greedy_t judge_two draws cleared first found first_row found_pair largest least sum highest is_lower short too_close placed reach lowest packed height picked choose arranged pressed touches opposite marks is_high same_mark has_sides two_sided low_side draw drawn_place swapped state_after tried round rounds improved walk_length least_order shortest floor refuse_if ◌or_else◌ scan square count_fault size_fault order_fault start_fault clash_fault sides_fault rounds_fault list_fault network_fault network_sizes lent_fault plan_sizes judge_fault pack_fault two_sides_fault plan_fault improve_fault floor_fault unless judging refused_packed done_packed packing refused_pressed done_pressed pressing siding refused_planned done_planned done_improved improving flooring
figures = refl

-- how many slots short plans of T are, judged: the two that start together, where the lower number is the
-- lower path; the path of the lower number above the other; a guard of 0; two that start together in another
-- row; and 7, which comes first and says none. Pressed, a plan of T stays as it was
shorts :
    (judged_row (judging 3 net_t (three 5 5 20))
    ∷ judged_row (judging 3 net_t (three 9 5 20))
    ∷ judged_row (judging 3 net_t (three 1 20 2))
    ∷ judged_row (judging 3 net_t (three 1 10 10))
    ∷ judged_row (judging 3 net_t (three 5 5 0))
    ∷ pressed_row (pressing 3 net_t (three 5 5 20))
    ∷ [])
    ≡ (8 ∷ 1 ∷ 3 ∷ []) ∷ (8 ∷ 1 ∷ 1 ∷ []) ∷ (8 ∷ 2 ∷ 1 ∷ []) ∷ (8 ∷ 130 ∷ 6 ∷ []) ∷ (7 ∷ 2 ∷ 0 ∷ [])
    ∷ (8 ∷ 1 ∷ 3 ∷ 0 ∷ 5 ∷ 5 ∷ 20 ∷ []) ∷ []
unfolding with_guard widths_t guards_t net_t three pressed_row judged_row cleared first found first_row found_pair largest highest is_lower short too_close placed reach lowest packed picked choose arranged pressed refuse_if ◌or_else◌ scan square count_fault size_fault start_fault clash_fault network_fault network_sizes lent_fault judge_fault unless judging refused_pressed done_pressed pressing
shorts = refl

-- four paths of width 1: the guard of 0 and any other is 0, that of any other two 5
unfoldable pub net_star : Lent
net_star = lend (1 ∷ 1 ∷ 1 ∷ 1 ∷ replicate 124 0) (with_guard 0 1 0 (with_guard 0 2 0 (with_guard 0 3 0 (with_guard 1 2 5 (with_guard 1 3 5 (with_guard 2 3 5 (cleared 16384 255)))))))

-- four paths, all in conflict: a walk through the last three has no step of 0
unfoldable pub net_mixed : Lent
net_mixed = lend (3 ∷ 3 ∷ 1 ∷ 1 ∷ replicate 124 0) (with_guard 0 1 1 (with_guard 0 2 0 (with_guard 0 3 3 (with_guard 1 2 1 (with_guard 1 3 2 (with_guard 2 3 3 (cleared 16384 255)))))))

-- floors: the paths of T in other orders, two of them and one alone; of the star, where two that are not 0
-- have to be neighbours; of three of the mixed ones. After each network the coarse floor of the same paths, and
-- at last the least guard of one path
floors :
    ((flooring 3 net_t (1 ∷ 2 ∷ 0 ∷ [])).floor
    ∷ (flooring 3 net_t (2 ∷ 0 ∷ 1 ∷ [])).floor
    ∷ (flooring 3 net_t (2 ∷ 1 ∷ [])).floor
    ∷ (flooring 3 net_t (1 ∷ [])).floor
    ∷ coarse_floor (net_of net_t) (at (0 ∷ 1 ∷ 2 ∷ [])) 3
    ∷ (flooring 4 net_star (0 ∷ 1 ∷ 2 ∷ 3 ∷ [])).floor
    ∷ coarse_floor (net_of net_star) (at (0 ∷ 1 ∷ 2 ∷ 3 ∷ [])) 4
    ∷ (flooring 4 net_mixed (3 ∷ 2 ∷ 1 ∷ [])).floor
    ∷ coarse_floor (net_of net_mixed) (at (3 ∷ 2 ∷ 1 ∷ [])) 3
    ∷ least_guard (net_of net_t) (at (1 ∷ [])) 1
    ∷ [])
    ≡ 10 ∷ 10 ∷ 9 ∷ 4 ∷ 9 ∷ 9 ∷ 4 ∷ 8 ∷ 7 ∷ 255 ∷ []
unfolding with_guard widths_t guards_t net_t net_star net_mixed cleared first found first_row found_pair least sum placed walk_length least_order shortest floor least_guard coarse_floor refuse_if ◌or_else◌ scan square count_fault size_fault list_fault network_fault network_sizes lent_fault floor_fault unless flooring
floors = refl

-- the worked example of the plan program, and a sheet that is refused
worked : List ℕ
worked = bytes "paths 3\n0417 2\n417 4\nA9 3\nguards 2\n0417 417 1\n417 A9 2\n"

program : (printed worked ∷ printed (bytes "paths 1\nA 1\nguards 01\n") ∷ []) ≡ (worked ++ bytes "starts 3\n0417 1\n417 6\nA9 1\n") ∷ bytes "refused 11 line 3\n" ∷ []
unfolding worked cleared first found first_row found_pair largest least sum highest placed reach lowest packed height picked choose arranged touches opposite marks is_high same_mark has_sides two_sided draw drawn_place swapped state_after tried round rounds improved then word is_digit is_label_byte run label is_plain value_from number spell numeral is_row find bytes_from put_row follow lines last_field count_line path_line guard_line path_means path_step guard_cell guard_means guard_step start_means start_step counted after ended last_part starts_part guards_part sheet_from label_of bad_label label_twice is_pair pairs has_plan join_from count_text path_text guard_text paths_text guards_text starts_text sheet_text refuse_if ◌or_else◌ scan square count_fault size_fault rounds_fault network_fault network_sizes lent_fault plan_sizes plan_fault label_sizes sheet_sizes write_fault unless refused_planned done_planned done_improved done_plan planning read_outcome reading writing refusal_text planned_text on_sheet printed
program = refl
