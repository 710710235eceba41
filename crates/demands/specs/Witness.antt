-- What the calls answer for a few networks, by computation. Assumes nothing.
use Rattle.std.specs.Prelude.{ℕ, ◌≡◌, refl, List, [], ◌∷◌, replicate}
use Rattle.rules.specs.Tables.{at, cleared, Lent, lend, cleared_network}
use Rattle.rules.specs.Scan.{first, found, first_row, found_pair, largest, least, sum}
use Rattle.rules.specs.Plan.{net_of, highest, is_lower, short, too_close}
use Rattle.rules.specs.Packing.{placed, reach, lowest, packed, height}
use Rattle.rules.specs.Pressing.{picked, choose, arranged, pressed}
use Rattle.rules.specs.Reason.{is_below, holds_up, link, is_last, chain_of, chain, bottom, down}
use Rattle.rules.specs.Sides.{touches, opposite, marks, is_high, same_mark, has_sides, two_sided, low_side}
use Rattle.rules.specs.Planning.{draw, drawn_place, swapped, state_after, tried, round, rounds, improved}
use Rattle.rules.specs.Floor.{walk_length, least_order, shortest, floor, least_guard, coarse_floor}
use Rattle.rules.specs.Text.{bytes, then, word, is_digit, is_label_byte, run, label, is_plain, value_from, number, spell, numeral}
use Rattle.rules.specs.Sheet.{is_row, find, bytes_from, put_row, follow, lines, last_field, count_line, path_line, guard_line, path_means, path_step, guard_cell, guard_means, guard_step, start_means, start_step, counted, after, ended, last_part, starts_part, guards_part, sheet_from}
use Rattle.rules.specs.Writing.{label_of, bad_label, label_twice, is_pair, pairs, has_plan, join_from, count_text, path_text, guard_text, paths_text, guards_text, starts_text, sheet_text}
use Rattle.rules.specs.Numbers.{refuse_if, ◌or_else◌, scan, square, count_fault, size_fault, order_fault, start_fault, clash_fault, sides_fault, rounds_fault, list_fault, network_fault, network_sizes, lent_fault, plan_sizes, judge_fault, path_fault, why_fault, pack_fault, two_sides_fault, plan_fault, improve_fault, floor_fault, label_sizes, sheet_sizes, write_fault}
use Rattle.rules.specs.Calls.{unless, judging, refused_packed, done_packed, packing, refused_pressed, done_pressed, pressing, refused_why, done_why, explaining, siding, refused_planned, done_planned, done_improved, improving, done_plan, planning, flooring, read_outcome, reading, writing}
use Rattle.rules.specs.Program.{refusal_text, planned_text, printed}
use Rattle.rules.specs.Better.{packed_answer, comparing}
use Rattle.rules.specs.Figures.{with_guard, widths_t, guards_t, net_t, three}

-- two paths in conflict, which have two sides; one path, its sheet and its label
unfoldable pub net_two : Lent
net_two = lend (three 2 2 0) (with_guard 0 1 1 (cleared 16384 255))

unfoldable pub net_one : Lent
net_one = lend (three 1 0 0) (cleared 16384 255)

unfoldable pub one_path : List ℕ
one_path = bytes "paths 1\nA 1\nguards 0\n"

unfoldable pub label_a : List ℕ
label_a = 65 ∷ replicate 1023 0

-- each call answers 0 for something, and the better of two hands a part of the second back
pub answers :
    ((judging 3 net_t (three 1 4 10)).number
    ∷ (packing 3 net_t (three 0 1 2) (three 0 0 0)).answer.number
    ∷ (pressing 3 net_t (three 20 10 30)).answer.number
    ∷ (siding 2 net_two (three 0 0 0)).answer.number
    ∷ (planning 3 net_t (three 0 0 0) (three 0 0 0) 1 0).answer.number
    ∷ (improving 3 net_t (three 2 1 0) (three 0 0 0) 1 1).answer.number
    ∷ (flooring 3 net_t (0 ∷ 1 ∷ 2 ∷ [])).number
    ∷ (reading one_path (cleared 1024 0) cleared_network (cleared 128 0)).answer.number
    ∷ (writing 1 label_a net_one (three 0 0 0) (cleared 100 0)).answer.number
    ∷ (network_sizes net_t).number
    ∷ (network_fault 3 net_t).number
    ∷ (packing 3 net_t (three 1 0 2) (three 0 0 0)).answer.number
    ∷ (improving 3 net_t (three 2 1 0) (three 0 0 0) 1 2).answer.number
    ∷ (explaining 3 net_t (three 1 4 10) 2 (cleared 128 0)).answer.number
    ∷ (explaining 3 net_t (three 20 10 30) 1 (cleared 128 0)).answer.number
    ∷ [])
    ≡ 0 ∷ 0 ∷ 0 ∷ 0 ∷ 0 ∷ 0 ∷ 0 ∷ 0 ∷ 0 ∷ 0 ∷ 0 ∷ 0 ∷ 0 ∷ 0 ∷ 0 ∷ []
unfolding net_two net_one one_path label_a with_guard widths_t guards_t net_t three cleared first found first_row found_pair largest least sum highest is_lower short too_close placed reach lowest packed height picked choose arranged pressed touches opposite marks is_high same_mark has_sides two_sided low_side draw drawn_place swapped state_after tried round rounds improved walk_length least_order shortest floor refuse_if ◌or_else◌ scan square count_fault size_fault order_fault start_fault clash_fault sides_fault rounds_fault list_fault network_fault network_sizes lent_fault plan_sizes judge_fault path_fault why_fault pack_fault two_sides_fault plan_fault improve_fault floor_fault unless judging refused_packed done_packed packing refused_pressed done_pressed pressing is_below holds_up link is_last chain_of chain bottom down refused_why done_why explaining siding refused_planned done_planned done_improved improving flooring then word is_digit is_label_byte run label is_plain value_from number spell numeral is_row find bytes_from put_row follow lines last_field count_line path_line guard_line path_means path_step guard_cell guard_means guard_step start_means start_step counted after ended last_part starts_part guards_part sheet_from label_of bad_label label_twice is_pair pairs has_plan join_from count_text path_text guard_text paths_text guards_text starts_text sheet_text label_sizes sheet_sizes write_fault done_plan planning read_outcome reading writing refusal_text planned_text printed comparing packed_answer
answers = refl

pub better_t : comparing 3 net_t (three 0 1 2) (three 1 0 2) ≡ 2
unfolding with_guard widths_t guards_t net_t three cleared first found first_row found_pair largest least sum highest is_lower short too_close placed reach lowest packed height picked choose arranged pressed touches opposite marks is_high same_mark has_sides two_sided low_side draw drawn_place swapped state_after tried round rounds improved walk_length least_order shortest floor refuse_if ◌or_else◌ scan square count_fault size_fault order_fault start_fault clash_fault sides_fault rounds_fault list_fault network_fault network_sizes lent_fault plan_sizes judge_fault path_fault why_fault pack_fault two_sides_fault plan_fault improve_fault floor_fault unless judging refused_packed done_packed packing refused_pressed done_pressed pressing is_below holds_up link is_last chain_of chain bottom down refused_why done_why explaining siding refused_planned done_planned done_improved improving flooring then word is_digit is_label_byte run label is_plain value_from number spell numeral is_row find bytes_from put_row follow lines last_field count_line path_line guard_line path_means path_step guard_cell guard_means guard_step start_means start_step counted after ended last_part starts_part guards_part sheet_from label_of bad_label label_twice is_pair pairs has_plan join_from count_text path_text guard_text paths_text guards_text starts_text sheet_text label_sizes sheet_sizes write_fault done_plan planning read_outcome reading writing refusal_text planned_text printed comparing packed_answer
better_t = refl

-- two orders of T pack to different highest slots and different starts, a plan of T is pressed to another,
-- the second round improves what the first has improved, two plans of T are short of different numbers of slots,
-- a chain has three paths, a path can come down by nine slots, and the floor of T is one above the coarse one
pub differs :
    ((packing 3 net_t (three 0 1 2) (three 0 0 0)).answer.highest
    ∷ (packing 3 net_t (three 1 0 2) (three 0 0 0)).answer.highest
    ∷ at (packing 3 net_t (three 0 1 2) (three 0 0 0)).tables 0
    ∷ at (packing 3 net_t (three 1 0 2) (three 0 0 0)).tables 0
    ∷ at (pressing 3 net_t (three 20 10 30)).tables 0
    ∷ (improving 3 net_t (three 2 1 0) (three 0 0 0) 1 1).answer.highest
    ∷ (improving 3 net_t (three 2 1 0) (three 0 0 0) 1 2).answer.highest
    ∷ (judging 3 net_t (three 5 5 20)).number
    ∷ (judging 3 net_t (three 5 5 20)).short
    ∷ (judging 3 net_t (three 9 5 20)).number
    ∷ (judging 3 net_t (three 9 5 20)).short
    ∷ (explaining 3 net_t (three 1 4 10) 2 (cleared 128 0)).answer.length
    ∷ (explaining 3 net_t (three 20 10 30) 1 (cleared 128 0)).answer.down
    ∷ (flooring 3 net_t (0 ∷ 1 ∷ 2 ∷ [])).floor
    ∷ coarse_floor (net_of net_t) (at (0 ∷ 1 ∷ 2 ∷ [])) 3
    ∷ [])
    ≡ 12 ∷ 10 ∷ 1 ∷ 6 ∷ 6 ∷ 11 ∷ 10 ∷ 8 ∷ 3 ∷ 8 ∷ 1 ∷ 3 ∷ 9 ∷ 10 ∷ 9 ∷ []
unfolding with_guard widths_t guards_t net_t three cleared first found first_row found_pair largest least sum highest is_lower short too_close placed reach lowest packed height picked choose arranged pressed touches opposite marks is_high same_mark has_sides two_sided low_side draw drawn_place swapped state_after tried round rounds improved walk_length least_order shortest floor least_guard coarse_floor refuse_if ◌or_else◌ scan square count_fault size_fault order_fault start_fault clash_fault sides_fault rounds_fault list_fault network_fault network_sizes lent_fault plan_sizes judge_fault path_fault why_fault pack_fault two_sides_fault plan_fault improve_fault floor_fault unless judging refused_packed done_packed packing refused_pressed done_pressed pressing is_below holds_up link is_last chain_of chain bottom down refused_why done_why explaining siding refused_planned done_planned done_improved improving flooring then word is_digit is_label_byte run label is_plain value_from number spell numeral is_row find bytes_from put_row follow lines last_field count_line path_line guard_line path_means path_step guard_cell guard_means guard_step start_means start_step counted after ended last_part starts_part guards_part sheet_from label_of bad_label label_twice is_pair pairs has_plan join_from count_text path_text guard_text paths_text guards_text starts_text sheet_text label_sizes sheet_sizes write_fault done_plan planning read_outcome reading writing refusal_text planned_text printed comparing packed_answer
differs = refl

-- T's widths and guards: added, and one by one
pub cells_t : (sum (λ i. (net_of net_t).width (at (0 ∷ 1 ∷ 2 ∷ []) i)) 3 ∷ (net_of net_t).guard 0 1 ∷ (net_of net_t).guard 1 2 ∷ (net_of net_t).guard 0 2 ∷ (net_of net_t).guard 2 1 ∷ (net_of net_t).guard 2 0 ∷ (net_of net_t).guard 1 0 ∷ (net_of net_t).width 0 ∷ []) ≡ 9 ∷ 1 ∷ 2 ∷ 0 ∷ 2 ∷ 0 ∷ 1 ∷ 2 ∷ []
unfolding with_guard widths_t guards_t net_t cleared sum
cells_t = refl
