-- RULES 25 and 26: worked figures of the call `why` and of the ask program, computed from the definitions over
-- tables of full size. Assumes nothing.
use Rattle.std.specs.Prelude.{ℕ, ◌≡◌, refl, List, [], ◌∷◌, ◌++◌, take, replicate}
use Prim.Native.String.{String}
use Rattle.rules.specs.declared.Why.{Why}
use Rattle.rules.specs.Tables.{cleared, Lent, lend}
use Rattle.rules.specs.Scan.{first, found, first_row, found_pair, largest, sum}
use Rattle.rules.specs.Plan.{highest, is_lower, short, too_close}
use Rattle.rules.specs.Reason.{is_below, holds_up, link, is_last, chain_of, chain, bottom, down}
use Rattle.rules.specs.Text.{bytes, then, word, is_digit, is_label_byte, run, label, is_plain, value_from, number, spell, numeral, below_zero, signed, signed_numeral}
use Rattle.rules.specs.Sheet.{is_row, find, bytes_from, put_row, follow, lines, last_field, count_line, path_line, guard_line, path_means, path_step, guard_cell, guard_means, guard_step, start_means, start_step, counted, after, ended, last_part, starts_part, guards_part, sheet_from}
use Rattle.rules.specs.Writing.{label_of, bad_label, label_twice, join_from, count_text}
use Rattle.rules.specs.Grid.{grid_number, order_line_text, order_text}
use Rattle.rules.specs.Numbers.{refuse_if, ◌or_else◌, scan, square, count_fault, size_fault, path_fault, start_fault, clash_fault, network_fault, network_sizes, lent_fault, plan_sizes, judge_fault, why_fault, label_sizes, sheet_sizes, anchor_fault, order_read_fault, order_write_fault}
use Rattle.rules.specs.Calls.{Left, unless, judging, refused_why, done_why, explaining, read_outcome, reading, order_writing}
use Rattle.rules.specs.Program.{refusal_text, on_sheet}
use Rattle.rules.specs.Asking.{slots_text, block_text, stands_text, link_text, end_text, reason_text, valid_text, clash_text, no_plan_text, unknown_text, refused_text, why_text, judge_text, ordered_text, is_whole, no_label_text, bad_label_text, no_anchor_text, bad_anchor_text, words_text, order_asked, with_one, asked}
use Rattle.rules.specs.Figures.{with_guard, widths_t, guards_t, net_t, three}

-- six paths. 0 and 1 both hold 2 up, 2 and 3 both hold 4 up, and 5 stands on 4
unfoldable net_six : Lent
net_six =
    lend (2 ∷ 2 ∷ 3 ∷ 1 ∷ 4 ∷ 5 ∷ replicate 122 0)
    (with_guard 0 2 1 (with_guard 1 2 1 (with_guard 2 3 0 (with_guard 2 4 2 (with_guard 3 4 1 (with_guard 4 5 32 (with_guard 0 5 7 (cleared 16384 255))))))))

-- its starts: all but those of 4 and 5 stay
unfoldable six : ℕ → ℕ → List ℕ
six a b = 1 ∷ 1 ∷ 4 ∷ 7 ∷ a ∷ b ∷ replicate 122 0

-- what is compared of an answer: its numbers, and the first cells of the table, which held 99
why_row : Left Why (List ℕ) → List ℕ
why_row r = r.answer.number ∷ r.answer.place ∷ r.answer.short ∷ r.answer.length ∷ r.answer.down ∷ take 4 r.tables

why_six : ℕ → ℕ → ℕ → List ℕ
why_six a b path = why_row (explaining 6 net_six (six a b) path (cleared 128 99))

why_t : ℕ → List ℕ → List ℕ
why_t path table = why_row (explaining 3 net_t (three 1 4 10) path table)

-- a chain of all paths of T (P1); one path in slot 1; the links of the lowest number; a free end, by 3 slots
-- and by one, alone and under a link; a path that can come down to slot 1; an upper path that is not asked;
-- and the refusals: no such path, a clash first, the size of the chain's table
reasons :
    (why_t 2 (cleared 128 99)
    ∷ why_t 0 (cleared 128 99)
    ∷ why_six 9 45 4
    ∷ why_six 9 45 5
    ∷ why_six 12 48 4
    ∷ why_six 10 46 5
    ∷ why_six 9 46 5
    ∷ why_row (explaining 3 net_t (three 20 10 30) 1 (cleared 128 99))
    ∷ why_t 3 (cleared 128 99)
    ∷ why_row (explaining 3 net_t (three 5 5 20) 3 (cleared 128 99))
    ∷ why_row (explaining 3 net_t (three 0 4 10) 3 (cleared 128 99))
    ∷ why_t 3 (cleared 127 99)
    ∷ [])
    ≡ (0 ∷ 0 ∷ 0 ∷ 3 ∷ 0 ∷ 2 ∷ 1 ∷ 0 ∷ 99 ∷ [])
    ∷ (0 ∷ 0 ∷ 0 ∷ 1 ∷ 0 ∷ 0 ∷ 99 ∷ 99 ∷ 99 ∷ [])
    ∷ (0 ∷ 0 ∷ 0 ∷ 3 ∷ 0 ∷ 4 ∷ 2 ∷ 0 ∷ 99 ∷ [])
    ∷ (0 ∷ 0 ∷ 0 ∷ 4 ∷ 0 ∷ 5 ∷ 4 ∷ 2 ∷ 0 ∷ [])
    ∷ (0 ∷ 0 ∷ 0 ∷ 1 ∷ 3 ∷ 4 ∷ 99 ∷ 99 ∷ 99 ∷ [])
    ∷ (0 ∷ 0 ∷ 0 ∷ 2 ∷ 1 ∷ 5 ∷ 4 ∷ 99 ∷ 99 ∷ [])
    ∷ (0 ∷ 0 ∷ 0 ∷ 1 ∷ 1 ∷ 5 ∷ 99 ∷ 99 ∷ 99 ∷ [])
    ∷ (0 ∷ 0 ∷ 0 ∷ 1 ∷ 9 ∷ 1 ∷ 99 ∷ 99 ∷ 99 ∷ [])
    ∷ (6 ∷ 0 ∷ 0 ∷ 0 ∷ 0 ∷ 99 ∷ 99 ∷ 99 ∷ 99 ∷ [])
    ∷ (8 ∷ 1 ∷ 3 ∷ 0 ∷ 0 ∷ 99 ∷ 99 ∷ 99 ∷ 99 ∷ [])
    ∷ (7 ∷ 0 ∷ 0 ∷ 0 ∷ 0 ∷ 99 ∷ 99 ∷ 99 ∷ 99 ∷ [])
    ∷ (2 ∷ 0 ∷ 0 ∷ 0 ∷ 0 ∷ 99 ∷ 99 ∷ 99 ∷ 99 ∷ [])
    ∷ []
unfolding with_guard widths_t guards_t net_t three net_six six why_row why_six why_t cleared first found first_row found_pair largest is_lower short too_close is_below holds_up link is_last chain_of chain bottom down refuse_if ◌or_else◌ scan square count_fault size_fault path_fault start_fault clash_fault network_fault network_sizes lent_fault plan_sizes why_fault unless refused_why done_why explaining
reasons = refl

-- the sheet of the plan program's example, but for A9, which has one slot here; with starts
sheet : String → List ℕ
sheet starts = bytes "paths 3\n0417 2\n417 4\nA9 1\nguards 2\n0417 417 1\n417 A9 2\n" ++ bytes starts

ask : ℕ → String → String → String → List ℕ
ask count one two starts = asked count (bytes one) (bytes two) (sheet starts)

planned : String
planned = "starts 3\n0417 1\n417 4\nA9 10\n"

spoken :
    (ask 2 "why" "417" planned
    ∷ ask 2 "why" "0417" planned
    ∷ ask 2 "why" "A9" planned
    ∷ ask 2 "why" "A9" "starts 3\n0417 1\n417 5\nA9 11\n"
    ∷ ask 2 "why" "A9" "starts 3\n0417 1\n417 4\nA9 12\n"
    ∷ ask 1 "judge" "" planned
    ∷ ask 1 "judge" "" "starts 3\n0417 1\n417 3\nA9 10\n"
    ∷ ask 2 "why" "A9" "starts 3\n0417 2\n417 16\nA9 15\n"
    ∷ ask 2 "why" "00417" planned
    ∷ ask 2 "why" "00417" ""
    ∷ ask 1 "judge" "" ""
    ∷ ask 2 "why" "417" "starts 2\n"
    ∷ ask 1 "judge" "" "starts 3\n0417 0\n"
    ∷ ask 1 "why" "" planned
    ∷ ask 3 "why" "417" planned
    ∷ ask 2 "why" "0417-0417" planned
    ∷ ask 2 "why" "a9" planned
    ∷ ask 2 "why" "A9 " planned
    ∷ ask 2 "why" "" planned
    ∷ ask 2 "judge" "417" planned
    ∷ ask 1 "judged" "" planned
    ∷ ask 2 "wh" "417" planned
    ∷ ask 0 "" "" planned
    ∷ ask 2 "whys" "417" planned
    ∷ ask 1 "why" "" "starts 2\n"
    ∷ ask 2 "why" "a9" "starts 2\n"
    ∷ ask 1 "judged" "" "starts 2\n"
    ∷ ask 2 "order" "-6" planned
    ∷ ask 2 "order" "1024" planned
    ∷ ask 2 "order" "-1024" planned
    ∷ ask 2 "order" "0" ""
    ∷ ask 2 "order" "0" "starts 3\n0417 1\n417 3\nA9 10\n"
    ∷ ask 2 "order" "0" "starts 2\n"
    ∷ ask 1 "order" "" "starts 2\n"
    ∷ ask 2 "order" "1025" "starts 2\n"
    ∷ ask 2 "order" "-1025" planned
    ∷ ask 2 "order" "-0" planned
    ∷ ask 2 "order" "+1" planned
    ∷ ask 2 "order" "5 " planned
    ∷ ask 2 "order" "" planned
    ∷ ask 3 "order" "0" planned
    ∷ ask 2 "orders" "0" planned
    ∷ [])
    ≡ bytes "417 has slots 4 to 7.\nBelow it 0417 has slots 1 to 2, and the guard is 1.\n0417 is in slot 1, so 417 cannot come down in this order.\n"
    ∷ bytes "0417 has slots 1 to 2.\n0417 is in slot 1 and cannot come down.\n"
    ∷ bytes "A9 has slot 10.\nBelow it 417 has slots 4 to 7, and the guard is 2.\nBelow it 0417 has slots 1 to 2, and the guard is 1.\n0417 is in slot 1, so A9 cannot come down in this order.\n"
    ∷ bytes "A9 has slot 11.\nBelow it 417 has slots 5 to 8, and the guard is 2.\n417 can come down 1 slot.\n"
    ∷ bytes "A9 has slot 12.\nA9 can come down 2 slots.\n"
    ∷ bytes "The plan is valid. Its highest slot is 10.\n"
    ∷ bytes "0417 and 417 clash: 1 slot short.\n"
    ∷ bytes "417 and A9 clash: 2 slots short.\n"
    ∷ bytes "No path is called 00417.\n"
    ∷ bytes "The sheet has no plan.\n"
    ∷ bytes "The sheet has no plan.\n"
    ∷ bytes "refused 1 line 8\n"
    ∷ bytes "refused 7 line 9\n"
    ∷ bytes "Say which path: why LABEL.\n"
    ∷ bytes "The words are why, judge and order.\n"
    ∷ bytes "A label has 1 to 8 capitals, digits or hyphens.\n"
    ∷ bytes "A label has 1 to 8 capitals, digits or hyphens.\n"
    ∷ bytes "A label has 1 to 8 capitals, digits or hyphens.\n"
    ∷ bytes "A label has 1 to 8 capitals, digits or hyphens.\n"
    ∷ bytes "The words are why, judge and order.\n"
    ∷ bytes "The words are why, judge and order.\n"
    ∷ bytes "The words are why, judge and order.\n"
    ∷ bytes "The words are why, judge and order.\n"
    ∷ bytes "The words are why, judge and order.\n"
    ∷ bytes "Say which path: why LABEL.\n"
    ∷ bytes "A label has 1 to 8 capitals, digits or hyphens.\n"
    ∷ bytes "The words are why, judge and order.\n"
    ∷ bytes "order 3\n0417 -4 2\n417 4 4\nA9 13 1\n"
    ∷ bytes "order 3\n0417 1026 2\n417 1034 4\nA9 1043 1\n"
    ∷ bytes "order 3\n0417 -1022 2\n417 -1014 4\nA9 -1005 1\n"
    ∷ bytes "The sheet has no plan.\n"
    ∷ bytes "0417 and 417 clash: 1 slot short.\n"
    ∷ bytes "refused 1 line 8\n"
    ∷ bytes "Say the anchor: order ANCHOR.\n"
    ∷ bytes "An anchor is a whole number, -1024 to 1024.\n"
    ∷ bytes "An anchor is a whole number, -1024 to 1024.\n"
    ∷ bytes "An anchor is a whole number, -1024 to 1024.\n"
    ∷ bytes "An anchor is a whole number, -1024 to 1024.\n"
    ∷ bytes "An anchor is a whole number, -1024 to 1024.\n"
    ∷ bytes "An anchor is a whole number, -1024 to 1024.\n"
    ∷ bytes "The words are why, judge and order.\n"
    ∷ bytes "The words are why, judge and order.\n"
    ∷ []
unfolding sheet ask planned cleared first found first_row found_pair largest sum highest is_lower short too_close is_below holds_up link is_last chain_of chain bottom down then word is_digit is_label_byte run label is_plain value_from number spell numeral below_zero signed signed_numeral is_row find bytes_from put_row follow lines last_field count_line path_line guard_line path_means path_step guard_cell guard_means guard_step start_means start_step counted after ended last_part starts_part guards_part sheet_from label_of bad_label label_twice join_from count_text grid_number order_line_text order_text refuse_if ◌or_else◌ scan square count_fault size_fault path_fault start_fault clash_fault network_fault network_sizes lent_fault plan_sizes judge_fault why_fault label_sizes sheet_sizes anchor_fault order_read_fault order_write_fault unless judging refused_why done_why explaining read_outcome reading order_writing refusal_text on_sheet slots_text block_text stands_text link_text end_text reason_text valid_text clash_text no_plan_text unknown_text refused_text why_text judge_text ordered_text is_whole no_label_text bad_label_text no_anchor_text bad_anchor_text words_text order_asked with_one asked
spoken = refl
