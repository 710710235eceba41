-- RULES 27: worked figures of the centre and of the order sheet, computed from the definitions over tables of full
-- size. Assumes nothing.
use Rattle.std.specs.Prelude.{ℕ, ◌≡◌, refl, false, List, [], ◌∷◌, ◌++◌, take, ℤ, pos, negsuc}
use Prim.Native.String.{String}
use Rattle.std.specs.Float.{fin}
use Rattle.std.specs.Float.Ieee.{round}
use Rattle.rules.specs.declared.SheetWritten.{SheetWritten}
use Rattle.rules.specs.declared.OrderRead.{OrderRead}
use Rattle.rules.specs.Tables.{cleared, Lent, lend}
use Rattle.rules.specs.Scan.{first, found, first_row, found_pair}
use Rattle.rules.specs.Text.{bytes, then, word, is_digit, is_label_byte, run, label, is_plain, value_from, number, spell, numeral, below_zero, signed, signed_numeral}
use Rattle.rules.specs.Sheet.{is_row, bytes_from, put_row, follow, lines, last_field, count_line, counted, after, ended, last_part}
use Rattle.rules.specs.Writing.{label_of, bad_label, label_twice, join_from, count_text}
use Rattle.rules.specs.Grid.{grid_number, start_above, grid_start, quarters, centre_of, order_line, order_means, order_step, order_from, order_line_text, order_text}
use Rattle.rules.specs.Numbers.{refuse_if, ◌or_else◌, scan, square, count_fault, size_fault, start_fault, network_fault, network_sizes, lent_fault, label_sizes, anchor_fault, centre_fault, order_read_fault, order_write_fault}
use Rattle.rules.specs.Calls.{Left, unless, centring, centre_number, order_writing, order_outcome, order_reading}
use Rattle.rules.specs.Figures.{with_guard, widths_t, guards_t, net_t, three}

-- n of a block: at the anchor, below 0 and at 0, and the least and the greatest; and the start that each gives back
numbers :
    (grid_number (pos 0) 1 2
    ∷ grid_number (negsuc 6) 3 3
    ∷ grid_number (negsuc 2) 1 2
    ∷ grid_number (negsuc 1) 1 2
    ∷ grid_number (negsuc 1023) 1 1
    ∷ grid_number (pos 1024) 16384 64
    ∷ [])
    ≡ pos 2 ∷ pos 0 ∷ negsuc 0 ∷ pos 0 ∷ negsuc 1022 ∷ pos 33854 ∷ []
unfolding grid_number
numbers = refl

-- an n that is half a slot off, one below slot 1, the highest start, one past it, and the least and greatest numbers
-- that a line can spell
starts :
    (grid_start (pos 0) 2 (pos 2)
    ∷ grid_start (pos 0) 2 (pos 4)
    ∷ grid_start (pos 0) 2 (pos 3)
    ∷ grid_start (pos 0) 2 (pos 1)
    ∷ grid_start (pos 0) 2 (pos 0)
    ∷ grid_start (negsuc 6) 3 (pos 0)
    ∷ grid_start (negsuc 1023) 1 (negsuc 1022)
    ∷ grid_start (negsuc 1023) 1 (negsuc 1023)
    ∷ grid_start (negsuc 1023) 1 (negsuc 1024)
    ∷ grid_start (pos 1024) 64 (pos 33854)
    ∷ grid_start (pos 1024) 64 (pos 33855)
    ∷ grid_start (pos 1024) 64 (pos 33856)
    ∷ grid_start (pos 0) 1 (pos 99999)
    ∷ grid_start (pos 0) 1 (negsuc 99998)
    ∷ grid_start (pos 0) 2 (pos 65538)
    ∷ [])
    ≡ 1 ∷ 2 ∷ 0 ∷ 0 ∷ 0 ∷ 3 ∷ 1 ∷ 0 ∷ 0 ∷ 16384 ∷ 0 ∷ 0 ∷ 0 ∷ 0 ∷ 0 ∷ []
unfolding grid_start start_above
starts = refl

-- the centre, as a double: 193,100 + 6.25 n is an odd number times a power of 2. n is 2, then 0, 1, -1, -1,023 and
-- 33,854; and what is refused
centres :
    (centring (pos 0) 1 2
    ∷ centring (negsuc 1) 1 2
    ∷ centring (pos 0) 1 1
    ∷ centring (negsuc 2) 1 2
    ∷ centring (negsuc 1023) 1 1
    ∷ centring (pos 1024) 16384 64
    ∷ centring (pos 1025) 1 2
    ∷ centring (pos 0) 1 65
    ∷ centring (pos 0) 0 2
    ∷ [])
    ≡ fin false 386225 (negsuc 0)
    ∷ fin false 48275 (pos 2)
    ∷ fin false 772425 (negsuc 1)
    ∷ fin false 772375 (negsuc 1)
    ∷ fin false 746825 (negsuc 1)
    ∷ fin false 809375 (negsuc 0)
    ∷ fin false 0 (pos 0)
    ∷ fin false 0 (pos 0)
    ∷ fin false 0 (pos 0)
    ∷ []
unfolding grid_number quarters centre_of round refuse_if ◌or_else◌ anchor_fault centre_fault unless centring
centres = refl

-- 17 before 3 before 7
centre_numbers :
    (centre_number (negsuc 1023) 1 1
    ∷ centre_number (pos 1024) 16384 64
    ∷ centre_number (negsuc 1024) 0 0
    ∷ centre_number (pos 1025) 1 65
    ∷ centre_number (pos 0) 0 0
    ∷ centre_number (pos 0) 0 65
    ∷ centre_number (pos 0) 0 64
    ∷ centre_number (pos 0) 16385 1
    ∷ [])
    ≡ 0 ∷ 0 ∷ 17 ∷ 17 ∷ 3 ∷ 3 ∷ 7 ∷ 7 ∷ []
unfolding refuse_if ◌or_else◌ anchor_fault centre_fault centre_number
centre_numbers = refl

-- the labels 0417, 417 and A9, and T with a guard that no table may hold
labels : List ℕ
labels = put_row (put_row (put_row (cleared 1024 0) 0 (bytes "0417")) 1 (bytes "417")) 2 (bytes "A9")

ruined : Lent
ruined = lend widths_t (with_guard 0 1 33 guards_t)

-- what is compared of a writing into a text of so many bytes of 7: its numbers, and the text
written_row : Left SheetWritten (List ℕ) → List ℕ
written_row r = r.answer.number ∷ r.answer.place ∷ r.answer.length ∷ r.tables

write_t : ℤ → ℕ → List ℕ → Lent → List ℕ → ℕ → List ℕ
write_t anchor n names lent table room = written_row (order_writing anchor n names lent table (cleared room 7))

-- the order sheet of T, in a text with two bytes more, and of two of its paths, one of which has n 0; then the tests
-- in their order, each with the next one's fault beside it
written :
    (write_t (negsuc 5) 3 labels net_t (three 1 4 10) 36
    ∷ write_t (negsuc 1) 2 labels net_t (three 1 4 0) 25
    ∷ write_t (pos 1025) 3 labels net_t (three 1 4 10) 0
    ∷ write_t (pos 1025) 0 labels net_t (three 1 4 10) 0
    ∷ write_t (pos 1025) 3 (cleared 1023 0) net_t (three 1 4 10) 0
    ∷ write_t (pos 0) 0 labels ruined (three 1 4 10) 0
    ∷ write_t (pos 0) 3 (cleared 1024 0) ruined (three 0 0 0) 0
    ∷ write_t (pos 0) 3 (cleared 1024 0) net_t (three 0 0 0) 0
    ∷ write_t (pos 0) 3 (put_row labels 2 (bytes "417")) net_t (three 0 0 0) 0
    ∷ write_t (pos 0) 3 labels net_t (three 1 0 16385) 0
    ∷ write_t (pos 0) 3 labels net_t (three 0 0 0) 0
    ∷ write_t (negsuc 5) 3 labels net_t (three 1 4 10) 33
    ∷ [])
    ≡ (0 ∷ 0 ∷ 34 ∷ (bytes "order 3\n0417 -4 2\n417 4 4\nA9 15 3\n" ++ (7 ∷ 7 ∷ [])))
    ∷ (0 ∷ 0 ∷ 25 ∷ bytes "order 2\n0417 0 2\n417 8 4\n")
    ∷ (17 ∷ 0 ∷ 0 ∷ [])
    ∷ (17 ∷ 0 ∷ 0 ∷ [])
    ∷ (2 ∷ 0 ∷ 0 ∷ [])
    ∷ (1 ∷ 0 ∷ 0 ∷ [])
    ∷ (4 ∷ 1 ∷ 0 ∷ [])
    ∷ (11 ∷ 0 ∷ 0 ∷ [])
    ∷ (12 ∷ 2 ∷ 0 ∷ [])
    ∷ (7 ∷ 1 ∷ 0 ∷ [])
    ∷ (7 ∷ 0 ∷ 0 ∷ [])
    ∷ (16 ∷ 0 ∷ 0 ∷ cleared 33 7)
    ∷ []
unfolding with_guard widths_t guards_t net_t three labels ruined written_row write_t cleared first found first_row found_pair is_digit is_label_byte run spell numeral signed_numeral is_row bytes_from put_row label_of bad_label label_twice join_from count_text grid_number order_line_text order_text refuse_if ◌or_else◌ scan square count_fault size_fault start_fault network_fault network_sizes lent_fault label_sizes anchor_fault order_read_fault order_write_fault unless order_writing
written = refl

-- what is compared of a reading over starts that hold 99: its numbers, and the first four starts
read_row : Left OrderRead (List ℕ) → List ℕ
read_row r = r.answer.number ∷ r.answer.place ∷ take 4 r.tables

read_t : ℤ → String → List ℕ
read_t anchor text = read_row (order_reading anchor (bytes text) 3 labels net_t (cleared 128 99))

-- the sheet above, read; then each fault of a line, with the next one's beside it; a line too few and one too many;
-- and 17, and 4, before the text
read :
    (read_t (negsuc 5) "order 3\n0417 -4 2\n417 4 4\nA9 15 3\n"
    ∷ read_t (negsuc 1) "order 3\n0417 0 2\n417 2 4\nA9 7 3\n"
    ∷ read_t (negsuc 1) "order 3\n0417 -0 2\n417 2 4\nA9 7 3\n"
    ∷ read_t (negsuc 5) "order 2\n0417 -4 2\n417 4 4\n"
    ∷ read_t (negsuc 5) "orders 2\n"
    ∷ read_t (negsuc 5) "order 3\n0417 -4 2\n0417 5 3 \n"
    ∷ read_t (negsuc 5) "order 3\n0417 -4 2\n0417 5 3\n"
    ∷ read_t (negsuc 5) "order 3\n0417 -4 2\n417 5 3\n"
    ∷ read_t (negsuc 5) "order 3\n0417 -4 2\n417 5 4\n"
    ∷ read_t (negsuc 5) "order 3\n0417 -4 2\n417 -4 4\nA9 15 3\n"
    ∷ read_t (negsuc 5) "order 3\n0417 -99999 2\n"
    ∷ read_t (negsuc 5) "order 3\n0417 -4 2\n417 4 4\n"
    ∷ read_t (negsuc 5) "order 3\n0417 -4 2\n417 4 4\nA9 15 3\n\n"
    ∷ read_t (negsuc 5) "order 3\n417 -4 2\n"
    ∷ read_t (negsuc 5) ""
    ∷ read_t (pos 1025) ""
    ∷ read_row (order_reading (pos 0) (bytes "") 3 labels ruined (cleared 128 99))
    ∷ read_row (order_reading (pos 1025) (bytes "") 3 labels ruined (cleared 128 99))
    ∷ read_row (order_reading (pos 1025) (bytes "") 3 labels ruined (cleared 127 99))
    ∷ [])
    ≡ (0 ∷ 0 ∷ 1 ∷ 4 ∷ 10 ∷ 99 ∷ [])
    ∷ (0 ∷ 0 ∷ 1 ∷ 1 ∷ 4 ∷ 99 ∷ [])
    ∷ (11 ∷ 2 ∷ 99 ∷ 99 ∷ 99 ∷ 99 ∷ [])
    ∷ (1 ∷ 1 ∷ 99 ∷ 99 ∷ 99 ∷ 99 ∷ [])
    ∷ (11 ∷ 1 ∷ 99 ∷ 99 ∷ 99 ∷ 99 ∷ [])
    ∷ (11 ∷ 3 ∷ 99 ∷ 99 ∷ 99 ∷ 99 ∷ [])
    ∷ (13 ∷ 3 ∷ 99 ∷ 99 ∷ 99 ∷ 99 ∷ [])
    ∷ (3 ∷ 3 ∷ 99 ∷ 99 ∷ 99 ∷ 99 ∷ [])
    ∷ (7 ∷ 3 ∷ 99 ∷ 99 ∷ 99 ∷ 99 ∷ [])
    ∷ (7 ∷ 3 ∷ 99 ∷ 99 ∷ 99 ∷ 99 ∷ [])
    ∷ (7 ∷ 2 ∷ 99 ∷ 99 ∷ 99 ∷ 99 ∷ [])
    ∷ (11 ∷ 4 ∷ 99 ∷ 99 ∷ 99 ∷ 99 ∷ [])
    ∷ (11 ∷ 5 ∷ 99 ∷ 99 ∷ 99 ∷ 99 ∷ [])
    ∷ (13 ∷ 2 ∷ 99 ∷ 99 ∷ 99 ∷ 99 ∷ [])
    ∷ (11 ∷ 1 ∷ 99 ∷ 99 ∷ 99 ∷ 99 ∷ [])
    ∷ (17 ∷ 0 ∷ 99 ∷ 99 ∷ 99 ∷ 99 ∷ [])
    ∷ (4 ∷ 1 ∷ 99 ∷ 99 ∷ 99 ∷ 99 ∷ [])
    ∷ (17 ∷ 0 ∷ 99 ∷ 99 ∷ 99 ∷ 99 ∷ [])
    ∷ (2 ∷ 0 ∷ 99 ∷ 99 ∷ 99 ∷ 99 ∷ [])
    ∷ []
unfolding with_guard widths_t guards_t net_t three labels ruined read_row read_t cleared first found first_row found_pair then word is_digit is_label_byte run label is_plain value_from number spell numeral below_zero signed is_row bytes_from put_row follow lines last_field count_line counted after ended last_part start_above grid_start order_line order_means order_step order_from refuse_if ◌or_else◌ scan square count_fault size_fault network_fault network_sizes lent_fault label_sizes anchor_fault order_read_fault unless order_outcome order_reading
read = refl
