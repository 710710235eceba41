-- RULES 17 and 18: each test with its number and place, and the order of the tests of each call. Assumes
-- nothing.
use Rattle.std.specs.Prelude.{ℕ, Bool, cond, not, ◌&&◌, ◌||◌, List, length, ltb, leb, eqb, ℤ, pos, negsuc}
use Rattle.std.specs.Int.Signed.{lt_z}
use Rattle.rules.specs.declared.Fault.{Fault}
use Rattle.rules.specs.Tables.{at, cell, Lent}
use Rattle.rules.specs.Scan.{first, found, first_row, found_pair}
use Rattle.rules.specs.Plan.{Net, net_of, in_conflict, short, too_close}
use Rattle.rules.specs.Packing.{placed}
use Rattle.rules.specs.Sides.{has_sides}
use Rattle.rules.specs.Writing.{bad_label, label_twice, pairs, has_plan, sheet_text}
use Rattle.rules.specs.Grid.{order_text}

infixr 20 ◌or_else◌
abbrev pub fault : ℕ → ℕ → Fault
fault number place = record { number = number; place = place; short = 0 }

-- 0 with place 0: nothing is at fault
abbrev pub no_fault : Fault
no_fault = fault 0 0

-- a number where a test fails, with its place
unfoldable pub refuse_if : Bool → ℕ → ℕ → Fault
refuse_if bad number place = cond bad (fault number place) no_fault

-- the first of two tests that finds a fault
unfoldable pub ◌or_else◌ : Fault → Fault → Fault
a or_else b = cond (eqb a.number 0) b a

-- a test of paths or positions finds its first bad index below n
unfoldable pub scan : ℕ → (ℕ → Bool) → ℕ → Fault
scan number bad n = refuse_if (found bad n) number (first bad n)

-- one of the square its first bad cell, row by row, and how many slots short that cell is
unfoldable pub square : ℕ → (ℕ → ℕ → Bool) → (ℕ → ℕ → ℕ) → ℕ → Fault
square number bad lack n =
    let i = first_row bad n in
    let j = first (bad i) n in
    cond (found_pair bad n) (record { number = number; place = cell i j; short = lack i j }) no_fault

-- where no test of the slots is made, no cell is short
abbrev pub nowhere_short : ℕ → ℕ → ℕ
nowhere_short i j = 0

abbrev pub outside : ℕ → ℕ → ℕ → Bool
outside least most x = ltb x least || ltb most x

-- 1: n outside 1 to 128
unfoldable pub count_fault : ℕ → Fault
count_fault n = refuse_if (outside 1 128 n) 1 0

-- 2: a table has not its size
unfoldable pub size_fault : List ℕ → ℕ → Fault
size_fault table size = refuse_if (not (eqb (length table) size)) 2 0

-- 3: a width outside 1 to 64
abbrev pub bad_width : List ℕ → ℕ → Bool
bad_width widths k = outside 1 64 (at widths k)

-- 4: a cell that is neither a guard of 0 to 32 nor 255; on the diagonal all but 255
abbrev pub bad_guard : List ℕ → ℕ → ℕ → Bool
bad_guard guards i j = not (eqb (at guards (cell i j)) 255) && (eqb i j || ltb 32 (at guards (cell i j)))

-- 5: a cell above the diagonal that differs from its mirror
abbrev pub bad_mirror : List ℕ → ℕ → ℕ → Bool
bad_mirror guards i j = ltb i j && not (eqb (at guards (cell i j)) (at guards (cell j i)))

-- 6: an entry that is no path, or that comes a second time
abbrev pub bad_entry : ℕ → List ℕ → ℕ → Bool
bad_entry n order k = leb n (at order k) || placed (at order) k (at order k)

unfoldable pub order_fault : ℕ → List ℕ → Fault
order_fault n order = scan 6 (bad_entry n order) n

-- 6, of one path that is asked for: no path has that number
unfoldable pub path_fault : ℕ → ℕ → Fault
path_fault n path = refuse_if (leb n path) 6 0

-- 7: a start outside 1 to 16,384
abbrev pub bad_start : List ℕ → ℕ → Bool
bad_start starts k = outside 1 16384 (at starts k)

unfoldable pub start_fault : ℕ → List ℕ → Fault
start_fault n starts = scan 7 (bad_start starts) n

-- 8: a conflicting pair that is too close, with its cell above the diagonal and how many slots short it is
unfoldable pub clash_fault : ℕ → Net → List ℕ → Fault
clash_fault n net starts = square 8 (too_close net (at starts)) (short net (at starts)) n

-- 9: the network has no sides
unfoldable pub sides_fault : ℕ → Net → Fault
sides_fault n net = refuse_if (not (has_sides net n)) 9 0

-- 10: more than 10,000 rounds
unfoldable pub rounds_fault : ℕ → Fault
rounds_fault rounds = refuse_if (ltb 10000 rounds) 10 0

-- 15: a list of wrong length, place 0; an entry that is no path, comes again, or has no conflict with an
-- earlier one
abbrev pub bad_member : ℕ → Net → List ℕ → ℕ → Bool
bad_member n net list k = leb n (at list k) || found (λ i. eqb (at list i) (at list k) || not (in_conflict net (at list i) (at list k))) k

unfoldable pub list_fault : ℕ → Net → List ℕ → Fault
list_fault n net list = refuse_if (outside 1 8 (length list)) 15 0 or_else scan 15 (bad_member n net list) (length list)

-- A network that is lent, tested. 2: its tables are of their sizes
unfoldable pub network_sizes : Lent → Fault
network_sizes lent = size_fault lent.widths 128 or_else size_fault lent.guards 16384

-- 1, 3, 4, 5, in this order: all of 4 before 5
unfoldable pub network_fault : ℕ → Lent → Fault
network_fault n lent =
    count_fault n or_else scan 3 (bad_width lent.widths) n or_else square 4 (bad_guard lent.guards) nowhere_short n
    or_else square 5 (bad_mirror lent.guards) nowhere_short n

-- RULES 18: 2, 1, 3, 4, 5 are the same for every call that is lent a network; sizes is 2 of the tables that
-- it is lent beside the network
unfoldable pub lent_fault : ℕ → Lent → Fault → Fault
lent_fault n lent sizes = network_sizes lent or_else sizes or_else network_fault n lent

-- judging and pressing
unfoldable pub judge_fault : ℕ → Lent → List ℕ → Fault
judge_fault n lent starts = lent_fault n lent (size_fault starts 128) or_else start_fault n starts or_else clash_fault n (net_of lent) starts

-- 2, of an order or a chain and a table of starts
unfoldable pub plan_sizes : List ℕ → List ℕ → Fault
plan_sizes order starts = size_fault order 128 or_else size_fault starts 128

-- packing
unfoldable pub pack_fault : ℕ → Lent → List ℕ → List ℕ → Fault
pack_fault n lent order starts = lent_fault n lent (plan_sizes order starts) or_else order_fault n order

-- why a path stands where it stands
unfoldable pub why_fault : ℕ → Lent → List ℕ → ℕ → List ℕ → Fault
why_fault n lent starts path chain =
    lent_fault n lent (plan_sizes chain starts) or_else start_fault n starts or_else clash_fault n (net_of lent) starts or_else path_fault n path

-- the two-sided call
unfoldable pub two_sides_fault : ℕ → Lent → List ℕ → Fault
two_sides_fault n lent order = lent_fault n lent (size_fault order 128) or_else sides_fault n (net_of lent)

-- planning, which tests neither the lent order nor the starts
unfoldable pub plan_fault : ℕ → Lent → List ℕ → List ℕ → ℕ → Fault
plan_fault n lent order starts rounds = lent_fault n lent (plan_sizes order starts) or_else rounds_fault rounds

-- improving
unfoldable pub improve_fault : ℕ → Lent → List ℕ → List ℕ → ℕ → Fault
improve_fault n lent order starts rounds = pack_fault n lent order starts or_else rounds_fault rounds

-- the floor
unfoldable pub floor_fault : ℕ → Lent → List ℕ → Fault
floor_fault n lent list = lent_fault n lent no_fault or_else list_fault n (net_of lent) list

-- 2, of the labels and the starts of a sheet, and of all its tables
unfoldable pub label_sizes : List ℕ → List ℕ → Fault
label_sizes labels starts = size_fault labels 1024 or_else size_fault starts 128

unfoldable pub sheet_sizes : List ℕ → Lent → List ℕ → Fault
sheet_sizes labels lent starts = network_sizes lent or_else label_sizes labels starts

-- 16: a sheet does not fit into the lent text
abbrev pub room_fault : List ℕ → List ℕ → Fault
room_fault sheet text = refuse_if (ltb (length text) (length sheet)) 16 0

-- RULES 18, the writer's tests. It tests the starts only where it writes them
unfoldable pub write_fault : ℕ → List ℕ → Lent → List ℕ → List ℕ → Fault
write_fault n labels lent starts text =
    lent_fault n lent (label_sizes labels starts)
    or_else scan 11 (bad_label labels) n or_else scan 12 (label_twice labels) n or_else refuse_if (ltb 2000 (pairs n lent.guards)) 1 0
    or_else scan 7 (λ k. has_plan n starts && bad_start starts k) n
    or_else room_fault (sheet_text n labels lent starts) text

-- 17: an anchor outside -1,024 to 1,024
unfoldable pub anchor_fault : ℤ → Fault
anchor_fault anchor = refuse_if (lt_z anchor (negsuc 1023) || lt_z (pos 1024) anchor) 17 0

-- the centre: 17, then 3 of the width, then 7 of the start
unfoldable pub centre_fault : ℤ → ℕ → ℕ → Fault
centre_fault anchor start width = anchor_fault anchor or_else refuse_if (outside 1 64 width) 3 0 or_else refuse_if (outside 1 16384 start) 7 0

-- what is tested of the tables before an order sheet is read: 17 after 2 and before 1
unfoldable pub order_read_fault : ℤ → ℕ → List ℕ → Lent → List ℕ → Fault
order_read_fault anchor n labels lent starts = lent_fault n lent (label_sizes labels starts or_else anchor_fault anchor)

-- and before it is written: as of a sheet, save the pairs, and with a start for every path
unfoldable pub order_write_fault : ℤ → ℕ → List ℕ → Lent → List ℕ → List ℕ → Fault
order_write_fault anchor n labels lent starts text =
    order_read_fault anchor n labels lent starts
    or_else scan 11 (bad_label labels) n or_else scan 12 (label_twice labels) n or_else start_fault n starts
    or_else room_fault (order_text anchor n labels lent.widths starts) text
