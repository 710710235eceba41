-- RULES 17 and 18 as statements: what each test finds at fault and where, what 8 says beside its place, the
-- tests of each call in their order, and the answer that such a row of tests gives. No test of the definitions
-- is used here: these words are what the definitions are held to. Assumes nothing.
use Rattle.std.specs.Prelude.{ℕ, ◌+◌, ◌≤◌, ◌<◌, ◌≡◌, ◌≢◌, ◌⊎◌, Bool, List, [], ◌∷◌, ◌++◌, length, ℤ, pos, ◌+ℤ◌}
use Rattle.rules.specs.declared.Fault.{Fault}
use Rattle.rules.specs.Tables.{at, cell, Lent, label_byte}
use Rattle.rules.specs.Plan.{Net, net_of, Conflict, past, Clear}
use Rattle.rules.specs.Sides.{Split}
use Rattle.rules.specs.Writing.{pairs, sheet_text}
use Rattle.rules.specs.Grid.{order_text}
use Rattle.rules.specs.Numbers.{no_fault}

-- a test: its number, that something is at fault at a place, and that the place is short of so many slots
pub record Test : Type 1 where
  pub number : ℕ
  pub Bad : ℕ → Type 0
  pub Short : ℕ → ℕ → Type 0

-- nothing is at fault
abbrev pub Nowhere : Test → Type 0
Nowhere t = (p : ℕ) → t.Bad p → ⊥

-- an answer is a test's refusal: its number is the test's, something is at fault at its place and nothing at
-- a lower one, and the place is short of as many slots as it says and of no other number
pub record Refusal (t : Test) (f : Fault) : Type 0 where
  pub some : 0 < f.number
  pub number : f.number ≡ t.number
  pub bad : t.Bad f.place
  pub first : (p : ℕ) → p < f.place → t.Bad p → ⊥
  pub short : t.Short f.place f.short
  pub only : (s : ℕ) → t.Short f.place s → s ≡ f.short

-- what tests give in their order: the refusal of the first that finds something at fault, and 0 with place
-- 0 and 0 slots short where none does
unfoldable pub Gives : List Test → Fault → Type 0
Gives [] f = f ≡ no_fault
Gives (t ∷ ts) f = Refusal t f ⊎ (Nowhere t × Gives ts f)

-- The kinds of tests: one of a whole, with place 0; one of each index below n; one of each cell of the
-- first n rows and columns. None but 8 says a number of slots: with every other it is 0
abbrev pub Unsaid : ℕ → ℕ → Type 0
Unsaid p s = s ≡ 0

abbrev pub once : ℕ → Type 0 → Test
once number Bad = record { number = number; Bad = λ p. (p ≡ 0) × Bad; Short = Unsaid }

abbrev pub each : ℕ → ℕ → (ℕ → Type 0) → Test
each number n Bad = record { number = number; Bad = λ p. (p < n) × Bad p; Short = Unsaid }

abbrev pub cells : ℕ → ℕ → (ℕ → ℕ → Type 0) → (ℕ → ℕ → Type 0) → Test
cells number n Bad Short =
    record { number = number; Bad = λ p. (i : ℕ) × (j : ℕ) × (i < n) × (j < n) × (p ≡ cell i j) × Bad i j; Short = Short }

abbrev pub Outside : ℕ → ℕ → ℕ → Type 0
Outside least most x = (x < least) ⊎ (most < x)

-- 2: a table has not its size
abbrev pub size_test : List ℕ → ℕ → Test
size_test table size = once 2 (length table ≢ size)

-- 1: n outside 1 to 128
abbrev pub count_test : ℕ → Test
count_test n = once 1 (Outside 1 128 n)

-- 3: a width outside 1 to 64
abbrev pub width_test : ℕ → List ℕ → Test
width_test n widths = each 3 n (λ k. Outside 1 64 (at widths k))

-- 4: a cell that is neither a guard of 0 to 32 nor 255; on the diagonal all but 255
abbrev pub guard_test : ℕ → List ℕ → Test
guard_test n guards = cells 4 n (λ i j. (at guards (cell i j) ≢ 255) × ((i ≡ j) ⊎ (32 < at guards (cell i j)))) Unsaid

-- 5: a cell above the diagonal that differs from its mirror
abbrev pub mirror_test : ℕ → List ℕ → Test
mirror_test n guards = cells 5 n (λ i j. (i < j) × (at guards (cell i j) ≢ at guards (cell j i))) Unsaid

-- 6: an entry that is no path, or that comes a second time
abbrev pub entry_test : ℕ → List ℕ → Test
entry_test n order = each 6 n (λ k. (n ≤ at order k) ⊎ ((i : ℕ) × (i < k) × (at order i ≡ at order k)))

-- 6, of one path that is asked for: no path has that number
abbrev pub path_test : ℕ → ℕ → Test
path_test n path = once 6 (n ≤ path)

-- 7: a start outside 1 to 16,384
abbrev pub start_test : ℕ → List ℕ → Test
start_test n starts = each 7 n (λ k. Outside 1 16384 (at starts k))

-- 8: a conflicting pair that is too close: neither path is clear of the other
abbrev pub Clash : Net → (ℕ → ℕ) → ℕ → ℕ → Type 0
Clash net plan i j = (i < j) × (Conflict net i j × ((Clear net plan i j ⊎ Clear net plan j i) → ⊥))

-- and how many slots short it is, i<j: with so many added to its start the upper path begins just past the
-- lower one and their guard. Where the two start together, i is the lower one
abbrev pub Lacks : Net → (ℕ → ℕ) → ℕ → ℕ → ℕ → Type 0
Lacks net plan i j s =
    ((plan i ≤ plan j) × (plan j + s ≡ past net i j (plan i))) ⊎ ((plan j < plan i) × (plan i + s ≡ past net j i (plan j)))

abbrev pub clash_test : ℕ → Net → List ℕ → Test
clash_test n net starts =
    cells 8 n (Clash net (at starts)) (λ p s. (i : ℕ) × (j : ℕ) × (j < 128) × (p ≡ cell i j) × Lacks net (at starts) i j s)

-- 9: there is no way to put each path on a side so that every conflict is across
abbrev pub sides_test : ℕ → Net → Test
sides_test n net = once 9 ((high : ℕ → Bool) → Split net n high → ⊥)

-- 10: more than 10,000 rounds
abbrev pub rounds_test : ℕ → Test
rounds_test rounds = once 10 (10000 < rounds)

-- 15: a list of wrong length; an entry that is no path, comes again, or has no conflict with an earlier one
abbrev pub length_test : List ℕ → Test
length_test list = once 15 (Outside 1 8 (length list))

abbrev pub member_test : ℕ → Net → List ℕ → Test
member_test n net list =
    each 15 (length list)
    (λ k. (n ≤ at list k) ⊎ ((i : ℕ) × (i < k) × ((at list i ≡ at list k) ⊎ (Conflict net (at list i) (at list k) → ⊥))))

-- a digit, a capital or a hyphen
abbrev pub LabelByte : ℕ → Type 0
LabelByte x = (((48 ≤ x) × (x ≤ 57)) ⊎ ((65 ≤ x) × (x ≤ 90))) ⊎ (x ≡ 45)

-- path k's eight bytes are a label: 1 to 8 such bytes, then zero bytes
pub record Labelled (labels : List ℕ) (k : ℕ) : Type 0 where
  pub size : ℕ
  pub some : 1 ≤ size
  pub few : size ≤ 8
  pub bytes : (j : ℕ) → j < size → LabelByte (label_byte labels k j)
  pub rest : (j : ℕ) → size ≤ j → j < 8 → label_byte labels k j ≡ 0

-- 11: a label has not its form
abbrev pub label_test : ℕ → List ℕ → Test
label_test n labels = each 11 n (λ k. Labelled labels k → ⊥)

-- 12: an earlier path's label, byte for byte
abbrev pub label_twice_test : ℕ → List ℕ → Test
label_twice_test n labels = each 12 n (λ k. (i : ℕ) × (i < k) × ((j : ℕ) → j < 8 → label_byte labels i j ≡ label_byte labels k j))

-- 1, of a sheet that is written: more than 2,000 pairs
abbrev pub pairs_test : ℕ → List ℕ → Test
pairs_test n guards = once 1 (2000 < pairs n guards)

-- 7, there: only where there is a plan to write
abbrev pub written_start_test : ℕ → List ℕ → Test
written_start_test n starts = each 7 n (λ k. ((i : ℕ) × (i < n) × (at starts i ≢ 0)) × Outside 1 16384 (at starts k))

-- 16: a sheet does not fit into the lent text
abbrev pub room_test : List ℕ → List ℕ → Test
room_test sheet text = once 16 (length text < length sheet)

-- 17: an anchor that is none of -1,024 to 1,024
abbrev pub anchor_test : ℤ → Test
anchor_test anchor = once 17 ((k : ℕ) → k ≤ 2048 → anchor +ℤ pos 1024 ≡ pos k → ⊥)

-- The tests of each call, in their order. 2, 1, 3, 4, 5 are the same for all, but for 2 of the tables lent
-- beside the network
unfoldable pub network_tests : ℕ → Lent → List Test
network_tests n lent = count_test n ∷ width_test n lent.widths ∷ guard_test n lent.guards ∷ mirror_test n lent.guards ∷ []

unfoldable pub lent_tests : ℕ → Lent → List Test → List Test
lent_tests n lent sizes = size_test lent.widths 128 ∷ size_test lent.guards 16384 ∷ (sizes ++ network_tests n lent)

-- judging and pressing
unfoldable pub judge_tests : ℕ → Lent → List ℕ → List Test
judge_tests n lent starts = lent_tests n lent (size_test starts 128 ∷ []) ++ (start_test n starts ∷ clash_test n (net_of lent) starts ∷ [])

unfoldable pub why_tests : ℕ → Lent → List ℕ → ℕ → List ℕ → List Test
why_tests n lent starts path chain =
    lent_tests n lent (size_test chain 128 ∷ size_test starts 128 ∷ []) ++ (start_test n starts ∷ clash_test n (net_of lent) starts ∷ path_test n path ∷ [])

unfoldable pub pack_tests : ℕ → Lent → List ℕ → List ℕ → List Test
pack_tests n lent order starts = lent_tests n lent (size_test order 128 ∷ size_test starts 128 ∷ []) ++ (entry_test n order ∷ [])

unfoldable pub improve_tests : ℕ → Lent → List ℕ → List ℕ → ℕ → List Test
improve_tests n lent order starts rounds = pack_tests n lent order starts ++ (rounds_test rounds ∷ [])

unfoldable pub plan_tests : ℕ → Lent → List ℕ → List ℕ → ℕ → List Test
plan_tests n lent order starts rounds = lent_tests n lent (size_test order 128 ∷ size_test starts 128 ∷ []) ++ (rounds_test rounds ∷ [])

unfoldable pub two_sides_tests : ℕ → Lent → List ℕ → List Test
two_sides_tests n lent order = lent_tests n lent (size_test order 128 ∷ []) ++ (sides_test n (net_of lent) ∷ [])

unfoldable pub floor_tests : ℕ → Lent → List ℕ → List Test
floor_tests n lent list = lent_tests n lent [] ++ (length_test list ∷ member_test n (net_of lent) list ∷ [])

unfoldable pub write_tests : ℕ → List ℕ → Lent → List ℕ → List ℕ → List Test
write_tests n labels lent starts text =
    lent_tests n lent (size_test labels 1024 ∷ size_test starts 128 ∷ [])
    ++ (label_test n labels ∷ label_twice_test n labels ∷ pairs_test n lent.guards ∷ written_start_test n starts ∷ room_test (sheet_text n labels lent starts) text ∷ [])

-- the centre, and the two calls of the order sheet: its reading goes on with the lines (RULES 27)
unfoldable pub centre_tests : ℤ → ℕ → ℕ → List Test
centre_tests anchor start width = anchor_test anchor ∷ once 3 (Outside 1 64 width) ∷ once 7 (Outside 1 16384 start) ∷ []

unfoldable pub order_read_tests : ℤ → ℕ → List ℕ → Lent → List ℕ → List Test
order_read_tests anchor n labels lent starts = lent_tests n lent (size_test labels 1024 ∷ size_test starts 128 ∷ anchor_test anchor ∷ [])

unfoldable pub order_write_tests : ℤ → ℕ → List ℕ → Lent → List ℕ → List ℕ → List Test
order_write_tests anchor n labels lent starts text =
    order_read_tests anchor n labels lent starts
    ++ (label_test n labels ∷ label_twice_test n labels ∷ start_test n starts ∷ room_test (order_text anchor n labels lent.widths starts) text ∷ [])
