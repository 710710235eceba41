-- RULES 16: for each public call one definition from what it is given to all that it leaves behind. A refused
-- call changes no table, but for the reader (RULES 14), and its other numbers are 0, but for the slots short
-- of 8. Assumes nothing.
use Rattle.std.specs.Prelude.{ℕ, false, cond, List, ◌++◌, length, drop, eqb, ℤ, pos, Float}
use Rattle.std.specs.Float.{fin}
use Rattle.rules.specs.declared.Fault.{Fault}
use Rattle.rules.specs.declared.Packed.{Packed}
use Rattle.rules.specs.declared.Pressed.{Pressed}
use Rattle.rules.specs.declared.Sided.{Sided}
use Rattle.rules.specs.declared.Planned.{Planned}
use Rattle.rules.specs.declared.Floored.{Floored}
use Rattle.rules.specs.declared.SheetRead.{SheetRead}
use Rattle.rules.specs.declared.SheetWritten.{SheetWritten}
use Rattle.rules.specs.declared.Why.{Why}
use Rattle.rules.specs.declared.OrderRead.{OrderRead}
use Rattle.rules.specs.Tables.{at, cleared, Lent, cleared_network}
use Rattle.rules.specs.Plan.{Net, net_of, highest}
use Rattle.rules.specs.Packing.{lowest, packed}
use Rattle.rules.specs.Pressing.{pressed}
use Rattle.rules.specs.Reason.{chain, down, last}
use Rattle.rules.specs.Sides.{has_sides, is_high, two_sided, low_side}
use Rattle.rules.specs.Planning.{greedy, improved}
use Rattle.rules.specs.Floor.{floor}
use Rattle.rules.specs.Sheet.{Section, halt, done, sheet_from}
use Rattle.rules.specs.Writing.{sheet_text}
use Rattle.rules.specs.Grid.{grid_number, centre_of, order_text, order_from}
use Rattle.rules.specs.Numbers.{judge_fault, pack_fault, why_fault, two_sides_fault, plan_fault, improve_fault, floor_fault, sheet_sizes, write_fault, centre_fault, order_read_fault, order_write_fault}

-- what a call leaves behind: its answer, and what then stands in the tables that it may write
pub record Left (A T : Type 0) : Type 0 where
  pub answer : A
  pub tables : T

abbrev pub left : {A T : Type 0} → A → T → Left A T
left answer tables = record { answer = answer; tables = tables }

-- the refusal where a test finds a fault, and otherwise what is done
unfoldable pub unless : {A : Type 0} → Fault → (Fault → A) → A → A
unless f refused result = cond (eqb f.number 0) result (refused f)

-- judge(n, widths, guards, starts): nothing beside number, place and how many slots short
unfoldable pub judging : ℕ → Lent → List ℕ → Fault
judging n lent starts = judge_fault n lent starts

-- pack(n, widths, guards, order, starts), which writes the starts
unfoldable pub refused_packed : List ℕ → Fault → Left Packed (List ℕ)
refused_packed starts f = left (record { number = f.number; place = f.place; highest = 0 }) starts

unfoldable pub done_packed : Net → ℕ → List ℕ → Left Packed (List ℕ)
done_packed net n starts = left (record { number = 0; place = 0; highest = highest net (at starts) n }) starts

unfoldable pub packing : ℕ → Lent → List ℕ → List ℕ → Left Packed (List ℕ)
packing n lent order starts =
    unless (pack_fault n lent order starts) (refused_packed starts)
    (done_packed (net_of lent) n (packed (lowest (net_of lent)) (at order) starts n))

-- press(n, widths, guards, starts), which writes the starts
unfoldable pub refused_pressed : List ℕ → Fault → Left Pressed (List ℕ)
refused_pressed starts f = left (record { number = f.number; place = f.place; short = f.short; highest = 0 }) starts

unfoldable pub done_pressed : Net → ℕ → List ℕ → Left Pressed (List ℕ)
done_pressed net n starts = left (record { number = 0; place = 0; short = 0; highest = highest net (at starts) n }) starts

unfoldable pub pressing : ℕ → Lent → List ℕ → Left Pressed (List ℕ)
pressing n lent starts =
    unless (judge_fault n lent starts) (refused_pressed starts)
    (done_pressed (net_of lent) n (pressed (net_of lent) n starts))

-- why(n, widths, guards, starts, path, chain), RULES 25, which writes the chain, and nothing past its length
unfoldable pub refused_why : List ℕ → Fault → Left Why (List ℕ)
refused_why table f = left (record { number = f.number; place = f.place; short = f.short; length = 0; down = 0 }) table

unfoldable pub done_why : Net → (ℕ → ℕ) → ℕ → ℕ → List ℕ → Left Why (List ℕ)
done_why net plan n path table =
    let c = chain net plan n path in
    left (record { number = 0; place = 0; short = 0; length = length c; down = down net plan n (last c) }) (c ++ drop (length c) table)

unfoldable pub explaining : ℕ → Lent → List ℕ → ℕ → List ℕ → Left Why (List ℕ)
explaining n lent starts path table =
    unless (why_fault n lent starts path table) (refused_why table) (done_why (net_of lent) (at starts) n path table)

-- two_sides(n, widths, guards, order), which writes the order
unfoldable pub siding : ℕ → Lent → List ℕ → Left Sided (List ℕ)
siding n lent order =
    let high = is_high (net_of lent) n in
    unless (two_sides_fault n lent order)
    (λ f. left (record { number = f.number; place = f.place; low = 0 }) order)
    (left (record { number = 0; place = 0; low = low_side n high }) (two_sided n high order))

-- improve(n, widths, guards, order, starts, seed, rounds), which writes the order and the starts; so does
-- planning
unfoldable pub refused_planned : List ℕ → List ℕ → Fault → Left Planned (List ℕ × List ℕ)
refused_planned order starts f = left (record { number = f.number; place = f.place; highest = 0; kept = 0 }) (order, starts)

unfoldable pub done_planned : Net → ℕ → List ℕ → List ℕ → ℕ → Left Planned (List ℕ × List ℕ)
done_planned net n order starts kept =
    let plan = packed (lowest net) (at order) starts n in
    left (record { number = 0; place = 0; highest = highest net (at plan) n; kept = kept }) (order, plan)

unfoldable pub done_improved : Net → ℕ → List ℕ → List ℕ → ℕ → ℕ → Left Planned (List ℕ × List ℕ)
done_improved net n order starts seed rounds =
    let r = improved net n (lowest net) starts order seed rounds in
    done_planned net n r.order starts r.kept

unfoldable pub improving : ℕ → Lent → List ℕ → List ℕ → ℕ → ℕ → Left Planned (List ℕ × List ℕ)
improving n lent order starts seed rounds =
    unless (improve_fault n lent order starts rounds) (refused_planned order starts)
    (done_improved (net_of lent) n order starts seed rounds)

-- plan(n, widths, guards, order, starts, seed, rounds), RULES 10: with sides the two-sided order and none
-- kept, else the greedy order, improved
unfoldable pub done_plan : Net → ℕ → List ℕ → List ℕ → ℕ → ℕ → Left Planned (List ℕ × List ℕ)
done_plan net n order starts seed rounds =
    cond (has_sides net n)
    (done_planned net n (two_sided n (is_high net n) order) starts 0)
    (done_improved net n (greedy (lowest net) n starts order n) starts seed rounds)

unfoldable pub planning : ℕ → Lent → List ℕ → List ℕ → ℕ → ℕ → Left Planned (List ℕ × List ℕ)
planning n lent order starts seed rounds =
    unless (plan_fault n lent order starts rounds) (refused_planned order starts)
    (done_plan (net_of lent) n order starts seed rounds)

-- floor(n, widths, guards, list)
unfoldable pub flooring : ℕ → Lent → List ℕ → Floored
flooring n lent list =
    unless (floor_fault n lent list)
    (λ f. record { number = f.number; place = f.place; floor = 0 })
    (record { number = 0; place = 0; floor = floor (net_of lent) (at list) (length list) })

-- read(text, labels, widths, guards, starts), RULES 14, which writes all four tables. A sheet is read over
-- cleared ones, so that all cells past n are cleared, and a refusal leaves nothing else
unfoldable pub read_outcome : Section (ℕ × List ℕ × Lent × List ℕ) → Left SheetRead (List ℕ × Lent × List ℕ)
read_outcome (halt number line) =
    left (record { number = number; place = line; n = 0 }) (cleared 1024 0, cleared_network, cleared 128 0)
read_outcome (done t l) = left (record { number = 0; place = 0; n = t.0 }) (t.1, t.2, t.3)

unfoldable pub reading : List ℕ → List ℕ → Lent → List ℕ → Left SheetRead (List ℕ × Lent × List ℕ)
reading text labels lent starts =
    unless (sheet_sizes labels lent starts)
    (λ f. left (record { number = f.number; place = f.place; n = 0 }) (labels, lent, starts))
    (read_outcome (sheet_from (cleared 1024 0) cleared_network (cleared 128 0) text))

-- write(n, labels, widths, guards, starts, text), RULES 15, which writes the text, and nothing past the
-- sheet's length
abbrev pub refused_written : List ℕ → Fault → Left SheetWritten (List ℕ)
refused_written text f = left (record { number = f.number; place = f.place; length = 0 }) text

abbrev pub done_written : List ℕ → List ℕ → Left SheetWritten (List ℕ)
done_written sheet text = left (record { number = 0; place = 0; length = length sheet }) (sheet ++ drop (length sheet) text)

unfoldable pub writing : ℕ → List ℕ → Lent → List ℕ → List ℕ → Left SheetWritten (List ℕ)
writing n labels lent starts text =
    unless (write_fault n labels lent starts text) (refused_written text) (done_written (sheet_text n labels lent starts) text)

-- centre(anchor, start, width), RULES 27, in GHz; refused, 0.0. centre_number(anchor, start, width) gives its number
abbrev pub no_centre : Float
no_centre = fin false 0 (pos 0)

unfoldable pub centring : ℤ → ℕ → ℕ → Float
centring anchor start width = unless (centre_fault anchor start width) (λ _. no_centre) (centre_of (grid_number anchor start width))

unfoldable pub centre_number : ℤ → ℕ → ℕ → ℕ
centre_number anchor start width = (centre_fault anchor start width).number

-- order_write(anchor, n, labels, widths, guards, starts, text), which writes the text, and nothing past the order
-- sheet's length
unfoldable pub order_writing : ℤ → ℕ → List ℕ → Lent → List ℕ → List ℕ → Left SheetWritten (List ℕ)
order_writing anchor n labels lent starts text =
    unless (order_write_fault anchor n labels lent starts text) (refused_written text)
    (done_written (order_text anchor n labels lent.widths starts) text)

-- order_read(anchor, text, n, labels, widths, guards, starts), which writes the first n starts. A line at fault
-- leaves them all as they were
unfoldable pub order_outcome : List ℕ → Section (List ℕ) → Left OrderRead (List ℕ)
order_outcome starts (halt number line) = left (record { number = number; place = line }) starts
order_outcome starts (done t l) = left (record { number = 0; place = 0 }) t

unfoldable pub order_reading : ℤ → List ℕ → ℕ → List ℕ → Lent → List ℕ → Left OrderRead (List ℕ)
order_reading anchor text n labels lent starts =
    unless (order_read_fault anchor n labels lent starts) (λ f. left (record { number = f.number; place = f.place }) starts)
    (order_outcome starts (order_from anchor n labels lent.widths starts text))
