-- The tests of the tables that an order sheet is written from, in their order. Assumes nothing.
use Rattle.std.specs.Prelude.{ℕ, List, ℤ}
use Rattle.rules.specs.declared.Fault.{Fault}
use Rattle.rules.specs.Tables.{Lent}
use Rattle.rules.specs.Writing.{bad_label, label_twice}
use Rattle.rules.specs.Numbers.{◌or_else◌, scan, start_fault, label_sizes, anchor_fault, order_read_fault}

-- 2 of the labels and the starts, then 17
unfoldable pub given_fault : ℤ → List ℕ → List ℕ → Fault
given_fault anchor labels starts = label_sizes labels starts or_else anchor_fault anchor

-- all tests of a writing but the last, 16, which is of the text
unfoldable pub table_fault : ℤ → ℕ → List ℕ → Lent → List ℕ → Fault
table_fault anchor n labels lent starts =
    order_read_fault anchor n labels lent starts or_else scan 11 (bad_label labels) n or_else scan 12 (label_twice labels) n or_else start_fault n starts
