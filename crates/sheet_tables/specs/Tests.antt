-- The writer's tests of its tables. Assumes nothing.
use Rattle.std.specs.Prelude.{ℕ, ◌&&◌, List, ltb}
use Rattle.rules.specs.declared.Fault.{Fault}
use Rattle.rules.specs.Tables.{Lent}
use Rattle.rules.specs.Writing.{bad_label, label_twice, pairs, has_plan}
use Rattle.rules.specs.Numbers.{refuse_if, ◌or_else◌, scan, bad_start, label_sizes, lent_fault}

-- 7, where there is a plan
unfoldable pub plan_fault : ℕ → List ℕ → Fault
plan_fault n starts = scan 7 (λ k. has_plan n starts && bad_start starts k) n

-- all of them but the last, 16, which is of the text
unfoldable pub table_fault : ℕ → List ℕ → Lent → List ℕ → Fault
table_fault n labels lent starts =
    lent_fault n lent (label_sizes labels starts)
    or_else scan 11 (bad_label labels) n or_else scan 12 (label_twice labels) n or_else refuse_if (ltb 2000 (pairs n lent.guards)) 1 0
    or_else plan_fault n starts
