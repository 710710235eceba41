-- For code that runs tests one after the other: what it knows once a test has answered 0. Assumes nothing.
use Rattle.std.specs.Prelude.{ℕ, ◌≤◌, ◌≡◌, not, List, length, eqb}
use Rattle.std.proofs.Common.{sym, ap, ◌∙◌, arith}
use Rattle.rules.specs.Tables.{Lent}
use Rattle.rules.specs.Limits.{Network}
use Rattle.rules.specs.declared.Fault.{Fault}
use Rattle.rules.specs.Numbers.{refuse_if, outside, count_fault, size_fault, network_sizes, lent_fault, plan_sizes}
use Rattle.table_laws.specs.Faults.{refuse_clear, or_clear, or_none, size_good, size_clear}
use Rattle.table_laws.specs.Limits.{clear_of, outside_not, network_within, within_network}

-- a test answered f: where f has no number, neither has the test
pub number_of : {f g : Fault} → f ≡ g → f.number ≡ 0 → g.number ≡ 0
number_of e z = sym (ap (λ (x : Fault). x.number) e) ∙ z

-- 1
pub count_clear : (n : ℕ) → (count_fault n).number ≡ 0 → (1 ≤ n) × (n ≤ 128)
unfolding count_fault
count_clear n z = outside_not 1 128 n (refuse_clear (outside 1 128 n) 1 0 (omega arith) z)

-- 2, of a table of so many cells, and of the tables that every call is lent
pub size_is : (table : List ℕ) (cells size : ℕ) {f : Fault} → f ≡ refuse_if (not (eqb cells size)) 2 0 → length table ≡ cells → f ≡ size_fault table size
unfolding size_fault
size_is table cells size e q = rw q e

pub sizes_clear : (lent : Lent) → (network_sizes lent).number ≡ 0 → (length lent.widths ≡ 128) × (length lent.guards ≡ 16384)
unfolding network_sizes
sizes_clear lent z = let h = or_clear _ _ z in (size_clear lent.widths 128 h.0, size_clear lent.guards 16384 h.1)

-- 2, 1, 3, 4, 5 in their order: a network within the limits, and beside it tables of their sizes
pub lent_clear : (n : ℕ) (lent : Lent) (sizes : Fault) → (lent_fault n lent sizes).number ≡ 0 → Network n lent × (sizes.number ≡ 0)
unfolding lent_fault
lent_clear n lent sizes z =
    let a = or_clear _ _ z in
    let b = or_clear _ _ a.1 in
    (network_within n lent a.0 b.1, b.0)

pub clear_lent : (n : ℕ) (lent : Lent) (sizes : Fault) → Network n lent → sizes.number ≡ 0 → (lent_fault n lent sizes).number ≡ 0
unfolding lent_fault
clear_lent n lent sizes w z = let h = within_network n lent w in or_none _ _ h.0 (or_none _ _ z h.1)

-- 2, of an order and a table of starts
pub plan_sizes_lem : (order starts : List ℕ) → (plan_sizes order starts).number ≡ 0 → (length order ≡ 128) × (length starts ≡ 128)
unfolding plan_sizes
plan_sizes_lem order starts z = let h = or_clear _ _ z in (size_clear order 128 h.0, size_clear starts 128 h.1)

pub sizes_plan : (order starts : List ℕ) → length order ≡ 128 → length starts ≡ 128 → (plan_sizes order starts).number ≡ 0
unfolding plan_sizes
sizes_plan order starts a b = or_none _ _ (clear_of (sym (size_good order 128 a))) (clear_of (sym (size_good starts 128 b)))
