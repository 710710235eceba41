-- 7, where there is a plan and where there is none; the pairs. Assumes nothing.
use Prim.Native.Nat.{ℕ, zero, suc, ◌*◌, ◌≤◌}
use Rattle.std.specs.Prelude.{◌≡◌, refl, Bool, true, false, cond, ◌&&◌, List, map}
use Rattle.std.proofs.Common.{sym, ap, arith}
use Rattle.std.specs.List.{range_with_len, sum_by}
use Rattle.std.proofs.lemmas.List.FromFn.{sum_by-map-range_with_len_more}
use Rattle.rules.specs.declared.Fault.{Fault}
use Rattle.rules.specs.Scan.{sum}
use Rattle.rules.specs.Writing.{is_pair, pairs, has_plan}
use Rattle.rules.specs.Numbers.{no_fault, bad_start, start_fault}
use Rattle.table_laws.specs.Faults.{scan_none}
use Rattle.table_laws.specs.Scans.{sum_le}
use Rattle.sheet_tables.specs.Tests.{plan_fault}

pub plan_tested : (n : ℕ) (starts : List ℕ) (f : Fault) → has_plan n starts ≡ true → f ≡ start_fault n starts → f ≡ plan_fault n starts
unfolding plan_fault start_fault
plan_tested n starts f e h = rw e h

pub plan_untested : (n : ℕ) (starts : List ℕ) → has_plan n starts ≡ false → no_fault ≡ plan_fault n starts
unfolding plan_fault
plan_untested n starts e = sym (scan_none 7 (λ k. has_plan n starts && bad_start starts k) n (λ k l. ap (λ (b : Bool). b && bad_start starts k) e))

-- the pairs, counted row by row
pub sum_below : (f : ℕ → ℕ) (n : ℕ) → sum_by (λ x. x) (map f (range_with_len 0 n)) ≡ sum f n
unfolding sum
sum_below f zero = refl
sum_below f (suc n) = grind (arith, sum_by-map-range_with_len_more (λ x. x) f 0 n n (omega arith), sum_below f n)

-- a row has at most n of them
row_few : (guards : List ℕ) (n i : ℕ) → sum (λ j. cond (is_pair guards i j) 1 0) n ≤ n * 1
row_few guards n i = sum_le _ 1 n (λ j l. go (is_pair guards i j))
  where
    go : (b : Bool) → cond b 1 0 ≤ 1
    go true = omega arith
    go false = omega arith

pub pairs_few : (n : ℕ) (guards : List ℕ) → n ≤ 128 → pairs n guards ≤ 16384
unfolding pairs
pairs_few n guards l =
    let e = sum_le (λ i. sum (λ j. cond (is_pair guards i j) 1 0) n) 128 n (λ i g. omega (arith, row_few guards n i)) in
    omega arith
