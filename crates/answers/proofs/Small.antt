-- What a clash is told by: its cell, and how many slots short it is, are small numbers. Assumes nothing.
use Prim.Native.Nat.{ℕ, ◌-◌, ◌≤◌, ◌<◌}
use Rattle.std.specs.Prelude.{◌≡◌, ◌≢◌, refl, ◌⊎◌, Bool, true, false, cond, List, length}
use Rattle.std.proofs.Common.{sym, ap, subst, ◌∙◌, inl, inr, arith}
use Rattle.rules.specs.declared.Fault.{Fault}
use Rattle.rules.specs.Tables.{at, cell, Lent}
use Rattle.rules.specs.Limits.{Network, Starts}
use Rattle.rules.specs.Scan.{first, found, first_row, found_pair}
use Rattle.rules.specs.Plan.{net_of, past, is_lower, short, too_close}
use Rattle.rules.specs.Numbers.{◌or_else◌, no_fault, scan, square, size_fault, path_fault, start_fault, clash_fault, lent_fault, plan_sizes, judge_fault, why_fault}
use Rattle.table_laws.specs.Scans.{found_first}
use Rattle.table_laws.specs.Faults.{or_first, or_second, or_past, size_clear, never_refuse, never_or, never_size, never_lent}
use Rattle.table_laws.specs.Chains.{lent_clear, plan_sizes_lem}
use Rattle.table_laws.specs.Limits.{starts_within}

-- where it is 8
abbrev pub Small : Fault → Type 0
Small f = f.number ≡ 8 → (f.place < 16384) × (f.short < 100000)

module _ (n : ℕ) (lent : Lent) (starts : List ℕ) where
  module _ (w : Network n lent) (s : Starts n starts) where
    guard_most : (i j : ℕ) → i < n → j < n → at lent.guards (cell i j) ≤ 255
    guard_most i j a b = go (w.guard i j a b)
      where
        go : (at lent.guards (cell i j) ≤ 32) ⊎ (at lent.guards (cell i j) ≡ 255) → at lent.guards (cell i j) ≤ 255
        go (inl l) = omega arith
        go (inr e) = omega arith

    short_small : (i j : ℕ) → i < n → j < n → short (net_of lent) (at starts) i j < 100000
    unfolding short
    short_small i j a b = go (is_lower (at starts) i j)
      where
        go : (t : Bool) → cond t (past (net_of lent) i j (at starts i) - at starts j) (past (net_of lent) j i (at starts j) - at starts i) < 100000
        go true = omega (arith, (w.width i a).1, (s.start i a).1, guard_most i j a b)
        go false = omega (arith, (w.width j b).1, (s.start j b).1, guard_most j i b a)

    clash_small : Small (clash_fault n (net_of lent) starts)
    unfolding clash_fault square first_row found_pair
    clash_small = go (found (λ i. found (bad i) n) n) refl
      where
        bad : ℕ → ℕ → Bool
        bad = too_close (net_of lent) (at starts)

        row : ℕ
        row = first (λ i. found (bad i) n) n

        go : (t : Bool) → found (λ i. found (bad i) n) n ≡ t
            → Small (cond t (record { number = 8; place = cell row (first (bad row) n); short = short (net_of lent) (at starts) row (first (bad row) n) }) no_fault)
        go true e z =
            let i = found_first (λ i. found (bad i) n) n e in
            let j = found_first (bad row) n i.1 in
            (omega (arith, i.0, j.0, w.few), short_small row (first (bad row) n) i.0 j.0)
        go false e z = absurd (omega arith)

  start_never : (start_fault n starts).number ≡ 8 → ◌≡◌ {A = ℕ} 8 0
  unfolding start_fault scan
  start_never = never_refuse _ 7 _ 8 (λ e. omega arith)

  -- the tests of a plan up to 8, after which there may be others
  plan_small : (sizes rest : Fault) → (sizes.number ≡ 8 → ◌≡◌ {A = ℕ} 8 0) → (sizes.number ≡ 0 → length starts ≡ 128)
      → (Network n lent → Starts n starts → Small rest) → Small (lent_fault n lent sizes or_else start_fault n starts or_else rest)
  plan_small sizes rest never long h z =
      let a = or_past (lent_fault n lent sizes) (start_fault n starts or_else rest) 8 (never_lent n lent sizes 8 never (inr (omega arith))) z in
      let b = or_past (start_fault n starts) rest 8 start_never a.1 in
      let w = lent_clear n lent sizes a.0 in
      let e = or_second (lent_fault n lent sizes) (start_fault n starts or_else rest) a.0 ∙ or_second (start_fault n starts) rest b.0 in
      subst Small (sym e) (h w.0 (starts_within n starts (long w.1) b.0)) z

  pub judge_small : Small (judge_fault n lent starts)
  unfolding judge_fault
  judge_small = plan_small (size_fault starts 128) (clash_fault n (net_of lent) starts) (never_size starts 128 8 (λ e. omega arith)) (size_clear starts 128) clash_small

  module _ (path : ℕ) (table : List ℕ) where
    path_never : (path_fault n path).number ≡ 8 → ◌≡◌ {A = ℕ} 8 0
    unfolding path_fault
    path_never = never_refuse _ 6 _ 8 (λ e. omega arith)

    sizes_never : (plan_sizes table starts).number ≡ 8 → ◌≡◌ {A = ℕ} 8 0
    unfolding plan_sizes
    sizes_never = never_or (size_fault table 128) (size_fault starts 128) 8 (never_size table 128 8 (λ e. omega arith)) (never_size starts 128 8 (λ e. omega arith))

    end_small : (clash : Fault) → Small clash → Small (clash or_else path_fault n path)
    end_small clash h z =
        let some : clash.number ≢ 0 = λ q. absurd (omega (arith, path_never (sym (ap (λ (x : Fault). x.number) (or_second clash (path_fault n path) q)) ∙ z))) in
        subst Small (sym (or_first clash (path_fault n path) some)) h z

    pub why_small : Small (why_fault n lent starts path table)
    unfolding why_fault
    why_small =
        let clash = clash_fault n (net_of lent) starts in
        plan_small (plan_sizes table starts) (clash or_else path_fault n path) sizes_never (λ q. (plan_sizes_lem table starts q).1) (λ w s. end_small clash (clash_small w s))
