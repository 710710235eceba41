-- Demand 2 (RULES 21): the two sides and the two-sided order, as the call answers. Assumes nothing.
use Prim.Native.Nat.{ℕ, suc, ◌≤◌, ◌<◌}
use Rattle.std.specs.Prelude.{◌≡◌, ◌≢◌, ◌↔◌, Bool, List, length}
use Rattle.std.proofs.Math.Path.{refl, subst}
use Rattle.std.proofs.Common.{sym, ◌∙◌, true≢false}
use Rattle.std.proofs.Math.Bool.{true, false, cond}
use native.Mathlib.Omega.{arith}
use Rattle.std.proofs.Math.Decide.{dec_lt}
use Rattle.rules.specs.Tables.{at, Lent}
use Rattle.rules.specs.Limits.{Network}
use Rattle.rules.specs.Scan.{sum}
use Rattle.rules.specs.Plan.{Net, net_of, highest, Valid}
use Rattle.rules.specs.Packing.{Once}
use Rattle.rules.specs.Sides.{Split, Sides, is_high, has_sides, two_sided, low_side, two_sided_highest}
use Rattle.rules.specs.Calls.{left, done_packed, packing, siding}
use Rattle.table_laws.specs.Scans.{sum_few, sum_many}
use Rattle.table_laws.specs.Orders.{sum_order}
use Rattle.plan_laws.specs.Arranged.{arranged_least, arranged_first}
use Rattle.plan_laws.specs.Sided.{sided_length, sided_order}
use Rattle.demands.specs.TwoSided.{figure_holds, two_sided_lem}
use Rattle.demands.specs.Finding.{sides_found, found_sides, found_all}
use Rattle.plan_laws.specs.Fits.{network_good}
use Rattle.table_laws.specs.Limits.{order_once}
use Rattle.plan_laws.specs.Answers.{Packable, packable_packing, Sidable, siding_done, siding_nine, sidable_number, sidable_siding}

-- The two-sided order, whatever the sides: first the low paths and then the high ones, each by number
module _ (n : ℕ) (high : ℕ → Bool) (order : List ℕ) (room : n ≤ length order) where
  o : ℕ → ℕ
  o = at (two_sided n high order)

  -- no low path stands after a high one
  pub sided_rises : (i j : ℕ) → i < j → j < n → cond (high (at (two_sided n high order) i)) 1 0 ≤ cond (high (at (two_sided n high order) j)) 1 0
  unfolding two_sided
  sided_rises i j h l =
      arranged_least (λ s i k. cond (high k) 1 0) n order room n i (at (two_sided n high order) j) (omega arith) (omega arith) ((sided_order n high order room).inside j l)
      (λ k g. (sided_order n high order room).fresh k j (omega arith) l)

  -- and on one side the numbers rise
  pub sided_numbers : (i j : ℕ) → i < j → j < n → high (at (two_sided n high order) i) ≡ high (at (two_sided n high order) j)
      → at (two_sided n high order) i < at (two_sided n high order) j
  unfolding two_sided
  sided_numbers i j h l e =
      differ ((sided_order n high order room).fresh i j h l)
      (arranged_first (λ s i k. cond (high k) 1 0) n order room n i (at (two_sided n high order) j) (omega arith) (omega arith) ((sided_order n high order room).inside j l)
      (λ k g. (sided_order n high order room).fresh k j (omega arith) l) (rw e (omega arith)))
    where
      differ : {x y : ℕ} → x ≢ y → x ≤ y → x < y
      differ ne g = omega arith

  -- its first paths, as many as the low side has, are low, and the rest high
  is_low : ℕ → ℕ
  is_low k = cond (high k) 0 1

  low_along : sum (λ i. is_low (o i)) n ≡ low_side n high
  unfolding low_side is_low o
  low_along = sum_order (λ k. cond (high k) 0 1) (at (two_sided n high order)) n (sided_order n high order room)

  low_none : (k : ℕ) → high k ≡ true → is_low k ≡ 0
  unfolding is_low
  low_none k e = rw e

  low_one : (k : ℕ) → high k ≡ false → is_low k ≡ 1
  unfolding is_low
  low_one k e = rw e

  at_most_one : (k : ℕ) → is_low k ≤ 1
  at_most_one k = go (high k) refl
    where
      go : (b : Bool) → high k ≡ b → is_low k ≤ 1
      go true e = omega (arith, low_none k e)
      go false e = omega (arith, low_one k e)

  -- a high path is followed by high paths alone
  stays_high : (i j : ℕ) → i ≤ j → j < n → high (o i) ≡ true → high (o j) ≡ true
  unfolding o
  stays_high i j h l e = go (dec_lt i j) (high (o j)) refl
    where
      go : Dec (i < j) → (b : Bool) → high (o j) ≡ b → high (o j) ≡ true
      go d true f = f
      go (yes x) false f = absurd (omega (arith, rw (e, f) at (sided_rises i j x l)))
      go (no x) false f = let q : i ≡ j = omega arith in subst (λ j. high (o j) ≡ true) q e

  pub sided_low : (i : ℕ) → i < low_side n high → i < n → high (at (two_sided n high order) i) ≡ false
  unfolding o
  sided_low i h l = go (high (o i)) refl
    where
      go : (b : Bool) → high (o i) ≡ b → high (o i) ≡ false
      go false e = e
      go true e =
          absurd (omega (arith, low_along, sum_few (λ i. is_low (o i)) i n (λ j. at_most_one (o j)) (λ j g k. low_none (o j) (stays_high i j g k e))))

  pub sided_high : (i : ℕ) → low_side n high ≤ i → i < n → high (at (two_sided n high order) i) ≡ true
  unfolding o
  sided_high i h l = go (high (o i)) refl
    where
      low_before : high (o i) ≡ false → (j : ℕ) → j < suc i → (b : Bool) → high (o j) ≡ b → is_low (o j) ≡ 1
      low_before e j g false f = low_one (o j) f
      low_before e j g true f = absurd (true≢false (sym (stays_high j i (omega arith) l f) ∙ e))

      go : (b : Bool) → high (o i) ≡ b → high (o i) ≡ true
      go true e = e
      go false e = absurd (omega (arith, low_along, sum_many (λ i. is_low (o i)) (suc i) n l (λ j g. low_before e j g (high (o j)) refl)))

-- 0 exactly when there are two sides, 9 exactly when there are none, the earlier tests having found no fault
module _ (n : ℕ) (lent : Lent) (order : List ℕ) where
  abbrev net : Net
  net = net_of lent

  pub siding_exact : ((siding n lent order).answer.number ≡ 0) ↔ (Sidable n lent order × Sides net n (is_high net n))
  siding_exact = (
    λ z. let s = siding_done n lent order z in (s.0, found_sides net n s.0.network.few (network_good n lent s.0.network) s.1),
    λ h. sidable_number n lent order h.0 ∙ rw (found_all net n h.0.network.few (network_good n lent h.0.network) (is_high net n) h.1.split),
  )

  pub nine_exact : ((siding n lent order).answer.number ≡ 9) ↔ (Sidable n lent order × ((high : ℕ → Bool) → Split net n high → ⊥))
  nine_exact = (
    λ z.
        let s = siding_nine n lent order z in
        (s.0, λ high split. true≢false (sym (found_all net n s.0.network.few (network_good n lent s.0.network) high split) ∙ s.1)),
    λ h. sidable_number n lent order h.0 ∙ go h.0 h.1 (has_sides net n) refl,
  )
    where
      go : Sidable n lent order → ((high : ℕ → Bool) → Split net n high → ⊥) → (b : Bool) → has_sides net n ≡ b → cond {A = ℕ} (has_sides net n) 0 9 ≡ 9
      go s no-split false e = rw e
      go s no-split true e = absurd (no-split (is_high net n) (found_sides net n s.network.few (network_good n lent s.network) e).split)

  -- the sides are unique
  pub siding_unique : Network n lent → (high : ℕ → Bool) → Sides net n high → (k : ℕ) → k < n → high k ≡ is_high net n k
  siding_unique w high s = sides_found net n w.few high s

  module _ (zero-answer : (siding n lent order).answer.number ≡ 0) where
    sidable : Sidable n lent order × (has_sides net n ≡ true)
    sidable = siding_done n lent order zero-answer

    room : n ≤ length order
    room = omega (arith, sidable.0.order_size, sidable.0.network.few)

    sides : Sides net n (is_high net n)
    sides = found_sides net n sidable.0.network.few (network_good n lent sidable.0.network) sidable.1

    siding_is : siding n lent order ≡ left (record { number = 0; place = 0; low = low_side n (is_high net n) }) (two_sided n (is_high net n) order)
    siding_is = sidable_siding n lent order sidable.0 sidable.1

    pub siding_order : Once (at (siding n lent order).tables) n
    siding_order = rw siding_is (order_once (at (two_sided n (is_high net n) order)) n (sided_order n (is_high net n) order room))

    -- the size of the low side: so many paths of the order are low, and the rest high
    pub siding_low : (i : ℕ) → i < n → i < (siding n lent order).answer.low → is_high net n (at (siding n lent order).tables i) ≡ false
    siding_low i l = rw siding_is (λ h. sided_low n (is_high net n) order room i h l)

    pub siding_high : (i : ℕ) → i < n → (siding n lent order).answer.low ≤ i → is_high net n (at (siding n lent order).tables i) ≡ true
    siding_high i l = rw siding_is (λ h. sided_high n (is_high net n) order room i h l)

    -- each side by number
    pub siding_numbers : (i j : ℕ) → i < j → j < n
        → is_high net n (at (siding n lent order).tables i) ≡ is_high net n (at (siding n lent order).tables j)
        → at (siding n lent order).tables i < at (siding n lent order).tables j
    siding_numbers i j h l = rw siding_is (sided_numbers n (is_high net n) order room i j h l)

    -- packed, its highest slot is the figure of RULES 7, and no valid plan has a lower one
    pub siding_packs : (starts : List ℕ) → length starts ≡ 128 → (packing n lent (siding n lent order).tables starts).answer.highest ≡ two_sided_highest net n
    unfolding done_packed
    siding_packs starts size =
        rw (siding_is, packable_packing n lent (two_sided n (is_high net n) order) starts packable)
        (two_sided_lem net n (network_good n lent sidable.0.network) (λ k l. refl) (is_high net n) sides.split order starts room (omega (arith, sidable.0.network.few)))
      where
        packable : Packable n lent (two_sided n (is_high net n) order) starts
        packable = record {
          network = sidable.0.network;
          order_size = sided_length n (is_high net n) order room ∙ sidable.0.order_size;
          starts_size = size;
          whole = sided_order n (is_high net n) order room;
        }

    pub siding_best : (plan : ℕ → ℕ) → Valid net n plan → two_sided_highest net n ≤ highest net plan n
    siding_best plan v = figure_holds net n (network_good n lent sidable.0.network) plan v
