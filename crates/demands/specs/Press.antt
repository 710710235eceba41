-- Pressing. Assumes nothing.
use Rattle.std.specs.Prelude.{ℕ, ◌≤◌, ◌<◌, ◌≡◌, ◌⊎◌, List, length}
use Rattle.std.proofs.Common.{sym, subst₂, ap, inl, inr, arith, ext_get_or}
use Rattle.std.proofs.Math.Decide.{dec_lt}
use Rattle.rules.specs.Tables.{at, cleared}
use Rattle.rules.specs.Plan.{Net, Conflict, Clear, Valid}
use Rattle.plan_laws.specs.Good.{Good}
use Rattle.plan_laws.specs.Apart.{either, clear_lt, lower_clear}
use Rattle.rules.specs.Pressing.{SameSides, by_start, pressed}
use Rattle.rules.specs.Packing.{lowest, Order}
use Rattle.table_laws.specs.Tables.{cleared_length}
use Rattle.plan_laws.specs.Pack.{packed_other, packed_length}
use Rattle.table_laws.specs.Orders.{place}
use Rattle.plan_laws.specs.Arranged.{arranged_order, arranged_least}
use Rattle.plan_laws.specs.Lowest.{lowest_local}
use Rattle.plan_laws.specs.Plans.{Keeps, packed_valid, packed_least, respects_keeps, respected}

module _ (net : Net) (n : ℕ) (good : Good net n) where
  pub sides_sym : {p q : ℕ → ℕ} → Valid net n p → Valid net n q → SameSides net n p q → SameSides net n q p
  sides_sym {p} {q} v w s i j h l c lt = go (either net n good v i j h l c)
    where
      go : Clear net p i j ⊎ Clear net p j i → p i < p j
      go (inl x) = clear_lt net n good p i j h x
      go (inr x) = absurd (omega (arith, s j i l h (omega (arith, good.mirrored i j h l)) (clear_lt net n good p j i l x)))

  module _ (o : List ℕ) (room : n ≤ length o) where
    abbrev pub by : (ℕ → ℕ) → ℕ → ℕ
    by q = at (by_start n q o n)

    pub by_order : (q : ℕ → ℕ) → Order (by q) n n
    by_order q = arranged_order (λ s i k. q k) n o room n (omega arith)

    pub by_sorted : (q : ℕ → ℕ) (i j : ℕ) → i < j → j < n → q (by q i) ≤ q (by q j)
    by_sorted q i j h l =
        arranged_least (λ s i k. q k) n o room n i (by q j) (omega arith) (omega arith) ((by_order q).inside j l) (λ k g. (by_order q).fresh k j (omega arith) l)

    -- a valid plan on the sides of q keeps the sides of q's order
    pub by_keeps : {q r : ℕ → ℕ} → Valid net n q → Valid net n r → SameSides net n q r → Keeps net n (by q) r
    by_keeps {q} {r} v w s i j h l c = go (either net n good v (by q i) (by q j) hi hj c)
      where
        hi : by q i < n
        hi = (by_order q).inside i (omega arith)

        hj : by q j < n
        hj = (by_order q).inside j l

        go : Clear net q (by q i) (by q j) ⊎ Clear net q (by q j) (by q i) → Clear net r (by q i) (by q j)
        go (inl x) = lower_clear net n good w (by q i) (by q j) hi hj c (s (by q i) (by q j) hi hj c (clear_lt net n good q (by q i) (by q j) hi x))
        go (inr x) = absurd (omega (arith, by_sorted q i j h l, clear_lt net n good q (by q j) (by q i) hj x))

    -- of a plan r that keeps the sides of q's order
    keeps_sides : (q r : ℕ → ℕ) → Keeps net n (by q) r → SameSides net n q r
    keeps_sides q r k i j h l =
        let a = place (by q) n (by_order q) i h in
        let b = place (by q) n (by_order q) j l in
        subst₂ (λ x y. Conflict net x y → q x < q y → r x < r y) a.2 b.2 (go a.0 b.0 a.1 b.1)
      where
        go : (a b : ℕ) → a < n → b < n → Conflict net (by q a) (by q b) → q (by q a) < q (by q b) → r (by q a) < r (by q b)
        go a b h l c lt = then (dec_lt a b) (dec_lt b a)
          where
            then : Dec (a < b) → Dec (b < a) → r (by q a) < r (by q b)
            then (yes x) d = clear_lt net n good r (by q a) (by q b) ((by_order q).inside a h) (k a b x l c)
            then (no x) (yes y) = absurd (omega (arith, by_sorted q b a y h))
            then (no x) (no y) = let e : a ≡ b = omega arith in absurd (omega (arith, ap (λ z. q (by q z)) e))

  -- the order that pressing packs
  module _ (few : n ≤ 128) where
    pub room : n ≤ length (cleared 128 0)
    room = omega (arith, cleared_length 128 0)

    abbrev pub order_of_press : (ℕ → ℕ) → ℕ → ℕ
    order_of_press q = by (cleared 128 0) room q

    pub press_order : (q : ℕ → ℕ) → Order (order_of_press q) n n
    press_order q = by_order (cleared 128 0) room q

    module _ (t : List ℕ) (space : n ≤ length t) (v : Valid net n (at t)) where
      -- a pressed plan is valid
      pub press_valid : Valid net n (at (pressed net n t))
      unfolding pressed
      press_valid = packed_valid net n (order_of_press (at t)) (press_order (at t)) t space good

      -- keeps which of each conflicting pair is lower
      pub press_sides : SameSides net n (at t) (at (pressed net n t))
      unfolding pressed
      press_sides = keeps_sides (cleared 128 0) room (at t) _ (respects_keeps net n (order_of_press (at t)) (press_order (at t)) _ (respected net n (order_of_press (at t)) (press_order (at t)) t space))

      -- and is nowhere above a valid plan of the same sides
      pub press_least : (r : ℕ → ℕ) → Valid net n r → SameSides net n (at t) r → (k : ℕ) → k < n → at (pressed net n t) k ≤ r k
      unfolding pressed
      press_least r w s = packed_least net n (order_of_press (at t)) (press_order (at t)) t space r w.lows (by_keeps (cleared 128 0) room v w s)

      -- outside the paths nothing changes
      pub press_length : length (pressed net n t) ≡ length t
      unfolding pressed
      press_length = packed_length (lowest net) (lowest_local net) (order_of_press (at t)) t n

      pub press_other : (k : ℕ) → n ≤ k → at (pressed net n t) k ≡ at t k
      unfolding pressed
      press_other k g = packed_other (lowest net) (lowest_local net) (order_of_press (at t)) t n k (λ i l e. omega (arith, (press_order (at t)).inside i l))

    -- two valid plans of the same sides press to the same starts
    pub press_agree : (t u : List ℕ) → n ≤ length t → n ≤ length u → Valid net n (at t) → Valid net n (at u) → SameSides net n (at t) (at u)
        → (k : ℕ) → k < n → at (pressed net n t) k ≡ at (pressed net n u) k
    press_agree t u a b v w s k l =
        omega (
          arith,
          press_least t a v (at (pressed net n u)) (press_valid u b w) (λ i j h g c lt. press_sides u b w i j h g c (s i j h g c lt)) k l,
          press_least u b w (at (pressed net n t)) (press_valid t a v) (λ i j h g c lt. press_sides t a v i j h g c (sides_sym v w s i j h g c lt)) k l,
        )

    -- pressing again changes nothing
    pub press_again : (t : List ℕ) → n ≤ length t → Valid net n (at t) → pressed net n (pressed net n t) ≡ pressed net n t
    press_again t a v = ext_get_or 0 (pressed net n p) p (press_length p b w) (λ k l. go k (dec_lt k n))
      where
        p : List ℕ
        p = pressed net n t

        b : n ≤ length p
        b = omega (arith, press_length t a v)

        w : Valid net n (at p)
        w = press_valid t a v

        go : (k : ℕ) → Dec (k < n) → at (pressed net n p) k ≡ at p k
        go k (yes l) = sym (press_agree t p a b v w (press_sides t a v) k l)
        go k (no l) = press_other p b w k (omega arith)
