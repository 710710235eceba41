-- Why a path stands where it stands (RULES 25): what the links of a chain add up to, what they rule out, how
-- far the last path can come down, and where the chain of a packed plan ends. Assumes nothing.
use Prim.Native.Nat.{ℕ, zero, suc, ◌+◌, ◌-◌, ◌≤◌, ◌<◌, max}
use Rattle.std.specs.Prelude.{◌≡◌, ◌≢◌, ◌⊎◌, ◌↔◌, Bool, List, length, ltb}
use Rattle.std.proofs.Math.Path.{refl, ap}
use Rattle.std.proofs.Common.{sym, subst, ◌∙◌, inr, ltb-true}
use Rattle.std.proofs.Math.Logic.{inl}
use Rattle.std.proofs.Math.Bool.{true, false, cond}
use native.Mathlib.Omega.{arith}
use Rattle.std.proofs.Math.Decide.{dec_lt, dec_le, ℕ_discrete}
use Rattle.rules.specs.Tables.{at}
use Rattle.rules.specs.Scan.{largest, sum}
use Rattle.rules.specs.Plan.{Net, Conflict, end, past, Clear, Valid}
use Rattle.rules.specs.Packing.{reach, lowest, packed, Order}
use Rattle.rules.specs.Pressing.{SameSides}
use Rattle.rules.specs.Reason.{is_below, bottom, down, HoldsUp, last, Chain, CanStand, along}
use Rattle.table_laws.specs.Scans.{largest_ge, largest_le, largest_at}
use Rattle.plan_laws.specs.Good.{Good}
use Rattle.plan_laws.specs.Apart.{clear_lt, lower_clear}
use Rattle.plan_laws.specs.Lowest.{lowest_local}
use Rattle.plan_laws.specs.Plans.{everywhere, packs}
use Rattle.plan_laws.specs.Reason.{below_parts, parts_below, chain_inside}

module _ (net : Net) (n : ℕ) (good : Good net n) (plan : ℕ → ℕ) where
  -- the slots that the links of a chain c take from its path i down to the path above it, in all
  abbrev step : List ℕ → ℕ → ℕ
  step c i = net.width (at c (suc i)) + net.guard (at c (suc i)) (at c i)

  module _ (k : ℕ) (c : List ℕ) (h : Chain net plan n k c) where
    -- the widths and guards add up along it
    part_sum : (i : ℕ) → i < length c → plan k ≡ plan (at c i) + sum (step c) i
    unfolding sum
    part_sum zero l = omega (arith, ap plan h.from)
    part_sum (suc i) l = let x = h.links i l in omega (arith, part_sum i (omega arith), x.meets, good.wide (at c (suc i)) x.path)

    pub chain_sum : plan k ≡ plan (last c) + along net c
    unfolding along
    chain_sum = part_sum (length c - 1) (omega (arith, h.some))

    -- another valid plan in which the paths of the chain keep their order
    module _ (inside : k < n) (other : ℕ → ℕ) (v : Valid net n other) (keeps : (i : ℕ) → suc i < length c → other (at c (suc i)) < other (at c i)) where
      part_holds : (i : ℕ) → i < length c → other (at c i) + sum (step c) i ≤ other k
      unfolding sum
      part_holds zero l = omega (arith, ap other h.from)
      part_holds (suc i) l =
          let x = h.links i l in
          let a = at c (suc i) in
          let b = at c i in
          let y = lower_clear net n good v a b x.path (chain_inside net plan n k c inside h i (omega arith)) x.conflict (keeps i l) in
          omega (arith, part_holds i (omega arith), y, good.wide a x.path)

      -- it has at least as many slots between the first and the last path
      pub chain_holds : other (last c) + along net c ≤ other k
      unfolding along
      chain_holds = part_holds (length c - 1) (omega (arith, h.some))

      -- so where the chain ends on a lowest start, it puts the first path no lower
      pub chain_reason : plan (last c) ≡ net.low (last c) → plan k ≤ other k
      chain_reason e =
          omega (arith, chain_sum, chain_holds, e, v.lows (last c) (chain_inside net plan n k c inside h (length c - 1) (omega (arith, h.some))))

    pub sides_reason : k < n → (other : ℕ → ℕ) → Valid net n other → SameSides net n plan other → plan (last c) ≡ net.low (last c) → plan k ≤ other k
    sides_reason inside other v same =
        chain_reason inside other v (λ i l. same (at c (suc i)) (at c i) (h.links i l).path (chain_inside net plan n k c inside h i (omega arith)) (h.links i l).conflict (h.links i l).lower)

  -- How far path k can come down
  abbrev asks : ℕ → ℕ → ℕ
  asks k j = cond (is_below net plan k j) (past net j k (plan j)) 0

  asks_le : (k j s : ℕ) → (Conflict net j k → plan j < plan k → end net j (plan j) + net.guard j k < s) → asks k j ≤ s
  asks_le k j s h = go (is_below net plan k j) refl
    where
      go : (b : Bool) → is_below net plan k j ≡ b → cond b (past net j k (plan j)) 0 ≤ s
      go true e = let p = below_parts net plan k j e in omega (arith, h p.0 p.1)
      go false e = omega arith

  asks_ge : (k j : ℕ) → Conflict net j k → plan j < plan k → past net j k (plan j) ≤ asks k j
  asks_ge k j c l = rw (parts_below net plan k j c l) (omega arith)

  -- the bottom is the lowest slot in which it can stand
  pub bottom_stands : (k s : ℕ) → bottom net plan n k ≤ s → CanStand net plan n k s
  unfolding bottom
  bottom_stands k s l = (omega arith, λ j g c b. omega (arith, largest_ge (asks k) n j g, asks_ge k j c b))

  pub stands_bottom : (k s : ℕ) → CanStand net plan n k s → bottom net plan n k ≤ s
  unfolding bottom
  stands_bottom k s h = omega (arith, h.0, largest_le (asks k) n s (λ j g. asks_le k j s (h.1 j g)))

  -- what it meets there: its lowest start, or the slot just past a path below it and their guard
  pub bottom_meets : (k : ℕ) → (bottom net plan n k ≡ net.low k) ⊎ ((j : ℕ) × (j < n) × Conflict net j k × (plan j < plan k) × (past net j k (plan j) ≡ bottom net plan n k))
  unfolding bottom
  bottom_meets k = go (dec_le (largest (asks k) n) (net.low k)) (largest_at (asks k) n)
    where
      at_path : (j : ℕ) → j < n → (b : Bool) → is_below net plan k j ≡ b → cond b (past net j k (plan j)) 0 ≡ largest (asks k) n → net.low k < largest (asks k) n
          → (j : ℕ) × (j < n) × Conflict net j k × (plan j < plan k) × (past net j k (plan j) ≡ max (net.low k) (largest (asks k) n))
      at_path j l true e q m = let p = below_parts net plan k j e in (j, l, p.0, p.1, omega arith)
      at_path j l false e q m = absurd (omega arith)

      go : Dec (largest (asks k) n ≤ net.low k) → (largest (asks k) n ≡ 0) ⊎ ((j : ℕ) × (j < n) × (asks k j ≡ largest (asks k) n))
          → (max (net.low k) (largest (asks k) n) ≡ net.low k) ⊎ ((j : ℕ) × (j < n) × Conflict net j k × (plan j < plan k) × (past net j k (plan j) ≡ max (net.low k) (largest (asks k) n)))
      go (yes x) h = inl (omega arith)
      go (no x) (inl e) = absurd (omega arith)
      go (no x) (inr (j, l, e)) = inr (at_path j l (is_below net plan k j) refl e (omega arith))

  module _ (v : Valid net n plan) (k : ℕ) (l : k < n) where
    -- a path of a valid plan can stand where it stands
    bottom_under : bottom net plan n k ≤ plan k
    bottom_under = stands_bottom k (plan k) (v.lows k l, λ j g c b. lower_clear net n good v j k g l c b)

    -- exactly so many slots: it can stand in each slot down to there, and in none below
    pub down_stands : (s : ℕ) → s ≤ plan k → CanStand net plan n k s ↔ (plan k ≤ s + down net plan n k)
    unfolding down
    down_stands s g = (λ h. omega (arith, stands_bottom k s h), λ h. bottom_stands k s (omega (arith, bottom_under)))

    -- and there it meets its lowest start, or a path below it and their guard
    pub down_meets : (s : ℕ) → s + down net plan n k ≡ plan k
        → (s ≡ net.low k) ⊎ ((j : ℕ) × (j < n) × Conflict net j k × (plan j < s) × (past net j k (plan j) ≡ s))
    unfolding down
    down_meets s e = go (bottom_meets k)
      where
        is : s ≡ bottom net plan n k
        is = omega (arith, bottom_under)

        go : (bottom net plan n k ≡ net.low k) ⊎ ((j : ℕ) × (j < n) × Conflict net j k × (plan j < plan k) × (past net j k (plan j) ≡ bottom net plan n k))
            → (s ≡ net.low k) ⊎ ((j : ℕ) × (j < n) × Conflict net j k × (plan j < s) × (past net j k (plan j) ≡ s))
        go (inl x) = inl (is ∙ x)
        go (inr (j, g, c, b, m)) = inr (j, g, c, omega (arith, is, good.wide j g), m ∙ sym is)

    -- none at all on its lowest start; and some where nothing holds it up above that
    pub down_none : plan k ≡ net.low k → down net plan n k ≡ 0
    unfolding down bottom
    down_none e = omega arith

    pub down_some : plan k ≢ net.low k → ((j : ℕ) → HoldsUp net plan n k j → ⊥) → 0 < down net plan n k
    down_some ne free = go (down_meets (plan k)) (dec_lt 0 (down net plan n k))
      where
        go : (plan k + down net plan n k ≡ plan k → (plan k ≡ net.low k) ⊎ ((j : ℕ) × (j < n) × Conflict net j k × (plan j < plan k) × (past net j k (plan j) ≡ plan k)))
            → Dec (0 < down net plan n k) → 0 < down net plan n k
        go h (yes x) = x
        go h (no x) = absurd (met (h (omega arith)))
          where
            met : (plan k ≡ net.low k) ⊎ ((j : ℕ) × (j < n) × Conflict net j k × (plan j < plan k) × (past net j k (plan j) ≡ plan k)) → ⊥
            met (inl z) = ne z
            met (inr (j, g, c, b, m)) = free j (record { path = g; conflict = c; lower = b; meets = m })

    -- with it so far down the plan is still valid: those above it are as clear as before
    pub down_valid : (s : ℕ) → s ≤ plan k → plan k ≤ s + down net plan n k → (other : ℕ → ℕ) → other k ≡ s → ((i : ℕ) → i ≢ k → other i ≡ plan i) → Valid net n other
    down_valid s g h other at-k rest = record { lows = λ i m. lows i m (ℕ_discrete i k); apart = λ i j lt m c. apart i j lt m c (ℕ_discrete i k) (ℕ_discrete j k) }
      where
        stands : CanStand net plan n k s
        stands = (down_stands s g).1 h

        lows : (i : ℕ) → i < n → Dec (i ≡ k) → net.low i ≤ other i
        lows i m (yes e) = subst (λ x. net.low x ≤ other x) (sym e) (omega (arith, at-k, stands.0))
        lows i m (no e) = omega (arith, rest i e, v.lows i m)

        -- a path that was clear below it, and one that was clear above it
        below : (i : ℕ) → i < n → i ≢ k → Conflict net i k → Clear net plan i k → Clear net other i k
        below i m ne c x = omega (arith, rest i ne, at-k, stands.1 i m c (clear_lt net n good plan i k m x))

        over : (i : ℕ) → i ≢ k → Clear net plan k i → Clear net other k i
        over i ne x = omega (arith, rest i ne, at-k)

        pair : (i : ℕ) → i < n → i ≢ k → Conflict net i k → Clear net plan i k ⊎ Clear net plan k i → Clear net other i k ⊎ Clear net other k i
        pair i m ne c (inl x) = inl (below i m ne c x)
        pair i m ne c (inr x) = inr (over i ne x)

        flip : {A B : Type 0} → A ⊎ B → B ⊎ A
        flip (inl x) = inr x
        flip (inr x) = inl x

        apart : (i j : ℕ) → i < j → j < n → Conflict net i j → Dec (i ≡ k) → Dec (j ≡ k) → Clear net other i j ⊎ Clear net other j i
        apart i j lt m c (yes e) (yes f) = absurd (omega arith)
        apart i j lt m c (yes e) (no f) =
            subst (λ x. Clear net other x j ⊎ Clear net other j x) (sym e)
            (flip (pair j m f (subst (λ x. Conflict net j x) e (omega (arith, good.mirrored i j (omega arith) m))) (flip (subst (λ x. Clear net plan x j ⊎ Clear net plan j x) e (v.apart i j lt m c)))))
        apart i j lt m c (no e) (yes f) =
            subst (λ x. Clear net other i x ⊎ Clear net other x i) (sym f)
            (pair i (omega arith) e (subst (λ x. Conflict net i x) f c) (subst (λ x. Clear net plan i x ⊎ Clear net plan x i) f (v.apart i j lt m c)))
        apart i j lt m c (no e) (no f) = keep (v.apart i j lt m c)
          where
            keep : Clear net plan i j ⊎ Clear net plan j i → Clear net other i j ⊎ Clear net other j i
            keep (inl x) = inl (omega (arith, rest i e, rest j f))
            keep (inr x) = inr (omega (arith, rest i e, rest j f))

-- A packed plan: each path is on its lowest start, or an earlier one holds it up
module _ (net : Net) (plan order : ℕ → ℕ) where
  lowest_meets : (m k : ℕ) → (lowest net plan order m k ≡ net.low k)
      ⊎ ((i : ℕ) × (i < m) × Conflict net (order i) k × (past net (order i) k (plan (order i)) ≡ lowest net plan order m k))
  unfolding lowest reach
  lowest_meets zero k = inl refl
  lowest_meets (suc m) k = go (ltb (net.guard (order m) k) 255) refl (lowest_meets m k)
    where
      low : ℕ
      low = lowest net plan order m k

      next : Bool → ℕ
      next b = cond b (past net (order m) k (plan (order m))) 0

      go : (b : Bool) → ltb (net.guard (order m) k) 255 ≡ b
          → (low ≡ net.low k) ⊎ ((i : ℕ) × (i < m) × Conflict net (order i) k × (past net (order i) k (plan (order i)) ≡ low))
          → (max low (next b) ≡ net.low k) ⊎ ((i : ℕ) × (i < suc m) × Conflict net (order i) k × (past net (order i) k (plan (order i)) ≡ max low (next b)))
      go b e h = pick b e h (dec_le (next b) low)
        where
          pick : (b : Bool) → ltb (net.guard (order m) k) 255 ≡ b
              → (low ≡ net.low k) ⊎ ((i : ℕ) × (i < m) × Conflict net (order i) k × (past net (order i) k (plan (order i)) ≡ low)) → Dec (next b ≤ low)
              → (max low (next b) ≡ net.low k) ⊎ ((i : ℕ) × (i < suc m) × Conflict net (order i) k × (past net (order i) k (plan (order i)) ≡ max low (next b)))
          pick b e (inl h) (yes l) = inl (omega arith)
          pick b e (inr (i, g, c, q)) (yes l) = inr (i, omega arith, c, omega arith)
          pick true e h (no l) = inr (m, omega arith, ltb-true _ _ e, omega arith)
          pick false e h (no l) = absurd (omega arith)

module _ (net : Net) (n : ℕ) (good : Good net n) (o : ℕ → ℕ) (ord : Order o n n) (t : List ℕ) (room : n ≤ length t) where
  abbrev plan : ℕ → ℕ
  plan = at (packed (lowest net) o t n)

  held : (k : ℕ) → k < n → (plan k ≡ net.low k) ⊎ ((j : ℕ) × HoldsUp net plan n k j)
  held = everywhere net n o ord (λ k. (plan k ≡ net.low k) ⊎ ((j : ℕ) × HoldsUp net plan n k j))
      (λ i l. go i l (lowest_meets net plan o i (o i)) (packs net n o ord t room (lowest net) (lowest_local net) i l))
    where
      go : (i : ℕ) → i < n
          → (lowest net plan o i (o i) ≡ net.low (o i)) ⊎ ((j : ℕ) × (j < i) × Conflict net (o j) (o i) × (past net (o j) (o i) (plan (o j)) ≡ lowest net plan o i (o i)))
          → plan (o i) ≡ lowest net plan o i (o i) → (plan (o i) ≡ net.low (o i)) ⊎ ((j : ℕ) × HoldsUp net plan n (o i) j)
      go i l (inl h) e = inl (e ∙ h)
      go i l (inr (j, g, c, m)) e =
          let w = good.wide (o j) (ord.inside j (omega arith)) in
          inr (o j, record { path = ord.inside j (omega arith); conflict = c; lower = omega arith; meets = m ∙ sym e })

  -- so a chain of it ends on a lowest start
  pub packed_ends : (k : ℕ) (c : List ℕ) → k < n → Chain net plan n k c → plan (last c) ≡ net.low (last c)
  packed_ends k c l h = go h.ends (held (last c) (chain_inside net plan n k c l h (length c - 1) (omega (arith, h.some))))
    where
      go : (plan (last c) ≡ net.low (last c)) ⊎ ((j : ℕ) → HoldsUp net plan n (last c) j → ⊥) → (plan (last c) ≡ net.low (last c)) ⊎ ((j : ℕ) × HoldsUp net plan n (last c) j)
          → plan (last c) ≡ net.low (last c)
      go (inl e) d = e
      go (inr f) (inl e) = e
      go (inr f) (inr (j, x)) = absurd (f j x)
