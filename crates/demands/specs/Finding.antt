-- Finding the two sides: the marks are the sides where every conflict joins two marks, and else there are
-- no sides. Assumes nothing.
use Prim.Native.Nat.{ℕ, zero, suc, ◌-◌, ◌≤◌, ◌<◌}
use Rattle.std.specs.Prelude.{◌≡◌, ◌≢◌, ◌⊎◌, Bool, ◌&&◌, List, length}
use Rattle.std.proofs.Math.Path.{refl, subst, ap}
use Rattle.std.proofs.Common.{sym, subst₂, ◌∙◌}
use Rattle.std.proofs.Math.Logic.{inl, inr}
use Rattle.std.proofs.Math.Bool.{true, false, cond, not, true≢false, false≢true}
use native.Mathlib.Omega.{arith}
use Rattle.std.proofs.Math.Decide.{dec_lt}
use Rattle.std.proofs.Math.Dec.{ltb, eqb}
use borrow.Author.Tests.{ltb-true, ltb-false, lt-ltb, le-ltb, eq-eqb, ne_eqb, eqb-true, not-true}
use Rattle.rules.specs.Tables.{at, cleared}
use Rattle.rules.specs.Scan.{found_pair}
use Rattle.rules.specs.Plan.{Net, Conflict, in_conflict}
use Rattle.rules.specs.Packing.{Order}
use Rattle.rules.specs.Sides.{Walk, here, step, Split, Sides, touches, grown, opposite, marks, is_high, same_mark, has_sides}
use Rattle.plan_laws.specs.Good.{Good}
use Rattle.table_laws.specs.Count.{each_suc}
use Rattle.table_laws.specs.Scans.{found_none, found_not, pair_none, pair_not}
use Rattle.table_laws.specs.Tables.{cleared_length}
use Rattle.plan_laws.specs.Pack.{Packs, packed_packs}
use Rattle.plan_laws.specs.Sided.{touches_local, opposite_local}
use Rattle.table_laws.specs.Orders.{place}
use Rattle.plan_laws.specs.Arranged.{arranged_order, arranged_least, arranged_first, arranged_begins}
use Rattle.demands.specs.TwoSided.{flip, walk_below, walk_side}

module _ (net : Net) where
  touches_not : (o : ℕ → ℕ) (m k : ℕ) → touches net o m k ≡ false → (i : ℕ) → i < m → Conflict net (o i) k → ⊥
  unfolding touches
  touches_not o m k e i l c = true≢false (sym (lt-ltb _ _ c) ∙ found_not (λ i. in_conflict net (o i) k) m e i l)

  touches_none : (o : ℕ → ℕ) (m k : ℕ) → ((i : ℕ) → i < m → Conflict net (o i) k → ⊥) → touches net o m k ≡ false
  unfolding touches
  touches_none o m k h = found_none (λ i. in_conflict net (o i) k) m (λ i l. le-ltb (net.guard (o i) k) 255 (not_below (h i l)))
    where
      not_below : {g : ℕ} → (g < 255 → ⊥) → 255 ≤ g
      not_below {g} h = go (dec_lt g 255)
        where
          go : Dec (g < 255) → 255 ≤ g
          go (yes l) = absurd (h l)
          go (no l) = omega arith

  -- no conflict with an earlier one, or the other mark than one of them
  opposite_cases : (p o : ℕ → ℕ) (m k : ℕ)
      → (((i : ℕ) → i < m → Conflict net (o i) k → ⊥) × (opposite net p o m k ≡ 1)) ⊎ ((i : ℕ) × (i < m) × Conflict net (o i) k × (opposite net p o m k ≡ 3 - p (o i)))
  unfolding opposite
  opposite_cases p o zero k = inl (λ i l. absurd (omega arith), refl)
  opposite_cases p o (suc m) k = go (ltb (net.guard (o m) k) 255) refl (opposite_cases p o m k)
    where
      go : (b : Bool) → ltb (net.guard (o m) k) 255 ≡ b
          → (((i : ℕ) → i < m → Conflict net (o i) k → ⊥) × (opposite net p o m k ≡ 1)) ⊎ ((i : ℕ) × (i < m) × Conflict net (o i) k × (opposite net p o m k ≡ 3 - p (o i)))
          → (((i : ℕ) → i < suc m → Conflict net (o i) k → ⊥) × (cond b (3 - p (o m)) (opposite net p o m k) ≡ 1)) ⊎ ((i : ℕ) × (i < suc m) × Conflict net (o i) k × (cond b (3 - p (o m)) (opposite net p o m k) ≡ 3 - p (o i)))
      go true e ih = inr (m, omega arith, ltb-true _ _ e, refl)
      go false e (inl h) = inl (each_suc (λ i. Conflict net (o i) k → ⊥) m h.0 (λ c. omega (arith, ltb-false (net.guard (o m) k) 255 e)), h.1)
      go false e (inr h) = inr (h.0, omega (arith, h.1), h.2, h.3)

  -- no conflict joins two paths of one mark, exactly where that is not found
  marks_differ : (p : ℕ → ℕ) (n : ℕ) → found_pair (same_mark net p) n ≡ false → (i j : ℕ) → i < j → j < n → Conflict net i j → p i ≢ p j
  unfolding same_mark
  marks_differ p n e i j h l c q =
      let z = pair_not (λ i j. ltb i j && (in_conflict net i j && eqb (p i) (p j))) n e i j (omega arith) l in
      true≢false (rw (lt-ltb i j h, lt-ltb (net.guard i j) 255 c, eq-eqb (p i) (p j) q) at z)

  differ_marks : (p : ℕ → ℕ) (n : ℕ) → ((i j : ℕ) → i < j → j < n → Conflict net i j → p i ≢ p j) → found_pair (same_mark net p) n ≡ false
  differ_marks p n h = pair_none (same_mark net p) n (λ i j g l. quiet i j l)
    where
      quiet : (i j : ℕ) → j < n → same_mark net p i j ≡ false
      quiet i j l = unfold same_mark in (go (ltb i j) refl (in_conflict net i j) refl)
        where
          go : (a : Bool) → ltb i j ≡ a → (b : Bool) → in_conflict net i j ≡ b → (a && (b && eqb (p i) (p j))) ≡ false
          go false e b f = refl
          go true e false f = refl
          go true e true f = ne_eqb (p i) (p j) (h i j (ltb-true i j e) l (ltb-true _ _ f))

  module _ (n : ℕ) (few : n ≤ 128) where
    o : List ℕ
    o = cleared 128 0

    room : n ≤ length o
    unfolding o
    room = omega (arith, cleared_length 128 0)

    W : ℕ → ℕ
    W = at (grown net n o n)

    ord : Order W n n
    unfolding W
    ord = arranged_order (λ s i k. cond (touches net (at s) i k) 0 1) n o room n (omega arith)

    p : ℕ → ℕ
    p = at (marks net n)

    marked : Packs (opposite net) W p n
    unfolding p marks W o
    marked = packed_packs (opposite net) (opposite_local net) W (cleared 128 0) n (record { inside = λ i l. omega (arith, ord.inside i l, cleared_length 128 0); fresh = ord.fresh })

    -- the key as the whole order has it
    key_is : (i k : ℕ) → i ≤ n → touches net (at (grown net n o i)) i k ≡ touches net W i k
    unfolding W
    key_is i k l = touches_local net (at (grown net n o i)) W i k (λ h g. arranged_begins (λ s i k. cond (touches net (at s) i k) 0 1) n o room n i h g l (omega arith))

    -- where a path touches none before it, no later one does, and it has the lowest number of those
    none_later : (m j : ℕ) → m < j → j < n → touches net W m (W m) ≡ false → (touches net W m (W j) ≡ false) × (W m ≤ W j)
    unfolding W
    none_later m j h l e = (go (touches net W m (W j)) refl, rw (key_is m (W j) (omega arith), key_is m (W m) (omega arith), e) at (arranged_first (λ s i k. cond (touches net (at s) i k) 0 1) n o room n m (W j) (omega arith) (omega arith) (ord.inside j l) (λ k g. ord.fresh k j (omega arith) l)) (small (touches net W m (W j))))
      where
        small : (b : Bool) → cond b 0 1 ≤ 1
        small true = omega arith
        small false = omega arith

        less : cond (touches net W m (W m)) 0 1 ≤ cond (touches net W m (W j)) 0 1
        less = rw (key_is m (W j) (omega arith), key_is m (W m) (omega arith)) at (arranged_least (λ s i k. cond (touches net (at s) i k) 0 1) n o room n m (W j) (omega arith) (omega arith) (ord.inside j l) (λ k g. ord.fresh k j (omega arith) l))

        go : (b : Bool) → touches net W m (W j) ≡ b → touches net W m (W j) ≡ false
        go false f = f
        go true f = absurd (omega (arith, rw (e, f) at less))

    -- the place r of the lowest path of its connected part, when the first m are marked
    record Root (m r : ℕ) : Type 0 where
      inside : r < m
      one : p (W r) ≡ 1
      closed : (i j : ℕ) → i < r → r ≤ j → j < n → Conflict net (W i) (W j) → ⊥
      lowest : (j : ℕ) → r ≤ j → j < n → W r ≤ W j
      walks : (i : ℕ) → r ≤ i → i < m → (b : Bool) × Walk net n (W r) (W i) b × (p (W i) ≡ cond b 2 1)

    new_root : (m : ℕ) → m < n → ((i : ℕ) → i < m → Conflict net (W i) (W m) → ⊥) → p (W m) ≡ 1 → Root (suc m) m
    new_root m l none e = record {
      inside = omega arith;
      one = e;
      closed = λ i j h g k. each j (λ j. Conflict net (W i) (W j) → ⊥) g (none i h) (λ x. touches_not W m (W j) (none_later m j x k quiet).0 i h);
      lowest = λ j g k. each j (λ j. W m ≤ W j) g (omega arith) (λ x. (none_later m j x k quiet).1);
      walks = λ i h g. let q : m ≡ i = omega arith in subst (λ i. (b : Bool) × Walk net n (W m) (W i) b × (p (W i) ≡ cond b 2 1)) q (false, here, e);
    }
      where
        quiet : touches net W m (W m) ≡ false
        quiet = touches_none W m (W m) none

        each : (j : ℕ) (P : ℕ → Type 0) → m ≤ j → P m → (m < j → P j) → P j
        each j P g z s = go (dec_lt m j)
          where
            go : Dec (m < j) → P j
            go (yes x) = s x
            go (no x) = let q : m ≡ j = omega arith in subst P q z

    other : (b : Bool) → 3 - cond b 2 1 ≡ cond (not b) 2 1
    other true = refl
    other false = refl

    rooted : (m : ℕ) → m < n → (r : ℕ) × Root (suc m) r
    rooted zero l = go (opposite_cases p W 0 (W 0))
      where
        go : (((i : ℕ) → i < 0 → Conflict net (W i) (W 0) → ⊥) × (opposite net p W 0 (W 0) ≡ 1)) ⊎ ((i : ℕ) × (i < 0) × Conflict net (W i) (W 0) × (opposite net p W 0 (W 0) ≡ 3 - p (W i))) → (r : ℕ) × Root 1 r
        go (inl h) = (0, new_root 0 l h.0 (marked 0 l ∙ h.1))
        go (inr h) = absurd (omega (arith, h.1))
    rooted (suc m) l = go (rooted m (omega arith)) (opposite_cases p W (suc m) (W (suc m)))
      where
        go : (r : ℕ) × Root (suc m) r
            → (((i : ℕ) → i < suc m → Conflict net (W i) (W (suc m)) → ⊥) × (opposite net p W (suc m) (W (suc m)) ≡ 1)) ⊎ ((i : ℕ) × (i < suc m) × Conflict net (W i) (W (suc m)) × (opposite net p W (suc m) (W (suc m)) ≡ 3 - p (W i)))
            → (r : ℕ) × Root (suc (suc m)) r
        go x (inl h) = (suc m, new_root (suc m) l h.0 (marked (suc m) l ∙ h.1))
        go x (inr h) =
            let r = x.0 in
            let y = x.1 in
            let i = h.0 in
            let after : r ≤ i = within r i y (dec_lt i r) h.2 in
            let w = y.walks i after h.1 in (
              r,
              record {
                inside = omega (arith, y.inside);
                one = y.one;
                closed = y.closed;
                lowest = y.lowest;
                walks = λ j a b. each_suc (λ j. r ≤ j → (b : Bool) × Walk net n (W r) (W j) b × (p (W j) ≡ cond b 2 1)) (suc m) (λ j l a. y.walks j a l)
                    (λ a. (not w.0, step w.1 (ord.inside (suc m) l) h.2, marked (suc m) l ∙ h.3 ∙ ap (λ z. 3 - z) w.2 ∙ other w.0)) j b a;
              },
            )
          where
            within : (r i : ℕ) → Root (suc m) r → Dec (i < r) → Conflict net (W i) (W (suc m)) → r ≤ i
            within r i y (yes a) c = absurd (y.closed i (suc m) a (omega (arith, y.inside)) l c)
            within r i y (no a) c = omega arith

    -- every mark is 1 or 2, and a path marked 2 has a path of a lower number in its connected part
    one_or_two : (k : ℕ) → k < n → (b : Bool) × (p k ≡ cond b 2 1)
    one_or_two k l =
        let a = place W n ord k l in
        let x = rooted a.0 a.1 in
        let w = x.1.walks a.0 (omega (arith, x.1.inside)) (omega arith) in
        subst (λ k. (b : Bool) × (p k ≡ cond b 2 1)) a.2 (w.0, w.2)

    under : (k : ℕ) → k < n → p k ≡ 2 → (j : ℕ) × (b : Bool) × (j < k) × Walk net n j k b
    under k l =
        let a = place W n ord k l in
        let x = rooted a.0 a.1 in
        subst (λ k. p k ≡ 2 → (j : ℕ) × (b : Bool) × (j < k) × Walk net n j k b) a.2 (go a.0 a.1 x.0 x.1)
      where
        go : (m : ℕ) → m < n → (r : ℕ) → Root (suc m) r → p (W m) ≡ 2 → (j : ℕ) × (b : Bool) × (j < W m) × Walk net n j (W m) b
        go m l r y e =
            let w = y.walks m (omega (arith, y.inside)) (omega arith) in
            let ne : W r ≢ W m = λ q. omega (arith, y.one, ap p q) in
            (W r, w.0, omega (arith, y.lowest m (omega (arith, y.inside)) l), w.1)

    -- the side that a mark stands for
    high_is : (b : Bool) (k : ℕ) → p k ≡ cond b 2 1 → is_high net n k ≡ b
    unfolding is_high p
    high_is true k e = rw e
    high_is false k e = rw e

    -- a walk that ends in the part of a root comes from it: no walk enters that part
    from_part : (m r : ℕ) → Root m r → {j k : ℕ} {b : Bool} → j < n → Walk net n j k b
        → (q : ℕ) → r ≤ q → q < n → W q ≡ k → (i : ℕ) × (r ≤ i) × (i < n) × (W i ≡ j)
    from_part m r y l here q a h e = (q, a, h, e)
    from_part m r y l (step {j = i} w g c) q a h e =
        let x = place W n ord i (walk_below net n l w) in
        from_part m r y l w x.0 (stays x.0 x.2 (dec_lt x.0 r)) x.1 x.2
      where
        stays : (z : ℕ) → W z ≡ i → Dec (z < r) → r ≤ z
        stays z f (yes d) = absurd (y.closed z q d a h (rw (f, e) c))
        stays z f (no d) = omega arith

    -- so no walk joins a root to a path of a lower number, and by the rule of the sides (RULES 7) it is low
    root_low : (s : ℕ → Bool) → Sides net n s → (m r : ℕ) → m ≤ n → Root m r → s (W r) ≡ false
    root_low s sides m r g y = sides.lowest (W r) (ord.inside r (omega (arith, y.inside))) (λ j b l w. under_root j b l w)
      where
        under_root : (j : ℕ) (b : Bool) → j < W r → Walk net n j (W r) b → ⊥
        under_root j b l w =
            let h : r < n = omega (arith, y.inside) in
            let x = from_part m r y (omega (arith, ord.inside r h)) w r (omega arith) h refl in
            omega (arith, y.lowest x.0 x.1 x.2, x.3)

    -- The sides are those found: there is no second answer
    pub sides_found : (s : ℕ → Bool) → Sides net n s → (k : ℕ) → k < n → s k ≡ is_high net n k
    unfolding flip
    sides_found s sides k l =
        let a = place W n ord k l in
        let x = rooted a.0 a.1 in
        let w = x.1.walks a.0 (omega (arith, x.1.inside)) (omega arith) in
        subst (λ k. s k ≡ is_high net n k) a.2 (agree a.0 x.0 a.1 x.1 w.0 w.1 w.2)
      where
        flip_low : (b : Bool) → flip b false ≡ b
        flip_low true = refl
        flip_low false = refl

        agree : (m r : ℕ) → m < n → Root (suc m) r → (b : Bool) → Walk net n (W r) (W m) b → p (W m) ≡ cond b 2 1 → s (W m) ≡ is_high net n (W m)
        agree m r g y b w e =
            walk_side net n s sides.split (ord.inside r (omega (arith, y.inside))) w
            ∙ ap (flip b) (root_low s sides (suc m) r g y) ∙ flip_low b ∙ sym (high_is b (W m) e)

    -- where every conflict joins two sides, it joins two marks
    same_flip : (a b x : Bool) → cond {A = ℕ} a 2 1 ≡ cond b 2 1 → flip b x ≡ not (flip a x) → ⊥
    unfolding flip
    same_flip true true true e f = false≢true f
    same_flip true true false e f = true≢false f
    same_flip true false x e f = omega arith
    same_flip false true x e f = omega arith
    same_flip false false true e f = true≢false f
    same_flip false false false e f = false≢true f

    apart : (s : ℕ → Bool) → Split net n s → (i j : ℕ) → i < j → j < n → Conflict net (W i) (W j) → p (W i) ≢ p (W j)
    apart s split i j h l c q =
        let x = rooted j l in
        let r = x.0 in
        let y = x.1 in
        let after : r ≤ i = within r y (dec_lt i r) in
        let a = y.walks i after (omega arith) in
        let b = y.walks j (omega arith) (omega arith) in
        let lr : W r < n = ord.inside r (omega arith) in
        same_flip a.0 b.0 (s (W r)) (sym a.2 ∙ q ∙ b.2)
        (sym (walk_side net n s split lr b.1) ∙ split (W i) (W j) (ord.inside i (omega arith)) (ord.inside j l) c ∙ ap not (walk_side net n s split lr a.1))
      where
        within : (r : ℕ) → Root (suc j) r → Dec (i < r) → r ≤ i
        within r y (yes a) = absurd (y.closed i j a (omega (arith, y.inside)) l c)
        within r y (no a) = omega arith

    module _ (good : Good net n) where
      differ : (s : ℕ → Bool) → Split net n s → (k m : ℕ) → k < n → m < n → Conflict net k m → p k ≢ p m
      differ s split k m h l =
          let a = place W n ord k h in
          let b = place W n ord m l in
          subst₂ (λ k m. Conflict net k m → p k ≢ p m) a.2 b.2 (go a.0 b.0 a.1 b.1 (dec_lt a.0 b.0) (dec_lt b.0 a.0))
        where
          go : (i j : ℕ) → i < n → j < n → Dec (i < j) → Dec (j < i) → Conflict net (W i) (W j) → p (W i) ≢ p (W j)
          go i j h l (yes x) d c = apart s split i j x l c
          go i j h l (no x) (yes y) c = λ q. apart s split j i y h (omega (arith, good.mirrored (W i) (W j) (ord.inside i h) (ord.inside j l))) (sym q)
          go i j h l (no x) (no y) c = let e : i ≡ j = omega arith in absurd (omega (arith, good.alone (W j) (ord.inside j l), subst (λ z. net.guard (W z) (W j) < 255) e c))

      -- two sides exist exactly where they are found
      pub found_sides : has_sides net n ≡ true → Sides net n (is_high net n)
      unfolding has_sides p
      found_sides e = record {
        split = λ i j h l c. sides i j h l (one_or_two i h) (one_or_two j l) (ne i j h l c (dec_lt i j) (dec_lt j i));
        lowest = λ k l none. low k l none (is_high net n k) refl;
      }
        where
          ne : (i j : ℕ) → i < n → j < n → Conflict net i j → Dec (i < j) → Dec (j < i) → p i ≢ p j
          ne i j h l c (yes x) d = marks_differ p n (not-true _ e) i j x l c
          ne i j h l c (no x) (yes y) = λ q. marks_differ p n (not-true _ e) j i y h (omega (arith, good.mirrored i j h l)) (sym q)
          ne i j h l c (no x) (no y) = let e : i ≡ j = omega arith in absurd (omega (arith, good.alone j l, subst (λ z. net.guard z j < 255) e c))

          sides : (i j : ℕ) → i < n → j < n → (b : Bool) × (p i ≡ cond b 2 1) → (b : Bool) × (p j ≡ cond b 2 1) → p i ≢ p j → is_high net n j ≡ not (is_high net n i)
          sides i j h l (true, x) (true, y) d = absurd (d (x ∙ sym y))
          sides i j h l (true, x) (false, y) d = high_is false j y ∙ ap not (sym (high_is true i x))
          sides i j h l (false, x) (true, y) d = high_is true j y ∙ ap not (sym (high_is false i x))
          sides i j h l (false, x) (false, y) d = absurd (d (x ∙ sym y))

          low : (k : ℕ) → k < n → ((j : ℕ) (b : Bool) → j < k → Walk net n j k b → ⊥) → (b : Bool) → is_high net n k ≡ b → is_high net n k ≡ false
          low k l none false f = f
          low k l none true f = let x = under k l (eqb-true (p k) 2 (high_mark k f)) in absurd (none x.0 x.1 x.2 x.3)
            where
              high_mark : (k : ℕ) → is_high net n k ≡ true → eqb (p k) 2 ≡ true
              high_mark k f = unfold is_high in f

      pub found_all : (s : ℕ → Bool) → Split net n s → has_sides net n ≡ true
      unfolding has_sides p
      found_all s split = ap not (differ_marks p n (λ i j h l c. differ s split i j (omega arith) l c))

-- A path with no conflict is low
pub alone_low : (net : Net) (n : ℕ) (s : ℕ → Bool) → Sides net n s → (k : ℕ) → k < n → ((j : ℕ) → j < n → Conflict net j k → ⊥) → s k ≡ false
alone_low net n s sides k l alone = sides.lowest k l (λ j b h w. none j h w)
  where
    none : (j : ℕ) → {b : Bool} → j < k → Walk net n j k b → ⊥
    none j h here = omega arith
    none j h (step {j = i} w g c) = alone i (walk_below net n (omega arith) w) c
