-- The chain of a path (RULES 25) is what its statement says, and nothing else is; and how far its last path can
-- come down. Assumes nothing.
use Prim.Native.Nat.{ℕ, zero, suc, ◌+◌, ◌-◌, ◌≤◌, ◌<◌, max}
use Rattle.std.specs.Prelude.{◌≡◌, ◌≢◌, ◌⊎◌, Bool, ◌&&◌, ◌||◌, set, drop}
use Rattle.std.proofs.Math.Path.{refl, ap}
use Rattle.std.proofs.Common.{sym, subst, ◌∙◌, add-one, length-set}
use Rattle.std.proofs.Math.Logic.{inl, inr}
use Rattle.std.proofs.Math.Bool.{true, false, cond, not, true≢false}
use mathlib.Core.List.{List, [], ◌∷◌, ◌++◌}
use native.Mathlib.Omega.{arith}
use Rattle.std.proofs.Math.Decide.{dec_lt}
use Rattle.std.proofs.Math.ListN.{length, get_or-append}
use Rattle.std.proofs.lemmas.List.Edits.{sets, sets-eq}
use Rattle.std.proofs.Math.Dec.{ltb, eqb}
use borrow.Author.Tests.{eq-eqb, ne_eqb, eqb-true, eqb-false, lt-ltb, le-ltb, ltb-true}
use Rattle.rules.specs.Tables.{at}
use Rattle.rules.specs.Scan.{first, found, largest}
use Rattle.rules.specs.Plan.{Net, Conflict, in_conflict, past}
use Rattle.rules.specs.Reason.{is_below, holds_up, link, is_last, chain_of, chain, bottom, HoldsUp, last, Chain}
use Rattle.table_laws.specs.Count.{count, count_le, count_more}
use Rattle.table_laws.specs.Scans.{First, none, some, first_is, found_first, found_not}

-- a path below, and one that holds up, by their parts
module _ (net : Net) (plan : ℕ → ℕ) (k j : ℕ) where
  pub below_parts : is_below net plan k j ≡ true → Conflict net j k × (plan j < plan k)
  unfolding is_below
  below_parts = go (in_conflict net j k) refl (ltb (plan j) (plan k)) refl
    where
      go : (a : Bool) → in_conflict net j k ≡ a → (b : Bool) → ltb (plan j) (plan k) ≡ b → (a && b) ≡ true → Conflict net j k × (plan j < plan k)
      go true e true f z = (ltb-true _ _ e, ltb-true _ _ f)
      go true e false f z = absurd (true≢false (sym z))
      go false e b f z = absurd (true≢false (sym z))

  pub parts_below : Conflict net j k → plan j < plan k → is_below net plan k j ≡ true
  unfolding is_below
  parts_below c l = rw (lt-ltb (net.guard j k) 255 c, lt-ltb (plan j) (plan k) l)

  pub holds_parts : (n : ℕ) → j < n → holds_up net plan k j ≡ true → HoldsUp net plan n k j
  unfolding holds_up
  holds_parts n l = go (is_below net plan k j) refl (eqb (past net j k (plan j)) (plan k)) refl
    where
      go : (a : Bool) → is_below net plan k j ≡ a → (b : Bool) → eqb (past net j k (plan j)) (plan k) ≡ b → (a && b) ≡ true → HoldsUp net plan n k j
      go true e true f z = let p = below_parts e in record { path = l; conflict = p.0; lower = p.1; meets = eqb-true _ _ f }
      go true e false f z = absurd (true≢false (sym z))
      go false e b f z = absurd (true≢false (sym z))

  pub parts_holds : {n : ℕ} → HoldsUp net plan n k j → holds_up net plan k j ≡ true
  unfolding holds_up
  parts_holds h = rw (parts_below h.conflict h.lower, eq-eqb (past net j k (plan j)) (plan k) h.meets)

module _ (net : Net) (plan : ℕ → ℕ) (n : ℕ) where
  -- a path at which a chain ends, and one at which it goes on
  pub last_ends : (k : ℕ) → is_last net plan n k ≡ true → (plan k ≡ net.low k) ⊎ ((j : ℕ) → HoldsUp net plan n k j → ⊥)
  unfolding is_last
  last_ends k = go (eqb (plan k) (net.low k)) refl (found (holds_up net plan k) n) refl
    where
      go : (a : Bool) → eqb (plan k) (net.low k) ≡ a → (b : Bool) → found (holds_up net plan k) n ≡ b → (a || not b) ≡ true
          → (plan k ≡ net.low k) ⊎ ((j : ℕ) → HoldsUp net plan n k j → ⊥)
      go true e b f z = inl (eqb-true _ _ e)
      go false e true f z = absurd (true≢false (sym z))
      go false e false f z = inr (λ j h. true≢false (sym (parts_holds net plan k j h) ∙ found_not (holds_up net plan k) n f j h.path))

  pub record Goes (k : ℕ) : Type 0 where
    pub above : plan k ≢ net.low k
    pub holds : HoldsUp net plan n k (link net plan n k)
    pub lowest : (j : ℕ) → HoldsUp net plan n k j → link net plan n k ≤ j

  pub last_goes : (k : ℕ) → is_last net plan n k ≡ false → Goes k
  unfolding is_last
  last_goes k = go (eqb (plan k) (net.low k)) refl (found (holds_up net plan k) n) refl
    where
      go : (a : Bool) → eqb (plan k) (net.low k) ≡ a → (b : Bool) → found (holds_up net plan k) n ≡ b → (a || not b) ≡ false → Goes k
      go true e b f z = absurd (true≢false z)
      go false e false f z = absurd (true≢false z)
      go false e true f z = unfold link in (pick (first_is (holds_up net plan k) n))
        where
          pick : First (holds_up net plan k) n (first (holds_up net plan k) n) → Goes k
          pick (none r h) = absurd (omega (arith, (found_first (holds_up net plan k) n f).0))
          pick (some l t h) = unfold link in (record {
            above = eqb-false _ _ e;
            holds = holds_parts net plan k (first (holds_up net plan k) n) n l t;
            lowest = λ j p. least j p (dec_lt j (first (holds_up net plan k) n));
          })
            where
              least : (j : ℕ) → HoldsUp net plan n k j → Dec (j < first (holds_up net plan k) n) → first (holds_up net plan k) n ≤ j
              least j p (yes x) = absurd (true≢false (sym (parts_holds net plan k j p) ∙ h j x))
              least j p (no x) = omega arith

  -- for the code: a path on its lowest start, one that nothing holds up, and one that has a link
  pub ends_low : (k : ℕ) → plan k ≡ net.low k → is_last net plan n k ≡ true
  unfolding is_last
  ends_low k e = rw (eq-eqb (plan k) (net.low k) e)

  pub ends_free : (k j : ℕ) → plan k ≢ net.low k → j ≡ link net plan n k → n ≤ j → is_last net plan n k ≡ true
  unfolding is_last link found
  ends_free k j ne e l = rw (ne_eqb (plan k) (net.low k) ne, le-ltb (first (holds_up net plan k) n) n (omega arith))

  pub goes_on : (k j : ℕ) → plan k ≢ net.low k → j ≡ link net plan n k → j < n → is_last net plan n k ≡ false
  unfolding is_last link found
  goes_on k j ne e l = rw (ne_eqb (plan k) (net.low k) ne, lt-ltb (first (holds_up net plan k) n) n (omega arith))

  pub chain_stops : (m k : ℕ) → is_last net plan n k ≡ true → chain_of net plan n (suc m) k ≡ k ∷ []
  unfolding chain_of
  chain_stops m k e = rw e

  pub chain_goes : (m k : ℕ) → is_last net plan n k ≡ false → chain_of net plan n (suc m) k ≡ k ∷ chain_of net plan n m (link net plan n k)
  unfolding chain_of
  chain_goes m k e = rw e

  -- how many paths start below slot s: so many links are left
  abbrev under : ℕ → ℕ
  under s = count (λ j. ltb (plan j) s) n

  -- a path does not start below itself
  under_own : (k : ℕ) → k < n → under (plan k) < n
  under_own k l =
      omega (arith, count_more (λ j. ltb (plan j) (plan k)) (λ j. true) n k (λ j g e. refl) l (le-ltb (plan k) (plan k) (omega arith)) refl, count_le (λ j. true) n)

  -- one path more in front of a chain
  last_longer : (k : ℕ) (c : List ℕ) → 1 ≤ length c → last c ≡ last (k ∷ c)
  last_longer k [] l = absurd (omega arith)
  last_longer k (x ∷ c) l =
      let a : suc (length c) - 1 ≡ length c = omega arith in
      let b : suc (suc (length c)) - 1 ≡ suc (length c) = omega arith in
      rw (a, b)

  longer : (k : ℕ) (c : List ℕ) → Goes k → Chain net plan n (link net plan n k) c → Chain net plan n k (k ∷ c)
  longer k c g h = record {
    some = omega arith;
    from = refl;
    above = λ i l. above i l;
    links = λ i l. links i l;
    lowest = λ i j l. lowest i j l;
    ends = subst (λ x. (plan x ≡ net.low x) ⊎ ((j : ℕ) → HoldsUp net plan n x j → ⊥)) (last_longer k c h.some) h.ends;
  }
    where
      above : (i : ℕ) → suc i < length (k ∷ c) → plan (at (k ∷ c) i) ≢ net.low (at (k ∷ c) i)
      above zero l = g.above
      above (suc i) l = h.above i (omega arith)

      links : (i : ℕ) → suc i < length (k ∷ c) → HoldsUp net plan n (at (k ∷ c) i) (at (k ∷ c) (suc i))
      links zero l = subst (HoldsUp net plan n k) (sym h.from) g.holds
      links (suc i) l = h.links i (omega arith)

      lowest : (i j : ℕ) → suc i < length (k ∷ c) → HoldsUp net plan n (at (k ∷ c) i) j → at (k ∷ c) (suc i) ≤ j
      lowest zero j l p = omega (arith, g.lowest j p, h.from)
      lowest (suc i) j l p = h.lowest i j (omega arith) p

  alone : (k : ℕ) → is_last net plan n k ≡ true → Chain net plan n k (k ∷ [])
  alone k e = record {
    some = omega arith;
    from = refl;
    above = λ i l. absurd (omega arith);
    links = λ i l. absurd (omega arith);
    lowest = λ i j l. absurd (omega arith);
    ends = last_ends k e;
  }

  -- and fewer paths start below a path's link than below the path
  fewer : (k : ℕ) → Goes k → under (plan (link net plan n k)) < under (plan k)
  fewer k g =
      let j = link net plan n k in
      count_more (λ i. ltb (plan i) (plan j)) (λ i. ltb (plan i) (plan k)) n j
      (λ i l e. lt-ltb (plan i) (plan k) (omega (arith, ltb-true (plan i) (plan j) e, g.holds.lower))) g.holds.path (le-ltb (plan j) (plan j) (omega arith))
      (lt-ltb (plan j) (plan k) g.holds.lower)

  -- so a chain of as many paths as start below it, and one more, is whole
  whole : (m k : ℕ) → under (plan k) < m → Chain net plan n k (chain_of net plan n m k)
  whole zero k l = absurd (omega arith)
  whole (suc m) k l = go (is_last net plan n k) refl (whole m (link net plan n k))
    where
      go : (b : Bool) → is_last net plan n k ≡ b → (under (plan (link net plan n k)) < m → Chain net plan n (link net plan n k) (chain_of net plan n m (link net plan n k)))
          → Chain net plan n k (chain_of net plan n (suc m) k)
      go true e ih = subst (Chain net plan n k) (sym (chain_stops m k e)) (alone k e)
      go false e ih =
          let g = last_goes k e in
          subst (Chain net plan n k) (sym (chain_goes m k e)) (longer k (chain_of net plan n m (link net plan n k)) g (ih (omega (arith, fewer k g, l))))

  pub chain_is : (k : ℕ) → k < n → Chain net plan n k (chain net plan n k)
  unfolding chain
  chain_is k l = whole n k (under_own k l)

  -- it has at most n paths
  fuel : (m k : ℕ) → length (chain_of net plan n m k) ≤ m
  unfolding chain_of
  fuel zero k = omega arith
  fuel (suc m) k = go (is_last net plan n k) (fuel m (link net plan n k))
    where
      go : (b : Bool) → length (chain_of net plan n m (link net plan n k)) ≤ m → length (k ∷ cond b [] (chain_of net plan n m (link net plan n k))) ≤ suc m
      go true h = omega arith
      go false h = omega arith

  pub chain_few : (k : ℕ) → length (chain net plan n k) ≤ n
  unfolding chain
  chain_few k = fuel n k

  -- each below n
  pub chain_inside : (k : ℕ) (c : List ℕ) → k < n → Chain net plan n k c → (i : ℕ) → i < length c → at c i < n
  chain_inside k c l h zero g = omega (arith, h.from)
  chain_inside k c l h (suc i) g = (h.links i g).path

  -- and no other list is the path's chain
  shorter : (k x : ℕ) (c : List ℕ) → Chain net plan n k (k ∷ x ∷ c) → Chain net plan n x (x ∷ c)
  shorter k x c h = record {
    some = omega arith;
    from = refl;
    above = λ i l. h.above (suc i) (omega arith);
    links = λ i l. h.links (suc i) (omega arith);
    lowest = λ i j l. h.lowest (suc i) j (omega arith);
    ends = subst (λ y. (plan y ≡ net.low y) ⊎ ((j : ℕ) → HoldsUp net plan n y j → ⊥)) (sym (last_longer k (x ∷ c) (omega arith))) h.ends;
  }

  only : (m k : ℕ) (c : List ℕ) → under (plan k) < m → Chain net plan n k c → c ≡ chain_of net plan n m k
  only zero k c l h = absurd (omega arith)
  only (suc m) k [] l h = absurd (omega (arith, h.some))
  only (suc m) k (y ∷ c) l h = ap (λ z. z ∷ c) h.from ∙ go c (is_last net plan n k) refl (subst (λ z. Chain net plan n k (z ∷ c)) h.from h) (λ d. only m (link net plan n k) d)
    where
      go : (c : List ℕ) (b : Bool) → is_last net plan n k ≡ b → Chain net plan n k (k ∷ c)
          → ((d : List ℕ) → under (plan (link net plan n k)) < m → Chain net plan n (link net plan n k) d → d ≡ chain_of net plan n m (link net plan n k))
          → k ∷ c ≡ chain_of net plan n (suc m) k
      go [] true e q ih = sym (chain_stops m k e)
      go [] false e q ih = absurd (stop q.ends)
        where
          stop : (plan k ≡ net.low k) ⊎ ((j : ℕ) → HoldsUp net plan n k j → ⊥) → ⊥
          stop (inl z) = (last_goes k e).above z
          stop (inr z) = z (link net plan n k) (last_goes k e).holds
      go (x ∷ c) true e q ih = absurd (stop (last_ends k e))
        where
          stop : (plan k ≡ net.low k) ⊎ ((j : ℕ) → HoldsUp net plan n k j → ⊥) → ⊥
          stop (inl z) = q.above 0 (omega arith) z
          stop (inr z) = z x (q.links 0 (omega arith))
      go (x ∷ c) false e q ih =
          let g = last_goes k e in
          let s : x ≡ link net plan n k = omega (arith, g.lowest x (q.links 0 (omega arith)), q.lowest 0 (link net plan n k) (omega arith) g.holds) in
          ap (λ z. k ∷ z) (ih (x ∷ c) (omega (arith, fewer k g, l)) (subst (λ z. Chain net plan n z (x ∷ c)) s (shorter k x c q))) ∙ sym (chain_goes m k e)

  pub chain_only : (k : ℕ) (c : List ℕ) → k < n → Chain net plan n k c → c ≡ chain net plan n k
  unfolding chain
  chain_only k c l h = only n k c (under_own k l) h

-- for the code: the next path of a chain, or n
module _ (net : Net) (plan : ℕ → ℕ) (n k : ℕ) where
  pub next_low : plan k ≡ net.low k → n ≡ cond (is_last net plan n k) n (link net plan n k)
  next_low e = rw (ends_low net plan n k e)

  link_most : link net plan n k ≤ n
  unfolding link
  link_most = pick (first_is (holds_up net plan k) n)
    where
      pick : First (holds_up net plan k) n (first (holds_up net plan k) n) → first (holds_up net plan k) n ≤ n
      pick (none e h) = omega arith
      pick (some l e h) = omega arith

  pub next_link : plan k ≢ net.low k → link net plan n k ≡ cond (is_last net plan n k) n (link net plan n k)
  next_link ne = go (dec_lt (link net plan n k) n)
    where
      go : Dec (link net plan n k < n) → link net plan n k ≡ cond (is_last net plan n k) n (link net plan n k)
      go (yes l) = rw (goes_on net plan n k (link net plan n k) ne refl l)
      go (no l) = rw (ends_free net plan n k (link net plan n k) ne refl (omega arith)) (omega (arith, link_most))

  pub next_ends : (j : ℕ) → j ≡ cond (is_last net plan n k) n (link net plan n k) → n ≤ j → is_last net plan n k ≡ true
  next_ends j e l = go (is_last net plan n k) refl e
    where
      go : (b : Bool) → is_last net plan n k ≡ b → j ≡ cond b n (link net plan n k) → is_last net plan n k ≡ true
      go true f q = f
      go false f q = absurd (omega (arith, (last_goes net plan n k f).holds.path))

  pub next_goes : (j : ℕ) → j ≡ cond (is_last net plan n k) n (link net plan n k) → j < n → (is_last net plan n k ≡ false) × (j ≡ link net plan n k)
  next_goes j e l = go (is_last net plan n k) refl e
    where
      go : (b : Bool) → is_last net plan n k ≡ b → j ≡ cond b n (link net plan n k) → (is_last net plan n k ≡ false) × (j ≡ link net plan n k)
      go true f q = absurd (omega arith)
      go false f q = (f, q)

-- a chain being written: m paths stand in the table, and path k is the next
module _ (net : Net) (plan : ℕ → ℕ) (n path : ℕ) (before : List ℕ) where
  abbrev whole_chain : List ℕ
  whole_chain = chain net plan n path

  pub record Writing (m k : ℕ) (table : List ℕ) : Type 0 where
    pub room : m ≤ n
    pub inside : k < n
    pub size : length table ≡ length before
    pub left : sets table m (chain_of net plan n (n - m) k) ≡ sets before 0 whole_chain
    pub count : m + length (chain_of net plan n (n - m) k) ≡ length whole_chain

  abbrev pub Written : ℕ → List ℕ → Type 0
  Written r table = (r ≡ length whole_chain) × (table ≡ whole_chain ++ drop (length whole_chain) before)

  pub writing_first : path < n → Writing 0 path before
  unfolding chain
  writing_first l =
      let e : n - 0 ≡ n = omega arith in
      record { room = omega arith; inside = l; size = refl; left = rw e; count = rw e (omega arith) }

  done : (table : List ℕ) → n ≤ length before → table ≡ sets before 0 whole_chain → table ≡ whole_chain ++ drop (length whole_chain) before
  done table room e =
      let few = chain_few net plan n path in
      let z : 0 + length whole_chain ≡ length whole_chain = omega arith in
      e ∙ sets-eq whole_chain before 0 (omega arith) ∙ ap (λ (k : ℕ). whole_chain ++ drop k before) z

  module _ (m k : ℕ) (table : List ℕ) (w : Writing m k table) where
    more : m < n → n - m ≡ suc (n - (m + 1))
    more l = omega arith

    pub writing_stop : n ≤ length before → m < n → is_last net plan n k ≡ true → Written (m + 1) (set table m k)
    writing_stop room l e =
        let c : chain_of net plan n (n - m) k ≡ k ∷ [] = rw (more l) (chain_stops net plan n (n - (m + 1)) k e) in
        (omega (arith, w.count, ap length c), done (set table m k) room (sym (ap (sets table m) c) ∙ w.left))

    pub writing_more : m < n → is_last net plan n k ≡ false → Writing (m + 1) (link net plan n k) (set table m k)
    writing_more l e =
        let j = link net plan n k in
        let r = chain_of net plan n (n - (m + 1)) j in
        let c : chain_of net plan n (n - m) k ≡ k ∷ r = rw (more l) (chain_goes net plan n (n - (m + 1)) k e) in
        let s : m + 1 ≡ suc m = omega arith in
        record {
          room = omega arith;
          inside = (last_goes net plan n k e).holds.path;
          size = length-set table m k ∙ w.size;
          left = ap (λ (i : ℕ). sets (set table m k) i r) s ∙ sym (ap (sets table m) c) ∙ w.left;
          count = omega (arith, w.count, ap length c);
        }

    pub writing_full : n ≤ length before → n ≤ m → Written m table
    writing_full room l =
        let z : n - m ≡ 0 = omega arith in
        let c : chain_of net plan n (n - m) k ≡ [] = rw z (unfold chain_of in refl) in
        (omega (arith, w.count, ap length c), done table room (sym (ap (sets table m) c) ∙ w.left))

-- the lowest slot that path k can come down to, a path at a time
module _ (net : Net) (plan : ℕ → ℕ) (k : ℕ) where
  abbrev pub asks_of : ℕ → ℕ
  asks_of j = cond (is_below net plan k j) (past net j k (plan j)) 0

  pub asks_told : (j : ℕ) → net.guard k j ≡ net.guard j k
      → cond (ltb (net.guard k j) 255) (cond (ltb (plan j) (plan k)) (plan j + net.width j - 1 + net.guard k j + 1) 0) 0 ≡ asks_of j
  unfolding is_below
  asks_told j e = rw e (go (ltb (net.guard j k) 255))
    where
      go : (a : Bool) → cond a (cond (ltb (plan j) (plan k)) (past net j k (plan j)) 0) 0 ≡ cond (a && ltb (plan j) (plan k)) (past net j k (plan j)) 0
      go true = refl
      go false = refl

  pub bottom_first : (low : ℕ) → low ≡ net.low k → low ≡ max (net.low k) (largest asks_of 0)
  unfolding largest
  bottom_first low e = omega arith

  pub bottom_more : (low x j : ℕ) → low ≡ max (net.low k) (largest asks_of j) → x ≡ asks_of j → max low x ≡ max (net.low k) (largest asks_of (j + 1))
  unfolding largest
  bottom_more low x j e f = rw (add-one j) (omega (arith, e, f))

  pub bottom_last : (n low j : ℕ) → low ≡ max (net.low k) (largest asks_of j) → j ≡ n → low ≡ bottom net plan n k
  unfolding bottom
  bottom_last n low j e f = e ∙ ap (λ (i : ℕ). max (net.low k) (largest asks_of i)) f

-- what a path asks, by the three ways out
module _ (g s t x : ℕ) where
  pub asks_free : 255 ≤ g → 0 ≡ cond (ltb g 255) (cond (ltb s t) x 0) 0
  asks_free l = rw (le-ltb g 255 l)

  pub asks_above : g < 255 → t ≤ s → 0 ≡ cond (ltb g 255) (cond (ltb s t) x 0) 0
  asks_above l h = rw (lt-ltb g 255 l, le-ltb s t h)

  pub asks_some : g < 255 → s < t → x ≡ cond (ltb g 255) (cond (ltb s t) x 0) 0
  asks_some l h = rw (lt-ltb g 255 l, lt-ltb s t h)

-- the last path, where the chain stands in a table
pub last_in : (c rest : List ℕ) → 1 ≤ length c → at (c ++ rest) (length c - 1) ≡ last c
last_in c rest l = get_or-append c rest 0 (length c - 1) (omega arith)
