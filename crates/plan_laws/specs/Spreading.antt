-- What the loop that finds the sides keeps, in one table: the mark of each path that is marked, and of each
-- other path whether it has been met, with the mark that is asked of it. Assumes nothing.
use Prim.Native.Nat.{ℕ, zero, suc, ◌+◌, ◌-◌, ◌≤◌, ◌<◌}
use Rattle.std.specs.Prelude.{◌≡◌, ◌≢◌, Bool, not, ◌&&◌, ◌||◌, set, leb, ltb}
use Rattle.std.proofs.Math.Path.{refl, sym, ap}
use Rattle.std.proofs.Common.{subst, ◌∙◌, true≢false, add-one, length-set, le-leb, leb-true, lt-ltb, le-ltb}
use Rattle.std.proofs.Math.Bool.{true, false, cond}
use mathlib.Core.List.{List}
use native.Mathlib.Omega.{arith}
use Rattle.std.proofs.Math.Decide.{ℕ_discrete, dec_lt}
use Rattle.std.proofs.Math.ListN.{length}
use Rattle.std.proofs.Math.Seq.{ext_get_or}
use Rattle.std.proofs.lemmas.Bool.{lt-leb}
use Rattle.rules.specs.Tables.{at, cell, cleared, Lent}
use Rattle.rules.specs.Scan.{first}
use Rattle.rules.specs.Plan.{Net, net_of, in_conflict}
use Rattle.rules.specs.Packing.{Order, placed, packed}
use Rattle.rules.specs.Sides.{touches, grown, opposite, marks}
use Rattle.table_laws.specs.Count.{each_suc, count_full}
use Rattle.table_laws.specs.Scans.{and_false, First, none, some, first_is, found_none, found_suc, found_not}
use Rattle.table_laws.specs.Tables.{at_same, at_other, cleared_length, cleared_at}
use Rattle.table_laws.specs.Orders.{placed_none, placed_at, placed_hit, placed_miss, count_placed}
use Rattle.table_laws.specs.Marks.{placed_local}
use Rattle.plan_laws.specs.Alike.{AllMarked}
use Rattle.table_laws.specs.Updates.{Updated}
use Rattle.plan_laws.specs.Arranged.{Chosen, choose_is, arranged_order, arranged_begins, arranged_chosen, choose_keys, choose_same}
use Rattle.plan_laws.specs.Pack.{Packs, packed_length, packed_other, packed_packs}
use Rattle.plan_laws.specs.Sided.{touches_local, opposite_local}

-- A cell holds 0 for a path that is not met, 1 or 2 for one that has this mark, and 3 or 4 for one that is
-- met: it is in conflict with a marked path, and a mark is asked of it that is 2 less
unfoldable pub between : ℕ → ℕ → ℕ → Bool
between low high x = leb low x && leb x high

-- the next path to mark: the first that is met, else the first that is not
unfoldable pub next_path : ℕ → List ℕ → ℕ
next_path n table = let c = first (λ k. between 3 4 (at table k)) n in cond (ltb c n) c (first (λ k. between 0 0 (at table k)) n)

-- its mark: 1 where none is asked of it
unfoldable pub asked_mark : ℕ → ℕ
asked_mark x = cond (ltb x 3) 1 (x - 2)

-- a path of guard g to a path that has just been marked is met, unless it is marked itself
unfoldable pub meeting : ℕ → ℕ → ℕ → ℕ
meeting asked g x = cond (ltb g 255 && not (between 1 2 x)) asked x

abbrev pub Met : ℕ → List ℕ → ℕ → ℕ → List ℕ → List ℕ → Type 0
Met n guards c asked before after = Updated (λ k x. meeting asked (at guards (cell c k)) x) before after n

-- the order in which the paths are marked, and their marks so far
unfoldable pub spread_path : ℕ → Lent → ℕ → ℕ
spread_path n lent = at (grown (net_of lent) n (cleared 128 0) n)

unfoldable pub spread_marks : ℕ → Lent → ℕ → List ℕ
spread_marks n lent m = packed (opposite (net_of lent)) (spread_path n lent) (cleared 128 0) m

-- what the cell of path k tells once the first m of an order have been marked
unfoldable pub told : Net → (ℕ → ℕ) → (ℕ → ℕ) → ℕ → ℕ → ℕ
told net mark order m k = cond (placed order m k) (mark k) (cond (touches net order m k) (opposite net mark order m k + 2) 0)

pub record Spreading (n : ℕ) (lent : Lent) (table : List ℕ) (m : ℕ) : Type 0 where
  pub here : m ≤ n
  pub full : length table ≡ 128
  pub tells : (k : ℕ) → k < n → at table k ≡ told (net_of lent) (at (spread_marks n lent m)) (spread_path n lent) m k
  pub rest : (k : ℕ) → n ≤ k → at table k ≡ at (cleared 128 0) k

-- a mark
abbrev Side : ℕ → Type 0
Side s = (1 ≤ s) × (s ≤ 2)

between_yes : (low high x : ℕ) → low ≤ x → x ≤ high → between low high x ≡ true
unfolding between
between_yes low high x l h = rw (le-leb low x l, le-leb x high h)

between_low : (low high x : ℕ) → x < low → between low high x ≡ false
unfolding between
between_low low high x l = rw (lt-leb low x l)

between_high : (low high x : ℕ) → high < x → between low high x ≡ false
unfolding between
between_high low high x h = rw (lt-leb x high h) (and_false (leb low x))

between_is : (low high x : ℕ) → between low high x ≡ true → (low ≤ x) × (x ≤ high)
unfolding between
between_is low high x = go (leb low x) refl (leb x high) refl
  where
    go : (a : Bool) → leb low x ≡ a → (b : Bool) → leb x high ≡ b → (a && b) ≡ true → (low ≤ x) × (x ≤ high)
    go true e true f h = (leb-true low x e, leb-true x high f)
    go true e false f h = absurd (true≢false (sym h))
    go false e b f h = absurd (true≢false (sym h))

-- a marked path is spared, and any other is met where it is in conflict
pub spared : (asked g x : ℕ) → between 1 2 x ≡ true → meeting asked g x ≡ x
unfolding meeting
spared asked g x e = rw e (go (ltb g 255))
  where
    go : (b : Bool) → cond (b && false) asked x ≡ x
    go true = refl
    go false = refl

pub not_spared : (asked g x : ℕ) → between 1 2 x ≡ false → meeting asked g x ≡ cond (ltb g 255) asked x
unfolding meeting
not_spared asked g x e = rw e (go (ltb g 255))
  where
    go : (b : Bool) → cond (b && true) asked x ≡ cond b asked x
    go true = refl
    go false = refl

touches_suc : (net : Net) (order : ℕ → ℕ) (m k : ℕ) → touches net order (suc m) k ≡ (touches net order m k || in_conflict net (order m) k)
unfolding touches
touches_suc net order m k = found_suc (λ i. in_conflict net (order i) k) m

module _ (net : Net) (mark order : ℕ → ℕ) where
  -- a mark is asked of a path that is met, and of no other
  opposite_alone : (m k : ℕ) → touches net order m k ≡ false → opposite net mark order m k ≡ 1
  unfolding opposite touches
  opposite_alone zero k e = refl
  opposite_alone (suc m) k e =
      let none = found_not (λ i. in_conflict net (order i) k) (suc m) e in
      rw (none m (omega arith)) (opposite_alone m k (found_none (λ i. in_conflict net (order i) k) m (λ i l. none i (omega arith))))

  opposite_side : (m k : ℕ) → ((i : ℕ) → i < m → Side (mark (order i))) → Side (opposite net mark order m k)
  unfolding opposite
  opposite_side zero k h = (omega arith, omega arith)
  opposite_side (suc m) k h = go (in_conflict net (order m) k) (h m (omega arith)) (opposite_side m k (λ i l. h i (omega arith)))
    where
      go : (b : Bool) → Side (mark (order m)) → Side (opposite net mark order m k) → Side (cond b (3 - mark (order m)) (opposite net mark order m k))
      go true s r = (omega (arith, s), omega (arith, s))
      go false s r = r

  packs_side : (m : ℕ) → Packs (opposite net) order mark m → (i : ℕ) → i < m → Side (mark (order i))
  packs_side zero h = λ i l. absurd (omega arith)
  packs_side (suc m) h =
      let ih = packs_side m (λ i l. h i (omega arith)) in
      each_suc (λ i. Side (mark (order i))) m ih (rw (h m (omega arith)) (opposite_side m (order m) ih))

-- what the cell of path k tells, by its kind
data Told (net : Net) (mark order : ℕ → ℕ) (m k x : ℕ) : Type 0 where
  marked : placed order m k ≡ true → x ≡ mark k → Side x → Told net mark order m k x
  met : placed order m k ≡ false → touches net order m k ≡ true → x ≡ opposite net mark order m k + 2 → Side (x - 2) → Told net mark order m k x
  unmet : placed order m k ≡ false → touches net order m k ≡ false → x ≡ 0 → Told net mark order m k x

module _ (n : ℕ) (lent : Lent) (few : n ≤ 128) where
  abbrev net : Net
  net = net_of lent

  abbrev o : ℕ → ℕ
  o = spread_path n lent

  abbrev mark : ℕ → ℕ → ℕ
  mark m = at (spread_marks n lent m)

  abbrev key : List ℕ → ℕ → ℕ → ℕ
  key s i k = cond (touches net (at s) i k) 0 1

  room : n ≤ length (cleared 128 0)
  room = omega (arith, cleared_length 128 0)

  ord : Order o n n
  unfolding spread_path
  ord = arranged_order key n (cleared 128 0) room n (omega arith)

  marks_long : (m : ℕ) → length (spread_marks n lent m) ≡ 128
  unfolding spread_marks
  marks_long m = packed_length (opposite net) (opposite_local net) o (cleared 128 0) m ∙ cleared_length 128 0

  side : (m : ℕ) → m ≤ n → (i : ℕ) → i < m → Side (mark m (o i))
  unfolding spread_marks
  side m l = packs_side net (mark m) o m (packed_packs (opposite net) (opposite_local net) o (cleared 128 0) m record {
    inside = λ i h. omega (arith, ord.inside i (omega arith), room);
    fresh = λ i j h g. ord.fresh i j h (omega arith);
  })

  kind : (m : ℕ) → m ≤ n → (k x : ℕ) → x ≡ told net (mark m) o m k → Told net (mark m) o m k x
  unfolding told
  kind m l k x = go (placed o m k) refl (touches net o m k) refl
    where
      go : (a : Bool) → placed o m k ≡ a → (b : Bool) → touches net o m k ≡ b → x ≡ cond a (mark m k) (cond b (opposite net (mark m) o m k + 2) 0) → Told net (mark m) o m k x
      go true e b f h = let i = placed_at o m k e in marked e h (rw h (subst (λ (j : ℕ). Side (mark m j)) i.2 (side m l i.0 i.1)))
      go false e true f h = let s = opposite_side net (mark m) o m k (side m l) in met e f h (omega (arith, s), omega (arith, s))
      go false e false f h = unmet e f h

  pub spreading_first : (table : List ℕ) → table ≡ cleared 128 0 → Spreading n lent table 0
  unfolding told touches
  spreading_first table e = record {
    here = omega arith;
    full = ap length e ∙ cleared_length 128 0;
    tells = λ k l. rw (placed_none o 0 k (λ i x. absurd (omega arith)), found_none (λ i. in_conflict net (o i) k) 0 (λ i x. absurd (omega arith))) (ap (λ (t : List ℕ). at t k) e ∙ cleared_at 128 0 k (omega arith));
    rest = λ k l. ap (λ (t : List ℕ). at t k) e;
  }

  told_all : (k : ℕ) → k < n → told net (mark n) o n k ≡ mark n k
  unfolding told
  told_all k l = rw (count_full (placed o n) n (count_placed o n n ord) k l)

  module _ (table : List ℕ) (m : ℕ) (p : Spreading n lent table m) where
    telling : (k : ℕ) → k < n → Told net (mark m) o m k (at table k)
    telling k l = kind m p.here k (at table k) (p.tells k l)

    -- the tests of a cell
    met_is : (k : ℕ) → k < n → between 3 4 (at table k) ≡ true → (placed o m k ≡ false) × (touches net o m k ≡ true)
    met_is k l h = go (telling k l) (between_is 3 4 (at table k) h)
      where
        go : Told net (mark m) o m k (at table k) → (3 ≤ at table k) × (at table k ≤ 4) → (placed o m k ≡ false) × (touches net o m k ≡ true)
        go (marked e f s) r = absurd (omega (arith, s, r))
        go (met e t f s) r = (e, t)
        go (unmet e t f) r = absurd (omega (arith, f, r))

    met_not : (k : ℕ) → k < n → between 3 4 (at table k) ≡ false → placed o m k ≡ false → touches net o m k ≡ false
    met_not k l h g = go (telling k l)
      where
        go : Told net (mark m) o m k (at table k) → touches net o m k ≡ false
        go (marked e f s) = absurd (true≢false (sym e ∙ g))
        go (met e t f s) = absurd (true≢false (sym (between_yes 3 4 (at table k) (omega (arith, s)) (omega (arith, s))) ∙ h))
        go (unmet e t f) = t

    unmet_is : (k : ℕ) → k < n → between 0 0 (at table k) ≡ true → placed o m k ≡ false
    unmet_is k l h = go (telling k l) (between_is 0 0 (at table k) h)
      where
        go : Told net (mark m) o m k (at table k) → (0 ≤ at table k) × (at table k ≤ 0) → placed o m k ≡ false
        go (marked e f s) r = absurd (omega (arith, s, r))
        go (met e t f s) r = e
        go (unmet e t f) r = e

    unmet_not : (k : ℕ) → k < n → between 0 0 (at table k) ≡ false → placed o m k ≡ false → touches net o m k ≡ true
    unmet_not k l h g = go (telling k l)
      where
        go : Told net (mark m) o m k (at table k) → touches net o m k ≡ true
        go (marked e f s) = absurd (true≢false (sym e ∙ g))
        go (met e t f s) = t
        go (unmet e t f) = absurd (true≢false (sym (between_yes 0 0 (at table k) (omega arith) (omega (arith, f))) ∙ h))

    module _ (l : m < n) where
      fresh : placed o m (o m) ≡ false
      fresh = placed_none o m (o m) (λ i h. ord.fresh i m h l)

      abbrev weight : ℕ → ℕ
      weight k = cond (touches net o m k) 0 1

      no_less : (b : Bool) → cond b 0 1 ≤ 0 → b ≡ true
      no_less true h = refl
      no_less false h = absurd (omega arith)

      -- the next path by the table is one that is met wherever there is one, and the first of its kind
      found : (r : ℕ) → First (λ k. between 3 4 (at table k)) n r → (q : ℕ) → First (λ k. between 0 0 (at table k)) n q
          → Chosen weight (placed o m) n (cond (ltb r n) r q)
      found r (some g e h) q _ =
          let t = met_is r g e in
          rw (lt-ltb r n g) record {
            inside = g;
            free = t.0;
            least = λ k d f. rw t.1 (omega arith);
            first = λ k d f w. early k d f (no_less (touches net o m k) (rw t.1 at w)) (dec_lt k r);
          }
        where
          early : (k : ℕ) → k < n → placed o m k ≡ false → touches net o m k ≡ true → Dec (k < r) → r ≤ k
          early k d f t (yes y) = absurd (true≢false (sym t ∙ met_not k d (h k y) f))
          early k d f t (no y) = omega arith
      found r (none e h) q (some g d w) =
          rw (e, le-ltb n n (omega arith)) record {
            inside = g;
            free = unmet_is q g d;
            least = λ k y f. rw (met_not k y (h k y) f, met_not q g (h q g) (unmet_is q g d)) (omega arith);
            first = λ k y f z. early k y f (dec_lt k q);
          }
        where
          early : (k : ℕ) → k < n → placed o m k ≡ false → Dec (k < q) → q ≤ k
          early k y f (yes z) = absurd (true≢false (sym (unmet_not k y (w k z) f) ∙ met_not k y (h k y) f))
          early k y f (no z) = omega arith
      found r (none e h) q (none d w) =
          let c = ord.inside m l in
          absurd (true≢false (sym (unmet_not (o m) c (w (o m) c) fresh) ∙ met_not (o m) c (h (o m) c) fresh))

      pub spreading_next : next_path n table ≡ o m
      unfolding spread_path next_path
      spreading_next =
          let s = grown net n (cleared 128 0) m in
          let begins : (i : ℕ) → i < m → at s i ≡ o i = λ i g. arranged_begins key n (cleared 128 0) room n m i g (omega arith) (omega arith) in
          sym (
          arranged_chosen key n (cleared 128 0) room m l
          ∙ choose_keys (key s m) weight (placed (at s) m) n (λ k h. ap (λ (b : Bool). cond {A = ℕ} b 0 1) (touches_local net (at s) o m k begins)) n (omega arith)
          ∙ choose_same weight (placed (at s) m) (placed o m) n n (λ k h. placed_local (at s) o m k begins)
          ∙ choose_is weight (placed o m) n _ (found _ (first_is (λ k. between 3 4 (at table k)) n) _ (first_is (λ k. between 0 0 (at table k)) n))
          )

      module _ (c s : ℕ) (e : c ≡ next_path n table) (es : s ≡ asked_mark (at table c)) where
        next : c ≡ o m
        next = e ∙ spreading_next

        pub spreading_below : c < n
        spreading_below = rw next (ord.inside m l)

        asked : s ≡ opposite net (mark m) o m c
        unfolding asked_mark
        asked = es ∙ go (telling c spreading_below)
          where
            go : Told net (mark m) o m c (at table c) → cond (ltb (at table c) 3) 1 (at table c - 2) ≡ opposite net (mark m) o m c
            go (marked f x r) = absurd (true≢false (sym f ∙ ap (placed o m) next ∙ fresh))
            go (met f t x r) = rw (le-ltb (at table c) 3 (omega (arith, r))) (omega (arith, x))
            go (unmet f t x) = rw (lt-ltb (at table c) 3 (omega (arith, x))) (sym (opposite_alone net (mark m) o m c t))

        pub spreading_side : (1 ≤ s) × (s ≤ 2)
        spreading_side = rw asked (opposite_side net (mark m) o m c (side m p.here))

        mine : mark (suc m) c ≡ s
        unfolding spread_marks packed
        mine =
            rw (next, asked, next) (at_same (spread_marks n lent m) (o m) (opposite net (mark m) o m (o m)) (omega (arith, marks_long m, ord.inside m l)))

        old : (k : ℕ) → c ≢ k → mark (suc m) k ≡ mark m k
        unfolding spread_marks packed
        old k ne = at_other (spread_marks n lent m) (o m) (opposite net (mark m) o m (o m)) k (λ q. ne (next ∙ sym q))

        opposite_more : (k : ℕ) → opposite net (mark (suc m)) o (suc m) k ≡ cond (in_conflict net c k) (3 - s) (opposite net (mark m) o m k)
        unfolding opposite
        opposite_more k =
            rw (← next, mine, opposite_local net (mark (suc m)) (mark m) o o m k (λ i g. refl) (λ i g. old (o i) (λ q. ord.fresh i m g l (sym q ∙ next))))

        told_more : (k : ℕ) → placed o (suc m) k ≡ false
            → told net (mark (suc m)) o (suc m) k ≡ cond (in_conflict net c k) (5 - s) (cond (touches net o m k) (opposite net (mark m) o m k + 2) 0)
        unfolding told
        told_more k f = rw (f, touches_suc net o m k, ← next, opposite_more k) (go (touches net o m k) (in_conflict net c k))
          where
            go : (a b : Bool) → cond (a || b) (cond b (3 - s) (opposite net (mark m) o m k) + 2) 0 ≡ cond b (5 - s) (cond a (opposite net (mark m) o m k + 2) 0)
            go true true = omega (arith, spreading_side)
            go true false = refl
            go false true = omega (arith, spreading_side)
            go false false = refl

        -- what the turn leaves in the cell of path k
        abbrev after : ℕ → ℕ → ℕ
        after k x = meeting (5 - s) (at lent.guards (cell c k)) x

        after_other : (k : ℕ) → c ≢ k → placed o m k ≡ false → between 1 2 (at table k) ≡ false → at table k ≡ cond (touches net o m k) (opposite net (mark m) o m k + 2) 0
            → after k (at table k) ≡ told net (mark (suc m)) o (suc m) k
        after_other k ne f b x =
            not_spared (5 - s) (at lent.guards (cell c k)) (at table k) b
            ∙ ap (λ (y : ℕ). cond (in_conflict net c k) (5 - s) y) x
            ∙ sym (told_more k (sym (placed_miss o m k false (sym f) (λ q. ne (next ∙ q)))))

        after_told : (k : ℕ) → k < n → Dec (c ≡ k) → after k (at (set table c s) k) ≡ told net (mark (suc m)) o (suc m) k
        unfolding told
        after_told k h (yes q) =
            rw (← q, ← placed_hit o m c (sym next), at_same table c s (omega (arith, p.full, spreading_below)), mine) (spared (5 - s) (at lent.guards (cell c c)) s (between_yes 1 2 s spreading_side.0 spreading_side.1))
        after_told k h (no ne) = rw (at_other table c s k (λ q. ne (sym q))) (go (telling k h))
          where
            go : Told net (mark m) o m k (at table k) → after k (at table k) ≡ told net (mark (suc m)) o (suc m) k
            go (marked f x r) =
                spared (5 - s) (at lent.guards (cell c k)) (at table k) (between_yes 1 2 (at table k) r.0 r.1)
                ∙ rw (← placed_miss o m k true (sym f) (λ q. ne (next ∙ q))) (x ∙ sym (old k ne))
            go (met f t x r) = after_other k ne f (between_high 1 2 (at table k) (omega (arith, r))) (rw t x)
            go (unmet f t x) = after_other k ne f (between_low 1 2 (at table k) (omega (arith, x))) (rw t x)

        pub spreading_more : (table' : List ℕ) → Met n lent.guards c (5 - s) (set table c s) table' → Spreading n lent table' (m + 1)
        spreading_more table' u = rw add-one record {
          here = l;
          full = u.long ∙ length-set table c s ∙ p.full;
          tells = λ k h. u.done k h ∙ after_told k h (ℕ_discrete c k);
          rest = λ k h. u.left k h ∙ at_other table c s k (λ q. omega (arith, spreading_below)) ∙ p.rest k h;
        }

    pub spreading_last : n ≤ m → table ≡ marks net n
    unfolding marks spread_marks spread_path
    spreading_last l = ext_get_or 0 table (spread_marks n lent n) (p.full ∙ sym (marks_long n)) (λ k g. go k (dec_lt k n))
      where
        all : m ≡ n
        all = omega (arith, p.here)

        go : (k : ℕ) → Dec (k < n) → at table k ≡ mark n k
        go k (yes h) = p.tells k h ∙ ap (λ (j : ℕ). told net (mark j) o j k) all ∙ told_all k h
        go k (no h) = p.rest k (omega arith) ∙ sym (packed_other (opposite net) (opposite_local net) o (cleared 128 0) n k (λ i g q. omega (arith, ord.inside i g)))

    -- then each path is marked, and no cell past them
    pub spreading_all : n ≤ m → AllMarked n table
    spreading_all l = record {
      some = λ k h. go k h (telling k h);
      none = λ k h g. p.rest k h ∙ cleared_at 128 0 k g;
    }
      where
        all : m ≡ n
        all = omega (arith, p.here)

        set_down : (k : ℕ) → k < n → placed o m k ≡ true
        set_down k h = rw all (count_full (placed o n) n (count_placed o n n ord) k h)

        go : (k : ℕ) → k < n → Told net (mark m) o m k (at table k) → 1 ≤ at table k
        go k h (marked e f s) = s.0
        go k h (met e t f s) = absurd (true≢false (sym (set_down k h) ∙ e))
        go k h (unmet e t f) = absurd (true≢false (sym (set_down k h) ∙ e))
