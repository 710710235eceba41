-- Arranging by a key in passes, one for each value of the key from 0 up: a pass goes over the paths by number
-- and appends those of its value. Assumes nothing.
use Rattle.std.specs.Prelude.{ℕ, zero, suc, ◌+◌, ◌≤◌, ◌<◌, ◌≢◌, Bool, ◌&&◌, ◌||◌, List, length, set}
use Rattle.std.proofs.Math.Path.{◌≡◌, refl, sym, ap}
use Rattle.std.proofs.Common.{subst, ◌∙◌, true≢false, arith, add-one}
use Rattle.std.proofs.Math.Bool.{true, false, cond}
use Rattle.std.proofs.Math.Decide.{ℕ_discrete, dec_lt}
use Rattle.std.proofs.Math.Dec.{ltb, eqb}
use borrow.Author.Tests.{lt-ltb, le-ltb, ltb-false, eq-eqb, ne_eqb, eqb-true, eqb-false}
use Rattle.rules.specs.Tables.{at}
use Rattle.rules.specs.Scan.{sum}
use Rattle.rules.specs.Packing.{Order, placed}
use Rattle.rules.specs.Pressing.{choose, arranged}
use Rattle.rules.specs.Sides.{two_sided, low_side}
use Rattle.table_laws.specs.Scans.{and_false, sum_same, sum_ones}
use Rattle.table_laws.specs.Count.{weigh, weigh_same, weigh_all, count, count_le, count_more}
use Rattle.table_laws.specs.Tables.{at_same, at_other}
use Rattle.table_laws.specs.Orders.{placed_none, placed_suc, count_placed}
use Rattle.table_laws.specs.Marks.{placed_local}
use Rattle.plan_laws.specs.Arranged.{choose_is, arranged_length, arranged_order, arranged_next}

-- path j has had its turn, in an earlier pass or in this one before path k
unfoldable pub passed : (ℕ → ℕ) → ℕ → ℕ → ℕ → Bool
passed key value k j = ltb (key j) value || (eqb (key j) value && ltb j k)

-- the pass of a value has come to path k: the order so far has p paths, those that had their turn
pub record Passing (key : ℕ → ℕ) (n : ℕ) (before order : List ℕ) (value k p : ℕ) : Type 0 where
  pub room : n ≤ length before
  pub here : k ≤ n
  pub few : p ≤ n
  pub made : order ≡ arranged (λ s i. key) n before p
  pub held : (j : ℕ) → j < n → placed (at order) p j ≡ passed key value k j

module _ (key : ℕ → ℕ) where
  passed_not : (value k j : ℕ) → passed key value k j ≡ false → (value ≤ key j) × (key j ≡ value → k ≤ j)
  unfolding passed
  passed_not value k j = go (ltb (key j) value) refl (eqb (key j) value) refl
    where
      go : (a : Bool) → ltb (key j) value ≡ a → (b : Bool) → eqb (key j) value ≡ b → (a || (b && ltb j k)) ≡ false → (value ≤ key j) × (key j ≡ value → k ≤ j)
      go true e b f h = absurd (true≢false h)
      go false e true f h = (ltb-false (key j) value e, λ q. ltb-false j k h)
      go false e false f h = (ltb-false (key j) value e, λ q. absurd (eqb-false (key j) value f q))

  passed_no : (value k j : ℕ) → value ≤ key j → k ≤ j → passed key value k j ≡ false
  unfolding passed
  passed_no value k j h l = rw (le-ltb (key j) value h, le-ltb j k l) (and_false (eqb (key j) value))

  -- path k has its turn: where its key is of this value it is appended, else nothing is
  beyond : (k j : ℕ) → k ≢ j → ltb j k ≡ ltb j (suc k)
  beyond k j ne = go (dec_lt j k)
    where
      go : Dec (j < k) → ltb j k ≡ ltb j (suc k)
      go (yes l) = lt-ltb j k l ∙ sym (lt-ltb j (suc k) (omega arith))
      go (no l) = le-ltb j k (omega arith) ∙ sym (le-ltb j (suc k) (omega arith))

  passed_put : (value k j : ℕ) → key k ≡ value → (passed key value k j || eqb k j) ≡ passed key value (suc k) j
  unfolding passed
  passed_put value k j e = go (ℕ_discrete k j)
    where
      both : (a b : Bool) → ((a || (true && b)) || true) ≡ (a || (true && true))
      both true b = refl
      both false true = refl
      both false false = refl

      or_false : (a : Bool) → (a || false) ≡ a
      or_false true = refl
      or_false false = refl

      go : Dec (k ≡ j) → ((ltb (key j) value || (eqb (key j) value && ltb j k)) || eqb k j) ≡ (ltb (key j) value || (eqb (key j) value && ltb j (suc k)))
      go (yes q) = rw (eq-eqb k j q, eq-eqb (key j) value (ap key (sym q) ∙ e), lt-ltb j (suc k) (omega arith)) (both (ltb (key j) value) (ltb j k))
      go (no q) = rw (ne_eqb k j q, ← beyond k j q) (or_false (ltb (key j) value || (eqb (key j) value && ltb j k)))

  passed_skip : (value k j : ℕ) → key k ≢ value → passed key value k j ≡ passed key value (suc k) j
  unfolding passed
  passed_skip value k j ne = go (ℕ_discrete k j)
    where
      go : Dec (k ≡ j) → (ltb (key j) value || (eqb (key j) value && ltb j k)) ≡ (ltb (key j) value || (eqb (key j) value && ltb j (suc k)))
      go (yes q) = rw (ne_eqb (key j) value (λ e. ne (ap key q ∙ e)))
      go (no q) = rw (← beyond k j q)

  -- a pass begins, and the pass of the value before it is over
  pub passed_start : (value j : ℕ) → passed key value 0 j ≡ ltb (key j) value
  unfolding passed
  passed_start value j = rw (le-ltb j 0 (omega arith)) (go (ltb (key j) value) (eqb (key j) value))
    where
      go : (a b : Bool) → (a || (b && false)) ≡ a
      go true b = refl
      go false true = refl
      go false false = refl

  passed_all : (value n j : ℕ) → j < n → passed key value n j ≡ passed key (suc value) 0 j
  unfolding passed
  passed_all value n j l = rw (lt-ltb j n l) (go (dec_lt (key j) value) (ℕ_discrete (key j) value) ∙ sym (passed_start (suc value) j))
    where
      go : Dec (key j < value) → Dec (key j ≡ value) → (ltb (key j) value || (eqb (key j) value && true)) ≡ ltb (key j) (suc value)
      go (yes h) q = rw (lt-ltb (key j) value h) (sym (lt-ltb (key j) (suc value) (omega arith)))
      go (no h) (yes q) = rw (le-ltb (key j) value (omega arith), eq-eqb (key j) value q) (sym (lt-ltb (key j) (suc value) (omega arith)))
      go (no h) (no q) = rw (le-ltb (key j) value (omega arith), ne_eqb (key j) value q) (sym (le-ltb (key j) (suc value) (omega arith)))

module _ (key : ℕ → ℕ) (n : ℕ) (before : List ℕ) where
  pub passing_first : n ≤ length before → Passing key n before before 0 0 0
  unfolding arranged
  passing_first room = record {
    room = room;
    here = omega arith;
    few = omega arith;
    made = refl;
    held = λ j l. placed_none (at before) 0 j (λ i g. absurd (omega arith)) ∙ sym (passed_no key 0 0 j (omega arith) (omega arith));
  }

  module _ (order : List ℕ) (value k p : ℕ) (a : Passing key n before order value k p) where
    ord : Order (at order) n p
    ord = subst (λ (s : List ℕ). Order (at s) n p) (sym a.made) (arranged_order (λ s i. key) n before a.room p a.few)

    pub passing_long : length order ≡ length before
    passing_long = ap length a.made ∙ arranged_length (λ s i. key) n before a.room p

    -- as many as had their turn
    pub passing_count : p ≡ count (passed key value k) n
    passing_count = sym (count_placed (at order) n p ord) ∙ weigh_same (λ j. 1) (placed (at order) p) (passed key value k) n a.held

    pub passing_next : k ≡ n → Passing key n before order (suc value) 0 p
    passing_next e = record {
      room = a.room;
      here = omega arith;
      few = a.few;
      made = a.made;
      held = λ j l. a.held j l ∙ ap (λ i. passed key value i j) e ∙ passed_all key value n j l;
    }

    module _ (l : k < n) where
      passing_skip : key k ≢ value → Passing key n before order value (k + 1) p
      passing_skip ne = rw add-one record {
        room = a.room;
        here = l;
        few = a.few;
        made = a.made;
        held = λ j g. a.held j g ∙ passed_skip key value k j ne;
      }

      module _ (e : key k ≡ value) where
        free : passed key value k k ≡ false
        free = passed_no key value k k (omega arith) (omega arith)

        pub passing_room : p < n
        passing_room = omega (arith, passing_count, count_more (passed key value k) (λ j. true) n k (λ j g h. refl) l free refl, count_le (λ j. true) n)

        -- path k is free, no free path has a smaller key, and none of its key stands before it
        chosen : k ≡ choose key (placed (at order) p) n n
        chosen = sym (choose_is key (placed (at order) p) n k record {
          inside = l;
          free = a.held k l ∙ free;
          least = λ j g f. omega (arith, (passed_not key value k j (sym (a.held j g) ∙ f)).0);
          first = λ j g f h. let q = passed_not key value k j (sym (a.held j g) ∙ f) in q.1 (omega (arith, q.0));
        })

        passing_put : Passing key n before (set order p k) value (k + 1) (p + 1)
        passing_put = rw (add-one k, add-one p) record {
          room = a.room;
          here = l;
          few = passing_room;
          made = arranged_next (λ s i. key) n before p order k a.made chosen;
          held = λ j g.
              placed_suc (at (set order p k)) p j
              ∙ rw (placed_local (at (set order p k)) (at order) p j (λ i h. at_other order p k i (λ q. omega arith)), at_same order p k (omega (arith, passing_long, passing_room)), a.held j g) (passed_put key value k j e);
        }

      -- path k has its turn
      pub passing_more : (order' : List ℕ) (p' : ℕ) → p' ≡ cond (eqb (key k) value) (p + 1) p → order' ≡ cond (eqb (key k) value) (set order p k) order
          → Passing key n before order' value (k + 1) p'
      passing_more order' p' = go (eqb (key k) value) refl
        where
          go : (b : Bool) → eqb (key k) value ≡ b → p' ≡ cond b (p + 1) p → order' ≡ cond b (set order p k) order → Passing key n before order' value (k + 1) p'
          go true e f g = rw (f, g) (passing_put (eqb-true (key k) value e))
          go false e f g = rw (f, g) (passing_skip (eqb-false (key k) value e))

-- the two sides: a high path has mark 2, and its key is 1; that of a low one is 0
abbrev pub side_of : ℕ → ℕ
side_of x = cond (eqb x 2) 1 0

abbrev pub sides_of : List ℕ → ℕ → ℕ
sides_of mark k = side_of (at mark k)

count_sum : (P : ℕ → Bool) (m : ℕ) → count P m ≡ sum (λ k. cond (P k) 1 0) m
unfolding weigh sum
count_sum P zero = refl
count_sum P (suc m) = omega (arith, count_sum P m)

module _ (n : ℕ) (mark before : List ℕ) where
  abbrev high : ℕ → Bool
  high k = eqb (at mark k) 2

  pub passing_low : (order : List ℕ) (p : ℕ) → Passing (sides_of mark) n before order 1 0 p → p ≡ low_side n high
  unfolding low_side
  passing_low order p a =
      passing_count (sides_of mark) n before order 1 0 p a
      ∙ count_sum (passed (sides_of mark) 1 0) n
      ∙ sum_same (λ k. cond (passed (sides_of mark) 1 0 k) 1 0) (λ k. cond (high k) 0 1) n (λ k l. rw (passed_start (sides_of mark) 1 k) (low (high k)))
    where
      low : (b : Bool) → ◌≡◌ {A = ℕ} (cond (ltb (cond b 1 0) 1) 1 0) (cond b 0 1)
      low true = refl
      low false = refl

  pub passing_last : (order : List ℕ) (p : ℕ) → Passing (sides_of mark) n before order 2 0 p → order ≡ two_sided n high before
  unfolding two_sided
  passing_last order p a = a.made ∙ ap (arranged (λ s i. sides_of mark) n before) all
    where
      done : (b : Bool) → ltb (cond b 1 0) 2 ≡ true
      done true = refl
      done false = refl

      all : p ≡ n
      all =
          passing_count (sides_of mark) n before order 2 0 p a
          ∙ weigh_all (λ k. 1) (passed (sides_of mark) 2 0) n (λ k l. passed_start (sides_of mark) 2 k ∙ done (high k))
          ∙ sum_ones (λ k. 1) n (λ k l. refl)
