-- Improving an order. Assumes nothing.
use Prim.Native.Nat.{ℕ, zero, suc, ◌+◌, ◌/◌, ◌≤◌, ◌<◌}
use Rattle.std.specs.Prelude.{◌≡◌, ◌≢◌, Bool, cond, List, length, set, ltb}
use Rattle.std.proofs.Math.Path.{refl}
use Rattle.std.proofs.Common.{sym, ap, ◌∙◌, mul-le-mul_right, length-set, ext_get_or, lt-ltb, le-ltb}
use native.Mathlib.Omega.{arith}
use Rattle.std.proofs.Math.Decide.{ℕ_discrete, dec_lt}
use Rattle.rules.specs.Tables.{at}
use Rattle.rules.specs.Packing.{Order}
use Rattle.rules.specs.Planning.{draw, drawn_place, swapped, Run, state_after, tried, round, rounds}
use Rattle.rules.specs.Scan.{sum}
use Rattle.table_laws.specs.Tables.{at_same, at_other}

-- where a place's path came from
data How (a b i p : ℕ) : Type 0 where
  onto : i ≡ b → p ≡ a → How a b i p
  off : i ≢ b → i ≡ a → p ≡ b → How a b i p
  stay : i ≢ b → i ≢ a → p ≡ i → How a b i p

how_below : {a b i p : ℕ} (n : ℕ) → a < n → b < n → i < n → How a b i p → p < n
how_below n la lb l (onto e f) = omega arith
how_below n la lb l (off x e f) = omega arith
how_below n la lb l (stay x y f) = omega arith

how_differ : {a b i j p q : ℕ} → i < j → How a b i p → How a b j q → p ≢ q
how_differ h (onto e f) (onto e' f') = omega arith
how_differ h (onto e f) (off x e' f') = omega arith
how_differ h (onto e f) (stay x y f') = omega arith
how_differ h (off x e f) (onto e' f') = omega arith
how_differ h (off x e f) (off x' e' f') = omega arith
how_differ h (off x e f) (stay x' y f') = omega arith
how_differ h (stay x y f) (onto e' f') = omega arith
how_differ h (stay x y f) (off x' e' f') = omega arith
how_differ h (stay x y f) (stay x' y' f') = omega arith

from : (o : List ℕ) (a b i : ℕ) → a < length o → b < length o → (p : ℕ) × (at (swapped o a b) i ≡ at o p) × How a b i p
unfolding swapped
from o a b i la lb = go (ℕ_discrete i b) (ℕ_discrete i a)
  where
    go : Dec (i ≡ b) → Dec (i ≡ a) → (p : ℕ) × (at (set (set o a (at o b)) b (at o a)) i ≡ at o p) × How a b i p
    go (yes e) d = (a, rw e (at_same (set o a (at o b)) b (at o a) (omega (arith, length-set o a (at o b)))), onto e refl)
    go (no x) (yes e) = (b, at_other (set o a (at o b)) b (at o a) i x ∙ rw e (at_same o a (at o b) la), off x e refl)
    go (no x) (no y) = (i, at_other (set o a (at o b)) b (at o a) i x ∙ at_other o a (at o b) i y, stay x y refl)

order_differ : (o : ℕ → ℕ) (n p q : ℕ) → Order o n n → p < n → q < n → p ≢ q → o p ≢ o q
order_differ o n p q ord l g ne e = go (dec_lt p q)
  where
    go : Dec (p < q) → ⊥
    go (yes x) = ord.fresh p q x g e
    go (no x) = ord.fresh q p (omega arith) l (sym e)

-- a swapped order is an order
pub swapped_order : (o : List ℕ) (n a b : ℕ) → n ≤ length o → a < n → b < n → Order (at o) n n → Order (at (swapped o a b)) n n
swapped_order o n a b room la lb ord = record {
  inside = λ i l. rw (w i).1 (ord.inside (w i).0 (how_below n la lb l (w i).2));
  fresh = λ i j h l e. order_differ (at o) n (w i).0 (w j).0 ord (how_below n la lb (omega arith) (w i).2) (how_below n la lb l (w j).2) (how_differ h (w i).2 (w j).2) (sym (w i).1 ∙ e ∙ (w j).1);
}
  where
    w : (i : ℕ) → (p : ℕ) × (at (swapped o a b) i ≡ at o p) × How a b i p
    w i = from o a b i (omega arith) (omega arith)

pub swapped_length : (o : List ℕ) (a b : ℕ) → length (swapped o a b) ≡ length o
unfolding swapped
swapped_length o a b = simp length-set

-- a drawn place is below n
pub place_below : (n x : ℕ) → 0 < n → x < 4294967296 → drawn_place n x < n
unfolding drawn_place
place_below n x pos l = let h : x / 65536 ≤ 65535 = omega arith in omega (arith, mul-le-mul_right n h)

pub draw_below : (x : ℕ) → draw x < 4294967296
unfolding draw
draw_below x = omega arith

-- whatever `highestOf` is of an order
module _ (highest_of : List ℕ → ℕ) (n : ℕ) (pos : 0 < n) where
  -- the order is whole, and its highest slot is the one that is said
  pub record Sound (r : Run) : Type 0 where
    pub whole : Order (at r.order) n n
    pub room : n ≤ length r.order
    pub right : r.highest ≡ highest_of r.order

  -- the order that a round tries is whole
  pub tried_order : (r : Run) → Sound r → Order (at (tried n r)) n n
  unfolding tried state_after
  tried_order r s =
      swapped_order r.order n _ _ s.room (place_below n _ pos (draw_below _)) (place_below n _ pos (draw_below _)) s.whole

  pub tried_length : (r : Run) → length (tried n r) ≡ length r.order
  unfolding tried
  tried_length r = swapped_length r.order _ _

  -- a round keeps its swap exactly where that strictly lowers the highest slot, and counts it
  pub round_kept : (r : Run) → highest_of (tried n r) < r.highest
      → ((round highest_of n r).order ≡ tried n r) × ((round highest_of n r).highest ≡ highest_of (tried n r)) × ((round highest_of n r).kept ≡ suc r.kept)
  unfolding round
  round_kept r l = rw (lt-ltb (highest_of (tried n r)) r.highest l) (refl, refl, refl)

  pub round_left : (r : Run) → r.highest ≤ highest_of (tried n r)
      → ((round highest_of n r).order ≡ r.order) × ((round highest_of n r).highest ≡ r.highest) × ((round highest_of n r).kept ≡ r.kept)
  unfolding round
  round_left r l = rw (le-ltb (highest_of (tried n r)) r.highest l) (refl, refl, refl)

  -- so it stays sound, and the highest slot never rises
  pub round_sound : (r : Run) → Sound r → Sound (round highest_of n r) × ((round highest_of n r).highest ≤ r.highest)
  round_sound r s = go (dec_lt (highest_of (tried n r)) r.highest)
    where
      go : Dec (highest_of (tried n r) < r.highest) → Sound (round highest_of n r) × ((round highest_of n r).highest ≤ r.highest)
      go (yes l) =
          let x = round_kept r l in (
            record {
              whole = rw x.0 (tried_order r s);
              room = rw x.0 (omega (arith, s.room, tried_length r));
              right = rw (x.0, x.1);
            },
            omega (arith, x.1),
          )
      go (no l) =
          let x = round_left r (omega arith) in (
            record { whole = rw x.0 s.whole; room = rw x.0 s.room; right = rw (x.0, x.1) s.right },
            omega (arith, x.1),
          )

  pub rounds_sound : (k : ℕ) (r : Run) → Sound r → Sound (rounds highest_of n k r) × ((rounds highest_of n k r).highest ≤ r.highest)
  unfolding rounds
  rounds_sound zero r s = (s, omega arith)
  rounds_sound (suc k) r s =
      let x = rounds_sound k r s in
      let y = round_sound (rounds highest_of n k r) x.0 in
      (y.0, omega (arith, x.1, y.1))

  pub rounds_length : (k : ℕ) (r : Run) → length (rounds highest_of n k r).order ≡ length r.order
  unfolding rounds
  rounds_length zero r = refl
  rounds_length (suc k) r = go (dec_lt (highest_of (tried n q)) q.highest) ∙ rounds_length k r
    where
      q : Run
      q = rounds highest_of n k r

      go : Dec (highest_of (tried n q) < q.highest) → length (round highest_of n q).order ≡ length q.order
      go (yes l) = rw (round_kept q l).0 (tried_length q)
      go (no l) = rw (round_left q (omega arith)).0

  -- the number kept is the number of the rounds below k that strictly lower the highest slot
  abbrev pub lowers : Run → ℕ → Bool
  lowers r i = ltb (rounds highest_of n (suc i) r).highest (rounds highest_of n i r).highest

  pub kept_counts : (k : ℕ) (r : Run) → (rounds highest_of n k r).kept ≡ r.kept + sum (λ i. cond (lowers r i) 1 0) k
  unfolding rounds sum
  kept_counts zero r = omega arith
  kept_counts (suc k) r = go (dec_lt (highest_of (tried n q)) q.highest) (kept_counts k r)
    where
      q : Run
      q = rounds highest_of n k r

      go : Dec (highest_of (tried n q) < q.highest) → q.kept ≡ r.kept + sum (λ i. cond (lowers r i) 1 0) k
          → (round highest_of n q).kept ≡ r.kept + (sum (λ i. cond (lowers r i) 1 0) k + cond (ltb (round highest_of n q).highest q.highest) 1 0)
      go (yes l) ih =
          let x = round_kept q l in
          rw (lt-ltb (round highest_of n q).highest q.highest (omega (arith, x.1))) (omega (arith, x.2))
      go (no l) ih =
          let x = round_left q (omega arith) in
          rw (le-ltb (round highest_of n q).highest q.highest (omega (arith, x.1))) (omega (arith, x.2))

-- two places changed about twice
pub swapped_back : (o : List ℕ) (a b : ℕ) → a < length o → b < length o → swapped (swapped o a b) a b ≡ o
swapped_back o a b la lb = ext_get_or 0 (swapped (swapped o a b) a b) o (swapped_length (swapped o a b) a b ∙ swapped_length o a b) (λ i l. same i (twice i))
  where
    once : (i : ℕ) → (p : ℕ) × (at (swapped o a b) i ≡ at o p) × How a b i p
    once i = from o a b i la lb

    twice : (i : ℕ) → (p : ℕ) × (at (swapped (swapped o a b) a b) i ≡ at (swapped o a b) p) × How a b i p
    twice i = from (swapped o a b) a b i (omega (arith, swapped_length o a b)) (omega (arith, swapped_length o a b))

    back : {i p q : ℕ} → How a b i p → How a b p q → q ≡ i
    back (onto e f) (onto e' f') = omega arith
    back (onto e f) (off x e' f') = omega arith
    back (onto e f) (stay x y f') = absurd (y f)
    back (off x e f) (onto e' f') = omega arith
    back (off x e f) (off x' e' f') = absurd (x' f)
    back (off x e f) (stay x' y f') = absurd (x' f)
    back (stay x y f) (onto e' f') = absurd (x (sym f ∙ e'))
    back (stay x y f) (off x' e' f') = absurd (y (sym f ∙ e'))
    back (stay x y f) (stay x' y' f') = f' ∙ f

    same : (i : ℕ) → (p : ℕ) × (at (swapped (swapped o a b) a b) i ≡ at (swapped o a b) p) × How a b i p → at (swapped (swapped o a b) a b) i ≡ at o i
    same i (p, e, h) = let r = once p in e ∙ r.1 ∙ ap (at o) (back h r.2)
