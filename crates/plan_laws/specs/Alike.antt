-- Whether a conflict joins two paths of one mark, asked of whole rows of the guards: a pair stands in two of them, a
-- path is not in conflict with itself, and past the paths there are no marks. Assumes nothing.
use Rattle.std.specs.Prelude.{ℕ, ◌≤◌, ◌<◌, ◌≡◌, Bool, ◌&&◌, List, ltb, eqb}
use Rattle.std.proofs.Math.Path.{refl, sym}
use Rattle.std.proofs.Common.{subst, arith}
use Rattle.std.proofs.Math.Bool.{true, false}
use Rattle.std.proofs.Math.Decide.{dec_lt}
use borrow.Author.Tests.{ltb-true, lt-ltb, eqb-true, eq-eqb}
use Rattle.rules.specs.Tables.{at, cell, Lent}
use Rattle.rules.specs.Scan.{found, found_pair, first}
use Rattle.rules.specs.Plan.{net_of}
use Rattle.rules.specs.Sides.{same_mark}
use Rattle.table_laws.specs.Scans.{and_both, and_false, found_at, found_first, found_not, pair_none}

-- what the tests have found of the guards of n paths
pub record Mirrored (n : ℕ) (guards : List ℕ) : Type 0 where
  pub own : (k : ℕ) → k < n → at guards (cell k k) ≡ 255
  pub other : (i j : ℕ) → i < n → j < n → at guards (cell i j) ≡ at guards (cell j i)

-- each of n paths has a mark, and no cell past them has
pub record AllMarked (n : ℕ) (mark : List ℕ) : Type 0 where
  pub some : (k : ℕ) → k < n → 1 ≤ at mark k
  pub none : (k : ℕ) → n ≤ k → k < 128 → at mark k ≡ 0

unfoldable pub alike : List ℕ → List ℕ → ℕ → ℕ → Bool
alike guards mark i j = ltb (at guards (cell i j)) 255 && eqb (at mark i) (at mark j)

module _ (n : ℕ) (few : n ≤ 128) (guards mark : List ℕ) (m : Mirrored n guards) (w : AllMarked n mark) (lent : Lent) (q : lent.guards ≡ guards) where
  same_of : (i j : ℕ) → i < j → at guards (cell i j) < 255 → at mark i ≡ at mark j → same_mark (net_of lent) (at mark) i j ≡ true
  unfolding same_mark
  same_of i j l g e = rw (q, lt-ltb i j l, lt-ltb (at guards (cell i j)) 255 g, eq-eqb (at mark i) (at mark j) e)

  pair_at : (i j : ℕ) → i < n → j < n → same_mark (net_of lent) (at mark) i j ≡ true → found_pair (same_mark (net_of lent) (at mark)) n ≡ true
  unfolding found_pair
  pair_at i j l h e = found_at (λ i. found (same_mark (net_of lent) (at mark) i) n) n i l (found_at (same_mark (net_of lent) (at mark) i) n j h e)

  -- a pair found in a row is a pair
  row_pair : (i j : ℕ) → i < n → j < 128 → alike guards mark i j ≡ true → found_pair (same_mark (net_of lent) (at mark)) n ≡ true
  unfolding alike
  row_pair i j l h e = go (dec_lt j n) (dec_lt i j) (dec_lt j i)
    where
      g : at guards (cell i j) < 255
      g = ltb-true (at guards (cell i j)) 255 (and_both (ltb (at guards (cell i j)) 255) (eqb (at mark i) (at mark j)) e).0

      s : at mark i ≡ at mark j
      s = eqb-true (at mark i) (at mark j) (and_both (ltb (at guards (cell i j)) 255) (eqb (at mark i) (at mark j)) e).1

      go : Dec (j < n) → Dec (i < j) → Dec (j < i) → found_pair (same_mark (net_of lent) (at mark)) n ≡ true
      go (no x) a b = absurd (omega (arith, s, w.none j (omega arith) h, w.some i l))
      go (yes x) (yes a) b = pair_at i j l x (same_of i j a g s)
      go (yes x) (no a) (yes b) = pair_at j i x l (same_of j i b (omega (arith, g, m.other j i x l)) (sym s))
      go (yes x) (no a) (no b) = let z : i ≡ j = omega arith in absurd (omega (arith, g, subst (λ k. at guards (cell i k) ≡ 255) z (m.own i l)))

  pub rows_alike : found (λ i. found (alike guards mark i) 128) n ≡ found_pair (same_mark (net_of lent) (at mark)) n
  unfolding same_mark alike
  rows_alike = go (found (λ i. found (alike guards mark i) 128) n) refl
    where
      go : (b : Bool) → found (λ i. found (alike guards mark i) 128) n ≡ b → b ≡ found_pair (same_mark (net_of lent) (at mark)) n
      go true e =
          let r = found_first (λ i. found (alike guards mark i) 128) n e in
          let i = first (λ i. found (alike guards mark i) 128) n in
          let s = found_first (alike guards mark i) 128 r.1 in
          sym (row_pair i (first (alike guards mark i) 128) r.0 s.0 s.1)
      go false e =
          sym (pair_none (same_mark (net_of lent) (at mark)) n
          (λ i j l h. rw (q, found_not (alike guards mark i) 128 (found_not (λ i. found (alike guards mark i) 128) n e i l) j (omega arith)) (and_false (ltb i j))))
