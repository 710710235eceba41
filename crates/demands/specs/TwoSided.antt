-- The two-sided order packs to the figure of RULES 7, and no valid plan has a lower highest slot. Assumes
-- nothing.
use Rattle.std.specs.Prelude.{ℕ, ◌+◌, ◌-◌, ◌≤◌, ◌<◌, ◌≡◌, ◌⊎◌, Bool, List, length}
use Rattle.std.proofs.Math.Path.{refl, ap}
use Rattle.std.proofs.Common.{sym, ◌∙◌, inl, inr, ltb-true, lt-ltb}
use Rattle.std.proofs.Math.Bool.{true, false, cond, not}
use Rattle.std.proofs.lemmas.Bool.{false≢true}
use native.Mathlib.Omega.{arith}
use Rattle.rules.specs.Tables.{at}
use Rattle.rules.specs.Scan.{largest}
use Rattle.rules.specs.Plan.{Net, Conflict, in_conflict, Clear, Valid, end, highest}
use Rattle.rules.specs.Packing.{lowest, packed, Order}
use Rattle.rules.specs.Sides.{Walk, here, step, Split, two_sided, across_conflict, two_sided_highest}
use Rattle.plan_laws.specs.Good.{Good}
use Rattle.table_laws.specs.Scans.{largest_ge, largest_le}
use Rattle.plan_laws.specs.Pack.{Packs}
use Rattle.plan_laws.specs.Arranged.{arranged_order, arranged_least}
use Rattle.plan_laws.specs.Lowest.{lowest_local, lowest_le}
use Rattle.plan_laws.specs.Plans.{everywhere, packs, packed_valid}
use Rattle.plan_laws.specs.Apart.{either}
use Rattle.plan_laws.specs.Heights.{highest_ge, highest_le}

unfoldable pub flip : Bool → Bool → Bool
flip true x = not x
flip false x = x

flip_not : (b x : Bool) → not (flip b x) ≡ flip (not b) x
unfolding flip
flip_not true true = refl
flip_not true false = refl
flip_not false x = refl

module _ (net : Net) (n : ℕ) where
  pub walk_below : {i j : ℕ} {b : Bool} → i < n → Walk net n i j b → j < n
  walk_below l here = l
  walk_below l (step w k c) = k

  -- along a walk the side changes with each conflict
  pub walk_side : (s : ℕ → Bool) → Split net n s → {i j : ℕ} {b : Bool} → i < n → Walk net n i j b → s j ≡ flip b (s i)
  unfolding flip
  walk_side s split l here = refl
  walk_side s split {i} l (step {j} {k} {odd} w h c) = split j k (walk_below l w) h c ∙ ap not (walk_side s split l w) ∙ flip_not odd (s i)

  -- what the figure for the two-sided order bounds
  figure_width : (k : ℕ) → k < n → net.width k ≤ two_sided_highest net n
  unfolding two_sided_highest
  figure_width k l = omega (arith, largest_ge net.width n k l)

  figure_pair : (i j : ℕ) → i < n → j < n → Conflict net i j → net.width i + net.guard i j + net.width j ≤ two_sided_highest net n
  unfolding two_sided_highest
  figure_pair i j h l c =
      omega (arith, across_is i j c, largest_ge (across_conflict net i) n j l, largest_ge (λ i. largest (across_conflict net i) n) n i h)
    where
      across_is : (i j : ℕ) → Conflict net i j → across_conflict net i j ≡ net.width i + net.guard i j + net.width j
      across_is i j c = unfold across_conflict in (rw (lt-ltb (net.guard i j) 255 c) refl)

  across_le : (i j x : ℕ) → (Conflict net i j → net.width i + net.guard i j + net.width j ≤ x) → across_conflict net i j ≤ x
  unfolding across_conflict
  across_le i j x h = go (in_conflict net i j) refl
    where
      go : (b : Bool) → in_conflict net i j ≡ b → cond b (net.width i + net.guard i j + net.width j) 0 ≤ x
      go true e = h (ltb-true _ _ e)
      go false e = omega arith

  figure_le : (x : ℕ) → ((k : ℕ) → k < n → net.width k ≤ x) → ((i j : ℕ) → i < n → j < n → Conflict net i j → net.width i + net.guard i j + net.width j ≤ x) → two_sided_highest net n ≤ x
  unfolding two_sided_highest
  figure_le x f g =
      omega (
        arith,
        largest_le net.width n x f,
        largest_le (λ i. largest (across_conflict net i) n) n x (λ i h. largest_le (across_conflict net i) n x (λ j l. across_le i j x (g i j h l))),
      )

  module _ (good : Good net n) where
    -- no valid plan's highest slot is below the figure
    pub figure_holds : (q : ℕ → ℕ) → Valid net n q → two_sided_highest net n ≤ highest net q n
    figure_holds q v = figure_le (highest net q n)
        (λ k l. omega (arith, highest_ge net q n k l, v.lows k l, good.above k l))
        (λ i j h l c. go i j h l (either net n good v i j h l c))
      where
        go : (i j : ℕ) → i < n → j < n → Clear net q i j ⊎ Clear net q j i → net.width i + net.guard i j + net.width j ≤ highest net q n
        go i j h l (inl x) = omega (arith, highest_ge net q n j l, v.lows i h, good.above i h)
        go i j h l (inr x) = omega (arith, highest_ge net q n i h, v.lows j l, good.above j l, good.mirrored i j h l)

    module _ (ones : (k : ℕ) → k < n → net.low k ≡ 1) (s : ℕ → Bool) (split : Split net n s) (room t : List ℕ) (big : n ≤ length room) (space : n ≤ length t) where
      o : ℕ → ℕ
      o = at (two_sided n s room)

      ord : Order o n n
      unfolding o two_sided
      ord = arranged_order (λ u i k. cond (s k) 1 0) n room big n (omega arith)

      rising : (i j : ℕ) → i < j → j < n → cond (s (o i)) 1 0 ≤ cond (s (o j)) 1 0
      unfolding o two_sided
      rising i j h l = arranged_least (λ u i k. cond (s k) 1 0) n room big n i (o j) (omega arith) (omega arith) (ord.inside j l) (λ k g. ord.fresh k j (omega arith) l)

      p : ℕ → ℕ
      p = at (packed (lowest net) o t n)

      packed_p : Packs (lowest net) o p n
      unfolding p
      packed_p = packs net n o ord t space (lowest net) (lowest_local net)

      -- an earlier conflicting path is on the low side, and this one on the high side
      earlier : (i m : ℕ) → i < m → m < n → Conflict net (o i) (o m) → s (o i) ≡ false
      earlier i m h l c = go (s (o i)) refl
        where
          go : (x : Bool) → s (o i) ≡ x → s (o i) ≡ false
          go false e = e
          go true e = absurd (omega (arith, rw (split (o i) (o m) (ord.inside i (omega arith)) (ord.inside m l) c, e) at (rising i m h l)))

      later : (i m : ℕ) → i < m → m < n → Conflict net (o i) (o m) → s (o m) ≡ true
      later i m h l c = split (o i) (o m) (ord.inside i (omega arith)) (ord.inside m l) c ∙ ap not (earlier i m h l c)

      low_one : (m : ℕ) → m < n → s (o m) ≡ false → p (o m) ≤ 1
      low_one m l e = omega (arith, packed_p m l, lowest_le net p o m (o m) 1 (omega (arith, ones (o m) (ord.inside m l))) (λ i h c. absurd (false≢true (sym e ∙ later i m h l c))))

      ends : (m : ℕ) → m < n → end net (o m) (p (o m)) ≤ two_sided_highest net n
      ends m l =
          let w = figure_width (o m) (ord.inside m l) in
          omega (
            arith,
            packed_p m l,
            w,
            lowest_le net p o m (o m) (two_sided_highest net n + 1 - net.width (o m)) (omega (arith, w, ones (o m) (ord.inside m l)))
                (λ i h c. omega (arith, low_one i (omega arith) (earlier i m h l c), figure_pair (o i) (o m) (ord.inside i (omega arith)) (ord.inside m l) c)),
          )

      -- the two-sided order's highest slot, and that none is lower
      pub two_sided_lem : highest net (at (packed (lowest net) (at (two_sided n s room)) t n)) n ≡ two_sided_highest net n
      unfolding p o
      two_sided_lem = omega (arith, highest_le net p n (two_sided_highest net n) (everywhere net n o ord (λ k. end net k (p k) ≤ two_sided_highest net n) ends), figure_holds p (packed_valid net n o ord t space good))
