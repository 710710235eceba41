-- Test 8, a pair at a time. Assumes nothing.
use Rattle.std.specs.Prelude.{ℕ, ◌+◌, ◌-◌, ◌≤◌, ◌<◌, ◌≡◌, ◌≢◌, Bool, cond, ◌&&◌, eqb}
use Rattle.std.proofs.Math.Path.{refl}
use Rattle.std.proofs.Common.{sym, ◌∙◌, true≢false, arith}
use Rattle.std.proofs.Math.Bool.{true, false, not}
use Rattle.std.proofs.Math.Decide.{dec_lt}
use Rattle.std.proofs.Math.Dec.{ltb}
use borrow.Author.Tests.{eq-eqb, ne_eqb, eqb-false, lt-ltb, le-ltb, ltb-true, not-true}
use Rattle.rules.specs.declared.Fault.{Fault}
use Rattle.rules.specs.Tables.{cell}
use Rattle.rules.specs.Scan.{first}
use Rattle.rules.specs.Plan.{Net, Conflict, in_conflict, short, too_close}
use Rattle.table_laws.specs.Scans.{found_first}
use Rattle.table_laws.specs.Faults.{row_hit}
use Rattle.plan_laws.specs.Short.{short_below, short_above}

-- how many slots short two paths with guard g are, at s with width w and at t with width v; the first is the
-- lower where they start together. 0 where they are not in conflict
unfoldable pub pair_short : ℕ → ℕ → ℕ → ℕ → ℕ → ℕ
pair_short g s w t v = cond (ltb g 255) (cond (ltb t s) (t + v - 1 + g + 1 - s) (s + w - 1 + g + 1 - t)) 0

-- the same of paths i and j of a plan
unfoldable pub lack : Net → (ℕ → ℕ) → ℕ → ℕ → ℕ
lack net plan i j = cond (in_conflict net i j) (short net plan i j) 0

module _ (net : Net) (plan : ℕ → ℕ) (i j : ℕ) where
  pub pair_lack : i < j → net.guard i j ≡ net.guard j i
      → pair_short (net.guard i j) (plan i) (net.width i) (plan j) (net.width j) ≡ lack net plan i j
  pair_lack l e = go (dec_lt (plan j) (plan i))
    where
      go : Dec (plan j < plan i) → pair_short (net.guard i j) (plan i) (net.width i) (plan j) (net.width j) ≡ lack net plan i j
      go (yes x) = unfold pair_short lack in (rw (short_above net plan i j x, lt-ltb (plan j) (plan i) x, e))
      go (no x) = unfold pair_short lack in (rw (short_below net plan i j l (omega arith), le-ltb (plan j) (plan i) (omega arith)))

  -- it tells whether they are too close
  close_is : too_close net plan i j ≡ (ltb i j && not (eqb (lack net plan i j) 0))
  unfolding too_close lack
  close_is = go (in_conflict net i j)
    where
      go : (b : Bool) → (ltb i j && (b && not (eqb (short net plan i j) 0))) ≡ (ltb i j && not (eqb (cond b (short net plan i j) 0) 0))
      go true = refl
      go false = refl

  pub lack_none : i < j → lack net plan i j ≡ 0 → too_close net plan i j ≡ false
  lack_none l z = close_is ∙ rw (lt-ltb i j l, eq-eqb (lack net plan i j) 0 z)

  pub lack_some : i < j → lack net plan i j ≢ 0 → too_close net plan i j ≡ true
  lack_some l h = close_is ∙ rw (lt-ltb i j l, ne_eqb (lack net plan i j) 0 h)

  -- where they are, i<j, in conflict, and it is the number that 8 says
  pub close_parts : too_close net plan i j ≡ true → (i < j) × Conflict net i j × (short net plan i j ≢ 0)
  unfolding too_close
  close_parts e = go (ltb i j) refl (in_conflict net i j) refl e
    where
      go : (a : Bool) → ltb i j ≡ a → (b : Bool) → in_conflict net i j ≡ b → (a && (b && not (eqb (short net plan i j) 0))) ≡ true
          → (i < j) × Conflict net i j × (short net plan i j ≢ 0)
      go true f true g z = (ltb-true i j f, ltb-true _ _ g, eqb-false (short net plan i j) 0 (not-true _ z))
      go true f false g z = absurd (true≢false (sym z))
      go false f b g z = absurd (true≢false (sym z))

  pub close_lack : too_close net plan i j ≡ true → lack net plan i j ≡ short net plan i j
  unfolding lack
  close_lack e = rw (lt-ltb (net.guard i j) 255 (close_parts e).1)

  pub close_before : j ≤ i → too_close net plan i j ≡ false
  unfolding too_close
  close_before l = rw (le-ltb i j l)

  -- 8, of a pair that is too close
  pub clash_told : (x : ℕ) → too_close net plan i j ≡ true → x ≡ lack net plan i j
      → ◌≡◌ {A = Fault} (record { number = 8; place = cell i j; short = x }) (record { number = 8; place = cell i j; short = short net plan i j })
  clash_told x e h = rw (h, close_lack e)

  -- a search of row i that answers j, below n
  pub row_close : (n : ℕ) → j ≡ first (too_close net plan i) n → j < n → (i < j) × (too_close net plan i j ≡ true)
  row_close n e l =
      let z : too_close net plan i j ≡ true = rw e (found_first (too_close net plan i) n (row_hit (too_close net plan) n i j e l)).1 in
      ((close_parts z).0, z)

-- for the code: the three ways out of the test of a pair
pub pair_free : (g s w t v : ℕ) → 255 ≤ g → 0 ≡ pair_short g s w t v
unfolding pair_short
pair_free g s w t v l = rw (le-ltb g 255 l)

pub pair_above : (g s w t v : ℕ) → g < 255 → t < s → t + v - 1 + g + 1 - s ≡ pair_short g s w t v
unfolding pair_short
pair_above g s w t v l h = rw (lt-ltb g 255 l, lt-ltb t s h)

pub pair_below : (g s w t v : ℕ) → g < 255 → s ≤ t → s + w - 1 + g + 1 - t ≡ pair_short g s w t v
unfolding pair_short
pair_below g s w t v l h = rw (lt-ltb g 255 l, le-ltb t s h)
