-- Demand 2 (RULES 21): packing, as the call answers: for every n and all tables for which it answers 0.
-- Assumes nothing.
use Rattle.std.specs.Prelude.{ℕ, zero, suc, ◌≤◌, ◌<◌, max, ◌≡◌, refl, ◌⊎◌, List, length}
use Rattle.std.proofs.Common.{◌∙◌, inl, inr}
use native.Mathlib.Omega.{arith}
use Rattle.std.proofs.Math.Decide.{dec_lt}
use Rattle.rules.specs.Tables.{at, Lent}
use Rattle.rules.specs.Limits.{Starts}
use Rattle.rules.specs.Plan.{Net, net_of, Conflict, past, Clear, highest, Valid}
use Rattle.rules.specs.Packing.{reach, lowest, packed}
use Rattle.rules.specs.Calls.{done_packed, packing}
use Rattle.plan_laws.specs.Pack.{packed_length}
use Rattle.plan_laws.specs.Lowest.{lowest_local, reach_conflict, reach_free}
use Rattle.plan_laws.specs.Plans.{respects_keeps, packs, respected, packed_valid}
use Rattle.plan_laws.specs.Heights.{highest_ge}
use Rattle.plan_laws.specs.Bound.{lowest_climbs, packed_bound}
use Rattle.plan_laws.specs.Fits.{network_good, network_bounds}
use Rattle.plan_laws.specs.Answers.{Packable, packing_packable, packable_packing}

-- the lowest start is a path's lowest, or what a conflicting path asks
lowest_reached : (net : Net) (p o : ℕ → ℕ) (m k : ℕ)
    → (lowest net p o m k ≡ net.low k) ⊎ ((j : ℕ) × (j < m) × Conflict net (o j) k × (lowest net p o m k ≡ past net (o j) k (p (o j))))
unfolding lowest
lowest_reached net p o zero k = inl refl
lowest_reached net p o (suc m) k = go (dec_lt (lowest net p o m k) (reach net (o m) k (p (o m)))) (dec_lt (net.guard (o m) k) 255) (lowest_reached net p o m k)
  where
    go : Dec (lowest net p o m k < reach net (o m) k (p (o m))) → Dec (Conflict net (o m) k)
        → (lowest net p o m k ≡ net.low k) ⊎ ((j : ℕ) × (j < m) × Conflict net (o j) k × (lowest net p o m k ≡ past net (o j) k (p (o j))))
        → (max (lowest net p o m k) (reach net (o m) k (p (o m))) ≡ net.low k)
        ⊎ ((j : ℕ) × (j < suc m) × Conflict net (o j) k × (max (lowest net p o m k) (reach net (o m) k (p (o m))) ≡ past net (o j) k (p (o j))))
    go (yes x) (yes c) h = inr (m, omega arith, c, omega (arith, reach_conflict net (o m) k (p (o m)) (past net (o m) k (p (o m))) c refl))
    go (yes x) (no c) h = absurd (omega (arith, reach_free net (o m) k (p (o m)) (omega arith)))
    go (no x) d (inl e) = inl (omega arith)
    go (no x) d (inr (j, l, c, e)) = inr (j, omega arith, c, omega arith)

-- What an order packs to is a valid plan, within the limits, and no higher than 12,256
abbrev pub packed_starts : ℕ → Lent → List ℕ → List ℕ → List ℕ
packed_starts n lent order starts = packed (lowest (net_of lent)) (at order) starts n

module _ (n : ℕ) (lent : Lent) (order starts : List ℕ) (p : Packable n lent order starts) where
  abbrev net : Net
  net = net_of lent

  room : n ≤ length starts
  room = omega (arith, p.starts_size, p.network.few)

  pub plan_valid : Valid net n (at (packed_starts n lent order starts))
  plan_valid = packed_valid net n (at order) p.whole starts room (network_good n lent p.network)

  pub plan_bound : highest net (at (packed_starts n lent order starts)) n ≤ 12256
  plan_bound =
      let w = network_bounds n lent p.network in
      omega (
        arith,
        packed_bound net n 1 w (at order) p.whole (lowest net) (lowest_local net)
            (lowest_climbs net n 1 w (at order) p.whole) starts room p.network.some,
        p.network.few,
      )

  pub plan_starts : Starts n (packed_starts n lent order starts)
  plan_starts = record {
    size = packed_length (lowest net) (lowest_local net) (at order) starts n ∙ p.starts_size;
    start = λ k l. (
      plan_valid.lows k l,
      omega (arith, plan_bound, highest_ge net (at (packed_starts n lent order starts)) n k l, (p.network.width k l).0),
    );
  }

module _ (n : ℕ) (lent : Lent) (order starts : List ℕ) (zero-answer : (packing n lent order starts).answer.number ≡ 0) where
  packable : Packable n lent order starts
  packable = packing_packable n lent order starts zero-answer

  packing_is : packing n lent order starts ≡ done_packed (net_of lent) n (packed_starts n lent order starts)
  packing_is = packable_packing n lent order starts packable

  pub packing_valid : Valid (net_of lent) n (at (packing n lent order starts).tables)
  unfolding done_packed
  packing_valid = rw packing_is (plan_valid n lent order starts packable)

  pub packing_starts : Starts n (packing n lent order starts).tables
  unfolding done_packed
  packing_starts = rw packing_is (plan_starts n lent order starts packable)

  pub packing_bound : (packing n lent order starts).answer.highest ≤ 12256
  unfolding done_packed
  packing_bound = rw packing_is (plan_bound n lent order starts packable)

  pub packing_highest : (packing n lent order starts).answer.highest ≡ highest (net_of lent) (at (packing n lent order starts).tables) n
  unfolding done_packed
  packing_highest = rw packing_is

  -- the rule itself: each start is 1, or the first slot past a conflicting path earlier in the order and
  -- its guard, and it is below none of these
  pub packing_clear : (i j : ℕ) → i < j → j < n → Conflict (net_of lent) (at order i) (at order j)
      → Clear (net_of lent) (at (packing n lent order starts).tables) (at order i) (at order j)
  unfolding done_packed
  packing_clear i j h l c =
      rw packing_is
      (omega (
        arith,
        respects_keeps (net_of lent) n (at order) packable.whole (at (packed_starts n lent order starts))
            (respected (net_of lent) n (at order) packable.whole starts (room n lent order starts packable)) i j h l c,
      ))

  pub packing_lowest : (i : ℕ) → i < n
      → (at (packing n lent order starts).tables (at order i) ≡ 1)
      ⊎ ((j : ℕ) × (j < i) × Conflict (net_of lent) (at order j) (at order i)
      × (at (packing n lent order starts).tables (at order i) ≡ past (net_of lent) (at order j) (at order i) (at (packing n lent order starts).tables (at order j))))
  unfolding done_packed
  packing_lowest i l = rw packing_is
      (rw (packs (net_of lent) n (at order) packable.whole starts (room n lent order starts packable) (lowest (net_of lent)) (lowest_local (net_of lent)) i l)
      (lowest_reached (net_of lent) (at (packed_starts n lent order starts)) (at order) i (at order i)))
