-- From what the inner functions of improving answer to the rounds of the definition. Assumes nothing.
use Rattle.std.proofs.Common.{◌≡◌, ℕ, suc, ◌+◌, ◌<◌, ◌≤◌, List, length, sym, refl, ap, ◌∙◌, subst, add-one, arith, le-ltb, lt-ltb}
use native.Mathlib.Decide.{dec_lt}
use Rattle.rules.specs.Tables.{cleared, Lent}
use Rattle.rules.specs.Plan.{net_of}
use Rattle.rules.specs.Packing.{lowest}
use Rattle.rules.specs.Planning.{draw, drawn_place, swapped, Run, state_after, tried, round, rounds, improved}
use Rattle.table_laws.specs.Tables.{cleared_length}
use Rattle.plan_laws.specs.Answers.{Packable}
use Rattle.plan_laws.specs.Runs.{run_packable}
use Rattle.plan_laws.specs.Improve.{swapped_order, swapped_length, swapped_back}
use Rattle.rounds.specs.declared.Standing.{Standing}
use Rattle.rounds.specs.Standing.{run_of, highest_of}

-- a swap of two places below n leaves an order
pub swap_packable : (n : ℕ) (lent : Lent) (order need after : List ℕ) (a b : ℕ) → Packable n lent order need → a < n → b < n → after ≡ swapped order a b → Packable n lent after need
swap_packable n lent order need after a b t la lb e =
    let room : n ≤ length order = omega (arith, t.order_size, t.network.few) in
    rw e record {
      network = t.network;
      order_size = swapped_length order a b ∙ t.order_size;
      starts_size = t.starts_size;
      whole = swapped_order order n a b room la lb t.whole;
    }

-- one round: its swap is kept, or undone
module _ (top : List ℕ → ℕ) (n : ℕ) (s : Standing) (order after : List ℕ) (x y a b h : ℕ) (ex : x ≡ draw s.state) (ey : y ≡ draw x) (ea : a ≡ drawn_place n x) (eb : b ≡ drawn_place n y) (e : after ≡ swapped order a b) (eh : h ≡ top after) where
  after_is : after ≡ swapped order a b
  after_is = e

  state_is : state_after (run_of s order) ≡ y
  unfolding state_after
  state_is = rw (← ex) (sym ey)

  tried_is : tried n (run_of s order) ≡ after
  unfolding tried
  tried_is = rw (state_is, ← ex, ← ea, ← eb) (sym after_is)

  pub round_kept : h < s.highest → run_of (record { state = y; highest = h; kept = s.kept + 1 }) after ≡ round top n (run_of s order)
  unfolding round
  round_kept l = rw (state_is, tried_is, ← eh, lt-ltb h s.highest l, add-one s.kept)

  pub round_undone : (back : List ℕ) → a < length order → b < length order → back ≡ swapped after a b → s.highest ≤ h → run_of (record { state = y; highest = s.highest; kept = s.kept }) back ≡ round top n (run_of s order)
  unfolding round
  round_undone back la lb f l =
      rw (state_is, tried_is, ← eh, le-ltb h s.highest l, f, after_is, swapped_back order a b la lb)

-- any number of rounds
pub round_more : (top : List ℕ → ℕ) (n k : ℕ) (r : Run) → (round top n r).kept ≤ suc r.kept
unfolding round
round_more top n k r = go (dec_lt (top (tried n r)) r.highest)
  where
    go : Dec (top (tried n r) < r.highest) → (round top n r).kept ≤ suc r.kept
    go (yes l) = rw (lt-ltb (top (tried n r)) r.highest l) (omega arith)
    go (no l) = rw (le-ltb (top (tried n r)) r.highest (omega arith)) (omega arith)

-- what the loop keeps after k rounds
pub record Improving (n : ℕ) (lent : Lent) (before : List ℕ) (seed : ℕ) (order : List ℕ) (s : Standing) (k : ℕ) : Type 0 where
  pub few : s.kept ≤ k
  pub run : (table : List ℕ) → length table ≡ 128 → run_of s order ≡ improved (net_of lent) n (lowest (net_of lent)) table before seed k

module _ (n : ℕ) (lent : Lent) (before : List ℕ) (seed : ℕ) where
  pub improving_first : (h : ℕ) → ((table : List ℕ) → length table ≡ 128 → h ≡ highest_of n lent table before) → Improving n lent before seed before (record { state = seed; highest = h; kept = 0 }) 0
  unfolding improved rounds
  improving_first h f = record { few = omega arith; run = λ table l. rw (f table l) }

  pub improving_more : (order after : List ℕ) (s s' : Standing) (k : ℕ) → Improving n lent before seed order s k
      → ((table : List ℕ) → length table ≡ 128 → run_of s' after ≡ round (highest_of n lent table) n (run_of s order)) → Improving n lent before seed after s' (k + 1)
  improving_more order after s s' k i f = rw add-one record {
    few = omega (arith, i.few, ap (λ (r : Run). r.kept) (f (cleared 128 0) (cleared_length 128 0)), round_more (highest_of n lent (cleared 128 0)) n k (run_of s order));
    run = λ table l. f table l ∙ ap (round (highest_of n lent table) n) (i.run table l) ∙ step table;
  }
    where
      step : (table : List ℕ) → round (highest_of n lent table) n (improved (net_of lent) n (lowest (net_of lent)) table before seed k)
          ≡ improved (net_of lent) n (lowest (net_of lent)) table before seed (suc k)
      step table = unfold improved rounds in refl

  -- the order so far can be packed, into any table
  pub improving_packable : (table : List ℕ) → Packable n lent before table → (order : List ℕ) (s : Standing) (k : ℕ) → Improving n lent before seed order s k → (need : List ℕ) → length need ≡ 128
      → Packable n lent order need
  improving_packable table t order s k i need l =
      let p = subst (λ (o : List ℕ). Packable n lent o table) (sym (ap (λ (r : Run). r.order) (i.run table t.starts_size))) (run_packable n lent before table seed t k) in
      record { network = p.network; order_size = p.order_size; starts_size = l; whole = p.whole }
