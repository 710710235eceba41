-- Improving, round by round. Assumes nothing.
use Prim.Native.Nat.{ℕ, ◌+◌, suc, ◌≤◌, ◌<◌}
use Rattle.std.specs.Prelude.{◌≡◌, ◌⊎◌, Bool, List, length, ltb}
use Rattle.std.proofs.Math.Path.{refl}
use Rattle.std.proofs.Common.{◌∙◌}
use Rattle.std.proofs.Math.Logic.{inl, inr}
use Rattle.std.proofs.Math.Bool.{true, false, cond}
use native.Mathlib.Omega.{arith}
use Rattle.std.proofs.Math.Decide.{dec_lt}
use Rattle.rules.specs.Tables.{Lent}
use Rattle.rules.specs.Scan.{sum}
use Rattle.rules.specs.Plan.{net_of}
use Rattle.rules.specs.Packing.{lowest, height}
use Rattle.rules.specs.Planning.{Run, draw, state_after, tried, round, rounds, improved}
use Rattle.plan_laws.specs.Answers.{Packable}
use Rattle.plan_laws.specs.Improve.{Sound, round_kept, round_left, rounds_sound, rounds_length, kept_counts}

-- Improving: the order stays an order and its starts are its packing's; each round keeps its swap only
-- where that strictly lowers the highest slot, and else changes nothing; so the highest slot never rises,
-- and the number kept counts the rounds that lowered it
module _ (n : ℕ) (lent : Lent) (order starts : List ℕ) (seed : ℕ) where
  abbrev pub highest_of : List ℕ → ℕ
  highest_of = height (net_of lent) n (lowest (net_of lent)) starts

  -- where improving stands after i rounds
  abbrev pub run_after : ℕ → Run
  run_after i = improved (net_of lent) n (lowest (net_of lent)) starts order seed i

  module _ (p : Packable n lent order starts) where
    -- it starts from the seed, the order given and its highest slot, with none kept
    pub run_start : run_after 0 ≡ record { state = seed; order = order; highest = highest_of order; kept = 0 }
    unfolding improved rounds
    run_start = refl

    pub run_sound : (k : ℕ) → Sound highest_of n p.network.some (run_after k) × ((run_after k).highest ≤ highest_of order)
    unfolding improved
    run_sound k = rounds_sound highest_of n p.network.some k _ (record { whole = p.whole; room = omega (arith, p.order_size, p.network.few); right = refl })

    pub run_length : (k : ℕ) → length (run_after k).order ≡ 128
    unfolding improved
    run_length k = rounds_length highest_of n p.network.some k _ ∙ p.order_size

    -- so what improving leaves can be packed
    pub run_packable : (k : ℕ) → Packable n lent (run_after k).order starts
    run_packable k = record { network = p.network; order_size = run_length k; starts_size = p.starts_size; whole = (run_sound k).0.whole }

    -- one round more: the order that it tries is kept exactly where its highest slot is strictly lower, and
    -- counted; else nothing changes
    pub run_step : (k : ℕ)
        → ((highest_of (tried n (run_after k)) < (run_after k).highest) × ((run_after (suc k)).order ≡ tried n (run_after k))
        × ((run_after (suc k)).highest ≡ highest_of (tried n (run_after k))) × ((run_after (suc k)).kept ≡ suc (run_after k).kept))
        ⊎ (((run_after k).highest ≤ highest_of (tried n (run_after k))) × ((run_after (suc k)).order ≡ (run_after k).order)
        × ((run_after (suc k)).highest ≡ (run_after k).highest) × ((run_after (suc k)).kept ≡ (run_after k).kept))
    unfolding improved rounds
    run_step k = go (dec_lt (highest_of (tried n (run_after k))) (run_after k).highest)
      where
        go : Dec (highest_of (tried n (run_after k)) < (run_after k).highest)
            → ((highest_of (tried n (run_after k)) < (run_after k).highest) × ((run_after (suc k)).order ≡ tried n (run_after k))
            × ((run_after (suc k)).highest ≡ highest_of (tried n (run_after k))) × ((run_after (suc k)).kept ≡ suc (run_after k).kept))
            ⊎ (((run_after k).highest ≤ highest_of (tried n (run_after k))) × ((run_after (suc k)).order ≡ (run_after k).order)
            × ((run_after (suc k)).highest ≡ (run_after k).highest) × ((run_after (suc k)).kept ≡ (run_after k).kept))
        go (yes l) = let x = round_kept highest_of n p.network.some (run_after k) l in inl (l, x.0, x.1, x.2)
        go (no l) = let x = round_left highest_of n p.network.some (run_after k) (omega arith) in inr (omega arith, x.0, x.1, x.2)

    -- either way the state has been drawn from twice
    pub run_state : (k : ℕ) → (run_after (suc k)).state ≡ draw (draw (run_after k).state)
    unfolding improved rounds round state_after
    run_state k = go (ltb (highest_of (tried n (run_after k))) (run_after k).highest) _ _ refl refl
      where
        go : (b : Bool) (x y : Run) → x.state ≡ draw (draw (run_after k).state) → y.state ≡ draw (draw (run_after k).state)
            → (cond b x y).state ≡ draw (draw (run_after k).state)
        go true x y e f = e
        go false x y e f = f

    pub run_kept : (k : ℕ) → (run_after k).kept ≡ sum (λ i. cond (ltb (run_after (suc i)).highest (run_after i).highest) 1 0) k
    unfolding improved
    run_kept k = kept_counts highest_of n p.network.some k _ ∙ plus (sum (λ i. cond (ltb (run_after (suc i)).highest (run_after i).highest) 1 0) k)
      where
        plus : (x : ℕ) → 0 + x ≡ x
        plus x = omega arith
