-- Demand 2: improving, as the call answers. Assumes nothing.
use Rattle.std.specs.Prelude.{ℕ, ◌≤◌, ◌≡◌, List}
use Rattle.std.proofs.Common.{sym}
use Rattle.rules.specs.declared.Planned.{Planned}
use Rattle.rules.specs.Tables.{at, Lent}
use Rattle.rules.specs.Plan.{net_of, highest, Valid}
use Rattle.rules.specs.Packing.{Once, height}
use Rattle.rules.specs.Planning.{Run}
use Rattle.rules.specs.Calls.{Left, done_packed, packing, done_planned, done_improved, improving}
use Rattle.table_laws.specs.Limits.{order_once}
use Rattle.plan_laws.specs.Answers.{Packable, packable_packing, improving_packable, packable_improving}
use Rattle.demands.specs.OnPacking.{plan_valid}
use Rattle.plan_laws.specs.Runs.{run_after, run_sound, run_packable}

module _ (n : ℕ) (lent : Lent) (order starts : List ℕ) (seed k : ℕ) (zero-answer : (improving n lent order starts seed k).answer.number ≡ 0) where
  packable : Packable n lent order starts
  packable = (improving_packable n lent order starts seed k zero-answer).0

  abbrev last : Run
  last = run_after n lent order starts seed k

  abbrev left_behind : Left Planned (List ℕ × List ℕ)
  left_behind = improving n lent order starts seed k

  improving_is : left_behind ≡ done_planned (net_of lent) n last.order starts last.kept
  unfolding done_improved
  improving_is = packable_improving n lent order starts seed k packable (improving_packable n lent order starts seed k zero-answer).1

  -- what it leaves is the packing of the order it leaves, for which packing answers the same highest slot
  pub improving_packs : packing n lent left_behind.tables.0 starts ≡ done_packed (net_of lent) n left_behind.tables.1
  unfolding done_planned
  improving_packs = rw improving_is (packable_packing n lent last.order starts (run_packable n lent order starts seed packable k))

  pub improving_order : Once (at left_behind.tables.0) n
  unfolding done_planned
  improving_order = rw improving_is (order_once (at last.order) n (run_packable n lent order starts seed packable k).whole)

  pub improving_valid : Valid (net_of lent) n (at left_behind.tables.1)
  unfolding done_planned
  improving_valid = rw improving_is (plan_valid n lent last.order starts (run_packable n lent order starts seed packable k))

  -- its highest slot is its plan's, and that of the last round
  pub improving_top : left_behind.answer.highest ≡ highest (net_of lent) (at left_behind.tables.1) n
  unfolding done_planned
  improving_top = rw improving_is

  pub improving_highest : left_behind.answer.highest ≡ last.highest
  unfolding done_planned height
  improving_highest = rw improving_is (sym (run_sound n lent order starts seed packable k).0.right)

  pub improving_kept : left_behind.answer.kept ≡ last.kept
  unfolding done_planned
  improving_kept = rw improving_is

  -- never above the highest slot of the order given
  pub improving_never_above : left_behind.answer.highest ≤ (packing n lent order starts).answer.highest
  unfolding done_packed height
  improving_never_above =
      rw (improving_highest, packable_packing n lent order starts packable) (run_sound n lent order starts seed packable k).1
