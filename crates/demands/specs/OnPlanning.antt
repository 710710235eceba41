-- Demand 2 (RULES 21): planning, as the call answers. Assumes nothing.
use Prim.Native.Nat.{ℕ, ◌≤◌}
use Rattle.std.specs.Prelude.{◌≡◌, Bool, cond, length}
use Rattle.std.proofs.Math.Path.{refl}
use Rattle.std.proofs.Common.{sym, ap, ◌∙◌, arith}
use Rattle.std.proofs.Math.Bool.{true, false}
use mathlib.Core.List.{List}
use Rattle.rules.specs.declared.Planned.{Planned}
use Rattle.rules.specs.Tables.{at, Lent}
use Rattle.rules.specs.Plan.{Net, net_of, highest, Valid}
use Rattle.rules.specs.Packing.{Once, lowest}
use Rattle.rules.specs.Sides.{Split, is_high, has_sides, two_sided, two_sided_highest}
use Rattle.rules.specs.Planning.{start_next, greedy}
use Rattle.rules.specs.Calls.{Left, done_packed, packing, done_planned, done_improved, improving, done_plan, planning}
use Rattle.plan_laws.specs.Arranged.{arranged_order, arranged_length}
use Rattle.demands.specs.TwoSided.{figure_holds, two_sided_lem}
use Rattle.demands.specs.Finding.{found_sides, found_all}
use Rattle.plan_laws.specs.Fits.{network_good}
use Rattle.table_laws.specs.Limits.{order_once}
use Rattle.plan_laws.specs.Answers.{Packable, packable_packing, packable_improving, Plannable, planning_plannable, plannable_planning}
use Rattle.demands.specs.OnPacking.{plan_valid}
use Rattle.demands.specs.OnImproving.{improving_packs, improving_valid, improving_order}
use Rattle.plan_laws.specs.Sided.{sided_length, sided_order}

module _ (n : ℕ) (lent : Lent) (order starts : List ℕ) (seed rounds : ℕ) (zero-answer : (planning n lent order starts seed rounds).answer.number ≡ 0) where
  abbrev net : Net
  net = net_of lent

  abbrev left_behind : Left Planned (List ℕ × List ℕ)
  left_behind = planning n lent order starts seed rounds

  plannable : Plannable n lent order starts seed rounds
  plannable = planning_plannable n lent order starts seed rounds zero-answer

  room : n ≤ length order
  room = omega (arith, plannable.order_size, plannable.network.few)

  -- where there are two sides: the two-sided order, packed, with none kept
  pub sided : Packable n lent (two_sided n (is_high net n) order) starts
  sided = record {
    network = plannable.network;
    order_size = sided_length n (is_high net n) order room ∙ plannable.order_size;
    starts_size = plannable.starts_size;
    whole = sided_order n (is_high net n) order room;
  }

  module _ (high : ℕ → Bool) (split : Split net n high) where
    has : has_sides net n ≡ true
    has = found_all net n plannable.network.few (network_good n lent plannable.network) high split

    sided_is : left_behind ≡ done_planned net n (two_sided n (is_high net n) order) starts 0
    unfolding done_plan
    sided_is = plannable_planning n lent order starts seed rounds plannable ∙ rw has

    -- two-sided networks get the best plan: the figure of RULES 7, and no valid plan is lower
    pub planning_figure : left_behind.answer.highest ≡ two_sided_highest net n
    unfolding done_planned
    planning_figure =
        rw sided_is
        (two_sided_lem net n (network_good n lent plannable.network) (λ k l. refl) (is_high net n)
        (found_sides net n plannable.network.few (network_good n lent plannable.network) has).split order starts room
        (omega (arith, plannable.starts_size, plannable.network.few)))

    pub planning_best : (plan : ℕ → ℕ) → Valid net n plan → left_behind.answer.highest ≤ highest net plan n
    planning_best plan v = rw planning_figure (figure_holds net n (network_good n lent plannable.network) plan v)

    pub planning_none_kept : left_behind.answer.kept ≡ 0
    unfolding done_planned
    planning_none_kept = rw sided_is

  -- where there are none: what improving the greedy order leaves
  pub greedy_packable : Packable n lent (greedy (lowest net) n starts order n) starts
  greedy_packable = record {
    network = plannable.network;
    order_size = arranged_length (start_next (lowest net) starts) n order room n ∙ plannable.order_size;
    starts_size = plannable.starts_size;
    whole = arranged_order (start_next (lowest net) starts) n order room n (omega arith);
  }

  improved_is : has_sides net n ≡ false → left_behind ≡ improving n lent (greedy (lowest net) n starts order n) starts seed rounds
  unfolding done_plan
  improved_is e =
      plannable_planning n lent order starts seed rounds plannable
      ∙ rw e (sym (packable_improving n lent (greedy (lowest net) n starts order n) starts seed rounds greedy_packable plannable.few))

  pub planning_greedy : ((high : ℕ → Bool) → Split net n high → ⊥) → left_behind ≡ improving n lent (greedy (lowest net) n starts order n) starts seed rounds
  planning_greedy h = improved_is (lacks (has_sides net n) refl)
    where
      lacks : (b : Bool) → has_sides net n ≡ b → has_sides net n ≡ false
      lacks false e = e
      lacks true e = absurd (h (is_high net n) (found_sides net n plannable.network.few (network_good n lent plannable.network) e).split)

  -- either way what it leaves is the packing of the order that it leaves, and its highest slot is that plan's
  pub planning_packs : packing n lent left_behind.tables.0 starts ≡ done_packed net n left_behind.tables.1
  planning_packs = go (has_sides net n) refl
    where
      go : (b : Bool) → has_sides net n ≡ b → packing n lent left_behind.tables.0 starts ≡ done_packed net n left_behind.tables.1
      go true e = unfold done_planned in
          (rw (sided_is (is_high net n) (found_sides net n plannable.network.few (network_good n lent plannable.network) e).split)
          (packable_packing n lent (two_sided n (is_high net n) order) starts sided))
      go false e =
          rw (improved_is e)
          (improving_packs n lent (greedy (lowest net) n starts order n) starts seed rounds
          (sym (ap (λ (r : Left Planned (List ℕ × List ℕ)). r.answer.number) (improved_is e)) ∙ zero-answer))

  pub planning_highest : left_behind.answer.highest ≡ highest net (at left_behind.tables.1) n
  unfolding done_plan done_planned done_improved
  planning_highest =
      rw (plannable_planning n lent order starts seed rounds plannable)
      (either (has_sides net n) (done_planned net n (two_sided n (is_high net n) order) starts 0)
      (done_improved net n (greedy (lowest net) n starts order n) starts seed rounds) refl refl)
    where
      either : (b : Bool) (x y : Left Planned (List ℕ × List ℕ)) → x.answer.highest ≡ highest net (at x.tables.1) n
          → y.answer.highest ≡ highest net (at y.tables.1) n → (cond b x y).answer.highest ≡ highest net (at (cond b x y).tables.1) n
      either true x y g h = g
      either false x y g h = h

  -- the plan is valid, and the order an order
  pub planning_valid : Valid net n (at left_behind.tables.1)
  planning_valid = go (has_sides net n) refl
    where
      go : (b : Bool) → has_sides net n ≡ b → Valid net n (at left_behind.tables.1)
      go true e = unfold done_planned in
          (rw (sided_is (is_high net n) (found_sides net n plannable.network.few (network_good n lent plannable.network) e).split)
          (plan_valid n lent (two_sided n (is_high net n) order) starts sided))
      go false e =
          rw (improved_is e)
          (improving_valid n lent (greedy (lowest net) n starts order n) starts seed rounds
          (sym (ap (λ (r : Left Planned (List ℕ × List ℕ)). r.answer.number) (improved_is e)) ∙ zero-answer))

  pub planning_order : Once (at left_behind.tables.0) n
  planning_order = go (has_sides net n) refl
    where
      go : (b : Bool) → has_sides net n ≡ b → Once (at left_behind.tables.0) n
      go true e = unfold done_planned in
          (rw (sided_is (is_high net n) (found_sides net n plannable.network.few (network_good n lent plannable.network) e).split)
          (order_once (at (two_sided n (is_high net n) order)) n sided.whole))
      go false e =
          rw (improved_is e)
          (improving_order n lent (greedy (lowest net) n starts order n) starts seed rounds
          (sym (ap (λ (r : Left Planned (List ℕ × List ℕ)). r.answer.number) (improved_is e)) ∙ zero-answer))
