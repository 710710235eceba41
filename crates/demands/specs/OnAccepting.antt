-- Demand 1: each call answers 0 exactly where what it is lent is within the limits. Judging is in
-- OnJudging, by 001's rule. Assumes nothing.
use Rattle.std.specs.Prelude.{ℕ, ◌≤◌, ◌<◌, ◌≡◌, refl, ◌⊎◌, ◌↔◌, Bool, true, false, cond, List, length}
use Rattle.std.proofs.Math.Path.{ap}
use Rattle.std.proofs.Common.{◌∙◌, inl, inr, arith}
use Rattle.rules.specs.declared.Packed.{Packed}
use Rattle.rules.specs.declared.Pressed.{Pressed}
use Rattle.rules.specs.declared.Planned.{Planned}
use Rattle.rules.specs.declared.Floored.{Floored}
use Rattle.rules.specs.declared.Why.{Why}
use Rattle.rules.specs.Tables.{at, Lent}
use Rattle.rules.specs.Plan.{net_of, Conflict}
use Rattle.rules.specs.Sides.{Split, is_high, has_sides}
use Rattle.rules.specs.Writing.{sheet_text}
use Rattle.rules.specs.Numbers.{no_fault, outside, bad_member, list_fault, lent_fault, floor_fault}
use Rattle.rules.specs.Calls.{Left, done_packed, packing, done_pressed, pressing, done_why, explaining, siding, done_planned, done_improved, improving, done_plan, planning, flooring, writing}
use Rattle.table_laws.specs.Faults.{refuse_not, or_none, scan_none}
use Rattle.table_laws.specs.Limits.{clear_of, outside_none}
use Rattle.table_laws.specs.Chains.{clear_lent}
use Rattle.plan_laws.specs.Fits.{network_good}
use Rattle.plan_laws.specs.Answers.{unless_done, Judgeable, pressing_judgeable, judgeable_pressing, Explainable, explaining_explainable, explainable_explaining, Packable, packing_packable, packable_packing, Sidable, siding_done, sidable_number, improving_packable, packable_improves, Plannable, planning_plannable, plannable_planning, Floorable, flooring_floorable}
use Rattle.demands.specs.Finding.{found_sides, found_all}
use Rattle.demands.specs.Writable.{Writable, writing_writable, writable_writing}
use Rattle.demands.specs.Tests.{Tells}
use Rattle.demands.specs.Words.{tells_member}

-- packing and pressing
pub packing_exact : (n : ℕ) (lent : Lent) (order starts : List ℕ) → ((packing n lent order starts).answer.number ≡ 0) ↔ Packable n lent order starts
unfolding done_packed
packing_exact n lent order starts =
    (packing_packable n lent order starts, λ p. ap (λ (r : Left Packed (List ℕ)). r.answer.number) (packable_packing n lent order starts p))

pub pressing_exact : (n : ℕ) (lent : Lent) (starts : List ℕ) → ((pressing n lent starts).answer.number ≡ 0) ↔ Judgeable n lent starts
unfolding done_pressed
pressing_exact n lent starts =
    (pressing_judgeable n lent starts, λ j. ap (λ (r : Left Pressed (List ℕ)). r.answer.number) (judgeable_pressing n lent starts j))

-- why a path stands where it stands
pub explaining_exact : (n : ℕ) (lent : Lent) (starts : List ℕ) (path : ℕ) (table : List ℕ)
    → ((explaining n lent starts path table).answer.number ≡ 0) ↔ Explainable n lent starts path table
unfolding done_why
explaining_exact n lent starts path table =
    (explaining_explainable n lent starts path table, λ e. ap (λ (r : Left Why (List ℕ)). r.answer.number) (explainable_explaining n lent starts path table e))

-- the two-sided call: the tables being right, 0 exactly when some split into two sides exists
pub siding_split : (n : ℕ) (lent : Lent) (order : List ℕ)
    → ((siding n lent order).answer.number ≡ 0) ↔ (Sidable n lent order × ((high : ℕ → Bool) × Split (net_of lent) n high))
siding_split n lent order = (
  λ z. let s = siding_done n lent order z in
      (s.0, (is_high (net_of lent) n, (found_sides (net_of lent) n s.0.network.few (network_good n lent s.0.network) s.1).split)),
  λ h. sidable_number n lent order h.0 ∙ rw (found_all (net_of lent) n h.0.network.few (network_good n lent h.0.network) h.1.0 h.1.1),
)

-- improving and planning
pub improving_exact : (n : ℕ) (lent : Lent) (order starts : List ℕ) (seed rounds : ℕ)
    → ((improving n lent order starts seed rounds).answer.number ≡ 0) ↔ (Packable n lent order starts × (rounds ≤ 10000))
improving_exact n lent order starts seed rounds =
    (improving_packable n lent order starts seed rounds, λ h. packable_improves n lent order starts seed rounds h.0 h.1)

pub planning_exact : (n : ℕ) (lent : Lent) (order starts : List ℕ) (seed rounds : ℕ)
    → ((planning n lent order starts seed rounds).answer.number ≡ 0) ↔ Plannable n lent order starts seed rounds
unfolding done_plan done_planned done_improved
planning_exact n lent order starts seed rounds = (
  planning_plannable n lent order starts seed rounds,
  λ p. ap (λ (r : Left Planned (List ℕ × List ℕ)). r.answer.number) (plannable_planning n lent order starts seed rounds p)
      ∙ either (has_sides (net_of lent) n) _ _ refl refl,
)
  where
    either : (b : Bool) (x y : Left Planned (List ℕ × List ℕ)) → x.answer.number ≡ 0 → y.answer.number ≡ 0 → (cond b x y).answer.number ≡ 0
    either true x y g h = g
    either false x y g h = h

-- the floor
untold : {P : Type 0} (a : Bool) → Tells P a → (P → ⊥) → a ≡ false
untold true t n = absurd (n (t.holds refl))
untold false t n = refl

module _ (n : ℕ) (lent : Lent) (list : List ℕ) where
  member_fine : Floorable n lent list → (k : ℕ) → k < length list → bad_member n (net_of lent) list k ≡ false
  member_fine f k l = untold _ (tells_member n (net_of lent) list k) none
    where
      -- two paths in conflict are not the same path
      joined : (i : ℕ) → i < k → (at list i ≡ at list k) ⊎ (Conflict (net_of lent) (at list i) (at list k) → ⊥) → ⊥
      joined i g (inl e) =
          let c = f.clique.all i k g l in
          omega (arith, rw e at c, f.network.diagonal (at list k) (f.clique.inside k l))
      joined i g (inr h) = h (f.clique.all i k g l)

      none : (n ≤ at list k) ⊎ ((i : ℕ) × (i < k) × ((at list i ≡ at list k) ⊎ (Conflict (net_of lent) (at list i) (at list k) → ⊥))) → ⊥
      none (inl h) = omega (arith, f.clique.inside k l)
      none (inr (i, g, h)) = joined i g h

  pub flooring_exact : ((flooring n lent list).number ≡ 0) ↔ Floorable n lent list
  unfolding flooring
  flooring_exact = (flooring_floorable n lent list, λ f. ap (λ (r : Floored). r.number) (unless_done (floor_fault n lent list) _ _ (clear f)))
    where
      clear : Floorable n lent list → (floor_fault n lent list).number ≡ 0
      clear f = unfold floor_fault list_fault in
          (or_none (lent_fault n lent no_fault) _ (clear_lent n lent no_fault f.network refl)
          (or_none _ _ (clear_of (refuse_not (outside 1 8 (length list)) 15 0 (outside_none 1 8 (length list) f.some f.few)))
          (clear_of (scan_none 15 (bad_member n (net_of lent) list) (length list) (member_fine f)))))

-- the writer
pub writing_exact : (n : ℕ) (labels : List ℕ) (lent : Lent) (starts text : List ℕ)
    → ((writing n labels lent starts text).answer.number ≡ 0) ↔ (Writable n labels lent starts × (length (sheet_text n labels lent starts) ≤ length text))
writing_exact n labels lent starts text =
    (writing_writable n labels lent starts text, λ h. writable_writing n labels lent starts text h.0 h.1)
