-- What it means that a call answers 0: its tables are within the limits, and it leaves behind what its rule
-- gives. Assumes nothing.
use Prim.Native.Nat.{ℕ, ◌≤◌, ◌<◌}
use Rattle.std.specs.Prelude.{◌≡◌, ◌≢◌, ◌⊎◌, Bool, not, ◌||◌, length, ltb, leb, eqb}
use Rattle.std.proofs.Math.Path.{refl, ap}
use Rattle.std.proofs.Common.{sym, ◌∙◌, inl, inr, true≢false}
use Rattle.std.proofs.Math.Bool.{true, false, cond}
use mathlib.Core.List.{List}
use native.Mathlib.Omega.{arith}
use borrow.Author.Tests.{eq-eqb, ne_eqb, eqb-true, ltb-true, ltb-false, le-ltb, leb-false, lt-leb, not-false}
use Rattle.rules.specs.declared.Fault.{Fault}
use Rattle.rules.specs.declared.Packed.{Packed}
use Rattle.rules.specs.declared.Pressed.{Pressed}
use Rattle.rules.specs.declared.Sided.{Sided}
use Rattle.rules.specs.declared.Planned.{Planned}
use Rattle.rules.specs.declared.Floored.{Floored}
use Rattle.rules.specs.declared.Why.{Why}
use Rattle.rules.specs.Tables.{at, Lent}
use Rattle.rules.specs.Limits.{Network, Starts}
use Rattle.rules.specs.Scan.{found}
use Rattle.rules.specs.Plan.{Net, net_of, Conflict, in_conflict, Valid}
use Rattle.rules.specs.Packing.{Order, lowest, packed}
use Rattle.rules.specs.Pressing.{pressed}
use Rattle.rules.specs.Sides.{has_sides, is_high, two_sided, low_side}
use Rattle.rules.specs.Floor.{Clique, floor}
use Rattle.rules.specs.Numbers.{no_fault, refuse_if, ◌or_else◌, outside, size_fault, bad_member, sides_fault, rounds_fault, list_fault, plan_sizes, path_fault, judge_fault, why_fault, pack_fault, two_sides_fault, plan_fault, improve_fault, floor_fault}
use Rattle.rules.specs.Calls.{Left, left, unless, judging, refused_packed, done_packed, packing, refused_pressed, done_pressed, pressing, refused_why, done_why, explaining, siding, refused_planned, done_planned, done_improved, improving, done_plan, planning, flooring}
use Rattle.table_laws.specs.Scans.{found_not}
use Rattle.table_laws.specs.Faults.{refuse_bad, refuse_not, refuse_clear, or_second, or_clear, or_none, or_past, never_size, never_lent, scan_clear, size_good, size_clear}
use Rattle.table_laws.specs.Limits.{clear_of, outside_not, order_whole, whole_order, starts_within, within_starts}
use Rattle.table_laws.specs.Chains.{lent_clear, clear_lent, plan_sizes_lem, sizes_plan}
use Rattle.plan_laws.specs.Fits.{clash_valid, valid_clash}

-- the answer of a call: what is done where no test finds a fault, and otherwise the refusal
pub unless_done : {A : Type 0} (f : Fault) (refused : Fault → A) (result : A) → f.number ≡ 0 → unless f refused result ≡ result
unfolding unless
unless_done f refused result z = rw (eq-eqb f.number 0 z)

pub unless_refused : {A : Type 0} (f : Fault) (refused : Fault → A) (result : A) → f.number ≢ 0 → unless f refused result ≡ refused f
unfolding unless
unless_refused f refused result z = rw (ne_eqb f.number 0 z)

-- a call that answers 0 has found no fault
pub unless_clear : {A : Type 0} (number : A → ℕ) (f : Fault) (refused : Fault → A) (result : A) → number (refused f) ≡ f.number → number (unless f refused result) ≡ 0 → f.number ≡ 0
unfolding unless
unless_clear number f refused result e = go (eqb f.number 0) refl
  where
    go : (b : Bool) → eqb f.number 0 ≡ b → number (cond b result (refused f)) ≡ 0 → f.number ≡ 0
    go true t z = eqb-true f.number 0 t
    go false t z = sym e ∙ z

-- and its number is that of the first fault
pub unless_number : {A : Type 0} (number : A → ℕ) (f : Fault) (refused : Fault → A) (result : A) → number (refused f) ≡ f.number → number result ≡ 0 → number (unless f refused result) ≡ f.number
unfolding unless
unless_number number f refused result e d = go (eqb f.number 0) refl
  where
    go : (b : Bool) → eqb f.number 0 ≡ b → number (cond b result (refused f)) ≡ f.number
    go true t = d ∙ sym (eqb-true f.number 0 t)
    go false t = e

sized : (table : List ℕ) (size : ℕ) → length table ≡ size → (size_fault table size).number ≡ 0
sized table size e = ap (λ (x : Fault). x.number) (sym (size_good table size e))

-- judging and pressing
pub record Judgeable (n : ℕ) (lent : Lent) (starts : List ℕ) : Type 0 where
  pub network : Network n lent
  pub legal : Starts n starts
  pub valid : Valid (net_of lent) n (at starts)

module _ (n : ℕ) (lent : Lent) (starts : List ℕ) where
  pub judge_clear : (judge_fault n lent starts).number ≡ 0 → Judgeable n lent starts
  unfolding judge_fault
  judge_clear z =
      let a = or_clear _ _ z in
      let b = or_clear _ _ a.1 in
      let w = lent_clear n lent (size_fault starts 128) a.0 in
      let s = starts_within n starts (size_clear starts 128 w.1) b.0 in
      record {
        network = w.0;
        legal = s;
        valid = clash_valid n (net_of lent) starts (λ k l. (s.start k l).0) b.1;
      }

  pub clear_judge : Judgeable n lent starts → (judge_fault n lent starts).number ≡ 0
  unfolding judge_fault
  clear_judge j =
      or_none _ _ (clear_lent n lent (size_fault starts 128) j.network (sized starts 128 j.legal.size))
      (or_none _ _ (within_starts n starts j.legal) (clear_of (valid_clash n (net_of lent) starts (λ k l. (j.network.width k l).0) j.valid)))

  pub judging_judgeable : (judging n lent starts).number ≡ 0 → Judgeable n lent starts
  unfolding judging
  judging_judgeable = judge_clear

  pub judgeable_judging : Judgeable n lent starts → (judging n lent starts).number ≡ 0
  unfolding judging
  judgeable_judging = clear_judge

  pub pressing_judgeable : (pressing n lent starts).answer.number ≡ 0 → Judgeable n lent starts
  unfolding pressing refused_pressed
  pressing_judgeable z = judge_clear (unless_clear (λ (r : Left Pressed (List ℕ)). r.answer.number) (judge_fault n lent starts) (refused_pressed starts) _ refl z)

  pub judgeable_pressing : Judgeable n lent starts → pressing n lent starts ≡ done_pressed (net_of lent) n (pressed (net_of lent) n starts)
  unfolding pressing
  judgeable_pressing j = unless_done (judge_fault n lent starts) (refused_pressed starts) _ (clear_judge j)

-- why a path stands where it stands: 6 is its last test
pub record Explainable (n : ℕ) (lent : Lent) (starts : List ℕ) (path : ℕ) (table : List ℕ) : Type 0 where
  pub network : Network n lent
  pub legal : Starts n starts
  pub valid : Valid (net_of lent) n (at starts)
  pub inside : path < n
  pub table_size : length table ≡ 128

module _ (n : ℕ) (lent : Lent) (starts : List ℕ) (path : ℕ) (table : List ℕ) where
  pub why_clear : (why_fault n lent starts path table).number ≡ 0 → Explainable n lent starts path table
  unfolding why_fault path_fault
  why_clear z =
      let a = or_clear _ _ z in
      let b = or_clear _ _ a.1 in
      let d = or_clear _ _ b.1 in
      let w = lent_clear n lent (plan_sizes table starts) a.0 in
      let t = plan_sizes_lem table starts w.1 in
      let s = starts_within n starts t.1 b.0 in
      record {
        network = w.0;
        legal = s;
        valid = clash_valid n (net_of lent) starts (λ k l. (s.start k l).0) d.0;
        inside = leb-false n path (refuse_clear (leb n path) 6 0 (omega arith) d.1);
        table_size = t.0;
      }

  pub clear_why : Explainable n lent starts path table → (why_fault n lent starts path table).number ≡ 0
  unfolding why_fault path_fault
  clear_why e =
      or_none _ _ (clear_lent n lent (plan_sizes table starts) e.network (sizes_plan table starts e.table_size e.legal.size))
      (or_none _ _ (within_starts n starts e.legal)
      (or_none _ _ (clear_of (valid_clash n (net_of lent) starts (λ k l. (e.network.width k l).0) e.valid))
      (clear_of (refuse_not (leb n path) 6 0 (lt-leb n path e.inside)))))

  pub explaining_explainable : (explaining n lent starts path table).answer.number ≡ 0 → Explainable n lent starts path table
  unfolding explaining refused_why
  explaining_explainable z = why_clear (unless_clear (λ (r : Left Why (List ℕ)). r.answer.number) (why_fault n lent starts path table) (refused_why table) _ refl z)

  pub explainable_explaining : Explainable n lent starts path table → explaining n lent starts path table ≡ done_why (net_of lent) (at starts) n path table
  unfolding explaining
  explainable_explaining e = unless_done (why_fault n lent starts path table) (refused_why table) _ (clear_why e)

-- packing
pub record Packable (n : ℕ) (lent : Lent) (order starts : List ℕ) : Type 0 where
  pub network : Network n lent
  pub order_size : length order ≡ 128
  pub starts_size : length starts ≡ 128
  pub whole : Order (at order) n n

module _ (n : ℕ) (lent : Lent) (order starts : List ℕ) where
  pub pack_clear : (pack_fault n lent order starts).number ≡ 0 → Packable n lent order starts
  unfolding pack_fault
  pack_clear z =
      let a = or_clear _ _ z in
      let w = lent_clear n lent (plan_sizes order starts) a.0 in
      let s = plan_sizes_lem order starts w.1 in
      record { network = w.0; order_size = s.0; starts_size = s.1; whole = order_whole n order a.1 }

  pub clear_pack : Packable n lent order starts → (pack_fault n lent order starts).number ≡ 0
  unfolding pack_fault
  clear_pack p =
      or_none _ _ (clear_lent n lent (plan_sizes order starts) p.network (sizes_plan order starts p.order_size p.starts_size))
      (whole_order n order p.whole)

  pub packing_packable : (packing n lent order starts).answer.number ≡ 0 → Packable n lent order starts
  unfolding packing refused_packed
  packing_packable z = pack_clear (unless_clear (λ (r : Left Packed (List ℕ)). r.answer.number) (pack_fault n lent order starts) (refused_packed starts) _ refl z)

  pub packable_packing : Packable n lent order starts
      → packing n lent order starts ≡ done_packed (net_of lent) n (packed (lowest (net_of lent)) (at order) starts n)
  unfolding packing
  packable_packing p = unless_done (pack_fault n lent order starts) (refused_packed starts) _ (clear_pack p)

-- the two-sided call: 9 is its last test
pub record Sidable (n : ℕ) (lent : Lent) (order : List ℕ) : Type 0 where
  pub network : Network n lent
  pub order_size : length order ≡ 128

module _ (n : ℕ) (lent : Lent) (order : List ℕ) where
  abbrev net : Net
  net = net_of lent

  -- the tests before 9, and none of them answers 9
  sides_clear : (x : ℕ) → (x ≡ 0) ⊎ (x ≡ 9) → (two_sides_fault n lent order).number ≡ x → Sidable n lent order × ((sides_fault n net).number ≡ x)
  unfolding two_sides_fault
  sides_clear x h z =
      let a = or_past _ _ x (never_lent n lent (size_fault order 128) x (never_size order 128 x (λ e. two h e)) (below h)) z in
      let w = lent_clear n lent (size_fault order 128) a.0 in
      (record { network = w.0; order_size = size_clear order 128 w.1 }, a.1)
    where
      two : (x ≡ 0) ⊎ (x ≡ 9) → x ≡ 2 → ⊥
      two (inl e) f = omega arith
      two (inr e) f = omega arith

      below : (x ≡ 0) ⊎ (x ≡ 9) → (x ≡ 0) ⊎ (6 ≤ x)
      below (inl e) = inl e
      below (inr e) = inr (omega arith)

  pub clear_sides : Sidable n lent order → two_sides_fault n lent order ≡ sides_fault n net
  unfolding two_sides_fault
  clear_sides p = or_second _ _ (clear_lent n lent (size_fault order 128) p.network (sized order 128 p.order_size))

  siding_number : (siding n lent order).answer.number ≡ (two_sides_fault n lent order).number
  unfolding siding
  siding_number = unless_number (λ (r : Left Sided (List ℕ)). r.answer.number) (two_sides_fault n lent order) _ _ refl refl

  pub siding_done : (siding n lent order).answer.number ≡ 0 → Sidable n lent order × (has_sides net n ≡ true)
  siding_done z =
      let a = sides_clear 0 (inl refl) (sym siding_number ∙ z) in
      (a.0, has a.1)
    where
      has : (sides_fault n net).number ≡ 0 → has_sides net n ≡ true
      has y = unfold sides_fault in (not-false _ (refuse_clear (not (has_sides net n)) 9 0 (omega arith) y))

  pub siding_nine : (siding n lent order).answer.number ≡ 9 → Sidable n lent order × (has_sides net n ≡ false)
  siding_nine z =
      let a = sides_clear 9 (inr refl) (sym siding_number ∙ z) in
      (a.0, lacks (has_sides net n) refl a.1)
    where
      lacks : (b : Bool) → has_sides net n ≡ b → (sides_fault n net).number ≡ 9 → has_sides net n ≡ false
      lacks false e y = e
      lacks true e y = unfold sides_fault in (absurd (omega (arith, rw e at y, ap (λ (x : Fault). x.number) (refuse_not false 9 0 refl))))

  pub sidable_number : Sidable n lent order → (siding n lent order).answer.number ≡ cond (has_sides net n) 0 9
  unfolding sides_fault
  sidable_number p = siding_number ∙ ap (λ (x : Fault). x.number) (clear_sides p) ∙ go (has_sides net n)
    where
      go : (b : Bool) → (refuse_if (not b) 9 0).number ≡ cond b 0 9
      go true = ap (λ (x : Fault). x.number) (refuse_not false 9 0 refl)
      go false = ap (λ (x : Fault). x.number) (refuse_bad true 9 0 refl)

  pub sidable_siding : Sidable n lent order → has_sides net n ≡ true
      → siding n lent order ≡ left (record { number = 0; place = 0; low = low_side n (is_high net n) }) (two_sided n (is_high net n) order)
  unfolding siding
  sidable_siding p e = unless_done (two_sides_fault n lent order) _ _ (sym siding_number ∙ sidable_number p ∙ rw e)

-- improving and planning
module _ (n : ℕ) (lent : Lent) (order starts : List ℕ) (seed rounds : ℕ) where
  pub improving_packable : (improving n lent order starts seed rounds).answer.number ≡ 0 → Packable n lent order starts × (rounds ≤ 10000)
  unfolding improving improve_fault refused_planned rounds_fault
  improving_packable z =
      let a = or_clear _ _ (unless_clear (λ (r : Left Planned (List ℕ × List ℕ)). r.answer.number) (pack_fault n lent order starts or_else rounds_fault rounds) (refused_planned order starts) _ refl z) in
      (pack_clear n lent order starts a.0, ltb-false 10000 rounds (refuse_clear (ltb 10000 rounds) 10 0 (omega arith) a.1))

  pub packable_improving : Packable n lent order starts → rounds ≤ 10000
      → improving n lent order starts seed rounds ≡ done_improved (net_of lent) n order starts seed rounds
  unfolding improving improve_fault rounds_fault
  packable_improving p l =
      unless_done (pack_fault n lent order starts or_else refuse_if (ltb 10000 rounds) 10 0) (refused_planned order starts) _
      (or_none _ _ (clear_pack n lent order starts p) (ap (λ (x : Fault). x.number) (refuse_not (ltb 10000 rounds) 10 0 (le-ltb 10000 rounds l))))

  pub packable_improves : Packable n lent order starts → rounds ≤ 10000 → (improving n lent order starts seed rounds).answer.number ≡ 0
  unfolding done_improved done_planned
  packable_improves p l = ap (λ (r : Left Planned (List ℕ × List ℕ)). r.answer.number) (packable_improving p l)

  pub record Plannable : Type 0 where
    pub network : Network n lent
    pub order_size : length order ≡ 128
    pub starts_size : length starts ≡ 128
    pub few : rounds ≤ 10000

  pub plan_clear : (plan_fault n lent order starts rounds).number ≡ 0 → Plannable
  unfolding plan_fault rounds_fault
  plan_clear y =
      let a = or_clear _ _ y in
      let w = lent_clear n lent (plan_sizes order starts) a.0 in
      let s = plan_sizes_lem order starts w.1 in
      record {
        network = w.0;
        order_size = s.0;
        starts_size = s.1;
        few = ltb-false 10000 rounds (refuse_clear (ltb 10000 rounds) 10 0 (omega arith) a.1);
      }

  pub planning_plannable : (planning n lent order starts seed rounds).answer.number ≡ 0 → Plannable
  unfolding planning refused_planned
  planning_plannable z = plan_clear (unless_clear (λ (r : Left Planned (List ℕ × List ℕ)). r.answer.number) (plan_fault n lent order starts rounds) (refused_planned order starts) _ refl z)

  pub plannable_planning : Plannable → planning n lent order starts seed rounds ≡ done_plan (net_of lent) n order starts seed rounds
  unfolding planning plan_fault rounds_fault
  plannable_planning p =
      unless_done (plan_fault n lent order starts rounds) (refused_planned order starts) _
      (or_none _ _ (clear_lent n lent (plan_sizes order starts) p.network (sizes_plan order starts p.order_size p.starts_size))
      (ap (λ (x : Fault). x.number) (refuse_not (ltb 10000 rounds) 10 0 (le-ltb 10000 rounds p.few))))

-- the floor
pub record Floorable (n : ℕ) (lent : Lent) (list : List ℕ) : Type 0 where
  pub network : Network n lent
  pub some : 1 ≤ length list
  pub few : length list ≤ 8
  pub clique : Clique (net_of lent) n (at list) (length list)

module _ (n : ℕ) (lent : Lent) (list : List ℕ) where
  member : (net : Net) (k : ℕ) → bad_member n net list k ≡ false → (at list k < n) × ((i : ℕ) → i < k → Conflict net (at list i) (at list k))
  member net k = go (leb n (at list k)) refl
    where
      joined : (i : ℕ) (a : Bool) → (a || not (in_conflict net (at list i) (at list k))) ≡ false → Conflict net (at list i) (at list k)
      joined i true z = absurd (true≢false z)
      joined i false z = ltb-true _ _ (not-false _ z)

      go : (a : Bool) → leb n (at list k) ≡ a → (a || found (λ i. eqb (at list i) (at list k) || not (in_conflict net (at list i) (at list k))) k) ≡ false
          → (at list k < n) × ((i : ℕ) → i < k → Conflict net (at list i) (at list k))
      go true e z = absurd (true≢false z)
      go false e z =
          (leb-false n (at list k) e, λ i l. joined i (eqb (at list i) (at list k)) (found_not (λ i. eqb (at list i) (at list k) || not (in_conflict net (at list i) (at list k))) k z i l))

  pub floor_clear : (floor_fault n lent list).number ≡ 0 → Floorable n lent list
  unfolding floor_fault list_fault
  floor_clear y =
      let a = or_clear _ _ y in
      let c = or_clear _ _ a.1 in
      let long = outside_not 1 8 (length list) (refuse_clear (outside 1 8 (length list)) 15 0 (omega arith) c.0) in
      let bad = scan_clear 15 (bad_member n (net_of lent) list) (length list) (omega arith) c.1 in
      record {
        network = (lent_clear n lent no_fault a.0).0;
        some = long.0;
        few = long.1;
        clique = record { inside = λ i l. (member (net_of lent) i (bad i l)).0; all = λ i j h l. (member (net_of lent) j (bad j l)).1 i h };
      }

  pub flooring_floorable : (flooring n lent list).number ≡ 0 → Floorable n lent list
  unfolding flooring
  flooring_floorable z = floor_clear (unless_clear (λ (r : Floored). r.number) (floor_fault n lent list) _ _ refl z)

  pub flooring_floor : (flooring n lent list).number ≡ 0 → (flooring n lent list).floor ≡ floor (net_of lent) (at list) (length list)
  unfolding flooring
  flooring_floor z =
      ap (λ (r : Floored). r.floor) (unless_done (floor_fault n lent list) _ _ (unless_clear (λ (r : Floored). r.number) (floor_fault n lent list) _ _ refl z))
