-- Demand 1: what a call leaves. A refused answer has its other numbers 0 and leaves every lent table as it
-- was; an answer of 0 leaves the cells of index n or more as they were, and the text past the written
-- length. Assumes nothing.
use Prim.Native.Nat.{ℕ, zero, suc, ◌+◌, ◌-◌, ◌≤◌, ◌<◌}
use Rattle.std.specs.Prelude.{◌≡◌, ◌≢◌, Bool, cond, length, set, drop, eqb}
use Rattle.std.proofs.Math.Path.{refl, ap}
use Rattle.std.proofs.Common.{sym, ◌∙◌, arith, length-append, length-drop, ext_get_or, get_or-drop, get_or-append-add}
use Rattle.std.proofs.Math.Bool.{true, false}
use mathlib.Core.List.{List, ◌++◌}
use Rattle.std.proofs.Math.Decide.{dec_lt}
use Rattle.rules.specs.declared.Fault.{Fault}
use Rattle.rules.specs.declared.Packed.{Packed}
use Rattle.rules.specs.declared.Pressed.{Pressed}
use Rattle.rules.specs.declared.Why.{Why}
use Rattle.rules.specs.declared.Sided.{Sided}
use Rattle.rules.specs.declared.Planned.{Planned}
use Rattle.rules.specs.declared.Floored.{Floored}
use Rattle.rules.specs.declared.SheetWritten.{SheetWritten}
use Rattle.rules.specs.Tables.{at, cleared, Lent}
use Rattle.rules.specs.Limits.{KeptFrom}
use Rattle.rules.specs.Plan.{net_of}
use Rattle.rules.specs.Packing.{Rule, lowest, packed}
use Rattle.rules.specs.Pressing.{arranged, by_start, pressed}
use Rattle.rules.specs.Reason.{chain}
use Rattle.rules.specs.Sides.{is_high, has_sides, two_sided}
use Rattle.rules.specs.Planning.{Run, start_next, greedy, swapped, state_after, tried, round, rounds, improved}
use Rattle.rules.specs.Writing.{sheet_text}
use Rattle.rules.specs.Numbers.{judge_fault, why_fault, pack_fault, two_sides_fault, plan_fault, improve_fault, floor_fault, write_fault}
use Rattle.rules.specs.Calls.{Left, unless, refused_packed, done_packed, packing, refused_pressed, done_pressed, pressing, refused_why, done_why, explaining, siding, refused_planned, done_planned, done_improved, improving, done_plan, planning, flooring, writing}
use Rattle.table_laws.specs.Tables.{cleared_length}
use Rattle.table_laws.specs.Updates.{kept_none, kept_set}
use Rattle.plan_laws.specs.Arranged.{arranged_order}
use Rattle.plan_laws.specs.Improve.{place_below, draw_below, round_kept, round_left}
use Rattle.plan_laws.specs.Answers.{unless_done, pressing_judgeable, judgeable_pressing, explaining_explainable, explainable_explaining, Packable, packing_packable, packable_packing, siding_done, sidable_siding, improving_packable, packable_improving, planning_plannable, plannable_planning}
use Rattle.plan_laws.specs.Runs.{run_after, run_packable}
use Rattle.plan_laws.specs.Reason.{chain_few}
use Rattle.demands.specs.OnPlanning.{sided, greedy_packable}
use Rattle.demands.specs.Writable.{writing_writable, clear_write}

-- A call that refuses where its tests find a fault and else is done: an answer that is not 0 is the refusal
pub unless_is : {A : Type 0} (number : A → ℕ) (f : Fault) (refused : Fault → A) (result : A) → number result ≡ 0
    → number (unless f refused result) ≢ 0 → unless f refused result ≡ refused f
unfolding unless
unless_is number f refused result d = go (eqb f.number 0)
  where
    go : (b : Bool) → number (cond b result (refused f)) ≢ 0 → cond b result (refused f) ≡ refused f
    go true ne = absurd (ne d)
    go false ne = refl

pub packing_refused : (n : ℕ) (lent : Lent) (order starts : List ℕ) → (packing n lent order starts).answer.number ≢ 0
    → ((packing n lent order starts).answer.highest ≡ 0) × ((packing n lent order starts).tables ≡ starts)
unfolding packing refused_packed done_packed
packing_refused n lent order starts z =
    let e = unless_is (λ (r : Left Packed (List ℕ)). r.answer.number) (pack_fault n lent order starts) (refused_packed starts)
    (done_packed (net_of lent) n (packed (lowest (net_of lent)) (at order) starts n)) refl z in
    (ap (λ (r : Left Packed (List ℕ)). r.answer.highest) e, ap (λ (r : Left Packed (List ℕ)). r.tables) e)

pub pressing_refused : (n : ℕ) (lent : Lent) (starts : List ℕ) → (pressing n lent starts).answer.number ≢ 0
    → ((pressing n lent starts).answer.highest ≡ 0) × ((pressing n lent starts).tables ≡ starts)
unfolding pressing refused_pressed done_pressed
pressing_refused n lent starts z =
    let e = unless_is (λ (r : Left Pressed (List ℕ)). r.answer.number) (judge_fault n lent starts) (refused_pressed starts)
    (done_pressed (net_of lent) n (pressed (net_of lent) n starts)) refl z in
    (ap (λ (r : Left Pressed (List ℕ)). r.answer.highest) e, ap (λ (r : Left Pressed (List ℕ)). r.tables) e)

pub explaining_refused : (n : ℕ) (lent : Lent) (starts : List ℕ) (path : ℕ) (table : List ℕ) → (explaining n lent starts path table).answer.number ≢ 0
    → ((explaining n lent starts path table).answer.length ≡ 0) × ((explaining n lent starts path table).answer.down ≡ 0) × ((explaining n lent starts path table).tables ≡ table)
unfolding explaining refused_why done_why
explaining_refused n lent starts path table z =
    let e = unless_is (λ (r : Left Why (List ℕ)). r.answer.number) (why_fault n lent starts path table) (refused_why table)
    (done_why (net_of lent) (at starts) n path table) refl z in
    (ap (λ (r : Left Why (List ℕ)). r.answer.length) e, ap (λ (r : Left Why (List ℕ)). r.answer.down) e, ap (λ (r : Left Why (List ℕ)). r.tables) e)

pub siding_refused : (n : ℕ) (lent : Lent) (order : List ℕ) → (siding n lent order).answer.number ≢ 0
    → ((siding n lent order).answer.low ≡ 0) × ((siding n lent order).tables ≡ order)
unfolding siding
siding_refused n lent order z =
    let e = unless_is (λ (r : Left Sided (List ℕ)). r.answer.number) (two_sides_fault n lent order) _ _ refl z in
    (ap (λ (r : Left Sided (List ℕ)). r.answer.low) e, ap (λ (r : Left Sided (List ℕ)). r.tables) e)

module _ (n : ℕ) (lent : Lent) (order starts : List ℕ) (seed k : ℕ) where
  abbrev improve : Left Planned (List ℕ × List ℕ)
  improve = improving n lent order starts seed k

  pub improving_refused : improve.answer.number ≢ 0 → (improve.answer.highest ≡ 0) × (improve.answer.kept ≡ 0) × (improve.tables ≡ (order, starts))
  unfolding improving refused_planned done_improved done_planned
  improving_refused z =
      let e = unless_is (λ (r : Left Planned (List ℕ × List ℕ)). r.answer.number) (improve_fault n lent order starts k) (refused_planned order starts)
      (done_improved (net_of lent) n order starts seed k) refl z in
      (ap (λ (r : Left Planned (List ℕ × List ℕ)). r.answer.highest) e, ap (λ (r : Left Planned (List ℕ × List ℕ)). r.answer.kept) e, ap (λ (r : Left Planned (List ℕ × List ℕ)). r.tables) e)

  abbrev plan : Left Planned (List ℕ × List ℕ)
  plan = planning n lent order starts seed k

  done_zero : (done_plan (net_of lent) n order starts seed k).answer.number ≡ 0
  unfolding done_plan done_planned done_improved
  done_zero = either (has_sides (net_of lent) n) _ _ refl refl
    where
      either : (b : Bool) (x y : Left Planned (List ℕ × List ℕ)) → x.answer.number ≡ 0 → y.answer.number ≡ 0 → (cond b x y).answer.number ≡ 0
      either true x y g h = g
      either false x y g h = h

  pub planning_refused : plan.answer.number ≢ 0 → (plan.answer.highest ≡ 0) × (plan.answer.kept ≡ 0) × (plan.tables ≡ (order, starts))
  unfolding planning refused_planned
  planning_refused z =
      let e = unless_is (λ (r : Left Planned (List ℕ × List ℕ)). r.answer.number) (plan_fault n lent order starts k) (refused_planned order starts)
      (done_plan (net_of lent) n order starts seed k) done_zero z in
      (ap (λ (r : Left Planned (List ℕ × List ℕ)). r.answer.highest) e, ap (λ (r : Left Planned (List ℕ × List ℕ)). r.answer.kept) e, ap (λ (r : Left Planned (List ℕ × List ℕ)). r.tables) e)

pub flooring_refused : (n : ℕ) (lent : Lent) (list : List ℕ) → (flooring n lent list).number ≢ 0 → (flooring n lent list).floor ≡ 0
unfolding flooring
flooring_refused n lent list z =
    ap (λ (r : Floored). r.floor) (unless_is (λ (r : Floored). r.number) (floor_fault n lent list) _ _ refl z)

pub writing_refused : (n : ℕ) (labels : List ℕ) (lent : Lent) (starts text : List ℕ) → (writing n labels lent starts text).answer.number ≢ 0
    → ((writing n labels lent starts text).answer.length ≡ 0) × ((writing n labels lent starts text).tables ≡ text)
unfolding writing
writing_refused n labels lent starts text z =
    let e = unless_is (λ (r : Left SheetWritten (List ℕ)). r.answer.number) (write_fault n labels lent starts text) _ _ refl z in
    (ap (λ (r : Left SheetWritten (List ℕ)). r.answer.length) e, ap (λ (r : Left SheetWritten (List ℕ)). r.tables) e)

-- The cells of index n or more. From cell 0 on kept, a table is the same
pub kept_all : (before after : List ℕ) → KeptFrom 0 before after → after ≡ before
kept_all before after h = ext_get_or 0 after before h.size (λ k l. h.cells k (omega arith))

-- what is made of steps that write a cell below n each
packed_kept : (rule : Rule) (o : ℕ → ℕ) (t : List ℕ) (n m : ℕ) → ((i : ℕ) → i < m → o i < n) → KeptFrom n t (packed rule o t m)
unfolding packed
packed_kept rule o t n zero h = kept_none n t
packed_kept rule o t n (suc m) h = kept_set n t (packed rule o t m) (o m) _ (h m (omega arith)) (packed_kept rule o t n m (λ i g. h i (omega arith)))

arranged_kept : (key : List ℕ → ℕ → ℕ → ℕ) (n : ℕ) (t : List ℕ) (m : ℕ) → m ≤ n → KeptFrom n t (arranged key n t m)
unfolding arranged
arranged_kept key n t zero l = kept_none n t
arranged_kept key n t (suc m) l = kept_set n t (arranged key n t m) m _ (omega arith) (arranged_kept key n t m (omega arith))

swapped_kept : (n : ℕ) (t o : List ℕ) (a b : ℕ) → a < n → b < n → KeptFrom n t o → KeptFrom n t (swapped o a b)
unfolding swapped
swapped_kept n t o a b la lb h = kept_set n t (set o a (at o b)) b (at o a) lb (kept_set n t o a (at o b) la h)

rounds_kept : (highest_of : List ℕ → ℕ) (n : ℕ) → 0 < n → (t : List ℕ) (k : ℕ) (r : Run) → KeptFrom n t r.order → KeptFrom n t (rounds highest_of n k r).order
unfolding rounds
rounds_kept highest_of n pos t zero r h = h
rounds_kept highest_of n pos t (suc k) r h = go (dec_lt (highest_of (tried n q)) q.highest) (rounds_kept highest_of n pos t k r h)
  where
    q : Run
    q = rounds highest_of n k r

    swap : KeptFrom n t q.order → KeptFrom n t (tried n q)
    swap h = unfold tried state_after in
        (swapped_kept n t q.order _ _ (place_below n _ pos (draw_below _)) (place_below n _ pos (draw_below _)) h)

    go : Dec (highest_of (tried n q) < q.highest) → KeptFrom n t q.order → KeptFrom n t (round highest_of n q).order
    go (yes l) h = rw (round_kept highest_of n pos q l).0 (swap h)
    go (no l) h = rw (round_left highest_of n pos q (omega arith)).0 h

-- some cells written at the front of a table
pub front_kept : (c t : List ℕ) → length c ≤ length t → KeptFrom (length c) t (c ++ drop (length c) t)
front_kept c t l = record {
  size = omega (arith, length-append c (drop (length c) t), length-drop (length c) t);
  cells = λ k g. let e : length c + (k - length c) ≡ k = omega arith in
      ap (at (c ++ drop (length c) t)) (sym e) ∙ get_or-append-add c (drop (length c) t) (k - length c) 0 ∙ get_or-drop (length c) t (k - length c) 0 ∙ ap (at t) e;
}

pub packing_past : (n : ℕ) (lent : Lent) (order starts : List ℕ) → (packing n lent order starts).answer.number ≡ 0
    → KeptFrom n starts (packing n lent order starts).tables
unfolding done_packed
packing_past n lent order starts z =
    let p = packing_packable n lent order starts z in
    rw (packable_packing n lent order starts p) (packed_kept (lowest (net_of lent)) (at order) starts n n p.whole.inside)

pub pressing_past : (n : ℕ) (lent : Lent) (starts : List ℕ) → (pressing n lent starts).answer.number ≡ 0
    → KeptFrom n starts (pressing n lent starts).tables
unfolding done_pressed pressed
pressing_past n lent starts z =
    let j = pressing_judgeable n lent starts z in
    let o = arranged_order (λ s i k. at starts k) n (cleared 128 0) (omega (arith, cleared_length 128 0, j.network.few)) n (omega arith) in
    rw (judgeable_pressing n lent starts j) (packed_kept (lowest (net_of lent)) (at (by_start n (at starts) (cleared 128 0) n)) starts n n o.inside)

-- the chain's table past its length
pub explaining_past : (n : ℕ) (lent : Lent) (starts : List ℕ) (path : ℕ) (table : List ℕ) → (explaining n lent starts path table).answer.number ≡ 0
    → KeptFrom (explaining n lent starts path table).answer.length table (explaining n lent starts path table).tables
unfolding done_why
explaining_past n lent starts path table z =
    let e = explaining_explainable n lent starts path table z in
    rw (explainable_explaining n lent starts path table e)
    (front_kept (chain (net_of lent) (at starts) n path) table (omega (arith, chain_few (net_of lent) (at starts) n path, e.network.few, e.table_size)))

sided_kept : (high : ℕ → Bool) (n : ℕ) (order : List ℕ) → KeptFrom n order (two_sided n high order)
unfolding two_sided
sided_kept high n order = arranged_kept (λ s i k. cond (high k) 1 0) n order n (omega arith)

pub siding_past : (n : ℕ) (lent : Lent) (order : List ℕ) → (siding n lent order).answer.number ≡ 0
    → KeptFrom n order (siding n lent order).tables
siding_past n lent order z =
    let s = siding_done n lent order z in
    rw (sidable_siding n lent order s.0 s.1) (sided_kept (is_high (net_of lent) n) n order)

-- the order that was lent and the starts that were lent, after an order that keeps the first has been
-- packed into the second
module _ (n : ℕ) (lent : Lent) (order starts : List ℕ) where
  planned_kept : (o : List ℕ) (kept : ℕ) → KeptFrom n order o → ((i : ℕ) → i < n → at o i < n)
      → KeptFrom n order (done_planned (net_of lent) n o starts kept).tables.0 × KeptFrom n starts (done_planned (net_of lent) n o starts kept).tables.1
  unfolding done_planned
  planned_kept o kept h inside = (h, packed_kept (lowest (net_of lent)) (at o) starts n n inside)

  improved_kept : (o : List ℕ) (seed k : ℕ) → KeptFrom n order o → Packable n lent o starts
      → KeptFrom n order (done_improved (net_of lent) n o starts seed k).tables.0 × KeptFrom n starts (done_improved (net_of lent) n o starts seed k).tables.1
  unfolding done_improved
  improved_kept o seed k h p =
      planned_kept (run_after n lent o starts seed k).order _ (after k) (run_packable n lent o starts seed p k).whole.inside
    where
      after : (k : ℕ) → KeptFrom n order (run_after n lent o starts seed k).order
      after k = unfold improved in (rounds_kept _ n p.network.some order k _ h)

  pub improving_past : (seed k : ℕ) → (improving n lent order starts seed k).answer.number ≡ 0
      → KeptFrom n order (improving n lent order starts seed k).tables.0 × KeptFrom n starts (improving n lent order starts seed k).tables.1
  improving_past seed k z =
      let p = improving_packable n lent order starts seed k z in
      rw (packable_improving n lent order starts seed k p.0 p.1) (improved_kept order seed k (kept_none n order) p.0)

  pub planning_past : (seed k : ℕ) → (planning n lent order starts seed k).answer.number ≡ 0
      → KeptFrom n order (planning n lent order starts seed k).tables.0 × KeptFrom n starts (planning n lent order starts seed k).tables.1
  unfolding done_plan
  planning_past seed k z = rw (plannable_planning n lent order starts seed k (planning_plannable n lent order starts seed k z)) (go (has_sides (net_of lent) n))
    where
      go : (b : Bool)
          → KeptFrom n order (cond b (done_planned (net_of lent) n (two_sided n (is_high (net_of lent) n) order) starts 0)
          (done_improved (net_of lent) n (greedy (lowest (net_of lent)) n starts order n) starts seed k)).tables.0
          × KeptFrom n starts (cond b (done_planned (net_of lent) n (two_sided n (is_high (net_of lent) n) order) starts 0)
          (done_improved (net_of lent) n (greedy (lowest (net_of lent)) n starts order n) starts seed k)).tables.1
      go true = planned_kept _ 0 (sided_kept (is_high (net_of lent) n) n order) (sided n lent order starts seed k z).whole.inside
      go false = improved_kept _ seed k (arranged_kept (start_next (lowest (net_of lent)) starts) n order n (omega arith)) (greedy_packable n lent order starts seed k z)

-- the text past what is written
pub writing_past : (n : ℕ) (labels : List ℕ) (lent : Lent) (starts text : List ℕ) → (writing n labels lent starts text).answer.number ≡ 0
    → KeptFrom (writing n labels lent starts text).answer.length text (writing n labels lent starts text).tables
unfolding writing
writing_past n labels lent starts text z =
    let w = writing_writable n labels lent starts text z in
    rw (unless_done (write_fault n labels lent starts text) _ _ (clear_write n labels lent starts text w.0 w.1))
    (front_kept (sheet_text n labels lent starts) text w.1)
