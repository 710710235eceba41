-- From what the inner functions answer to what the calls promise. Assumes nothing.
use Rattle.std.specs.Prelude.{ℕ, ◌≤◌, ◌≡◌, not, Option, None, Some, List, Ok, Err, length, ltb}
use Rattle.std.specs.Option.{ok_or}
use Rattle.std.proofs.Common.{sym, ap, subst, ◌∙◌, arith, ltb-false}
use Rattle.rules.specs.declared.Cause.TheVariants.{NoSides}
use Rattle.rules.specs.declared.Refusal.{Refusal}
use Rattle.rules.specs.Tables.{at, Lent}
use Rattle.rules.specs.Limits.{Network, KeptFrom}
use Rattle.rules.specs.Plan.{net_of}
use Rattle.rules.specs.Packing.{lowest}
use Rattle.rules.specs.Sides.{is_high, has_sides, two_sided}
use Rattle.rules.specs.Planning.{Run, start_next, greedy, improved}
use Rattle.rules.specs.Floor.{floor}
use Rattle.rules.specs.Numbers.{fault, no_fault, size_fault, lent_fault, sides_fault, rounds_fault, two_sides_fault, pack_fault, improve_fault, plan_sizes, plan_fault, list_fault, floor_fault}
use Rattle.rules.specs.declared.Planned.{Planned}
use Rattle.rules.specs.Calls.{Left, left, siding, refused_planned, done_planned, done_improved, improving, done_plan, planning, flooring}
use Rattle.rules.specs.Told.{number_of, refused, sided_of, floored_of}
use Rattle.table_laws.specs.Faults.{refuse_bad, refuse_not, refuse_clear, size_clear}
use Rattle.table_laws.specs.Chains.{lent_clear}
use Rattle.table_laws.specs.Results.{clear_none, ok_on, unless_err, unless_ok}
use Rattle.plan_laws.specs.Sided.{sided_length, sided_order}
use Rattle.plan_laws.specs.Arranged.{arranged_order, arranged_length}
use Rattle.plan_laws.specs.Answers.{Packable, pack_clear, Plannable, plan_clear, Floorable, floor_clear}
use Rattle.plan_laws.specs.Engine.{packed_over}
use Rattle.plan_laws.specs.Runs.{run_packable}
use Rattle.sides.specs.Split.{SplitIs}
use Rattle.rounds.specs.declared.Standing.{Standing}
use Rattle.rounds.specs.Standing.{run_of}
use Rattle.planning.specs.Chosen.{Chosen}

-- the two-sided call: 9 is its last test
module _ (n : ℕ) (l : Lent) (order : List ℕ) (e : no_fault ≡ lent_fault n l (size_fault order 128)) where
  pub sides_room : n ≤ length order
  sides_room =
      let w = lent_clear n l (size_fault order 128) (clear_none e) in
      omega (arith, w.0.few, size_clear order 128 w.1)

  sides_told : (split : Option ℕ) (after : List ℕ) → SplitIs (net_of l) n order split after → (r : Refusal) → number_of r.cause ≡ 9 → r.place ≡ 0 → left (sided_of (ok_or split r)) after ≡ siding n l order
  unfolding siding two_sides_fault sides_fault
  sides_told None after s r g h =
      let nine : Refusal = record { cause = NoSides; place = 0; short = 0 } in
      rw (s.1, g, h) (sym (unless_err _ _ nine (ok_on _ e (sym (refuse_bad (not (has_sides (net_of l) n)) 9 0 (ap not s.0))))))
  sides_told (Some low) after s r g h =
      rw (s.1, s.2) (sym (unless_ok _ _ (ok_on _ e (sym (refuse_not (not (has_sides (net_of l) n)) 9 0 (ap not s.0))))))

  pub sides_done : (m : ℕ) (k : Lent) → (m ≡ n) × (k ≡ l) → (split : Option ℕ) (after : List ℕ) → SplitIs (net_of k) m order split after → (r : Refusal) → number_of r.cause ≡ 9 → r.place ≡ 0
      → left (sided_of (ok_or split r)) after ≡ siding n l order
  sides_done m k d split after s = sides_told split after (rw (d.0, d.1) at s)

-- 10 is not refused
pub few_rounds : (rounds : ℕ) → no_fault ≡ rounds_fault rounds → rounds ≤ 10000
unfolding rounds_fault
few_rounds rounds e = ltb-false 10000 rounds (refuse_clear (ltb 10000 rounds) 10 0 (omega arith) (clear_none e))

module _ (n : ℕ) (l : Lent) (order starts : List ℕ) (p : Packable n l order starts) where
  -- what the rounds have left in the table of starts makes no difference
  module _ (used : List ℕ) (k : KeptFrom n starts used) where
    pub packable_used : Packable n l order used
    packable_used = record { network = p.network; order_size = p.order_size; starts_size = k.size ∙ p.starts_size; whole = p.whole }

    pub packed_over_used : (kept : ℕ) → done_planned (net_of l) n order used kept ≡ done_planned (net_of l) n order starts kept
    unfolding done_planned
    packed_over_used kept = rw (packed_over (net_of l) n (at order) p.whole starts used (omega (arith, p.network.few, p.starts_size)) k)

  -- improving
  module _ (seed rounds : ℕ) (s : Standing) (after : List ℕ) (e : run_of s after ≡ improved (net_of l) n (lowest (net_of l)) starts order seed rounds) where
    pub improved_packable : Packable n l after starts
    improved_packable = subst (λ (o : List ℕ). Packable n l o starts) (sym (ap (λ (r : Run). r.order) e)) (run_packable n l order starts seed p rounds)

    pub improved_done : done_planned (net_of l) n after starts s.kept ≡ done_improved (net_of l) n order starts seed rounds
    unfolding done_improved
    improved_done = rw (← e)

-- improving, the tests being passed
module _ (n : ℕ) (l : Lent) (order starts : List ℕ) (seed rounds : ℕ) (e : no_fault ≡ pack_fault n l order starts) (f : no_fault ≡ rounds_fault rounds) (m : ℕ) (tested : Lent) (d : (m ≡ n) × (tested ≡ l)) where
  pub improve_ready : Packable m tested order starts × (rounds ≤ 10000)
  improve_ready = (rw (d.0, d.1) (pack_clear n l order starts (clear_none e)), few_rounds rounds f)

  module _ (s : Standing) (after used : List ℕ) (q : (table : List ℕ) → length table ≡ 128 → run_of s after ≡ improved (net_of tested) m (lowest (net_of tested)) table order seed rounds) (k : KeptFrom m starts used) where
    run_is : run_of s after ≡ improved (net_of tested) m (lowest (net_of tested)) starts order seed rounds
    run_is = q starts improve_ready.0.starts_size

    after_packable : Packable m tested after starts
    after_packable = improved_packable m tested order starts improve_ready.0 seed rounds s after run_is

    pub improve_packable : Packable m tested after used
    improve_packable = packable_used m tested after starts after_packable used k

    pub improve_done : (r : Left Planned (List ℕ × List ℕ)) → r ≡ done_planned (net_of tested) m after used s.kept → r ≡ improving n l order starts seed rounds
    unfolding improving improve_fault
    improve_done r h =
        let done : done_improved (net_of tested) m order starts seed rounds ≡ improving n l order starts seed rounds = rw (d.0, d.1) (sym (unless_ok (refused_planned order starts) _ (ok_on (rounds_fault rounds) e f))) in
        h ∙ packed_over_used m tested after starts after_packable used k s.kept ∙ improved_done m tested order starts improve_ready.0 seed rounds s after run_is ∙ done

-- planning: the choice by the sides
module _ (n : ℕ) (l : Lent) (order starts : List ℕ) (w : Network n l) (full : length order ≡ 128) (space : length starts ≡ 128) where
  room : n ≤ length order
  room = omega (arith, full, w.few)

  pub sided_packable : Packable n l (two_sided n (is_high (net_of l) n) order) starts
  sided_packable = record {
    network = w;
    order_size = sided_length n (is_high (net_of l) n) order room ∙ full;
    starts_size = space;
    whole = sided_order n (is_high (net_of l) n) order room;
  }

  pub greedy_packable_lem : Packable n l (greedy (lowest (net_of l)) n starts order n) starts
  greedy_packable_lem = record {
    network = w;
    order_size = arranged_length (start_next (lowest (net_of l)) starts) n order room n ∙ full;
    starts_size = space;
    whole = arranged_order (start_next (lowest (net_of l)) starts) n order room n (omega arith);
  }

  pub chosen_sided : (seed rounds : ℕ) (after : List ℕ) (low : ℕ) → SplitIs (net_of l) n order (Some low) after → Chosen n l order starts seed rounds 0 after
  unfolding done_plan
  chosen_sided seed rounds after low s = rw s.2 record { packable = sided_packable; done = rw s.0 }

  module _ (after : List ℕ) (s : SplitIs (net_of l) n order None after) (first : List ℕ) (e : first ≡ greedy (lowest (net_of l)) n starts after n) where
    greedy_first : first ≡ greedy (lowest (net_of l)) n starts order n
    greedy_first = rw s.1 at e

    pub greedy_ready : Packable n l first starts
    greedy_ready = rw greedy_first greedy_packable_lem

    pub chosen_greedy : (seed rounds : ℕ) (r : Standing) (last : List ℕ) → run_of r last ≡ improved (net_of l) n (lowest (net_of l)) starts first seed rounds → Chosen n l order starts seed rounds r.kept last
    unfolding done_plan
    chosen_greedy seed rounds r last q = record {
      packable = improved_packable n l first starts greedy_ready seed rounds r last q;
      done = improved_done n l first starts greedy_ready seed rounds r last q ∙ rw (s.0, ← greedy_first);
    }

-- planning, the tests being passed
module _ (n : ℕ) (l : Lent) (order starts : List ℕ) (seed rounds : ℕ) (e : no_fault ≡ lent_fault n l (plan_sizes order starts)) (f : no_fault ≡ rounds_fault rounds) (m : ℕ) (tested : Lent) (d : (m ≡ n) × (tested ≡ l)) where
  pub plan_ready : Plannable m tested order starts seed rounds
  unfolding plan_fault
  plan_ready = rw (d.0, d.1) (plan_clear n l order starts seed rounds (clear_none (ok_on (rounds_fault rounds) e f)))

  module _ (kept : ℕ) (after used : List ℕ) (x : Chosen m tested order starts seed rounds kept after) (k : KeptFrom m starts used) where
    pub plan_done : (r : Left Planned (List ℕ × List ℕ)) → r ≡ done_planned (net_of tested) m after used kept → r ≡ planning n l order starts seed rounds
    unfolding planning plan_fault
    plan_done r h =
        let done : done_plan (net_of tested) m order starts seed rounds ≡ planning n l order starts seed rounds = rw (d.0, d.1) (sym (unless_ok (refused_planned order starts) _ (ok_on (rounds_fault rounds) e f))) in
        h ∙ packed_over_used m tested after starts x.packable used k kept ∙ x.done ∙ done

-- the floor
module _ (n : ℕ) (l : Lent) (list : List ℕ) (e : no_fault ≡ lent_fault n l no_fault) (m : ℕ) (tested : Lent) (d : (m ≡ n) × (tested ≡ l)) where
  pub floor_refused : (r : Refusal) → refused r ≡ list_fault m (net_of tested) list → floored_of (Err r) ≡ flooring n l list
  unfolding flooring floor_fault
  floor_refused r f = sym (unless_err _ _ r (ok_on _ e (rw (d.0, d.1) at f)))

  module _ (f : no_fault ≡ list_fault m (net_of tested) list) where
    pub floor_ready : Floorable m tested list
    unfolding floor_fault
    floor_ready = rw (d.0, d.1) (floor_clear n l list (clear_none (ok_on _ e (rw (d.0, d.1) at f))))

    pub floor_done : (x : ℕ) → x ≡ floor (net_of tested) (at list) (length list) → floored_of (Ok x) ≡ flooring n l list
    unfolding flooring floor_fault
    floor_done x h = rw (h, d.1) (sym (unless_ok _ _ (ok_on _ e (rw (d.0, d.1) at f))))
