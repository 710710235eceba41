-- Demand 1: which number and which place each call answers, and how many slots short. What its tests give in
-- their order, in the words of rules/specs/Refusing, is its answer; and tests give one answer alone
-- (`gives_one`).
-- Assumes nothing.
use Prim.Native.Nat.{ℕ}
use Rattle.std.specs.Prelude.{◌≡◌, Bool, cond, not, ◌&&◌, length, ltb, leb, eqb}
use Rattle.std.proofs.Math.Path.{refl}
use Rattle.std.proofs.Common.{sym, ◌∙◌, arith}
use Rattle.std.proofs.Math.Bool.{true, false, true≢false}
use mathlib.Core.List.{List, [], ◌∷◌, ◌++◌}
use borrow.Author.Tests.{not-true, not-false}
use Rattle.rules.specs.declared.Fault.{Fault}
use Rattle.rules.specs.declared.Packed.{Packed}
use Rattle.rules.specs.declared.Pressed.{Pressed}
use Rattle.rules.specs.declared.Sided.{Sided}
use Rattle.rules.specs.declared.Planned.{Planned}
use Rattle.rules.specs.declared.Floored.{Floored}
use Rattle.rules.specs.declared.SheetWritten.{SheetWritten}
use Rattle.rules.specs.declared.Why.{Why}
use Rattle.rules.specs.Tables.{at, Lent}
use Rattle.rules.specs.Limits.{Network}
use Rattle.rules.specs.Plan.{net_of, short, too_close}
use Rattle.rules.specs.Sides.{is_high, has_sides}
use Rattle.rules.specs.Writing.{bad_label, label_twice, pairs, has_plan, sheet_text}
use Rattle.rules.specs.Numbers.{fault, no_fault, refuse_if, ◌or_else◌, scan, square, nowhere_short, outside, count_fault, size_fault, bad_width, bad_guard, bad_mirror, bad_entry, order_fault, bad_start, start_fault, clash_fault, sides_fault, rounds_fault, bad_member, list_fault, network_fault, network_sizes, lent_fault, plan_sizes, path_fault, judge_fault, why_fault, pack_fault, two_sides_fault, plan_fault, improve_fault, floor_fault, label_sizes, room_fault, write_fault}
use Rattle.rules.specs.Calls.{Left, judging, refused_packed, done_packed, packing, refused_pressed, done_pressed, pressing, refused_why, done_why, explaining, siding, refused_planned, done_planned, done_improved, improving, done_plan, planning, flooring, writing}
use Rattle.rules.specs.Refusing.{Test, Gives, Unsaid, Clash, size_test, count_test, width_test, guard_test, entry_test, path_test, start_test, clash_test, sides_test, rounds_test, length_test, member_test, label_test, label_twice_test, pairs_test, written_start_test, room_test, network_tests, lent_tests, judge_tests, why_tests, pack_tests, improve_tests, plan_tests, two_sides_tests, floor_tests, write_tests}
use Rattle.table_laws.specs.Faults.{scan_clear}
use Rattle.table_laws.specs.Chains.{count_clear, lent_clear}
use Rattle.plan_laws.specs.Fits.{network_good}
use Rattle.demands.specs.Finding.{found_sides, found_all}
use Rattle.demands.specs.Tests.{told, refuse_gives, scan_gives, square_gives, gives_done, gives_append, Silent, silent_append, unless_gives, silent_gives}
use Rattle.demands.specs.Words.{tells_lt, tells_le, tells_eq, tells_not, tells_outside, tells_guard, tells_mirror, tells_entry, tells_clash, tells_short, tells_member, tells_start, tells_label, tells_twice}

-- a test, and those after it
pub then : (t : Test) (ts : List Test) (f g : Fault) → Gives (t ∷ []) f → (f.number ≡ 0 → Gives ts g) → Gives (t ∷ ts) (f or_else g)
then t ts f g = gives_append (t ∷ []) ts f g

-- 2
pub size_gives : (table : List ℕ) (size : ℕ) → Gives (size_test table size ∷ []) (size_fault table size)
unfolding size_fault
size_gives table size = refuse_gives 2 _ (not (eqb (length table) size)) (omega arith) (tells_not (tells_eq (length table) size))

two_sizes : (a b : List ℕ) (x y : ℕ) → Gives (size_test a x ∷ size_test b y ∷ []) (size_fault a x or_else size_fault b y)
two_sizes a b x y = then (size_test a x) (size_test b y ∷ []) (size_fault a x) (size_fault b y) (size_gives a x) (λ z. size_gives b y)

-- 1, 3, 4, 5
network_gives : (n : ℕ) (lent : Lent) → Gives (network_tests n lent) (network_fault n lent)
unfolding network_tests network_fault count_fault
network_gives n lent =
    then (count_test n) _ (count_fault n) _ (refuse_gives 1 _ (outside 1 128 n) (omega arith) (tells_outside 1 128 n)) (λ z.
    then (width_test n lent.widths) _ (scan 3 (bad_width lent.widths) n) _
    (scan_gives 3 n _ (bad_width lent.widths) (omega arith) (λ k l. tells_outside 1 64 (at lent.widths k))) (λ _.
    then (guard_test n lent.guards) _ (square 4 (bad_guard lent.guards) nowhere_short n) _
    (square_gives 4 n _ Unsaid (bad_guard lent.guards) nowhere_short (omega arith) (count_clear n z).1 (λ i j l g. tells_guard lent.guards i j)
    (λ i j l g b. (refl, λ s e. e))) (λ _.
    square_gives 5 n _ Unsaid (bad_mirror lent.guards) nowhere_short (omega arith) (count_clear n z).1 (λ i j l g. tells_mirror lent.guards i j)
    (λ i j l g b. (refl, λ s e. e)))))

-- 2, 1, 3, 4, 5, with 2 of the tables beside the network
pub lent_gives : (n : ℕ) (lent : Lent) (ts : List Test) (sizes : Fault) → Gives ts sizes → Gives (lent_tests n lent ts) (lent_fault n lent sizes)
unfolding lent_tests lent_fault network_sizes
lent_gives n lent ts sizes h =
    gives_append (size_test lent.widths 128 ∷ size_test lent.guards 16384 ∷ []) (ts ++ network_tests n lent) _ _
    (two_sizes lent.widths lent.guards 128 16384)
    (λ z. gives_append ts (network_tests n lent) sizes (network_fault n lent) h (λ y. network_gives n lent))

plan_sizes_give : (order starts : List ℕ) → Gives (size_test order 128 ∷ size_test starts 128 ∷ []) (plan_sizes order starts)
unfolding plan_sizes
plan_sizes_give order starts = two_sizes order starts 128 128

rounds_give : (rounds : ℕ) → Gives (rounds_test rounds ∷ []) (rounds_fault rounds)
unfolding rounds_fault
rounds_give rounds = refuse_gives 10 _ (ltb 10000 rounds) (omega arith) (tells_lt 10000 rounds)

-- no test but 8 says a number of slots
pub unsaid : (p s : ℕ) → Unsaid p s → s ≡ 0
unsaid p s e = e

pub lent_unsaid : (n : ℕ) (lent : Lent) (sizes : List Test) → Silent sizes → Silent (lent_tests n lent sizes)
unfolding lent_tests network_tests
lent_unsaid n lent sizes h = (unsaid, (unsaid, silent_append sizes (network_tests n lent) h (unsaid, (unsaid, (unsaid, (unsaid, tt))))))

lent_silent : (n : ℕ) (lent : Lent) (sizes more : List Test) → Silent sizes → Silent more → Silent (lent_tests n lent sizes ++ more)
lent_silent n lent sizes more a b = silent_append (lent_tests n lent sizes) more (lent_unsaid n lent sizes a) b

-- judging and pressing
module _ (n : ℕ) (lent : Lent) (starts : List ℕ) where
  pub start_gives : Gives (start_test n starts ∷ []) (start_fault n starts)
  unfolding start_fault
  start_gives = scan_gives 7 n _ (bad_start starts) (omega arith) (λ k l. tells_outside 1 16384 (at starts k))

  clash_gives : Network n lent → Gives (clash_test n (net_of lent) starts ∷ []) (clash_fault n (net_of lent) starts)
  unfolding clash_fault
  clash_gives w =
      square_gives 8 n (Clash (net_of lent) (at starts)) _ (too_close (net_of lent) (at starts)) (short (net_of lent) (at starts)) (omega arith) w.few
      (λ i j l g. tells_clash (net_of lent) (at starts) i j (w.width i l).0 (w.width j g).0)
      (λ i j l g e. tells_short (net_of lent) (at starts) i j (omega (arith, w.few)) e)

  judge_gives : Gives (judge_tests n lent starts) (judge_fault n lent starts)
  unfolding judge_tests judge_fault
  judge_gives =
      gives_append (lent_tests n lent (size_test starts 128 ∷ [])) _ (lent_fault n lent (size_fault starts 128)) _
      (lent_gives n lent _ (size_fault starts 128) (size_gives starts 128)) (λ z.
      then (start_test n starts) _ (start_fault n starts) _ start_gives (λ _. clash_gives (lent_clear n lent (size_fault starts 128) z).0))

  pub judging_gives : Gives (judge_tests n lent starts) (judging n lent starts)
  unfolding judging
  judging_gives = judge_gives

  abbrev press : Pressed
  press = (pressing n lent starts).answer

  pub pressing_gives : Gives (judge_tests n lent starts) (told press.number press.place press.short)
  unfolding pressing refused_pressed done_pressed
  pressing_gives =
      unless_gives (λ (r : Left Pressed (List ℕ)). r.answer.number) (λ (r : Left Pressed (List ℕ)). r.answer.place) (λ (r : Left Pressed (List ℕ)). r.answer.short)
      (judge_tests n lent starts) (judge_fault n lent starts) (refused_pressed starts) _ refl refl refl refl refl refl judge_gives

  -- why a path stands where it stands
  module _ (path : ℕ) (table : List ℕ) where
    path_gives : Gives (path_test n path ∷ []) (path_fault n path)
    unfolding path_fault
    path_gives = refuse_gives 6 _ (leb n path) (omega arith) (tells_le n path)

    why_gives : Gives (why_tests n lent starts path table) (why_fault n lent starts path table)
    unfolding why_tests why_fault
    why_gives =
        gives_append (lent_tests n lent (size_test table 128 ∷ size_test starts 128 ∷ [])) _ (lent_fault n lent (plan_sizes table starts)) _
        (lent_gives n lent _ (plan_sizes table starts) (plan_sizes_give table starts)) (λ z.
        then (start_test n starts) _ (start_fault n starts) _ start_gives (λ _.
        then (clash_test n (net_of lent) starts) _ (clash_fault n (net_of lent) starts) _ (clash_gives (lent_clear n lent (plan_sizes table starts) z).0) (λ _. path_gives)))

    abbrev why : Why
    why = (explaining n lent starts path table).answer

    pub explaining_gives : Gives (why_tests n lent starts path table) (told why.number why.place why.short)
    unfolding explaining refused_why done_why
    explaining_gives =
        unless_gives (λ (r : Left Why (List ℕ)). r.answer.number) (λ (r : Left Why (List ℕ)). r.answer.place) (λ (r : Left Why (List ℕ)). r.answer.short)
        (why_tests n lent starts path table) (why_fault n lent starts path table) (refused_why table) _ refl refl refl refl refl refl why_gives

-- packing, improving and planning
module _ (n : ℕ) (lent : Lent) (order starts : List ℕ) where
  sized_gives : Gives (lent_tests n lent (size_test order 128 ∷ size_test starts 128 ∷ [])) (lent_fault n lent (plan_sizes order starts))
  sized_gives = lent_gives n lent _ (plan_sizes order starts) (plan_sizes_give order starts)

  pack_gives : Gives (pack_tests n lent order starts) (pack_fault n lent order starts)
  unfolding pack_tests pack_fault order_fault
  pack_gives =
      gives_append (lent_tests n lent (size_test order 128 ∷ size_test starts 128 ∷ [])) _ (lent_fault n lent (plan_sizes order starts)) _ sized_gives
      (λ z. scan_gives 6 n _ (bad_entry n order) (omega arith) (λ k l. tells_entry n order k))

  pack_silent : Silent (pack_tests n lent order starts)
  unfolding pack_tests
  pack_silent = lent_silent n lent (size_test order 128 ∷ size_test starts 128 ∷ []) (entry_test n order ∷ []) (unsaid, (unsaid, tt)) (unsaid, tt)

  pub packing_gives : Gives (pack_tests n lent order starts) (fault (packing n lent order starts).answer.number (packing n lent order starts).answer.place)
  unfolding packing refused_packed done_packed
  packing_gives =
      silent_gives (λ (r : Left Packed (List ℕ)). r.answer.number) (λ (r : Left Packed (List ℕ)). r.answer.place)
      (pack_tests n lent order starts) (pack_fault n lent order starts) (refused_packed starts) _ refl refl refl refl pack_silent pack_gives

  module _ (seed rounds : ℕ) where
    abbrev improve : Left Planned (List ℕ × List ℕ)
    improve = improving n lent order starts seed rounds

    pub improving_gives : Gives (improve_tests n lent order starts rounds) (fault improve.answer.number improve.answer.place)
    unfolding improve_tests improving improve_fault refused_planned done_improved done_planned
    improving_gives =
        silent_gives (λ (r : Left Planned (List ℕ × List ℕ)). r.answer.number) (λ (r : Left Planned (List ℕ × List ℕ)). r.answer.place)
        (pack_tests n lent order starts ++ (rounds_test rounds ∷ [])) (pack_fault n lent order starts or_else rounds_fault rounds) (refused_planned order starts) _ refl refl refl refl
        (silent_append (pack_tests n lent order starts) _ pack_silent (unsaid, tt))
        (gives_append (pack_tests n lent order starts) _ (pack_fault n lent order starts) _ pack_gives (λ z. rounds_give rounds))

    abbrev plan : Left Planned (List ℕ × List ℕ)
    plan = planning n lent order starts seed rounds

    pub planning_gives : Gives (plan_tests n lent order starts rounds) (fault plan.answer.number plan.answer.place)
    unfolding plan_tests planning plan_fault refused_planned
    planning_gives =
        silent_gives (λ (r : Left Planned (List ℕ × List ℕ)). r.answer.number) (λ (r : Left Planned (List ℕ × List ℕ)). r.answer.place)
        (plan_tests n lent order starts rounds) (plan_fault n lent order starts rounds) (refused_planned order starts) _ refl refl
        done.0 done.1 (lent_silent n lent _ (rounds_test rounds ∷ []) (unsaid, (unsaid, tt)) (unsaid, tt))
        (gives_append (lent_tests n lent (size_test order 128 ∷ size_test starts 128 ∷ [])) _ (lent_fault n lent (plan_sizes order starts)) _ sized_gives (λ z. rounds_give rounds))
      where
        either : (b : Bool) (x y : Left Planned (List ℕ × List ℕ)) → (x.answer.number ≡ 0) × (x.answer.place ≡ 0) → (y.answer.number ≡ 0) × (y.answer.place ≡ 0)
            → ((cond b x y).answer.number ≡ 0) × ((cond b x y).answer.place ≡ 0)
        either true x y g h = g
        either false x y g h = h

        done : ((done_plan (net_of lent) n order starts seed rounds).answer.number ≡ 0) × ((done_plan (net_of lent) n order starts seed rounds).answer.place ≡ 0)
        done = unfold done_plan done_planned done_improved in (either (has_sides (net_of lent) n) _ _ (refl, refl) (refl, refl))

-- the two-sided call: where the network is within the limits the marks find two sides exactly where there
-- are some
module _ (n : ℕ) (lent : Lent) (order : List ℕ) where
  sides_give : Network n lent → Gives (sides_test n (net_of lent) ∷ []) (sides_fault n (net_of lent))
  unfolding sides_fault
  sides_give w = refuse_gives 9 _ (not (has_sides (net_of lent) n)) (omega arith) (record {
    holds = λ e high split. true≢false (sym (found_all (net_of lent) n w.few (network_good n lent w) high split) ∙ not-true _ e);
    fails = λ e none. none (is_high (net_of lent) n) (found_sides (net_of lent) n w.few (network_good n lent w) (not-false _ e)).split;
  })

  pub siding_gives : Gives (two_sides_tests n lent order) (fault (siding n lent order).answer.number (siding n lent order).answer.place)
  unfolding two_sides_tests siding two_sides_fault
  siding_gives =
      silent_gives (λ (r : Left Sided (List ℕ)). r.answer.number) (λ (r : Left Sided (List ℕ)). r.answer.place)
      (two_sides_tests n lent order) (two_sides_fault n lent order) _ _ refl refl refl refl
      (lent_silent n lent _ (sides_test n (net_of lent) ∷ []) (unsaid, tt) (unsaid, tt))
      (gives_append (lent_tests n lent (size_test order 128 ∷ [])) _ (lent_fault n lent (size_fault order 128)) _
      (lent_gives n lent _ (size_fault order 128) (size_gives order 128)) (λ z. sides_give (lent_clear n lent (size_fault order 128) z).0))

-- the floor
pub flooring_gives : (n : ℕ) (lent : Lent) (list : List ℕ)
    → Gives (floor_tests n lent list) (fault (flooring n lent list).number (flooring n lent list).place)
unfolding floor_tests flooring floor_fault list_fault
flooring_gives n lent list =
    silent_gives (λ (r : Floored). r.number) (λ (r : Floored). r.place) (floor_tests n lent list) (floor_fault n lent list) _ _ refl refl refl refl
    (lent_silent n lent [] (length_test list ∷ member_test n (net_of lent) list ∷ []) tt (unsaid, (unsaid, tt)))
    (gives_append (lent_tests n lent []) _ (lent_fault n lent no_fault) _ (lent_gives n lent [] no_fault gives_done) (λ z.
    then (length_test list) _ (refuse_if (outside 1 8 (length list)) 15 0) _
    (refuse_gives 15 _ (outside 1 8 (length list)) (omega arith) (tells_outside 1 8 (length list))) (λ _.
    scan_gives 15 (length list) _ (bad_member n (net_of lent) list) (omega arith) (λ k l. tells_member n (net_of lent) list k))))

-- what the writer of a sheet tests besides, and that of an order sheet too: 2 of the labels and starts, 11 and 12
-- before any other tests, and 16
pub label_sizes_give : (labels starts : List ℕ) → Gives (size_test labels 1024 ∷ size_test starts 128 ∷ []) (label_sizes labels starts)
unfolding label_sizes
label_sizes_give labels starts = two_sizes labels starts 1024 128

pub labels_give : (n : ℕ) (labels : List ℕ) (ts : List Test) (f : Fault) → Gives ts f
    → Gives (label_test n labels ∷ label_twice_test n labels ∷ ts) (scan 11 (bad_label labels) n or_else scan 12 (label_twice labels) n or_else f)
labels_give n labels ts f h =
    then (label_test n labels) _ (scan 11 (bad_label labels) n) _ (scan_gives 11 n _ (bad_label labels) (omega arith) (λ k l. tells_label labels k)) (λ z.
    then (label_twice_test n labels) _ (scan 12 (label_twice labels) n) _
    (scan_gives 12 n _ (label_twice labels) (omega arith) (λ k l. tells_twice labels k (scan_clear 11 (bad_label labels) n (omega arith) z k l))) (λ _. h))

pub room_gives : (sheet text : List ℕ) → Gives (room_test sheet text ∷ []) (room_fault sheet text)
room_gives sheet text = refuse_gives 16 _ (ltb (length text) (length sheet)) (omega arith) (tells_lt _ _)

-- the writer
module _ (n : ℕ) (labels : List ℕ) (lent : Lent) (starts text : List ℕ) where
  write_gives : Gives (write_tests n labels lent starts text) (write_fault n labels lent starts text)
  unfolding write_tests write_fault
  write_gives =
      gives_append (lent_tests n lent (size_test labels 1024 ∷ size_test starts 128 ∷ [])) _ (lent_fault n lent (label_sizes labels starts)) _
      (lent_gives n lent _ (label_sizes labels starts) (label_sizes_give labels starts)) (λ _.
      labels_give n labels _ _ (
      then (pairs_test n lent.guards) _ (refuse_if (ltb 2000 (pairs n lent.guards)) 1 0) _
      (refuse_gives 1 _ (ltb 2000 (pairs n lent.guards)) (omega arith) (tells_lt 2000 (pairs n lent.guards))) (λ _.
      then (written_start_test n starts) _ (scan 7 (λ k. has_plan n starts && bad_start starts k) n) _
      (scan_gives 7 n _ (λ k. has_plan n starts && bad_start starts k) (omega arith) (λ k l. tells_start n starts k)) (λ _. room_gives (sheet_text n labels lent starts) text))))

  pub writing_gives : Gives (write_tests n labels lent starts text) (fault (writing n labels lent starts text).answer.number (writing n labels lent starts text).answer.place)
  unfolding writing write_tests
  writing_gives =
      silent_gives (λ (r : Left SheetWritten (List ℕ)). r.answer.number) (λ (r : Left SheetWritten (List ℕ)). r.answer.place)
      (write_tests n labels lent starts text) (write_fault n labels lent starts text) _ _ refl refl refl refl
      (lent_silent n lent _ (label_test n labels ∷ label_twice_test n labels ∷ pairs_test n lent.guards ∷ written_start_test n starts ∷ room_test (sheet_text n labels lent starts) text ∷ [])
      (unsaid, (unsaid, tt)) (unsaid, (unsaid, (unsaid, (unsaid, (unsaid, tt)))))) write_gives
