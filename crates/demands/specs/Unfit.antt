-- The programs that RULES 21 wants shown unfit, and a network within the limits, so that the theorems are
-- about something. A program for a call is any function from what the call is given to what it leaves behind.
-- Assumes nothing.
use Prim.Native.Nat.{ℕ, zero, suc, ◌+◌, ◌≤◌, ◌<◌}
use Rattle.std.specs.Prelude.{◌≡◌, ◌≢◌, cond, List, [], ◌∷◌, ltb}
use Rattle.std.proofs.Math.Path.{refl, subst}
use Rattle.std.proofs.Common.{sym, ap, ◌∙◌, arith}
use Rattle.std.proofs.Math.Decide.{ℕ_discrete}
use Rattle.std.proofs.Math.ListN.{length}
use Rattle.std.specs.Borrow.{Bor}
use Rattle.rules.specs.declared.Fault.{Fault}
use Rattle.rules.specs.declared.Packed.{Packed}
use Rattle.rules.specs.declared.Pressed.{Pressed}
use Rattle.rules.specs.declared.Sided.{Sided}
use Rattle.rules.specs.declared.Planned.{Planned}
use Rattle.rules.specs.declared.Floored.{Floored}
use Rattle.rules.specs.declared.SheetRead.{SheetRead}
use Rattle.rules.specs.declared.SheetWritten.{SheetWritten}
use Rattle.rules.specs.declared.Why.{Why}
use Rattle.rules.specs.Tables.{at, cleared, Lent, cleared_network}
use Rattle.rules.specs.Limits.{Network}
use Rattle.rules.specs.Scan.{sum}
use Rattle.rules.specs.Plan.{net_of, highest, Valid}
use Rattle.rules.specs.Packing.{Order, Once}
use Rattle.rules.specs.Floor.{coarse_floor}
use Rattle.rules.specs.Better.{Bettered}
use Rattle.rules.specs.Calls.{Left, judging, packing, pressing, explaining, siding, improving, planning, flooring, reading, writing}
use Rattle.rules.specs.Figures.{net_t, three}
use Rattle.demands.specs.Witness.{net_two, net_one, one_path, label_a, answers, better_t, differs, cells_t}
use Rattle.table_laws.specs.Scans.{sum_same}
use Rattle.table_laws.specs.Orders.{own_order}
use Rattle.table_laws.specs.Limits.{network_within, order_once, once_order}
use Rattle.plan_laws.specs.Answers.{Packable, improving_packable, packable_improves}
use Rattle.plan_laws.specs.Runs.{run_after, run_kept}
use Rattle.demands.specs.OnImproving.{improving_highest, improving_kept}
use Rattle.demands.specs.Met.{Between}
use Rattle.demands.specs.OnFlooring.{stacked, flooring_met}

-- entry k of a list of numbers that were computed
pub entry : {xs ys : List ℕ} (k : ℕ) → xs ≡ ys → at xs k ≡ at ys k
entry k e = ap (λ (l : List ℕ). at l k) e

-- T is within the limits
pub network_t : Network 3 net_t
network_t = network_within 3 net_t (entry 9 answers) (entry 10 answers)

-- a program meets a definition
abbrev pub Meets : {Given Leaves : Type 0} → (Given → Leaves) → (Given → Leaves) → Type 0
Meets {Given} program definition = (g : Given) → program g ≡ definition g

-- the definitions of the calls, each over all that the call is given
abbrev Table : Type 0
Table = List ℕ

abbrev pub judging_of : ℕ × Lent × Table → Fault
judging_of (n, lent, starts) = judging n lent starts

abbrev pub packing_of : ℕ × Lent × Table × Table → Left Packed Table
packing_of (n, lent, order, starts) = packing n lent order starts

abbrev pub pressing_of : ℕ × Lent × Table → Left Pressed Table
pressing_of (n, lent, starts) = pressing n lent starts

abbrev pub explaining_of : ℕ × Lent × Table × ℕ × Table → Left Why Table
explaining_of (n, lent, starts, path, table) = explaining n lent starts path table

abbrev pub siding_of : ℕ × Lent × Table → Left Sided Table
siding_of (n, lent, order) = siding n lent order

abbrev pub planning_of : ℕ × Lent × Table × Table × ℕ × ℕ → Left Planned (Table × Table)
planning_of (n, lent, order, starts, seed, rounds) = planning n lent order starts seed rounds

abbrev pub improving_of : ℕ × Lent × Table × Table × ℕ × ℕ → Left Planned (Table × Table)
improving_of (n, lent, order, starts, seed, rounds) = improving n lent order starts seed rounds

abbrev pub flooring_of : ℕ × Lent × Table → Floored
flooring_of (n, lent, list) = flooring n lent list

abbrev pub reading_of : Table × Table × Lent × Table → Left SheetRead (Table × Lent × Table)
reading_of (text, labels, lent, starts) = reading text labels lent starts

abbrev pub writing_of : ℕ × Table × Lent × Table × Table → Left SheetWritten Table
writing_of (n, labels, lent, starts, text) = writing n labels lent starts text

-- (1) A program that refuses everything meets the definition of no call
abbrev pub Refuses : {Given Leaves : Type 0} → (Leaves → ℕ) → (Given → Leaves) → Type 0
Refuses {Given} number program = (g : Given) → number (program g) ≢ 0

pub refusing_unfit : {Given Leaves : Type 0} (number : Leaves → ℕ) (definition program : Given → Leaves) (given : Given) → number (definition given) ≡ 0
    → Meets program definition → Refuses number program → ⊥
refusing_unfit number definition program given done meets refuses = refuses given (ap number (meets given) ∙ done)

pub judge_refusing : (program : ℕ × Lent × Table → Fault) → Meets program judging_of → Refuses (λ r. r.number) program → ⊥
judge_refusing program = refusing_unfit (λ r. r.number) judging_of program (3, net_t, three 1 4 10) (entry 0 answers)

pub pack_refusing : (program : ℕ × Lent × Table × Table → Left Packed Table) → Meets program packing_of → Refuses (λ r. r.answer.number) program → ⊥
pack_refusing program = refusing_unfit (λ r. r.answer.number) packing_of program (3, net_t, three 0 1 2, three 0 0 0) (entry 1 answers)

pub press_refusing : (program : ℕ × Lent × Table → Left Pressed Table) → Meets program pressing_of → Refuses (λ r. r.answer.number) program → ⊥
press_refusing program = refusing_unfit (λ r. r.answer.number) pressing_of program (3, net_t, three 20 10 30) (entry 2 answers)

pub why_refusing : (program : ℕ × Lent × Table × ℕ × Table → Left Why Table) → Meets program explaining_of → Refuses (λ r. r.answer.number) program → ⊥
why_refusing program = refusing_unfit (λ r. r.answer.number) explaining_of program (3, net_t, three 1 4 10, 2, cleared 128 0) (entry 13 answers)

pub two_sides_refusing : (program : ℕ × Lent × Table → Left Sided Table) → Meets program siding_of → Refuses (λ r. r.answer.number) program → ⊥
two_sides_refusing program = refusing_unfit (λ r. r.answer.number) siding_of program (2, net_two, three 0 0 0) (entry 3 answers)

pub plan_refusing : (program : ℕ × Lent × Table × Table × ℕ × ℕ → Left Planned (Table × Table)) → Meets program planning_of → Refuses (λ r. r.answer.number) program → ⊥
plan_refusing program = refusing_unfit (λ r. r.answer.number) planning_of program (3, net_t, three 0 0 0, three 0 0 0, 1, 0) (entry 4 answers)

pub improve_refusing : (program : ℕ × Lent × Table × Table × ℕ × ℕ → Left Planned (Table × Table)) → Meets program improving_of → Refuses (λ r. r.answer.number) program → ⊥
improve_refusing program = refusing_unfit (λ r. r.answer.number) improving_of program (3, net_t, three 2 1 0, three 0 0 0, 1, 1) (entry 5 answers)

pub floor_refusing : (program : ℕ × Lent × Table → Floored) → Meets program flooring_of → Refuses (λ r. r.number) program → ⊥
floor_refusing program = refusing_unfit (λ r. r.number) flooring_of program (3, net_t, 0 ∷ 1 ∷ 2 ∷ []) (entry 6 answers)

pub read_refusing : (program : Table × Table × Lent × Table → Left SheetRead (Table × Lent × Table)) → Meets program reading_of → Refuses (λ r. r.answer.number) program → ⊥
read_refusing program = refusing_unfit (λ r. r.answer.number) reading_of program (one_path, cleared 1024 0, cleared_network, cleared 128 0) (entry 7 answers)

pub write_refusing : (program : ℕ × Table × Lent × Table × Table → Left SheetWritten Table) → Meets program writing_of → Refuses (λ r. r.answer.number) program → ⊥
write_refusing program = refusing_unfit (λ r. r.answer.number) writing_of program (1, label_a, net_one, three 0 0 0, cleared 100 0) (entry 8 answers)

-- the better of two refuses everything by handing back nothing: a program that meets it hands back three
-- entries for these two orders of T
abbrev Reference : Type 0
Reference = Bor Table

reference : Table → Reference
reference order = record { ref_ptr = (0, 0); now = order }

pub better_refusing : (program : ℕ → Lent → Reference → Reference → Reference)
    → ((n : ℕ) (lent : Lent) (first second : Reference) → Bettered n lent first second (program n lent first second))
    → ((n : ℕ) (lent : Lent) (first second : Reference) → (program n lent first second).now ≡ []) → ⊥
unfolding Bettered reference three
better_refusing program meets nothing =
    let one = reference (three 0 1 2) in
    let two = reference (three 1 0 2) in
    let part = rw better_t at (meets 3 net_t one two) in
    omega (arith, ap length (sym (nothing 3 net_t one two) ∙ part.cells))

-- (2) A packing with one constant answer wherever it answers: one highest slot for all, or one table of
-- starts for all
module _ (program : ℕ × Lent × Table × Table → Left Packed Table) (meets : Meets program packing_of) where
  abbrev given_order : Table → ℕ × Lent × Table × Table
  given_order order = (3, net_t, order, three 0 0 0)

  packs : (order : Table) → (packing 3 net_t order (three 0 0 0)).answer.number ≡ 0 → (program (given_order order)).answer.number ≡ 0
  packs order z = ap (λ (r : Left Packed Table). r.answer.number) (meets (given_order order)) ∙ z

  pub constant_highest_unfit : (constant : ℕ) → ((g : ℕ × Lent × Table × Table) → (program g).answer.number ≡ 0 → (program g).answer.highest ≡ constant) → ⊥
  constant_highest_unfit constant same =
      omega (arith, high (three 0 1 2) (entry 1 answers), high (three 1 0 2) (entry 11 answers), entry 0 differs, entry 1 differs)
    where
      high : (order : Table) → (packing 3 net_t order (three 0 0 0)).answer.number ≡ 0 → (packing 3 net_t order (three 0 0 0)).answer.highest ≡ constant
      high order z = sym (ap (λ (r : Left Packed Table). r.answer.highest) (meets (given_order order))) ∙ same (given_order order) (packs order z)

  pub constant_starts_unfit : (constant : Table) → ((g : ℕ × Lent × Table × Table) → (program g).answer.number ≡ 0 → (program g).tables ≡ constant) → ⊥
  constant_starts_unfit constant same =
      omega (arith, ap (λ (t : Table). at t 0) (start (three 0 1 2) (entry 1 answers) ∙ sym (start (three 1 0 2) (entry 11 answers))), entry 2 differs, entry 3 differs)
    where
      start : (order : Table) → (packing 3 net_t order (three 0 0 0)).answer.number ≡ 0 → (packing 3 net_t order (three 0 0 0)).tables ≡ constant
      start order z = sym (ap (λ (r : Left Packed Table). r.tables) (meets (given_order order))) ∙ same (given_order order) (packs order z)

-- (3) A pressing that hands its plan back untouched wherever it answers
pub untouched_unfit : (program : ℕ × Lent × Table → Left Pressed Table) → Meets program pressing_of
    → ((n : ℕ) (lent : Lent) (starts : Table) → (program (n, lent, starts)).answer.number ≡ 0 → (program (n, lent, starts)).tables ≡ starts) → ⊥
untouched_unfit program meets untouched =
    omega (arith, ap (λ (t : Table). at t 0) back, entry 4 differs, first_start)
  where
    pressed : program (3, net_t, three 20 10 30) ≡ pressing 3 net_t (three 20 10 30)
    pressed = meets (3, net_t, three 20 10 30)

    back : (pressing 3 net_t (three 20 10 30)).tables ≡ three 20 10 30
    back =
        sym (ap (λ (r : Left Pressed Table). r.tables) pressed)
        ∙ untouched 3 net_t (three 20 10 30) (ap (λ (r : Left Pressed Table). r.answer.number) pressed ∙ entry 2 answers)

    first_start : at (three 20 10 30) 0 ≡ 20
    first_start = unfold three in refl

-- (4) An improver that works in round one and idles after, and refuses 10,001 rounds rightly: wherever it
-- answers, more rounds leave what one round left
pub idle_unfit : (program : ℕ × Lent × Table × Table × ℕ × ℕ → Left Planned (Table × Table)) → Meets program improving_of
    → ((n : ℕ) (lent : Lent) (order starts : Table) (seed more : ℕ) → (program (n, lent, order, starts, seed, suc more)).answer.number ≡ 0
    → program (n, lent, order, starts, seed, suc more) ≡ program (n, lent, order, starts, seed, 1))
    → ⊥
idle_unfit program meets idles =
    omega (
      arith,
      ap (λ (r : Left Planned (Table × Table)). r.answer.highest) (sym (meets (given 2)) ∙ idles 3 net_t (three 2 1 0) (three 0 0 0) 1 1 done ∙ meets (given 1)),
      entry 5 differs,
      entry 6 differs,
    )
  where
    given : ℕ → ℕ × Lent × Table × Table × ℕ × ℕ
    given rounds = (3, net_t, three 2 1 0, three 0 0 0, 1, rounds)

    done : (program (given 2)).answer.number ≡ 0
    done = ap (λ (r : Left Planned (Table × Table)). r.answer.number) (meets (given 2)) ∙ entry 12 answers

-- (5) An invented number of kept swaps: it has to be the number of those rounds after which the program's
-- own highest slot is lower than before
pub invented_unfit : (program : ℕ × Lent × Table × Table × ℕ × ℕ → Left Planned (Table × Table)) → Meets program improving_of
    → (n : ℕ) (lent : Lent) (order starts : Table) (seed rounds : ℕ) → (program (n, lent, order, starts, seed, rounds)).answer.number ≡ 0
    → (program (n, lent, order, starts, seed, rounds)).answer.kept
    ≢ sum (λ i. cond (ltb (program (n, lent, order, starts, seed, suc i)).answer.highest (program (n, lent, order, starts, seed, i)).answer.highest) 1 0) rounds
    → ⊥
invented_unfit program meets n lent order starts seed rounds done invented = invented (kept_is ∙ sums rounds (omega arith))
  where
    accepted : (improving n lent order starts seed rounds).answer.number ≡ 0
    accepted = sym (ap (λ (r : Left Planned (Table × Table)). r.answer.number) (meets (n, lent, order, starts, seed, rounds))) ∙ done

    packable : Packable n lent order starts × (rounds ≤ 10000)
    packable = improving_packable n lent order starts seed rounds accepted

    -- after i rounds the program's highest slot is that of the defined rounds
    after : (i : ℕ) → i ≤ rounds → (program (n, lent, order, starts, seed, i)).answer.highest ≡ (run_after n lent order starts seed i).highest
    after i l =
        ap (λ (r : Left Planned (Table × Table)). r.answer.highest) (meets (n, lent, order, starts, seed, i))
        ∙ improving_highest n lent order starts seed i (packable_improves n lent order starts seed i packable.0 (omega (arith, packable.1)))

    kept_is : (program (n, lent, order, starts, seed, rounds)).answer.kept
        ≡ sum (λ i. cond (ltb (run_after n lent order starts seed (suc i)).highest (run_after n lent order starts seed i).highest) 1 0) rounds
    kept_is =
        ap (λ (r : Left Planned (Table × Table)). r.answer.kept) (meets (n, lent, order, starts, seed, rounds))
        ∙ improving_kept n lent order starts seed rounds accepted ∙ run_kept n lent order starts seed packable.0 rounds

    sums : (k : ℕ) → k ≤ rounds
        → sum (λ i. cond (ltb (run_after n lent order starts seed (suc i)).highest (run_after n lent order starts seed i).highest) 1 0) k
        ≡ sum (λ i. cond (ltb (program (n, lent, order, starts, seed, suc i)).answer.highest (program (n, lent, order, starts, seed, i)).answer.highest) 1 0) k
    sums k l = sum_same _ _ k (λ i g. rw (after (suc i) (omega arith), after i (omega arith)))

-- (6) A judging that says one number of slots, 0 or another, wherever it answers 8
pub constant_short_unfit : (program : ℕ × Lent × Table → Fault) → Meets program judging_of
    → (constant : ℕ) → ((g : ℕ × Lent × Table) → (program g).number ≡ 8 → (program g).short ≡ constant) → ⊥
constant_short_unfit program meets constant same =
    omega (arith, said (three 5 5 20) (entry 7 differs), said (three 9 5 20) (entry 9 differs), entry 8 differs, entry 10 differs)
  where
    said : (starts : Table) → (judging 3 net_t starts).number ≡ 8 → (judging 3 net_t starts).short ≡ constant
    said starts z =
        sym (ap (λ (f : Fault). f.short) (meets (3, net_t, starts)))
        ∙ same (3, net_t, starts) (ap (λ (f : Fault). f.number) (meets (3, net_t, starts)) ∙ z)

-- (7) A reason that never names another path; and one that says of no path that it can come down
pub alone_unfit : (program : ℕ × Lent × Table × ℕ × Table → Left Why Table) → Meets program explaining_of
    → ((given : ℕ × Lent × Table × ℕ × Table) → (program given).answer.number ≡ 0 → (program given).answer.length ≡ 1) → ⊥
alone_unfit program meets alone =
    let given : ℕ × Lent × Table × ℕ × Table = (3, net_t, three 1 4 10, 2, cleared 128 0) in
    let is = meets given in
    let one = alone given (ap (λ (r : Left Why Table). r.answer.number) is ∙ entry 13 answers) in
    omega (arith, one, ap (λ (r : Left Why Table). r.answer.length) is, entry 11 differs)

pub fixed_unfit : (program : ℕ × Lent × Table × ℕ × Table → Left Why Table) → Meets program explaining_of
    → ((given : ℕ × Lent × Table × ℕ × Table) → (program given).answer.number ≡ 0 → (program given).answer.down ≡ 0) → ⊥
fixed_unfit program meets fixed =
    let given : ℕ × Lent × Table × ℕ × Table = (3, net_t, three 20 10 30, 1, cleared 128 0) in
    let is = meets given in
    let none = fixed given (ap (λ (r : Left Why Table). r.answer.number) is ∙ entry 14 answers) in
    omega (arith, none, ap (λ (r : Left Why Table). r.answer.down) is, entry 12 differs)

-- (8) A floor that is the coarse one; one that no walk is longer than; one that is no more than along steps
-- that come to a path twice; one from the walks that begin at the first path of the list alone. Each wherever
-- it answers
list_t : Table
list_t = 0 ∷ 1 ∷ 2 ∷ []

-- each of three numbers
of_three : (P : ℕ → Type 0) → P 0 → P 1 → P 2 → (k : ℕ) → k < 3 → P k
of_three P x y z zero l = x
of_three P x y z (suc zero) l = y
of_three P x y z (suc (suc zero)) l = z
of_three P x y z (suc (suc (suc k))) l = absurd (omega arith)

-- no guard of T reaches past a path in between, so that a valid plan meets its floor, which is the best then
pub between_t : Between (net_of net_t) 3
between_t a b c h l g ab bc ac = of_three (λ a. (c : ℕ) → c < 3 → a ≢ c → (b : ℕ) → b < 3 → Room a b c)
    (of_three (λ c. 0 ≢ c → (b : ℕ) → b < 3 → Room 0 b c) (λ ne. absurd (ne refl)) (λ ne. of_three (λ b. Room 0 b 1) (omega (arith, cells)) (omega (arith, cells)) (omega (arith, cells))) (λ ne. of_three (λ b. Room 0 b 2) (omega (arith, cells)) (omega (arith, cells)) (omega (arith, cells))))
    (of_three (λ c. 1 ≢ c → (b : ℕ) → b < 3 → Room 1 b c) (λ ne. of_three (λ b. Room 1 b 0) (omega (arith, cells)) (omega (arith, cells)) (omega (arith, cells))) (λ ne. absurd (ne refl)) (λ ne. of_three (λ b. Room 1 b 2) (omega (arith, cells)) (omega (arith, cells)) (omega (arith, cells))))
    (of_three (λ c. 2 ≢ c → (b : ℕ) → b < 3 → Room 2 b c) (λ ne. of_three (λ b. Room 2 b 0) (omega (arith, cells)) (omega (arith, cells)) (omega (arith, cells))) (λ ne. of_three (λ b. Room 2 b 1) (omega (arith, cells)) (omega (arith, cells)) (omega (arith, cells))) (λ ne. absurd (ne refl))) a h c g ac b l
  where
    guard : ℕ → ℕ → ℕ
    guard i j = (net_of net_t).guard i j

    Room : ℕ → ℕ → ℕ → Type 0
    Room a b c = (net_of net_t).guard a c ≤ (net_of net_t).guard a b + (net_of net_t).width b + (net_of net_t).guard b c

    cells : (guard 0 1 ≡ 1) × (guard 1 2 ≡ 2) × (guard 0 2 ≡ 0) × (guard 2 1 ≡ 2) × (guard 2 0 ≡ 0) × (guard 1 0 ≡ 1) × ((net_of net_t).width 0 ≡ 2)
    cells = (entry 1 cells_t, entry 2 cells_t, entry 3 cells_t, entry 4 cells_t, entry 5 cells_t, entry 6 cells_t, entry 7 cells_t)

pub met_t : (plan : ℕ → ℕ) × Valid (net_of net_t) 3 plan × (highest (net_of net_t) plan 3 ≡ 10)
unfolding list_t
met_t = let m = flooring_met 3 net_t list_t (entry 6 answers) refl between_t in (m.0, m.1, m.2 ∙ entry 13 differs)

-- the paths of T, one above another in an order
stacked_t : (o : ℕ → ℕ) (a b c : ℕ) → o 0 ≡ a → o 1 ≡ b → o 2 ≡ c
    → stacked (net_of net_t) list_t o ≡ 9 + ((net_of net_t).guard (at list_t a) (at list_t b) + (net_of net_t).guard (at list_t b) (at list_t c))
unfolding list_t sum
stacked_t o a b c x y z = rw (x, y, z) (omega (arith, entry 0 cells_t))

-- from 0 to 2 and back
to_and_fro : ℕ → ℕ
to_and_fro zero = 0
to_and_fro (suc zero) = 2
to_and_fro (suc (suc i)) = 0

to_and_fro_small : (i : ℕ) → to_and_fro i < 3
unfolding to_and_fro
to_and_fro_small zero = omega arith
to_and_fro_small (suc zero) = omega arith
to_and_fro_small (suc (suc i)) = omega arith

module _ (program : ℕ × Lent × Table → Floored) (meets : Meets program flooring_of) where
  given : ℕ × Lent × Table
  given = (3, net_t, list_t)

  -- what holds wherever the program answers holds of its answer for T, which is 10
  tells : (P : ℕ × Lent × Table → ℕ → Type 0) → ((g : ℕ × Lent × Table) → (program g).number ≡ 0 → P g (program g).floor) → P given 10
  unfolding given list_t
  tells P holds =
      let is = meets given in
      subst (P given) (ap (λ (r : Floored). r.floor) is ∙ entry 13 differs) (holds given (ap (λ (r : Floored). r.number) is ∙ entry 6 answers))

  pub coarse_unfit : ((g : ℕ × Lent × Table) → (program g).number ≡ 0 → (program g).floor ≡ coarse_floor (net_of g.1) (at g.2) (length g.2)) → ⊥
  unfolding given list_t
  coarse_unfit same = let e = tells (λ g x. x ≡ coarse_floor (net_of g.1) (at g.2) (length g.2)) same in omega (arith, e, entry 14 differs)

  pub longest_unfit : ((g : ℕ × Lent × Table) → (program g).number ≡ 0 → (order : ℕ → ℕ) → Once order (length g.2) → stacked (net_of g.1) g.2 order ≤ (program g).floor) → ⊥
  unfolding given list_t
  longest_unfit most =
      let own : Once (λ i. i) 3 = order_once (λ i. i) 3 (own_order 3) in
      let e = tells (λ g x. (order : ℕ → ℕ) → Once order (length g.2) → stacked (net_of g.1) g.2 order ≤ x) most (λ i. i) own in
      omega (arith, e, stacked_t (λ i. i) 0 1 2 refl refl refl, entry 1 cells_t, entry 2 cells_t)

  pub twice_unfit : ((g : ℕ × Lent × Table) → (program g).number ≡ 0 → (steps : ℕ → ℕ) → ((i : ℕ) → i < length g.2 → steps i < length g.2) → (program g).floor ≤ stacked (net_of g.1) g.2 steps) → ⊥
  unfolding given list_t to_and_fro
  twice_unfit twice =
      let e = tells (λ g x. (steps : ℕ → ℕ) → ((i : ℕ) → i < length g.2 → steps i < length g.2) → x ≤ stacked (net_of g.1) g.2 steps) twice to_and_fro (λ i l. to_and_fro_small i) in
      omega (arith, e, stacked_t to_and_fro 0 2 0 refl refl refl, entry 3 cells_t, entry 5 cells_t)

  pub first_fixed_unfit : ((g : ℕ × Lent × Table) → (program g).number ≡ 0 → (order : ℕ → ℕ) × Once order (length g.2) × (order 0 ≡ 0) × ((program g).floor ≡ stacked (net_of g.1) g.2 order)) → ⊥
  unfolding given list_t
  first_fixed_unfit fixed = go (tells (λ g x. (order : ℕ → ℕ) × Once order (length g.2) × (order 0 ≡ 0) × (x ≡ stacked (net_of g.1) g.2 order)) fixed)
    where
      -- 0 and 1 and 2 come to 12, 0 and 2 and 1 to 11
      go : (order : ℕ → ℕ) × Once order 3 × (order 0 ≡ 0) × (10 ≡ stacked (net_of net_t) list_t order) → ⊥
      go (order, once, first, e) = pick (ℕ_discrete (order 1) 1)
        where
          ord : Order order 3 3
          ord = once_order order 3 once

          others : (order 1 < 3) × (order 2 < 3) × (order 1 ≢ 0) × (order 2 ≢ 0) × (order 1 ≢ order 2)
          others = (ord.inside 1 (omega arith), ord.inside 2 (omega arith), (λ z. ord.fresh 0 1 (omega arith) (omega arith) (first ∙ sym z)), (λ z. ord.fresh 0 2 (omega arith) (omega arith) (first ∙ sym z)), ord.fresh 1 2 (omega arith) (omega arith))

          pick : Dec (order 1 ≡ 1) → ⊥
          pick (yes y) = let z : order 2 ≡ 2 = omega (arith, others) in omega (arith, e, stacked_t order 0 1 2 first y z, entry 1 cells_t, entry 2 cells_t)
          pick (no y) = let x : order 1 ≡ 2 = omega (arith, others) in let z : order 2 ≡ 1 = omega (arith, others) in omega (arith, e, stacked_t order 0 2 1 first x z, entry 3 cells_t, entry 4 cells_t)
