-- The plan program: for every sheet that is read it prints that sheet with a valid plan, which is itself
-- read back; for every other input it prints the refusal of the first line at fault. Assumes nothing.
use Prim.Native.Nat.{ℕ, ◌≤◌}
use Rattle.std.specs.Prelude.{◌≡◌, refl, ◌≢◌, Bool, true, eqb}
use Rattle.std.proofs.Common.{sym, ◌∙◌, eq-eqb, ne_eqb}
use Rattle.std.proofs.Math.Path.{ap}
use Rattle.std.proofs.Math.Bool.{false, not}
use mathlib.Core.List.{List, ◌++◌}
use native.Mathlib.Omega.{arith}
use Rattle.std.proofs.Math.ListN.{length, length-append}
use Rattle.rules.specs.declared.Planned.{Planned}
use Rattle.rules.specs.declared.SheetRead.{SheetRead}
use Rattle.rules.specs.Tables.{at, cleared, Lent, lend}
use Rattle.rules.specs.Limits.{Starts}
use Rattle.rules.specs.Text.{paths_word}
use Rattle.rules.specs.Plan.{Net, net_of, Valid}
use Rattle.rules.specs.Packing.{lowest}
use Rattle.rules.specs.Sides.{is_high, has_sides, two_sided}
use Rattle.rules.specs.Planning.{start_next, greedy}
use Rattle.rules.specs.Writing.{has_plan, join_from, count_text, path_text, paths_text, guards_text, starts_text, sheet_text}
use Rattle.rules.specs.Calls.{Left, left, reading, done_planned, done_improved, done_plan, planning, writing}
use Rattle.rules.specs.Program.{refusal_text, planned_text, on_sheet, printed}
use Rattle.table_laws.specs.Scans.{found_at}
use Rattle.table_laws.specs.Tables.{cleared_length}
use Rattle.plan_laws.specs.Arranged.{arranged_order, arranged_length}
use Rattle.plan_laws.specs.Sided.{sided_length, sided_order}
use Rattle.plan_laws.specs.Runs.{run_after, run_packable}
use Rattle.plan_laws.specs.Answers.{Packable, Plannable, plannable_planning}
use Rattle.sheet_laws.specs.Writes.{count_length}
use Rattle.demands.specs.OnLeaving.{planning_past}
use Rattle.demands.specs.OnPacking.{packed_starts, plan_valid, plan_starts}
use Rattle.demands.specs.Writable.{Writable}
use Rattle.demands.specs.Kept.{kept_cells, kept_labels}
use Rattle.demands.specs.GuardTrip.{kept_guards}
use Rattle.demands.specs.SheetTrip.{written_sheet, written_read}
use Rattle.demands.specs.Longest.{room_enough}
use Rattle.demands.specs.OnReading.{SheetTables, SheetWrong, sheet_named, sizes_right, reading_halt}
use Rattle.demands.specs.ReadCells.{PastCleared, reading_past, reading_writable, same_cells, same_labels, same_guards}

-- what planning leaves is the packing of some order, into the starts as they were
module _ (n : ℕ) (lent : Lent) (order starts : List ℕ) (seed rounds : ℕ) (p : Plannable n lent order starts seed rounds) where
  abbrev net : Net
  net = net_of lent

  room : n ≤ length order
  room = omega (arith, p.order_size, p.network.few)

  record Packing : Type 0 where
    its_order : List ℕ
    packable : Packable n lent its_order starts
    starts_are : (planning n lent order starts seed rounds).tables.1 ≡ packed_starts n lent its_order starts
    accepted : (planning n lent order starts seed rounds).answer.number ≡ 0

  some_packing : Packing
  some_packing = go (has_sides net n) refl
    where
      is : planning n lent order starts seed rounds ≡ done_plan net n order starts seed rounds
      is = plannable_planning n lent order starts seed rounds p

      first : Packable n lent (greedy (lowest net) n starts order n) starts
      first = record {
        network = p.network;
        order_size = arranged_length (start_next (lowest net) starts) n order room n ∙ p.order_size;
        starts_size = p.starts_size;
        whole = arranged_order (start_next (lowest net) starts) n order room n (omega arith);
      }

      sides_are : has_sides net n ≡ true → planning n lent order starts seed rounds ≡ done_planned net n (two_sided n (is_high net n) order) starts 0
      sides_are e = is ∙ (unfold done_plan in (rw e))

      none_are : has_sides net n ≡ false → planning n lent order starts seed rounds ≡ done_improved net n (greedy (lowest net) n starts order n) starts seed rounds
      none_are e = is ∙ (unfold done_plan in (rw e))

      go : (b : Bool) → has_sides net n ≡ b → Packing
      go true e = unfold done_planned in (record {
        its_order = two_sided n (is_high net n) order;
        packable = record { network = p.network; order_size = sided_length n (is_high net n) order room ∙ p.order_size; starts_size = p.starts_size; whole = sided_order n (is_high net n) order room };
        starts_are = ap (λ (r : Left Planned (List ℕ × List ℕ)). r.tables.1) (sides_are e);
        accepted = ap (λ (r : Left Planned (List ℕ × List ℕ)). r.answer.number) (sides_are e);
      })
      go false e = unfold done_improved done_planned in (record {
        its_order = (run_after n lent (greedy (lowest net) n starts order n) starts seed rounds).order;
        packable = run_packable n lent (greedy (lowest net) n starts order n) starts seed first rounds;
        starts_are = ap (λ (r : Left Planned (List ℕ × List ℕ)). r.tables.1) (none_are e);
        accepted = ap (λ (r : Left Planned (List ℕ × List ℕ)). r.answer.number) (none_are e);
      })

-- the input as the program reads it, into tables of its own
abbrev pub input_read : List ℕ → Left SheetRead (List ℕ × Lent × List ℕ)
input_read input = reading input (cleared 1024 0) (lend (cleared 128 0) (cleared 16384 0)) (cleared 128 0)

pub own_tables : SheetTables (cleared 1024 0) (lend (cleared 128 0) (cleared 16384 0)) (cleared 128 0)
own_tables = record { labels_size = cleared_length 1024 0; widths_size = cleared_length 128 0; guards_size = cleared_length 16384 0; starts_size = cleared_length 128 0 }

-- refused: one line, with the number and the line
pub printed_refused : (input : List ℕ) → (input_read input).answer.number ≢ 0 → printed input ≡ refusal_text (input_read input).answer.number (input_read input).answer.place
unfolding printed on_sheet
printed_refused input z = rw (ne_eqb (input_read input).answer.number 0 z)

pub printed_halt : (input : List ℕ) (x y : ℕ) → SheetWrong input x y → printed input ≡ refusal_text x y
printed_halt input x y h =
    let e = reading_halt input (cleared 1024 0) (lend (cleared 128 0) (cleared 16384 0)) (cleared 128 0) own_tables x y h in
    let number = ap (λ (r : Left SheetRead (List ℕ × Lent × List ℕ)). r.answer.number) e in
    let place = ap (λ (r : Left SheetRead (List ℕ × Lent × List ℕ)). r.answer.place) e in
    printed_refused input (λ q. (sheet_named input x y h).0 (sym number ∙ q)) ∙ (λ i. refusal_text (number i) (place i))

-- read: the sheet with its planned starts
module _ (input : List ℕ) (read : (input_read input).answer.number ≡ 0) where
  abbrev n : ℕ
  n = (input_read input).answer.n

  abbrev labels : List ℕ
  labels = (input_read input).tables.0

  abbrev lent : Lent
  lent = (input_read input).tables.1

  abbrev starts : List ℕ
  starts = (input_read input).tables.2

  -- seed 1 and 1,000 rounds
  abbrev pub plan : Left Planned (List ℕ × List ℕ)
  plan = planning n lent (cleared 128 0) starts 1 1000

  abbrev pub planned_starts : List ℕ
  planned_starts = plan.tables.1

  w : Writable n labels lent starts
  w = reading_writable input (cleared 1024 0) (lend (cleared 128 0) (cleared 16384 0)) (cleared 128 0) read

  past : PastCleared n labels lent starts
  past = reading_past input (cleared 1024 0) (lend (cleared 128 0) (cleared 16384 0)) (cleared 128 0) read

  plannable : Plannable n lent (cleared 128 0) starts 1 1000
  plannable = record { network = w.network; order_size = cleared_length 128 0; starts_size = w.starts_size; few = omega arith }

  made : Packing n lent (cleared 128 0) starts 1 1000 plannable
  made = some_packing n lent (cleared 128 0) starts 1 1000 plannable

  pub program_plans : plan.answer.number ≡ 0
  program_plans = made.accepted

  pub printed_starts : Starts n planned_starts
  printed_starts = rw made.starts_are (plan_starts n lent made.its_order starts made.packable)

  pub printed_valid : Valid (net_of lent) n (at planned_starts)
  printed_valid = rw made.starts_are (plan_valid n lent made.its_order starts made.packable)

  -- it is the packing of some order
  pub printed_packed : (order : List ℕ) × Packable n lent order starts × (planned_starts ≡ packed_starts n lent order starts)
  printed_packed = (made.its_order, made.packable, made.starts_are)

  planned_writable : Writable n labels lent planned_starts
  planned_writable = record {
    network = w.network;
    labels_size = w.labels_size;
    starts_size = printed_starts.size;
    formed = w.formed;
    once = w.once;
    not_many = w.not_many;
    planned = λ e k l. printed_starts.start k l;
  }

  pub program_writes : (writing n labels lent planned_starts (cleared 45489 0)).answer.number ≡ 0
  program_writes = room_enough n labels lent planned_starts (cleared 45489 0) planned_writable (omega (arith, cleared_length 45489 0))

  pub printed_sheet : printed input ≡ sheet_text n labels lent planned_starts
  unfolding printed on_sheet planned_text
  printed_sheet = rw (eq-eqb (input_read input).answer.number 0 read) (written_sheet n labels lent planned_starts (cleared 45489 0) program_writes)

  -- the plan is there, and the text is not empty
  pub printed_plan : has_plan n planned_starts ≡ true
  unfolding has_plan
  printed_plan =
      let s = printed_starts.start 0 (omega (arith, w.network.some)) in
      found_at (λ k. not (eqb (at planned_starts k) 0)) n 0 (omega (arith, w.network.some)) (ap not (ne_eqb (at planned_starts 0) 0 (λ e. omega (arith, s.0))))

  pub printed_some : 1 ≤ length (printed input)
  unfolding sheet_text paths_text
  printed_some =
      let P = join_from n 0 (path_text labels lent.widths) in
      omega (
        arith,
        ap length printed_sheet,
        length-append (count_text paths_word n ++ P) (guards_text n labels lent.guards ++ starts_text n labels planned_starts),
        length-append (count_text paths_word n) P,
        count_length paths_word n,
      )

  -- and it is read back, by anyone, to the same paths and guards with the planned starts
  pub printed_read : (labels' : List ℕ) (lent' : Lent) (starts' : List ℕ) → SheetTables labels' lent' starts'
      → reading (printed input) labels' lent' starts' ≡ left (record { number = 0; place = 0; n = n }) (labels, lent, planned_starts)
  printed_read labels' lent' starts' sizes =
      ap (λ (text : List ℕ). reading text labels' lent' starts') (printed_sheet ∙ sym (written_sheet n labels lent planned_starts (cleared 45489 0) program_writes))
      ∙ written_read n labels lent planned_starts (cleared 45489 0) program_writes labels' lent' starts' (sizes_right labels' lent' starts' sizes)
      ∙ sym (λ i. left (record { number = 0; place = 0; n = n }) (all_labels i, lend (all_widths i) (all_guards i), all_starts i))
    where
      all_labels : labels ≡ kept_labels n labels
      all_labels = same_labels n labels lent starts past w.labels_size

      all_widths : lent.widths ≡ kept_cells n lent.widths
      all_widths = same_cells n labels lent starts past lent.widths w.network.widths_size past.width_cells

      all_guards : lent.guards ≡ kept_guards n lent.guards
      all_guards = same_guards n labels lent starts past w.network.guards_size

      all_starts : planned_starts ≡ kept_cells n planned_starts
      all_starts =
          same_cells n labels lent starts past planned_starts printed_starts.size
          (λ k l. (planning_past n lent (cleared 128 0) starts 1 1000 program_plans).1.cells k l ∙ past.start_cells k l)
