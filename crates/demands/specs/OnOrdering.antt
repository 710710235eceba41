-- The calls of the order sheet as they answer (RULES 27). `order_read`: a fault of the tables, or the first line
-- at fault, and then the starts are as they were; or the starts that the lines give. `order_write`: what it leaves
-- of the text. Assumes nothing.
use Rattle.std.specs.Prelude.{ℕ, ◌≤◌, ◌<◌, ◌≡◌, ◌≢◌, false, List, [], length, ℤ}
use Rattle.std.proofs.Math.Path.{refl, ap}
use Rattle.std.proofs.Common.{sym, subst, ◌∙◌, arith}
use Rattle.std.proofs.Math.Decide.{ℕ_discrete}
use Rattle.rules.specs.declared.OrderRead.{OrderRead}
use Rattle.rules.specs.declared.SheetWritten.{SheetWritten}
use Rattle.rules.specs.Tables.{at, Lent}
use Rattle.rules.specs.Limits.{KeptFrom, Starts}
use Rattle.rules.specs.Writing.{label_twice}
use Rattle.rules.specs.Grid.{order_from, order_text}
use Rattle.rules.specs.Numbers.{order_read_fault, order_write_fault}
use Rattle.rules.specs.Calls.{Left, left, order_writing, order_outcome, order_reading}
use Rattle.plan_laws.specs.Answers.{unless_done, unless_refused}
use Rattle.demands.specs.OnLeaving.{unless_is, front_kept}
use Rattle.demands.specs.SheetTrip.{sheet_of}
use Rattle.demands.specs.Orderable.{OrderTables, Orderable, tables_clear, clear_tables, order_exact, order_done, written_order}
use Rattle.demands.specs.LongestOrder.{order_most}
use Rattle.demands.specs.OrderTrip.{order_same}
use Rattle.demands.specs.OnOrderLines.{OrderWrong, OrderRight, OrderReads, wrong_at, rightly, order_reads, order_wrong, order_right, wrong_named}
use Rattle.demands.specs.OrderBack.{Taken, right_taken, right_text}

module _ (anchor : ℤ) (text : List ℕ) (n : ℕ) (labels : List ℕ) (lent : Lent) (starts : List ℕ) where
  abbrev left_behind : Left OrderRead (List ℕ)
  left_behind = order_reading anchor text n labels lent starts

  -- the tests of the tables come first
  pub ordering_tables : (OrderTables anchor n labels lent starts → ⊥)
      → left_behind ≡ left (record { number = (order_read_fault anchor n labels lent starts).number; place = (order_read_fault anchor n labels lent starts).place }) starts
  unfolding order_reading
  ordering_tables h = unless_refused (order_read_fault anchor n labels lent starts) _ _ (λ z. h (tables_clear anchor n labels lent starts z))

  module _ (s : OrderTables anchor n labels lent starts) where
    reading_on : left_behind ≡ order_outcome starts (order_from anchor n labels lent.widths starts text)
    unfolding order_reading
    reading_on = unless_done (order_read_fault anchor n labels lent starts) _ _ (clear_tables anchor n labels lent starts s)

    -- then the first line at fault: the starts are as they were
    pub ordering_halt : (x y : ℕ) → OrderWrong anchor n labels lent.widths starts text x y → left_behind ≡ left (record { number = x; place = y }) starts
    unfolding order_outcome
    ordering_halt x y h = reading_on ∙ rw (order_wrong anchor n labels lent.widths starts text x y h)

    -- or the starts that the lines give
    pub ordering_done : (t : List ℕ) → OrderRight anchor n labels lent.widths starts text t → left_behind ≡ left (record { number = 0; place = 0 }) t
    unfolding order_outcome
    ordering_done t h = reading_on ∙ rw (order_right anchor n labels lent.widths starts text t h)

  -- one of the three
  pub data OrderingSays : Type 0 where
    tables_wrong : (OrderTables anchor n labels lent starts → ⊥) → (order_read_fault anchor n labels lent starts).number ≢ 0
        → left_behind ≡ left (record { number = (order_read_fault anchor n labels lent starts).number; place = (order_read_fault anchor n labels lent starts).place }) starts
        → OrderingSays
    line_at_fault : OrderTables anchor n labels lent starts → (x y : ℕ) → OrderWrong anchor n labels lent.widths starts text x y → x ≢ 0
        → left_behind ≡ left (record { number = x; place = y }) starts → OrderingSays
    all_right : OrderTables anchor n labels lent starts → (t : List ℕ) → OrderRight anchor n labels lent.widths starts text t
        → left_behind ≡ left (record { number = 0; place = 0 }) t → OrderingSays

  pub ordering_says : OrderingSays
  ordering_says = go (ℕ_discrete (order_read_fault anchor n labels lent starts).number 0)
    where
      by : OrderTables anchor n labels lent starts → OrderReads anchor n labels lent.widths starts text → OrderingSays
      by s (wrong_at x y h) = line_at_fault s x y h (wrong_named anchor n labels lent.widths starts text x y h) (ordering_halt s x y h)
      by s (rightly t h) = all_right s t h (ordering_done s t h)

      go : Dec ((order_read_fault anchor n labels lent starts).number ≡ 0) → OrderingSays
      go (yes z) = by (tables_clear anchor n labels lent starts z) (order_reads anchor n labels lent.widths starts text)
      go (no z) = let h : OrderTables anchor n labels lent starts → ⊥ = λ s. z (clear_tables anchor n labels lent starts s) in tables_wrong h z (ordering_tables h)

  -- so 0 is answered exactly where the tables are within their limits and every line is right
  pub ordering_right : left_behind.answer.number ≡ 0 → OrderTables anchor n labels lent starts × OrderRight anchor n labels lent.widths starts text left_behind.tables
  ordering_right z = go ordering_says
    where
      number : {r s : Left OrderRead (List ℕ)} → r ≡ s → r.answer.number ≡ s.answer.number
      number e = ap (λ (r : Left OrderRead (List ℕ)). r.answer.number) e

      go : OrderingSays → OrderTables anchor n labels lent starts × OrderRight anchor n labels lent.widths starts text left_behind.tables
      go (tables_wrong h y e) = absurd (y (sym (number e) ∙ z))
      go (line_at_fault s x y h c e) = absurd (c (sym (number e) ∙ z))
      go (all_right s t h e) = (s, subst (OrderRight anchor n labels lent.widths starts text) (sym (ap (λ (r : Left OrderRead (List ℕ)). r.tables) e)) h)

  -- a refused reading leaves the starts unchanged
  pub ordering_refused : left_behind.answer.number ≢ 0 → left_behind.tables ≡ starts
  ordering_refused z = go ordering_says
    where
      go : OrderingSays → left_behind.tables ≡ starts
      go (tables_wrong h y e) = ap (λ (r : Left OrderRead (List ℕ)). r.tables) e
      go (line_at_fault s x y h c e) = ap (λ (r : Left OrderRead (List ℕ)). r.tables) e
      go (all_right s t h e) = absurd (z (ap (λ (r : Left OrderRead (List ℕ)). r.answer.number) e))

  -- one that is accepted: the starts are within their limits, and those past n are as they were; the text is the
  -- order sheet of these starts
  module _ (z : left_behind.answer.number ≡ 0) where
    tables : OrderTables anchor n labels lent starts
    tables = (ordering_right z).0

    taken : Taken anchor labels lent.widths starts (ordering_right z).1.l₁ n left_behind.tables []
    taken =
        right_taken anchor n labels lent.widths starts text left_behind.tables tables.labels_size tables.starts_size tables.network.few (ordering_right z).1

    pub ordering_past : KeptFrom n starts left_behind.tables
    ordering_past = taken.kept

    pub ordering_starts : Starts n left_behind.tables
    ordering_starts = record { size = taken.kept.size ∙ tables.starts_size; start = taken.planned }

    pub ordering_text : text ≡ order_text anchor n labels lent.widths left_behind.tables
    ordering_text =
        right_text anchor n labels lent.widths starts text left_behind.tables tables.labels_size tables.starts_size tables.network.few (ordering_right z).1

    -- so it has no more than 2,314 bytes
    read_tables : OrderTables anchor n labels lent left_behind.tables
    read_tables = record { network = tables.network; labels_size = tables.labels_size; starts_size = ordering_starts.size; anchored = tables.anchored }

    pub ordering_most : length text ≤ 2314
    ordering_most = omega (arith, ap length ordering_text, order_most anchor n labels lent left_behind.tables read_tables taken.planned)

    -- where no two labels are alike it is written back, given room, to the same text
    pub ordering_written : ((k : ℕ) → k < n → label_twice labels k ≡ false) → (room : List ℕ) → length text ≤ length room
        → ((order_writing anchor n labels lent left_behind.tables room).answer.number ≡ 0) × (sheet_of (order_writing anchor n labels lent left_behind.tables room) ≡ text)
    ordering_written once room fits =
        let w : Orderable anchor n labels lent left_behind.tables = record {
          tables = read_tables;
          formed = taken.formed;
          once = once;
          planned = taken.planned;
        } in
        let y = (order_exact anchor n labels lent left_behind.tables room).1 (w, omega (arith, ap length ordering_text)) in
        (y, written_order anchor n labels lent left_behind.tables room y ∙ sym ordering_text)

-- two texts that give the same starts are one text
pub one_order_sheet : (anchor : ℤ) (n : ℕ) (labels : List ℕ) (lent : Lent) (text text' starts starts' : List ℕ)
    → (order_reading anchor text n labels lent starts).answer.number ≡ 0 → (order_reading anchor text' n labels lent starts').answer.number ≡ 0
    → ((k : ℕ) → k < n → at (order_reading anchor text n labels lent starts).tables k ≡ at (order_reading anchor text' n labels lent starts').tables k) → text ≡ text'
one_order_sheet anchor n labels lent text text' starts starts' y z h =
    ordering_text anchor text n labels lent starts y
    ∙ order_same anchor n labels lent.widths (order_reading anchor text n labels lent starts).tables (order_reading anchor text' n labels lent starts').tables h
    ∙ sym (ordering_text anchor text' n labels lent starts' z)

-- `order_write`: a refused one leaves the text as it was, and one that is accepted what lies past the order sheet
module _ (anchor : ℤ) (n : ℕ) (labels : List ℕ) (lent : Lent) (starts text : List ℕ) where
  abbrev written : Left SheetWritten (List ℕ)
  written = order_writing anchor n labels lent starts text

  pub order_writing_refused : written.answer.number ≢ 0 → (written.answer.length ≡ 0) × (written.tables ≡ text)
  unfolding order_writing
  order_writing_refused z =
      let e = unless_is (λ (r : Left SheetWritten (List ℕ)). r.answer.number) (order_write_fault anchor n labels lent starts text) _ _ refl z in
      (ap (λ (r : Left SheetWritten (List ℕ)). r.answer.length) e, ap (λ (r : Left SheetWritten (List ℕ)). r.tables) e)

  pub order_writing_past : written.answer.number ≡ 0 → KeptFrom written.answer.length text written.tables
  order_writing_past z =
      rw (order_done anchor n labels lent starts text z)
      (front_kept (order_text anchor n labels lent.widths starts) text ((order_exact anchor n labels lent starts text).0 z).1)
