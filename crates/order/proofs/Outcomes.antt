-- What both calls know of tables that are not refused, and what they leave. Assumes nothing.
use Rattle.std.specs.Prelude.{ℕ, ◌≤◌, ◌≡◌, ℤ, List, length, Ok, Err}
use Rattle.std.proofs.Common.{sym, ap, ◌∙◌, arith}
use Rattle.rules.specs.declared.Fault.{Fault}
use Rattle.rules.specs.declared.Refusal.{Refusal}
use Rattle.rules.specs.Tables.{Lent}
use Rattle.rules.specs.Limits.{Network}
use Rattle.rules.specs.Writing.{bad_label, label_twice}
use Rattle.rules.specs.Grid.{order_from, order_text}
use Rattle.rules.specs.Numbers.{no_fault, ◌or_else◌, scan, start_fault, label_sizes, anchor_fault, order_read_fault, order_write_fault, room_fault}
use Rattle.rules.specs.Calls.{left, unless, refused_written, done_written, order_outcome, order_reading, order_writing}
use Rattle.rules.specs.Told.{refused, order_read_of}
use Rattle.table_laws.specs.Faults.{or_clear, or_assoc}
use Rattle.table_laws.specs.Limits.{starts_within}
use Rattle.table_laws.specs.Chains.{lent_clear}
use Rattle.table_laws.specs.Results.{unless_err, unless_ok}
use Rattle.sheet_laws.specs.Sizes.{labels_clear}
use Rattle.sheet_laws.specs.Shorts.{or_short, scan_short, start_short, order_short}
use Rattle.sections.specs.Says.{ended_of}
use Rattle.order_writer.specs.Ready.{Ready}
use Rattle.order.specs.Tests.{table_fault}

-- tables that pass what both calls test
pub record Passed (anchor : ℤ) (n : ℕ) (labels : List ℕ) (lent : Lent) (starts : List ℕ) : Type 0 where
  pub network : Network n lent
  pub labels_size : length labels ≡ 1024
  pub starts_size : length starts ≡ 128
  pub in_range : (anchor_fault anchor).number ≡ 0

module _ (anchor : ℤ) (n : ℕ) (labels : List ℕ) (lent : Lent) (starts : List ℕ) where
  pub lent_passed : (order_read_fault anchor n labels lent starts).number ≡ 0 → Passed anchor n labels lent starts
  unfolding order_read_fault
  lent_passed z =
      let a = lent_clear n lent (label_sizes labels starts or_else anchor_fault anchor) z in
      let b = or_clear _ _ a.1 in
      let l = labels_clear labels starts b.0 in
      record { network = a.0; labels_size = l.0; starts_size = l.1; in_range = b.1 }

  -- those that an order sheet is written from
  pub table_passed : (table_fault anchor n labels lent starts).number ≡ 0 → Passed anchor n labels lent starts
  unfolding table_fault
  table_passed z = lent_passed (or_clear _ _ z).0

  -- none of their tests says that slots are short
  pub table_short : (table_fault anchor n labels lent starts).short ≡ 0
  unfolding table_fault
  table_short = or_short _ _ (order_short anchor n labels lent starts) (or_short _ _ (scan_short 11 _ n) (or_short _ _ (scan_short 12 _ n) (start_short n starts)))

  pub table_ready : (low : ℕ) → 98976 ≤ low → low ≤ 101024 → (table_fault anchor n labels lent starts).number ≡ 0 → Ready low n labels lent.widths starts
  unfolding table_fault
  table_ready low least most z =
      let a = or_clear _ _ z in
      let p = lent_passed a.0 in
      let s = starts_within n starts p.starts_size (or_clear _ _ (or_clear _ _ a.1).1).1 in
      let few = p.network.few in
      record {
        few = few;
        block = λ k l. record {
          least = least;
          most = most;
          row = omega (arith, p.labels_size);
          in_widths = omega (arith, p.network.widths_size);
          in_starts = omega (arith, p.starts_size);
          narrow = (p.network.width k l).1;
          first = (s.start k l).0;
          last = (s.start k l).1;
        };
      }

  module _ (text : List ℕ) where
    -- the tests of a writing in their order: 16 is the last
    in_order : order_write_fault anchor n labels lent starts text ≡ (table_fault anchor n labels lent starts or_else room_fault (order_text anchor n labels lent.widths starts) text)
    unfolding order_write_fault table_fault
    in_order =
        let w = order_read_fault anchor n labels lent starts in
        let l = scan 11 (bad_label labels) n in
        let t = scan 12 (label_twice labels) n in
        let q = start_fault n starts in
        let room = room_fault (order_text anchor n labels lent.widths starts) text in
        sym (or_assoc w (l or_else t or_else q) room ∙ ap (λ (x : Fault). w or_else x) (or_assoc l (t or_else q) room) ∙ ap (λ (x : Fault). w or_else l or_else x) (or_assoc t q room))

    pub writing_is : unless (table_fault anchor n labels lent starts or_else room_fault (order_text anchor n labels lent.widths starts) text) (refused_written text) (done_written (order_text anchor n labels lent.widths starts) text)
        ≡ order_writing anchor n labels lent starts text
    unfolding order_writing
    writing_is = ap (λ (x : Fault). unless x (refused_written text) (done_written (order_text anchor n labels lent.widths starts) text)) (sym in_order)

    -- a reading: refused by its tables, by a line, and done
    pub read_refused : (r : Refusal) → refused r ≡ order_read_fault anchor n labels lent starts → left (order_read_of (Err r)) starts ≡ order_reading anchor text n labels lent starts
    unfolding order_reading
    read_refused r e = sym (unless_err _ _ r e)

    module _ (e : no_fault ≡ order_read_fault anchor n labels lent starts) where
      read_on : order_outcome starts (order_from anchor n labels lent.widths starts text) ≡ order_reading anchor text n labels lent starts
      unfolding order_reading
      read_on = sym (unless_ok _ _ e)

      pub read_halt : (r : Refusal) (t : List ℕ) → ended_of t (Err r) ≡ order_from anchor n labels lent.widths starts text
          → left (order_read_of (Err r)) starts ≡ order_reading anchor text n labels lent starts
      unfolding order_outcome
      read_halt r t h = ap (order_outcome starts) h ∙ read_on

      pub read_done : (t : List ℕ) → ended_of t (Ok tt) ≡ order_from anchor n labels lent.widths starts text
          → left (order_read_of (Ok tt)) t ≡ order_reading anchor text n labels lent starts
      unfolding order_outcome
      read_done t h = ap (order_outcome starts) h ∙ read_on
