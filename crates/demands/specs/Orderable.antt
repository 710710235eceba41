-- What the two calls of the order sheet accept (RULES 27): the tests of the tables find no fault exactly where
-- these hold, and the writer writes exactly where besides every path has a label of its own and a start and the
-- text has room. Then the order sheet stands in front of the text. Assumes nothing.
use Rattle.std.specs.Prelude.{ℕ, ◌≤◌, ◌<◌, ◌≡◌, ◌↔◌, false, drop, ltb, ℤ}
use Rattle.std.proofs.Math.Path.{refl, ap}
use Rattle.std.proofs.Common.{sym, ◌∙◌, arith}
use mathlib.Core.List.{List, ◌++◌}
use Rattle.std.proofs.Math.ListN.{length}
use Rattle.std.proofs.Math.Seq.{take-append_seam}
use borrow.Author.Tests.{ltb-false, le-ltb}
use Rattle.rules.specs.declared.SheetWritten.{SheetWritten}
use Rattle.rules.specs.Tables.{at, Lent}
use Rattle.rules.specs.Limits.{Network}
use Rattle.rules.specs.Text.{space, line_feed, order_word, numeral, signed_numeral}
use Rattle.rules.specs.Writing.{label_of, bad_label, label_twice, join_from, count_text}
use Rattle.rules.specs.Grid.{grid_number, order_line_text, order_text}
use Rattle.rules.specs.Numbers.{scan, size_fault, start_fault, label_sizes, order_read_fault, order_write_fault}
use Rattle.rules.specs.Calls.{Left, done_written, order_writing}
use Rattle.table_laws.specs.Faults.{refuse_not, refuse_clear, or_clear, or_none, scan_none, scan_clear, size_good, size_clear}
use Rattle.table_laws.specs.Limits.{clear_of, starts_within, within_starts}
use Rattle.table_laws.specs.Chains.{lent_clear, clear_lent}
use Rattle.plan_laws.specs.Answers.{unless_done, unless_clear}
use Rattle.demands.specs.SheetTrip.{sheet_of}
use Rattle.demands.specs.Grid.{Anchor, anchor_clear}

-- the tables of both calls, and the anchor, are within their limits
pub record OrderTables (anchor : ℤ) (n : ℕ) (labels : List ℕ) (lent : Lent) (starts : List ℕ) : Type 0 where
  pub network : Network n lent
  pub labels_size : length labels ≡ 1024
  pub starts_size : length starts ≡ 128
  pub anchored : Anchor anchor

-- and every path has a label of its own, and a start
pub record Orderable (anchor : ℤ) (n : ℕ) (labels : List ℕ) (lent : Lent) (starts : List ℕ) : Type 0 where
  pub tables : OrderTables anchor n labels lent starts
  pub formed : (k : ℕ) → k < n → bad_label labels k ≡ false
  pub once : (k : ℕ) → k < n → label_twice labels k ≡ false
  pub planned : (k : ℕ) → k < n → (1 ≤ at starts k) × (at starts k ≤ 16384)

module _ (anchor : ℤ) (n : ℕ) (labels : List ℕ) (lent : Lent) (starts : List ℕ) where
  pub tables_clear : (order_read_fault anchor n labels lent starts).number ≡ 0 → OrderTables anchor n labels lent starts
  unfolding order_read_fault label_sizes
  tables_clear z =
      let a = lent_clear n lent _ z in
      let b = or_clear _ _ a.1 in
      let c = or_clear _ _ b.0 in
      record { network = a.0; labels_size = size_clear labels 1024 c.0; starts_size = size_clear starts 128 c.1; anchored = (anchor_clear anchor).0 b.1 }

  pub clear_tables : OrderTables anchor n labels lent starts → (order_read_fault anchor n labels lent starts).number ≡ 0
  unfolding order_read_fault label_sizes
  clear_tables t =
      clear_lent n lent _ t.network (or_none _ _ (or_none _ _ (sized labels 1024 t.labels_size) (sized starts 128 t.starts_size)) ((anchor_clear anchor).1 t.anchored))
    where
      sized : (table : List ℕ) (size : ℕ) → length table ≡ size → (size_fault table size).number ≡ 0
      sized table size e = clear_of (sym (size_good table size e))

  module _ (text : List ℕ) where
    abbrev sheet : List ℕ
    sheet = order_text anchor n labels lent.widths starts

    order_clear : (order_write_fault anchor n labels lent starts text).number ≡ 0 → Orderable anchor n labels lent starts × (length sheet ≤ length text)
    unfolding order_write_fault
    order_clear z =
        let a = or_clear (order_read_fault anchor n labels lent starts) _ z in
        let l = or_clear (scan 11 (bad_label labels) n) _ a.1 in
        let t = or_clear (scan 12 (label_twice labels) n) _ l.1 in
        let s = or_clear (start_fault n starts) _ t.1 in
        let w = tables_clear a.0 in (
          record {
            tables = w;
            formed = scan_clear 11 (bad_label labels) n (omega arith) l.0;
            once = scan_clear 12 (label_twice labels) n (omega arith) t.0;
            planned = (starts_within n starts w.starts_size s.0).start;
          },
          ltb-false (length text) (length sheet) (refuse_clear (ltb (length text) (length sheet)) 16 0 (omega arith) s.1),
        )

    clear_order : Orderable anchor n labels lent starts → length sheet ≤ length text → (order_write_fault anchor n labels lent starts text).number ≡ 0
    unfolding order_write_fault
    clear_order w room =
        or_none _ _ (clear_tables w.tables)
        (or_none _ _ (clear_of (scan_none 11 (bad_label labels) n w.formed))
        (or_none _ _ (clear_of (scan_none 12 (label_twice labels) n w.once))
        (or_none _ _ (within_starts n starts (record { size = w.tables.starts_size; start = w.planned }))
        (clear_of (refuse_not (ltb (length text) (length sheet)) 16 0 (le-ltb (length text) (length sheet) room))))))

    -- the call answers 0 exactly there, and all that it leaves is the order sheet in front of the text
    pub order_exact : ((order_writing anchor n labels lent starts text).answer.number ≡ 0) ↔ (Orderable anchor n labels lent starts × (length sheet ≤ length text))
    unfolding order_writing
    order_exact = (
      λ z. order_clear (unless_clear (λ (r : Left SheetWritten (List ℕ)). r.answer.number) (order_write_fault anchor n labels lent starts text) _ _ refl z),
      λ h. ap (λ (r : Left SheetWritten (List ℕ)). r.answer.number) (unless_done (order_write_fault anchor n labels lent starts text) _ _ (clear_order h.0 h.1)),
    )

    pub order_done : (order_writing anchor n labels lent starts text).answer.number ≡ 0 → order_writing anchor n labels lent starts text ≡ done_written sheet text
    unfolding order_writing
    order_done z = let h = order_exact.0 z in unless_done (order_write_fault anchor n labels lent starts text) _ _ (clear_order h.0 h.1)

    pub written_order : (order_writing anchor n labels lent starts text).answer.number ≡ 0 → sheet_of (order_writing anchor n labels lent starts text) ≡ sheet
    written_order z = ap sheet_of (order_done z) ∙ take-append_seam sheet (drop (length sheet) text)

-- n and m as they are quoted: the count, and then path k's line, its label, the n of its start and width, and its
-- width
pub order_lines : (anchor : ℤ) (n : ℕ) (labels widths starts : List ℕ)
    → order_text anchor n labels widths starts
    ≡ count_text order_word n
    ++ join_from n 0 (λ k. label_of labels k ++ (space ++ (signed_numeral (grid_number anchor (at starts k) (at widths k)) ++ (space ++ (numeral (at widths k) ++ line_feed)))))
unfolding order_text order_line_text
order_lines anchor n labels widths starts = refl
