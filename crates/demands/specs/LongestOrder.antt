-- The longest order sheet (RULES 27) has 2,314 bytes: none that is written has more, so a text of that size is
-- always enough, and one of that length is written, for which one byte less is no room. Assumes nothing.
use Rattle.std.specs.Prelude.{ℕ, suc, ◌≤◌, ◌<◌, ◌≡◌, refl, ◌≢◌, List, ℤ, pos, negsuc}
use Rattle.std.proofs.Common.{ap, ◌∙◌}
use Rattle.std.proofs.Math.ListN.{length, length-append}
use native.Mathlib.Omega.{arith}
use Rattle.rules.specs.declared.SheetWritten.{SheetWritten}
use Rattle.rules.specs.Tables.{at, cleared, Lent}
use Rattle.rules.specs.Text.{hyphen, order_word, spell, numeral, signed_numeral}
use Rattle.rules.specs.Writing.{join_from, count_text}
use Rattle.rules.specs.Grid.{grid_number, order_line_text, order_text}
use Rattle.rules.specs.Calls.{Left, order_writing}
use Rattle.table_laws.specs.Tables.{cleared_length, cleared_at}
use Rattle.sheet_laws.specs.Writes.{label_short, digits_few, count_length}
use Rattle.sheet_laws.specs.Grid.{order_line_length}
use Rattle.demands.specs.Longest.{two_digits, three_digits, four_digits, join_most}
use Rattle.demands.specs.LongestSheet.{longest_labels, longest_network, longest_starts, longest_writable, eight_bytes, join_exact}
use Rattle.demands.specs.Grid.{OnGrid, number_range}
use Rattle.demands.specs.Orderable.{OrderTables, Orderable, order_exact, order_done}

-- an n of the grid is spelled in at most five bytes
pub signed_few : (z : ℤ) → OnGrid z → length (signed_numeral z) ≤ 5
unfolding signed_numeral
signed_few (pos v) h = digits_few v (omega arith)
signed_few (negsuc v) h = omega (arith, length-append hyphen (numeral (suc v)), four_digits (suc v) (omega arith))

module _ (anchor : ℤ) (n : ℕ) (labels : List ℕ) (lent : Lent) (starts : List ℕ) where
  pub order_most : OrderTables anchor n labels lent starts → ((k : ℕ) → k < n → (1 ≤ at starts k) × (at starts k ≤ 16384)) → length (order_text anchor n labels lent.widths starts) ≤ 2314
  unfolding order_text
  order_most t planned =
      let net = t.network in
      let J = join_from n 0 (order_line_text anchor labels lent.widths starts) in
      let most = join_most 18 n 0 (order_line_text anchor labels lent.widths starts) (λ k l. each k (omega arith)) in
      omega (arith, net.few, length-append (count_text order_word n) J, count_length order_word n, three_digits n (omega (arith, net.few)))
    where
      each : (k : ℕ) → k < n → length (order_line_text anchor labels lent.widths starts k) ≤ 18
      each k l =
          let v = t.network.width k l in
          let s = planned k l in
          omega (
            arith,
            order_line_length anchor labels lent.widths starts k,
            label_short labels k,
            signed_few (grid_number anchor (at starts k) (at lent.widths k)) (number_range anchor (at starts k) (at lent.widths k) t.anchored s.0 s.1 v.0 v.1),
            two_digits (at lent.widths k) (omega arith),
          )

  -- no written order sheet is longer, and a text of 2,314 bytes has room for every one
  pub order_written_most : (text : List ℕ) → (order_writing anchor n labels lent starts text).answer.number ≡ 0 → (order_writing anchor n labels lent starts text).answer.length ≤ 2314
  order_written_most text z = rw (order_done anchor n labels lent starts text z) (let w = ((order_exact anchor n labels lent starts text).0 z).0 in order_most w.tables w.planned)

  pub order_room : (text : List ℕ) → Orderable anchor n labels lent starts → 2314 ≤ length text → (order_writing anchor n labels lent starts text).answer.number ≡ 0
  order_room text w room = (order_exact anchor n labels lent starts text).1 (w, omega (arith, order_most w.tables w.planned))

-- the paths of the longest sheet, from the highest anchor: each n is 33,854
pub longest_orderable : Orderable (pos 1024) 128 longest_labels longest_network longest_starts
longest_orderable = record {
  tables = record {
    network = longest_writable.network;
    labels_size = longest_writable.labels_size;
    starts_size = longest_writable.starts_size;
    anchored = record { steps = 2048; few = omega arith; is = refl };
  };
  formed = longest_writable.formed;
  once = longest_writable.once;
  planned = λ k l. let s = cleared_at 128 16384 k l in (omega arith, omega arith);
}

digits : (length (signed_numeral (grid_number (pos 1024) 16384 64)) ≡ 5) × (length (numeral 64) ≡ 2) × (length (numeral 128) ≡ 3)
unfolding grid_number signed_numeral numeral spell
digits = (refl, refl, refl)

pub longest_line : (k : ℕ) → k < 128 → length (order_line_text (pos 1024) longest_labels (cleared 128 64) longest_starts k) ≡ 18
longest_line k l =
    let same : length (signed_numeral (grid_number (pos 1024) (at longest_starts k) (at (cleared 128 64) k))) ≡ length (signed_numeral (grid_number (pos 1024) 16384 64))
    = rw (cleared_at 128 16384 k l, cleared_at 128 64 k l) in
    omega (arith, order_line_length (pos 1024) longest_labels (cleared 128 64) longest_starts k, eight_bytes k l, digits.0, ap (λ (v : ℕ). length (numeral v)) (cleared_at 128 64 k l), digits.1)

pub longest_order : length (order_text (pos 1024) 128 longest_labels (cleared 128 64) longest_starts) ≡ 2314
unfolding order_text
longest_order =
    let J = join_from 128 0 (order_line_text (pos 1024) longest_labels (cleared 128 64) longest_starts) in
    let each = join_exact 18 128 0 (order_line_text (pos 1024) longest_labels (cleared 128 64) longest_starts) (λ k l. longest_line k (omega arith)) in
    omega (arith, length-append (count_text order_word 128) J, count_length order_word 128, digits.2)

-- it is written, and a text that is one byte shorter has no room for it
pub longest_ordered : (order_writing (pos 1024) 128 longest_labels longest_network longest_starts (cleared 2314 0)).answer ≡ record { number = 0; place = 0; length = 2314 }
longest_ordered =
    let z = order_room (pos 1024) 128 longest_labels longest_network longest_starts (cleared 2314 0) longest_orderable (omega (arith, cleared_length 2314 0)) in
    ap (λ (r : Left SheetWritten (List ℕ)). r.answer) (order_done (pos 1024) 128 longest_labels longest_network longest_starts (cleared 2314 0) z)
    ∙ ap (λ (k : ℕ). record { number = 0; place = 0; length = k }) longest_order

pub order_tight : (text : List ℕ) → length text ≤ 2313 → (order_writing (pos 1024) 128 longest_labels longest_network longest_starts text).answer.number ≢ 0
order_tight text short z = omega (arith, ((order_exact (pos 1024) 128 longest_labels longest_network longest_starts text).0 z).1, longest_order)
