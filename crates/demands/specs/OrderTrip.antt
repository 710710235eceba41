-- What `order_write` writes, `order_read` reads back beside the same network and anchor to the same starts (RULES
-- 27): the first n, and the cells past n stay those of the lent table. Written again it is the same bytes. Assumes
-- nothing.
use Prim.Native.Nat.{ℕ, zero, suc, ◌≤◌, ◌<◌}
use Rattle.std.specs.Prelude.{◌≡◌, length, set, take, drop, ℤ, pos, negsuc, nat_abs}
use Rattle.std.proofs.Math.Path.{refl}
use Rattle.std.proofs.Common.{sym, ap, subst, ◌∙◌, zero-add, arith, length-take-le, get_or-take}
use mathlib.Core.List.{List, [], ◌∷◌, ◌++◌, append-nil}
use Rattle.std.proofs.Math.ListN.{get_or-append}
use Rattle.rules.specs.declared.OrderRead.{OrderRead}
use Rattle.rules.specs.Tables.{at, Lent}
use Rattle.rules.specs.Limits.{KeptFrom}
use Rattle.rules.specs.Text.{order_word}
use Rattle.rules.specs.Sheet.{Line, right, done, lines, after, ended}
use Rattle.rules.specs.Writing.{label_of, join_from, count_text}
use Rattle.rules.specs.Grid.{grid_number, order_line, order_step, order_from, order_line_text, order_text}
use Rattle.rules.specs.Calls.{Left, left, order_writing, order_outcome, order_reading}
use Rattle.sheet_laws.specs.Writes.{label_short, good_label}
use Rattle.sheet_laws.specs.Lines.{order_fine}
use Rattle.plan_laws.specs.Answers.{unless_done}
use Rattle.demands.specs.RoundTrip.{label_all, lines_back}
use Rattle.demands.specs.SheetTrip.{sheet_of}
use Rattle.demands.specs.SameBytes.{join_same}
use Rattle.demands.specs.OnLeaving.{front_kept}
use Rattle.demands.specs.Grid.{OnGrid, start_back, number_range}
use Rattle.demands.specs.Orderable.{Orderable, clear_tables, order_exact, written_order}
use Rattle.demands.specs.OrderForms.{ordered_line, order_trip}
use Rattle.demands.specs.OnOrderLines.{after_count}

-- the first n cells of one table, laid over another
abbrev pub laid : ℕ → List ℕ → List ℕ → List ℕ
laid n table under = take n table ++ drop n under

pub laid_in : (n : ℕ) (table under : List ℕ) (k : ℕ) → n ≤ length table → k < n → at (laid n table under) k ≡ at table k
laid_in n table under k h l = get_or-append (take n table) (drop n under) 0 k (omega (arith, length-take-le n table h)) ∙ get_or-take n table k 0 l

pub laid_kept : (n : ℕ) (table under : List ℕ) → n ≤ length table → n ≤ length under → KeptFrom n under (laid n table under)
laid_kept n table under h g =
    let e = length-take-le n table h in
    subst (λ (m : ℕ). KeptFrom m under (take n table ++ drop m under)) e (front_kept (take n table) under (omega arith))

laid_more : (k : ℕ) (table under : List ℕ) → k < length table → k < length under → set (laid k table under) k (at table k) ≡ laid (suc k) table under
laid_more k [] under h g = absurd (omega arith)
laid_more k (x ∷ table) [] h g = absurd (omega arith)
laid_more zero (x ∷ table) (y ∷ under) h g = refl
laid_more (suc k) (x ∷ table) (y ∷ under) h g = ap (λ (l : List ℕ). x ∷ l) (laid_more k table under (omega arith) (omega arith))

-- the writer looks at the starts of n paths alone
pub order_same : (anchor : ℤ) (n : ℕ) (labels widths s t : List ℕ) → ((k : ℕ) → k < n → at s k ≡ at t k) → order_text anchor n labels widths s ≡ order_text anchor n labels widths t
unfolding order_text
order_same anchor n labels widths s t h = ap (λ (l : List ℕ). count_text order_word n ++ l) (join_same _ _ n 0 (λ k l. line k (h k (omega arith))))
  where
    line : (k : ℕ) → at s k ≡ at t k → order_line_text anchor labels widths s k ≡ order_line_text anchor labels widths t k
    line k e = unfold order_line_text in (rw e)

grid_few : (z : ℤ) → OnGrid z → nat_abs z < 100000
grid_few (pos v) h = omega arith
grid_few (negsuc v) h = omega arith

module _ (anchor : ℤ) (n : ℕ) (labels : List ℕ) (lent : Lent) (starts : List ℕ) (w : Orderable anchor n labels lent starts) (under : List ℕ) (size : length under ≡ 128) where
  abbrev step : ℕ → List ℕ → List ℕ → Line (List ℕ)
  step = order_step anchor labels lent.widths

  pub line_back : (k : ℕ) → k < n → (l : List ℕ) → step k (laid k starts under) (order_line_text anchor labels lent.widths starts k ++ l) ≡ right (laid (suc k) starts under) l
  line_back k h l =
      let few = w.tables.network.few in
      let v = w.tables.network.width k h in
      let s = w.planned k h in
      let m = at lent.widths k in
      let g = grid_number anchor (at starts k) m in
      let good = good_label labels k (w.formed k h) in
      let short = grid_few g (number_range anchor (at starts k) m w.tables.anchored s.0 s.1 v.0 v.1) in
      order_fine anchor labels lent.widths k (laid k starts under) (order_line_text anchor labels lent.widths starts k ++ l) (label_of labels k) g m l
      (flat ∙ order_trip (label_of labels k) g m l (label_all labels k) good.0 (label_short labels k) short (omega arith))
      good.1 refl (at starts k) (sym (start_back anchor (at starts k) m s.0 s.1)) s.0
      ∙ ap (λ (t : List ℕ). right t l) (laid_more k starts under (omega (arith, w.tables.starts_size)) (omega arith))
    where
      flat : order_line (order_line_text anchor labels lent.widths starts k ++ l)
          ≡ order_line (ordered_line (label_of labels k) (grid_number anchor (at starts k) (at lent.widths k)) (at lent.widths k) ++ l)
      flat = unfold order_line_text in refl

  pub order_back : order_from anchor n labels lent.widths under (order_text anchor n labels lent.widths starts) ≡ done (laid n starts under) []
  order_back =
      after_count anchor n labels lent.widths under (order_text anchor n labels lent.widths starts) J (record { number = omega (arith, w.tables.network.few); text = unfold order_text in refl })
      ∙ (unfold after ended in (rw all))
    where
      J : List ℕ
      J = join_from n 0 (order_line_text anchor labels lent.widths starts)

      all : lines step 2 n 0 under J ≡ done (laid n starts under) []
      all =
          ap (λ (l : List ℕ). lines step 2 n 0 under l) (sym (append-nil J))
          ∙ lines_back step 2 n (λ k. laid k starts under) (order_line_text anchor labels lent.widths starts) line_back n 0 (omega arith) []
          ∙ ap (λ (m : ℕ). done (laid m starts under) []) (zero-add n)

-- the calls
module _ (anchor : ℤ) (n : ℕ) (labels : List ℕ) (lent : Lent) (starts text : List ℕ) (z : (order_writing anchor n labels lent starts text).answer.number ≡ 0) (under : List ℕ) (size : length under ≡ 128) where
  w : Orderable anchor n labels lent starts
  w = ((order_exact anchor n labels lent starts text).0 z).0

  few : n ≤ 128
  few = w.tables.network.few

  -- all that the reading answers and leaves
  pub written_order_read : order_reading anchor (sheet_of (order_writing anchor n labels lent starts text)) n labels lent under ≡ left (record { number = 0; place = 0 }) (laid n starts under)
  unfolding order_reading order_outcome
  written_order_read =
      unless_done _ _ _ (clear_tables anchor n labels lent under (record { network = w.tables.network; labels_size = w.tables.labels_size; starts_size = size; anchored = w.tables.anchored }))
      ∙ rw (written_order anchor n labels lent starts text z, order_back anchor n labels lent starts w under size)

  -- so the starts are those written, and past them nothing has changed
  pub written_order_starts : (k : ℕ) → k < n → at (order_reading anchor (sheet_of (order_writing anchor n labels lent starts text)) n labels lent under).tables k ≡ at starts k
  written_order_starts k l =
      ap (λ (r : Left OrderRead (List ℕ)). at r.tables k) written_order_read ∙ laid_in n starts under k (omega (arith, few, w.tables.starts_size)) l

  again : Orderable anchor n labels lent (laid n starts under)
  again = record {
    tables = record {
      network = w.tables.network;
      labels_size = w.tables.labels_size;
      starts_size = (laid_kept n starts under (omega (arith, few, w.tables.starts_size)) (omega (arith, few))).size ∙ size;
      anchored = w.tables.anchored;
    };
    formed = w.formed;
    once = w.once;
    planned = λ k l. rw (laid_in n starts under k (omega (arith, few, w.tables.starts_size)) l) (w.planned k l);
  }

  -- what was read is written again, given room, to the same bytes
  pub written_order_again : (text' : List ℕ) → length (order_text anchor n labels lent.widths starts) ≤ length text'
      → ((order_writing anchor n labels lent (laid n starts under) text').answer.number ≡ 0)
      × (sheet_of (order_writing anchor n labels lent (laid n starts under) text') ≡ sheet_of (order_writing anchor n labels lent starts text))
  written_order_again text' room =
      let same = order_same anchor n labels lent.widths (laid n starts under) starts (λ k l. laid_in n starts under k (omega (arith, few, w.tables.starts_size)) l) in
      let y = (order_exact anchor n labels lent (laid n starts under) text').1 (again, omega (arith, ap length same)) in
      (y, written_order anchor n labels lent (laid n starts under) text' y ∙ same ∙ sym (written_order anchor n labels lent starts text z))
