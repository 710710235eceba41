-- A sheet that was read back is written again to the same bytes: the writer looks at the cells of n paths
-- alone. Assumes nothing.
use Rattle.std.specs.Prelude.{ℕ, zero, suc, ◌+◌, ◌*◌, ◌≤◌, ◌<◌, ◌≡◌, refl, Bool, ◌&&◌, drop, take, eqb}
use Rattle.std.proofs.Math.Path.{sym, ap}
use Rattle.std.proofs.Common.{◌∙◌, ext_get_or}
use Rattle.std.proofs.Math.Bool.{cond, not}
use mathlib.Core.List.{List}
use Rattle.std.proofs.Math.ListN.{length, length-take, length-drop}
use Rattle.std.proofs.Math.Seq.{get_or-take, get_or-drop}
use Rattle.std.proofs.Math.Dec.{ltb}
use native.Mathlib.Omega.{arith}
use Rattle.rules.specs.Tables.{at, cell, Lent, lend}
use Rattle.rules.specs.Scan.{found, sum}
use Rattle.rules.specs.Text.{is_label_byte, run}
use Rattle.rules.specs.Sheet.{is_row}
use Rattle.rules.specs.Writing.{label_of, bad_label, label_twice, is_pair, pairs, has_plan, join_from, path_text, guard_text, paths_text, guards_text, starts_text, sheet_text}
use Rattle.rules.specs.Calls.{writing}
use Rattle.table_laws.specs.Scans.{found_same, sum_same}
use Rattle.demands.specs.Kept.{front_in, kept_cells, kept_labels, cells_length, cells_at, labels_length, labels_at, row_kept, tab_length, tab_at}
use Rattle.demands.specs.GuardTrip.{kept_guards, square_of, square_in, kept_network}
use Rattle.demands.specs.SheetTrip.{sheet_of, written_sheet}
use Rattle.demands.specs.Writable.{Writable, writing_writable, writable_writing}

pub join_same : (f g : ℕ → List ℕ) (m k : ℕ) → ((i : ℕ) → i < k + m → f i ≡ g i) → join_from m k f ≡ join_from m k g
unfolding join_from
join_same f g zero k h = refl
join_same f g (suc m) k h = rw (h k (omega arith), join_same f g m (suc k) (λ i l. h i (omega arith)))

module _ (n : ℕ) (labels : List ℕ) (lent : Lent) (starts : List ℕ) (few : n ≤ 128) (long : length labels ≡ 1024) where
  abbrev L : List ℕ
  L = kept_labels n labels

  abbrev W : List ℕ
  W = kept_cells n lent.widths

  abbrev G : List ℕ
  G = kept_guards n lent.guards

  abbrev S : List ℕ
  S = kept_cells n starts

  cell_same : (table : List ℕ) (k : ℕ) → k < n → at (kept_cells n table) k ≡ at table k
  cell_same table k l = cells_at n table k (omega arith) ∙ front_in n table k l

  guard_same : (i j : ℕ) → i < n → j < n → at G (cell i j) ≡ at lent.guards (cell i j)
  unfolding kept_guards
  guard_same i j x y = tab_at 16384 (square_of n lent.guards) (cell i j) (omega arith) ∙ square_in n lent.guards (cell i j) (omega arith) (omega arith)

  label_same : (k : ℕ) → k < n → label_of L k ≡ label_of labels k
  unfolding label_of
  label_same k l =
      let a : length (take 8 (drop (8 * k) L)) ≡ 8 = omega (arith, length-take 8 (drop (8 * k) L), length-drop (8 * k) L, labels_length n labels) in
      let b : length (take 8 (drop (8 * k) labels)) ≡ 8 = omega (arith, length-take 8 (drop (8 * k) labels), length-drop (8 * k) labels) in
      ap (run is_label_byte)
      (ext_get_or 0 (take 8 (drop (8 * k) L)) (take 8 (drop (8 * k) labels)) (a ∙ sym b)
      (λ j g.
      let c : j < 8 = omega arith in
      get_or-take 8 (drop (8 * k) L) j 0 c ∙ get_or-drop (8 * k) L j 0 ∙ labels_at n labels (8 * k + j) (omega arith) ∙ front_in (8 * n) labels (8 * k + j) (omega arith)
      ∙ sym (get_or-take 8 (drop (8 * k) labels) j 0 c ∙ get_or-drop (8 * k) labels j 0)))

  pair_same : (i j : ℕ) → i < n → j < n → is_pair G i j ≡ is_pair lent.guards i j
  unfolding is_pair
  pair_same i j x y = ap (λ (g : ℕ). ltb i j && ltb g 255) (guard_same i j x y)

  pairs_same : pairs n G ≡ pairs n lent.guards
  unfolding pairs
  pairs_same =
      sum_same (λ i. sum (λ j. cond (is_pair G i j) 1 0) n) (λ i. sum (λ j. cond (is_pair lent.guards i j) 1 0) n) n
      (λ i x. sum_same (λ j. cond (is_pair G i j) 1 0) (λ j. cond (is_pair lent.guards i j) 1 0) n (λ j y. ap (λ (b : Bool). cond b 1 0) (pair_same i j x y)))

  plan_same : has_plan n S ≡ has_plan n starts
  unfolding has_plan
  plan_same = found_same (λ k. not (eqb (at S k) 0)) (λ k. not (eqb (at starts k) 0)) n (λ k l. ap (λ (x : ℕ). not (eqb x 0)) (cell_same starts k l))

  path_same : (table : List ℕ) (k : ℕ) → k < n → path_text L (kept_cells n table) k ≡ path_text labels table k
  unfolding path_text
  path_same table k l = rw (label_same k l, cell_same table k l)

  guard_text_same : (i j : ℕ) → i < n → j < n → guard_text L G i j ≡ guard_text labels lent.guards i j
  unfolding guard_text
  guard_text_same i j x y = rw (pair_same i j x y, label_same i x, label_same j y, guard_same i j x y)

  paths_same : (table : List ℕ) → join_from n 0 (path_text L (kept_cells n table)) ≡ join_from n 0 (path_text labels table)
  paths_same table = join_same (path_text L (kept_cells n table)) (path_text labels table) n 0 (λ i l. path_same table i (omega arith))

  guards_same : join_from n 0 (λ i. join_from n 0 (guard_text L G i)) ≡ join_from n 0 (λ i. join_from n 0 (guard_text labels lent.guards i))
  guards_same =
      join_same (λ i. join_from n 0 (guard_text L G i)) (λ i. join_from n 0 (guard_text labels lent.guards i)) n 0
      (λ i x. join_same (guard_text L G i) (guard_text labels lent.guards i) n 0 (λ j y. guard_text_same i j (omega arith) (omega arith)))

  -- the text of the kept cells is the text of all
  pub text_same : sheet_text n L (lend W G) S ≡ sheet_text n labels lent starts
  unfolding sheet_text paths_text guards_text starts_text
  text_same = rw (paths_same lent.widths, pairs_same, guards_same, plan_same, paths_same starts)

  -- each test of a kept label is the test of the label
  label_test_lem : (k : ℕ) → k < n → bad_label L k ≡ bad_label labels k
  unfolding bad_label
  label_test_lem k l = rw (label_same k l, row_kept labels n (label_of labels k) k few l)

  twice_test : (k : ℕ) → k < n → label_twice L k ≡ label_twice labels k
  unfolding label_twice
  twice_test k l =
      ap (λ (w : List ℕ). found (is_row L w) k) (label_same k l)
      ∙ found_same (is_row L (label_of labels k)) (is_row labels (label_of labels k)) k (λ i x. row_kept labels n (label_of labels k) i few (omega arith))

  guards_length : length G ≡ 16384
  unfolding kept_guards
  guards_length = tab_length 16384 0 (square_of n lent.guards)

  -- what the writer accepts it accepts again
  pub again_writable : Writable n labels lent starts → Writable n L (lend W G) S
  again_writable w = record {
    network = record {
      some = w.network.some;
      few = w.network.few;
      widths_size = cells_length n lent.widths;
      guards_size = guards_length;
      width = λ k l. rw (cell_same lent.widths k l) (w.network.width k l);
      guard = λ i j x y. rw (guard_same i j x y) (w.network.guard i j x y);
      diagonal = λ k l. guard_same k k l l ∙ w.network.diagonal k l;
      mirrored = λ i j x y. guard_same i j x y ∙ w.network.mirrored i j x y ∙ sym (guard_same j i y x);
    };
    labels_size = labels_length n labels;
    starts_size = cells_length n starts;
    formed = λ k l. label_test_lem k l ∙ w.formed k l;
    once = λ k l. twice_test k l ∙ w.once k l;
    not_many = omega (arith, pairs_same, w.not_many);
    planned = λ e k l. rw (cell_same starts k l) (w.planned (sym plan_same ∙ e) k l);
  }

-- what was written, read and written again, given room, is the same bytes, with `written_read`
pub written_again : (n : ℕ) (labels : List ℕ) (lent : Lent) (starts text text' : List ℕ) → (writing n labels lent starts text).answer.number ≡ 0
    → length (sheet_text n labels lent starts) ≤ length text'
    → ((writing n (kept_labels n labels) (kept_network n lent) (kept_cells n starts) text').answer.number ≡ 0)
    × (sheet_of (writing n (kept_labels n labels) (kept_network n lent) (kept_cells n starts) text') ≡ sheet_of (writing n labels lent starts text))
written_again n labels lent starts text text' z room =
    let w = (writing_writable n labels lent starts text z).0 in
    let same = text_same n labels lent starts w.network.few w.labels_size in
    let again = writable_writing n (kept_labels n labels) (kept_network n lent) (kept_cells n starts) text'
    (again_writable n labels lent starts w.network.few w.labels_size w) (omega (arith, ap length same)) in (
      again,
      written_sheet n (kept_labels n labels) (kept_network n lent) (kept_cells n starts) text' again ∙ same ∙ sym (written_sheet n labels lent starts text z),
    )
