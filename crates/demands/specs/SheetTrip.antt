-- A whole sheet: what the writer writes, the reader reads back to the same n, labels, widths, guards and
-- starts, cells past n cleared. Assumes nothing.
use Prim.Native.Nat.{ℕ, ◌+◌, ◌<◌}
use Rattle.std.specs.Prelude.{◌≡◌, Bool, cond, length, drop, take}
use Rattle.std.proofs.Math.Path.{refl, sym}
use Rattle.std.proofs.Common.{ap, ◌∙◌, true≢false, length-append, arith}
use Rattle.std.proofs.Math.Bool.{true, false, not}
use mathlib.Core.List.{List, [], ◌++◌, append_assoc, append-nil}
use Rattle.std.proofs.Math.Seq.{drop-length, take-append_seam}
use Rattle.std.proofs.Math.Dec.{eqb}
use Rattle.std.proofs.Math.Decide.{dec_lt}
use borrow.Author.Tests.{eqb-true, eq-eqb}
use Rattle.rules.specs.declared.SheetWritten.{SheetWritten}
use Rattle.rules.specs.Tables.{at, cleared, Lent, cleared_network}
use Rattle.rules.specs.Text.{paths_word, guards_word, starts_word}
use Rattle.rules.specs.Sheet.{done, lines, count_line, path_step, start_step, after, starts_part, guards_part, sheet_from}
use Rattle.rules.specs.Writing.{pairs, has_plan, join_from, count_text, path_text, guard_text, paths_text, guards_text, starts_text, sheet_text}
use Rattle.rules.specs.Numbers.{sheet_sizes, write_fault}
use Rattle.rules.specs.Calls.{Left, left, unless, read_outcome, reading, writing}
use Rattle.table_laws.specs.Scans.{found_not}
use Rattle.table_laws.specs.Tables.{cleared_length, cleared_at}
use Rattle.sheet_laws.specs.Lines.{starts_none, starts_some, part_done, guards_rest, sheet_done}
use Rattle.sheet_laws.specs.Writes.{count_length}
use Rattle.demands.specs.Writable.{Writable, writing_writable, clear_write}
use Rattle.demands.specs.Kept.{front, front_in, front_past, kept_cells, kept_labels, cells_is, cells_none, labels_none}
use Rattle.demands.specs.RoundTrip.{count_trip, paths_back, starts_back}
use Rattle.demands.specs.GuardTrip.{kept_guards, guards_back, kept_network}

module _ (n : ℕ) (labels : List ℕ) (lent : Lent) (starts : List ℕ) (ok : Writable n labels lent starts) where
  -- no plan: the n starts are zero
  no_starts : has_plan n starts ≡ false → cleared 128 0 ≡ kept_cells n starts
  unfolding has_plan
  no_starts e = cells_is n starts (cleared 128 0) (cleared_length 128 0) (λ k l. cleared_at 128 0 k l ∙ sym (go k (dec_lt k n)))
    where
      zero_start : (k : ℕ) → not (eqb (at starts k) 0) ≡ false → at starts k ≡ 0
      zero_start k = by (eqb (at starts k) 0) refl
        where
          by : (b : Bool) → eqb (at starts k) 0 ≡ b → not b ≡ false → at starts k ≡ 0
          by true p q = eqb-true (at starts k) 0 p
          by false p q = absurd (true≢false q)

      go : (k : ℕ) → Dec (k < n) → front n starts k ≡ 0
      go k (yes l) = front_in n starts k l ∙ zero_start k (found_not (λ k. not (eqb (at starts k) 0)) n e k l)
      go k (no l) = front_past n starts k (omega arith)

  pub starts_trip : (line : ℕ) → starts_part n line (kept_labels n labels) (cleared 128 0) (starts_text n labels starts) ≡ done (kept_cells n starts) []
  unfolding starts_text
  starts_trip line = go (has_plan n starts) refl
    where
      J : List ℕ
      J = join_from n 0 (path_text labels starts)

      with_plan_lem : has_plan n starts ≡ true → starts_part n line (kept_labels n labels) (cleared 128 0) (count_text starts_word n ++ J) ≡ done (kept_cells n starts) []
      with_plan_lem e =
          let few = ok.network.few in
          let s = count_text starts_word n ++ J in
          let long : 0 < length s = omega (arith, length-append (count_text starts_word n) J, count_length starts_word n) in
          let back : lines (start_step (kept_labels n labels)) (line + 1) n 0 (cleared 128 0) J ≡ done (kept_cells n starts) (drop (length s) s) =
          ap (λ (t : List ℕ). lines (start_step (kept_labels n labels)) (line + 1) n 0 t J) (cells_none starts)
          ∙ ap (λ (l : List ℕ). lines (start_step (kept_labels n labels)) (line + 1) n 0 (kept_cells 0 starts) l) (sym (append-nil J))
          ∙ starts_back n labels lent starts ok e (line + 1) []
          ∙ ap (λ (l : List ℕ). done (kept_cells n starts) l) (sym (drop-length s)) in
          starts_some n line (kept_labels n labels) (cleared 128 0) s 0 long
          ∙ part_done starts_word (start_step (kept_labels n labels)) n line (cleared 128 0) s 0 n J (count_trip starts_word n J (omega arith)) refl (kept_cells n starts) (length s) back (omega arith)
          ∙ ap (λ (l : List ℕ). done (kept_cells n starts) l) (drop-length s)

      go : (b : Bool) → has_plan n starts ≡ b → starts_part n line (kept_labels n labels) (cleared 128 0) (cond b (count_text starts_word n ++ J) []) ≡ done (kept_cells n starts) []
      go true e = with_plan_lem e
      go false e = starts_none n line (kept_labels n labels) (cleared 128 0) [] 0 (omega arith) ∙ ap (λ (t : List ℕ). done t []) (no_starts e)

  guards_trip : guards_part n (kept_labels n labels) (cleared 16384 255) (cleared 128 0) (guards_text n labels lent.guards ++ starts_text n labels starts) ≡ done (kept_guards n lent.guards, kept_cells n starts) []
  unfolding guards_text after
  guards_trip =
      let G = join_from n 0 (λ i. join_from n 0 (guard_text labels lent.guards i)) in
      let S = starts_text n labels starts in
      let m = pairs n lent.guards in
      let few = ok.not_many in
      guards_rest n (kept_labels n labels) (cleared 16384 255) (cleared 128 0) ((count_text guards_word m ++ G) ++ S) m (G ++ S)
      (ap (count_line guards_word) (append_assoc (count_text guards_word m) G S) ∙ count_trip guards_word m (G ++ S) (omega arith)) few (kept_guards n lent.guards) S
      (guards_back n labels lent starts ok (n + 3) S)
      ∙ rw (starts_trip (n + m + 3))

  pub sheet_back : sheet_from (cleared 1024 0) cleared_network (cleared 128 0) (sheet_text n labels lent starts)
      ≡ done (n, kept_labels n labels, kept_network n lent, kept_cells n starts) []
  unfolding sheet_text paths_text
  sheet_back =
      let few = ok.network.few in
      let P = join_from n 0 (path_text labels lent.widths) in
      let R = guards_text n labels lent.guards ++ starts_text n labels starts in
      sheet_done (cleared 1024 0) cleared_network (cleared 128 0) ((count_text paths_word n ++ P) ++ R) n (P ++ R)
      (ap (count_line paths_word) (append_assoc (count_text paths_word n) P R) ∙ count_trip paths_word n (P ++ R) (omega arith)) ok.network.some few
      (kept_labels n labels) (kept_cells n lent.widths) R
      (ap (λ (t : List ℕ × List ℕ). lines path_step 2 n 0 t (P ++ R)) (λ i. (labels_none labels i, cells_none lent.widths i)) ∙ paths_back n labels lent starts ok R)
      (kept_guards n lent.guards) (kept_cells n starts) [] guards_trip

-- the sheet that a call wrote: the first bytes of the text, as many as it answers
abbrev pub sheet_of : Left SheetWritten (List ℕ) → List ℕ
sheet_of w = take w.answer.length w.tables

pub written_sheet : (n : ℕ) (labels : List ℕ) (lent : Lent) (starts text : List ℕ) → (writing n labels lent starts text).answer.number ≡ 0
    → sheet_of (writing n labels lent starts text) ≡ sheet_text n labels lent starts
unfolding writing unless
written_sheet n labels lent starts text z =
    let s = sheet_text n labels lent starts in
    let w = writing_writable n labels lent starts text z in
    rw (eq-eqb (write_fault n labels lent starts text).number 0 (clear_write n labels lent starts text w.0 w.1)) (take-append_seam s (drop (length s) text))

-- what `write` writes, `read` reads back to the same n, labels, widths, guards and starts, cells past n cleared
pub written_read : (n : ℕ) (labels : List ℕ) (lent : Lent) (starts text : List ℕ) → (writing n labels lent starts text).answer.number ≡ 0
    → (labels' : List ℕ) (lent' : Lent) (starts' : List ℕ) → (sheet_sizes labels' lent' starts').number ≡ 0
    → reading (sheet_of (writing n labels lent starts text)) labels' lent' starts'
    ≡ left (record { number = 0; place = 0; n = n }) (kept_labels n labels, kept_network n lent, kept_cells n starts)
unfolding reading unless read_outcome
written_read n labels lent starts text z labels' lent' starts' sizes =
    let ok = (writing_writable n labels lent starts text z).0 in
    rw (eq-eqb (sheet_sizes labels' lent' starts').number 0 sizes, written_sheet n labels lent starts text z, sheet_back n labels lent starts ok)
