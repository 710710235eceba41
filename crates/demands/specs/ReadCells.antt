-- Demand 1, the reader: the tables of a sheet that is read are within the limits, and what lies past n is
-- cleared. Assumes nothing.
use Rattle.std.specs.Prelude.{ℕ, suc, ◌*◌, ◌/◌, ◌%◌, ◌≤◌, ◌<◌, ◌≡◌, ◌≢◌, ◌⊎◌, List, [], length, set}
use Rattle.std.proofs.Common.{sym, subst, ◌∙◌, inl, inr}
use Rattle.std.proofs.Math.Path.{ap}
use native.Mathlib.Omega.{arith}
use Rattle.std.proofs.Math.Decide.{dec_lt}
use Rattle.std.proofs.Math.ListN.{get_or-eq_default}
use Rattle.rules.specs.declared.SheetRead.{SheetRead}
use Rattle.rules.specs.Tables.{at, cell, cleared, Lent}
use Rattle.rules.specs.Sheet.{put_row, Line, right, path_step, guard_step, start_step}
use Rattle.rules.specs.Calls.{Left, reading}
use Rattle.table_laws.specs.Tables.{at_other, cleared_length, cleared_at}
use Rattle.sheet_laws.specs.Rows.{put_past}
use Rattle.demands.specs.Writable.{Writable}
use Rattle.demands.specs.Kept.{front, front_in, front_past, kept_cells, kept_labels, cells_is, labels_is, tab_is}
use Rattle.demands.specs.GuardTrip.{square_of, square_in, square_row, square_column, kept_guards}
use Rattle.demands.specs.ReadBack.{sheet_read_lem}
use Rattle.demands.specs.Forms.{PathForm, GuardForm}
use Rattle.demands.specs.OnLines.{HasLabel, Unknown, Known, PathSays, form, label_twice, width, fine, GuardSays, unknown, itself, pair_twice, over, StartSays, other, path_says, guard_says, start_says, FirstRight, start, more}
use Rattle.demands.specs.OnReading.{SheetRight, without_plan, with_plan, right_only, reading_right}

-- a line that is right: its fields, and what it puts down
pub record PathPut (k : ℕ) (t : List ℕ × List ℕ) (l : List ℕ) (t' : List ℕ × List ℕ) (l' : List ℕ) : Type 0 where
  pub w : List ℕ
  pub v : ℕ
  pub formed : PathForm l w v l'
  pub new : Unknown t.0 k w
  pub least : 1 ≤ v
  pub most : v ≤ 64
  pub put : t' ≡ (put_row t.0 k w, set t.1 k v)

pub path_put : (k : ℕ) (t : List ℕ × List ℕ) (l : List ℕ) (y : Line (List ℕ × List ℕ)) (t' : List ℕ × List ℕ) (l' : List ℕ) → PathSays k t.0 t.1 l y → y ≡ right t' l' → PathPut k t l t' l'
path_put k t l y t' l' (form h) e = let z : ◌≡◌ {A = ℕ} 0 1 = cc in absurd (omega arith)
path_put k t l y t' l' (label_twice w v r f i h) e = let z : ◌≡◌ {A = ℕ} 0 1 = cc in absurd (omega arith)
path_put k t l y t' l' (width w v r f u h) e = let z : ◌≡◌ {A = ℕ} 0 1 = cc in absurd (omega arith)
path_put k t l y t' l' (fine w v r f u a b) e =
    let q : r ≡ l' = cc in
    let p : (put_row t.0 k w, set t.1 k v) ≡ t' = cc in
    record { w = w; v = v; formed = subst (PathForm l w v) q f; new = u; least = a; most = b; put = sym p }

pub record GuardPut (n : ℕ) (labels t l t' l' : List ℕ) : Type 0 where
  pub a : List ℕ
  pub b : List ℕ
  pub g : ℕ
  pub i : ℕ
  pub j : ℕ
  pub formed : GuardForm l a b g l'
  pub first : Known labels n a i
  pub second : Known labels n b j
  pub apart : i ≢ j
  pub fresh : at t (cell i j) ≡ 255
  pub most : g ≤ 32
  pub put : t' ≡ set (set t (cell i j) g) (cell j i) g

pub guard_put : (n : ℕ) (labels t l : List ℕ) (y : Line (List ℕ)) (t' l' : List ℕ) → GuardSays n labels t l y → y ≡ right t' l' → GuardPut n labels t l t' l'
guard_put n labels t l y t' l' (form h) e = let z : ◌≡◌ {A = ℕ} 0 1 = cc in absurd (omega arith)
guard_put n labels t l y t' l' (unknown a b g r f h) e = let z : ◌≡◌ {A = ℕ} 0 1 = cc in absurd (omega arith)
guard_put n labels t l y t' l' (itself a b g r f i s u) e = let z : ◌≡◌ {A = ℕ} 0 1 = cc in absurd (omega arith)
guard_put n labels t l y t' l' (pair_twice a b g r f i j s u d c) e = let z : ◌≡◌ {A = ℕ} 0 1 = cc in absurd (omega arith)
guard_put n labels t l y t' l' (over a b g r f i j s u d c h) e = let z : ◌≡◌ {A = ℕ} 0 1 = cc in absurd (omega arith)
guard_put n labels t l y t' l' (fine a b g r f i j s u d c h) e =
    let q : r ≡ l' = cc in
    let p : set (set t (cell i j) g) (cell j i) g ≡ t' = cc in
    record { a = a; b = b; g = g; i = i; j = j; formed = subst (GuardForm l a b g) q f; first = s; second = u; apart = d; fresh = c; most = h; put = sym p }

pub record StartPut (labels : List ℕ) (k : ℕ) (t l t' l' : List ℕ) : Type 0 where
  pub w : List ℕ
  pub v : ℕ
  pub formed : PathForm l w v l'
  pub has : HasLabel labels k w
  pub least : 1 ≤ v
  pub most : v ≤ 16384
  pub put : t' ≡ set t k v

pub start_put : (labels : List ℕ) (k : ℕ) (t l : List ℕ) (y : Line (List ℕ)) (t' l' : List ℕ) → StartSays labels k t l y → y ≡ right t' l' → StartPut labels k t l t' l'
start_put labels k t l y t' l' (form h) e = let z : ◌≡◌ {A = ℕ} 0 1 = cc in absurd (omega arith)
start_put labels k t l y t' l' (other w v r f h) e = let z : ◌≡◌ {A = ℕ} 0 1 = cc in absurd (omega arith)
start_put labels k t l y t' l' (start w v r f h c) e = let z : ◌≡◌ {A = ℕ} 0 1 = cc in absurd (omega arith)
start_put labels k t l y t' l' (fine w v r f h a b) e =
    let q : r ≡ l' = cc in
    let p : set t k v ≡ t' = cc in
    record { w = w; v = v; formed = subst (PathForm l w v) q f; has = h; least = a; most = b; put = sym p }

-- cleared: every cell of such a table is 0, those past its end too
cleared_zero : (size c : ℕ) → at (cleared size 0) c ≡ 0
cleared_zero size c = go (dec_lt c size)
  where
    go : Dec (c < size) → at (cleared size 0) c ≡ 0
    go (yes l) = cleared_at size 0 c l
    go (no l) = get_or-eq_default (cleared size 0) 0 {n = c} (omega (arith, cleared_length size 0))

-- k lines of paths write nothing past path k
record PathsPast (k : ℕ) (t : List ℕ × List ℕ) : Type 0 where
  labels : (c : ℕ) → 8 * k ≤ c → at t.0 c ≡ 0
  widths : (i : ℕ) → k ≤ i → at t.1 i ≡ 0

paths_past : (l : List ℕ) (k : ℕ) (t : List ℕ × List ℕ) (l' : List ℕ) → FirstRight path_step (cleared 1024 0, cleared 128 0) l k t l' → PathsPast k t
paths_past l k t l' start = record { labels = λ c h. cleared_zero 1024 c; widths = λ i h. cleared_zero 128 i }
paths_past l k'' t'' l'' (more k t l' t' r f e) =
    let p = path_put k t l' _ t' r (path_says k t.0 t.1 l') e in
    let ih = paths_past l k t l' f in
    subst (PathsPast (suc k)) (sym p.put) (record {
      labels = λ c h. put_past t.0 p.w k c (omega arith) ∙ ih.labels c (omega arith);
      widths = λ i h. at_other t.1 k p.v i (λ q. omega arith) ∙ ih.widths i (omega arith);
    })

-- guard lines write no cell of a path past n
guards_past : (n : ℕ) (labels l : List ℕ) (k : ℕ) (t l' : List ℕ) → n ≤ 128 → FirstRight (guard_step n labels) (cleared 16384 255) l k t l'
    → (i j : ℕ) → i < 128 → j < 128 → (n ≤ i) ⊎ (n ≤ j) → at t (cell i j) ≡ 255
guards_past n labels l k t l' few start i j x y h = cleared_at 16384 255 (cell i j) (omega arith)
guards_past n labels l k'' t'' l'' few (more k t l' t' r f e) i j x y h =
    let p = guard_put n labels t l' _ t' r (guard_says n labels k t l') e in
    let ih = guards_past n labels l k t l' few f i j x y h in
    rw p.put (at_other (set t (cell p.i p.j) p.g) (cell p.j p.i) p.g (cell i j) (λ q. clash p h q)
    ∙ at_other t (cell p.i p.j) p.g (cell i j) (λ q. clash' p h q) ∙ ih)
  where
    clash : (p : GuardPut n labels t l' t' r) → (n ≤ i) ⊎ (n ≤ j) → cell i j ≡ cell p.j p.i → ⊥
    clash p (inl h) q = omega (arith, p.first.inside, p.second.inside)
    clash p (inr h) q = omega (arith, p.first.inside, p.second.inside)

    clash' : (p : GuardPut n labels t l' t' r) → (n ≤ i) ⊎ (n ≤ j) → cell i j ≡ cell p.i p.j → ⊥
    clash' p (inl h) q = omega (arith, p.first.inside, p.second.inside)
    clash' p (inr h) q = omega (arith, p.first.inside, p.second.inside)

starts_past : (labels l : List ℕ) (k : ℕ) (t l' : List ℕ) → FirstRight (start_step labels) (cleared 128 0) l k t l' → (i : ℕ) → k ≤ i → at t i ≡ 0
starts_past labels l k t l' start i h = cleared_zero 128 i
starts_past labels l k'' t'' l'' (more k t l' t' r f e) i h =
    let p = start_put labels k t l' _ t' r (start_says labels k t l') e in
    rw p.put (at_other t k p.v i (λ q. omega arith) ∙ starts_past labels l k t l' f i (omega arith))

-- "On success the reader also clears what lies past n: widths and starts 0, guards 255, labels 0"
pub record PastCleared (n : ℕ) (labels : List ℕ) (lent : Lent) (starts : List ℕ) : Type 0 where
  pub label_cells : (c : ℕ) → 8 * n ≤ c → at labels c ≡ 0
  pub width_cells : (k : ℕ) → n ≤ k → at lent.widths k ≡ 0
  pub guard_cells : (i j : ℕ) → i < 128 → j < 128 → (n ≤ i) ⊎ (n ≤ j) → at lent.guards (cell i j) ≡ 255
  pub start_cells : (k : ℕ) → n ≤ k → at starts k ≡ 0

abbrev Past : ℕ × List ℕ × Lent × List ℕ → Type 0
Past t = PastCleared t.0 t.1 t.2 t.3

sheet_past : (l : List ℕ) (t : ℕ × List ℕ × Lent × List ℕ) → SheetRight l t → Past t
sheet_past l t (without_plan n labels widths m guards g) =
    let p = paths_past g.paths.l₁ n (labels, widths) g.l₂ g.paths.each in
    record {
      label_cells = p.labels;
      width_cells = p.widths;
      guard_cells = guards_past n labels g.l₃ m guards [] g.paths.most g.each;
      start_cells = λ k h. cleared_zero 128 k;
    }
sheet_past l t (with_plan n labels widths m guards starts s) =
    let g = s.guarded in
    let p = paths_past g.paths.l₁ n (labels, widths) g.l₂ g.paths.each in
    record {
      label_cells = p.labels;
      width_cells = p.widths;
      guard_cells = guards_past n labels g.l₃ m guards s.l₄ g.paths.most g.each;
      start_cells = starts_past labels s.l₅ n starts [] s.each;
    }

module _ (text labels : List ℕ) (lent : Lent) (starts : List ℕ) (zero-answer : (reading text labels lent starts).answer.number ≡ 0) where
  abbrev left_behind : Left SheetRead (List ℕ × Lent × List ℕ)
  left_behind = reading text labels lent starts

  pub reading_past : PastCleared left_behind.answer.n left_behind.tables.0 left_behind.tables.1 left_behind.tables.2
  reading_past = sheet_past text _ (reading_right text labels lent starts zero-answer).1

  -- and what the n paths hold is what the writer accepts
  pub reading_writable : Writable left_behind.answer.n left_behind.tables.0 left_behind.tables.1 left_behind.tables.2
  reading_writable = sheet_read_lem text _ [] (right_only text _ (reading_right text labels lent starts zero-answer).1)

-- tables that are cleared past n are all kept
module _ (n : ℕ) (labels : List ℕ) (lent : Lent) (starts : List ℕ) (p : PastCleared n labels lent starts) where
  pub same_cells : (table : List ℕ) → length table ≡ 128 → ((k : ℕ) → n ≤ k → at table k ≡ 0) → table ≡ kept_cells n table
  same_cells table long h = cells_is n table table long (λ k l. go k (dec_lt k n))
    where
      go : (k : ℕ) → Dec (k < n) → at table k ≡ front n table k
      go k (yes l) = sym (front_in n table k l)
      go k (no l) = h k (omega arith) ∙ sym (front_past n table k (omega arith))

  pub same_labels : length labels ≡ 1024 → labels ≡ kept_labels n labels
  same_labels long = labels_is n labels labels long (λ c l. go c (dec_lt c (8 * n)))
    where
      go : (c : ℕ) → Dec (c < 8 * n) → at labels c ≡ front (8 * n) labels c
      go c (yes l) = sym (front_in (8 * n) labels c l)
      go c (no l) = p.label_cells c (omega arith) ∙ sym (front_past (8 * n) labels c (omega arith))

  pub same_guards : length lent.guards ≡ 16384 → lent.guards ≡ kept_guards n lent.guards
  unfolding kept_guards
  same_guards long = tab_is 16384 (square_of n lent.guards) lent.guards long (λ c l. go c l (dec_lt (c / 128) n) (dec_lt (c % 128) n))
    where
      at_cell : (c : ℕ) → c < 16384 → (n ≤ c / 128) ⊎ (n ≤ c % 128) → at lent.guards c ≡ 255
      at_cell c l h = let e : c ≡ cell (c / 128) (c % 128) = omega arith in ap (at lent.guards) e ∙ p.guard_cells (c / 128) (c % 128) (omega arith) (omega arith) h

      go : (c : ℕ) → c < 16384 → Dec (c / 128 < n) → Dec (c % 128 < n) → at lent.guards c ≡ square_of n lent.guards c
      go c l (yes a) (yes b) = sym (square_in n lent.guards c a b)
      go c l (no a) b = at_cell c l (inl (omega arith)) ∙ sym (square_row n lent.guards c (omega arith))
      go c l (yes a) (no b) = at_cell c l (inr (omega arith)) ∙ sym (square_column n lent.guards c (omega arith))
