-- The laws of lines and sections, by what their tests say: what code that reads has to show, and what the
-- round trip uses. Assumes nothing.
use Prim.Native.Nat.{ℕ, suc, ◌+◌, ◌-◌, ◌≤◌, ◌<◌}
use Rattle.std.specs.Prelude.{◌≡◌, refl, true, false, List, [], length, set, drop, ℤ}
use Rattle.std.proofs.Math.Numerals.{add-one}
use native.Mathlib.Omega.{arith}
use borrow.Author.Tests.{eq-eqb, ne_eqb, lt-ltb, le-ltb, le-leb, lt-leb}
use Rattle.rules.specs.Tables.{at, cell, Lent, lend}
use Rattle.rules.specs.Text.{none, some, paths_word, guards_word, starts_word}
use Rattle.rules.specs.Sheet.{is_row, find, put_row, Line, wrong, right, halt, done, follow, lines, count_line, path_line, guard_line, path_means, path_step, guard_cell, guard_means, guard_step, start_means, start_step, counted, after, ended, last_part, starts_part, guards_part, sheet_from}
use Rattle.rules.specs.Grid.{grid_start, order_line, order_means, order_step}
use Rattle.sheet_laws.specs.Texts.{here, past}

module _ (k : ℕ) (labels widths l : List ℕ) where
  pub path_ill : path_line l ≡ none → path_step k (labels, widths) l ≡ wrong 11
  unfolding path_step path_means
  path_ill e = rw e

  module _ (w : List ℕ) (v : ℕ) (l' : List ℕ) (e : path_line l ≡ some (w, v) l') (i : ℕ) (f : i ≡ find labels k w) where
    pub path_twice : i < k → path_step k (labels, widths) l ≡ wrong 12
    unfolding path_step path_means
    path_twice h = rw (e, ← f, lt-ltb i k h)

    pub path_thin : k ≤ i → v < 1 → path_step k (labels, widths) l ≡ wrong 3
    unfolding path_step path_means
    path_thin h g = rw (e, ← f, le-ltb i k h, lt-leb 1 v g)

    pub path_wide : k ≤ i → 64 < v → path_step k (labels, widths) l ≡ wrong 3
    unfolding path_step path_means
    path_wide h g = rw (e, ← f, le-ltb i k h, le-leb 1 v (omega arith), lt-leb v 64 g)

    pub path_fine : k ≤ i → 1 ≤ v → v ≤ 64 → path_step k (labels, widths) l ≡ right (put_row labels k w, set widths k v) l'
    unfolding path_step path_means
    path_fine h g g' = rw (e, ← f, le-ltb i k h, le-leb 1 v g, le-leb v 64 g')

module _ {T : Type 0} (step : ℕ → T → List ℕ → Line T) (top n k : ℕ) (t : T) (l : List ℕ) where
  pub lines_step : (t' : T) (l' : List ℕ) → k < n → step k t l ≡ right t' l' → lines step top (n - k) k t l ≡ lines step top (n - (k + 1)) (k + 1) t' l'
  unfolding lines follow
  lines_step t' l' h e = let m : n - k ≡ suc (n - (k + 1)) = omega arith in rw (m, e, add-one k)

  pub lines_halt : (x : ℕ) → k < n → step k t l ≡ wrong x → lines step top (n - k) k t l ≡ halt x (top + k)
  unfolding lines follow
  lines_halt x h e = let m : n - k ≡ suc (n - (k + 1)) = omega arith in rw (m, e)

  pub lines_end : n ≤ k → lines step top (n - k) k t l ≡ done t l
  unfolding lines
  lines_end h = let m : n - k ≡ 0 = omega arith in rw m

module _ (n : ℕ) (labels guards l : List ℕ) where
  pub guard_ill : guard_line l ≡ none → guard_step n labels 0 guards l ≡ wrong 11
  unfolding guard_step guard_means
  guard_ill e = rw e

  module _ (a b : List ℕ) (g : ℕ) (l' : List ℕ) (e : guard_line l ≡ some (a, (b, g)) l') (i j : ℕ) (p : i ≡ find labels n a) (q : j ≡ find labels n b) where
    pub guard_first : n ≤ i → guard_step n labels 0 guards l ≡ wrong 13
    unfolding guard_step guard_means guard_cell
    guard_first h = rw (e, ← p, ← q, le-ltb i n h)

    pub guard_second : i < n → n ≤ j → guard_step n labels 0 guards l ≡ wrong 13
    unfolding guard_step guard_means guard_cell
    guard_second h k = rw (e, ← p, ← q, lt-ltb i n h, le-ltb j n k)

    module _ (h : i < n) (k : j < n) where
      pub guard_self : i ≡ j → guard_step n labels 0 guards l ≡ wrong 13
      unfolding guard_step guard_means guard_cell
      guard_self x = rw (e, ← p, ← q, lt-ltb i n h, lt-ltb j n k, eq-eqb i j x)

      module _ (d : i ≡ j → ⊥) where
        pub guard_twice : (at guards (cell i j) ≡ 255 → ⊥) → guard_step n labels 0 guards l ≡ wrong 14
        unfolding guard_step guard_means guard_cell
        guard_twice x = rw (e, ← p, ← q, lt-ltb i n h, lt-ltb j n k, ne_eqb i j d, ne_eqb (at guards (cell i j)) 255 x)

        pub guard_over : at guards (cell i j) ≡ 255 → 32 < g → guard_step n labels 0 guards l ≡ wrong 4
        unfolding guard_step guard_means guard_cell
        guard_over x y = rw (e, ← p, ← q, lt-ltb i n h, lt-ltb j n k, ne_eqb i j d, eq-eqb (at guards (cell i j)) 255 x, lt-leb g 32 y)

        pub guard_fine : at guards (cell i j) ≡ 255 → g ≤ 32 → guard_step n labels 0 guards l ≡ right (set (set guards (cell i j) g) (cell j i) g) l'
        unfolding guard_step guard_means guard_cell
        guard_fine x y = rw (e, ← p, ← q, lt-ltb i n h, lt-ltb j n k, ne_eqb i j d, eq-eqb (at guards (cell i j)) 255 x, le-leb g 32 y)

module _ (labels : List ℕ) (k : ℕ) (starts l : List ℕ) where
  pub start_ill : path_line l ≡ none → start_step labels k starts l ≡ wrong 11
  unfolding start_step start_means
  start_ill e = rw e

  module _ (w : List ℕ) (v : ℕ) (l' : List ℕ) (e : path_line l ≡ some (w, v) l') where
    pub start_other : is_row labels w k ≡ false → start_step labels k starts l ≡ wrong 13
    unfolding start_step start_means
    start_other h = rw (e, h)

    pub start_low : is_row labels w k ≡ true → v < 1 → start_step labels k starts l ≡ wrong 7
    unfolding start_step start_means
    start_low h g = rw (e, h, lt-leb 1 v g)

    pub start_high : is_row labels w k ≡ true → 16384 < v → start_step labels k starts l ≡ wrong 7
    unfolding start_step start_means
    start_high h g = rw (e, h, le-leb 1 v (omega arith), lt-leb v 16384 g)

    pub start_fine : is_row labels w k ≡ true → 1 ≤ v → v ≤ 16384 → start_step labels k starts l ≡ right (set starts k v) l'
    unfolding start_step start_means
    start_fine h g g' = rw (e, h, le-leb 1 v g, le-leb v 16384 g')

-- path k's line of an order sheet
module _ (anchor : ℤ) (labels widths : List ℕ) (k : ℕ) (starts l : List ℕ) where
  pub order_ill : order_line l ≡ none → order_step anchor labels widths k starts l ≡ wrong 11
  unfolding order_step order_means
  order_ill e = rw e

  module _ (w : List ℕ) (n : ℤ) (m : ℕ) (l' : List ℕ) (e : order_line l ≡ some (w, (n, m)) l') where
    pub order_other : is_row labels w k ≡ false → order_step anchor labels widths k starts l ≡ wrong 13
    unfolding order_step order_means
    order_other h = rw (e, h)

    module _ (h : is_row labels w k ≡ true) where
      pub order_width : (m ≡ at widths k → ⊥) → order_step anchor labels widths k starts l ≡ wrong 3
      unfolding order_step order_means
      order_width d = rw (e, h, ne_eqb m (at widths k) d)

      module _ (q : m ≡ at widths k) (b : ℕ) (g : b ≡ grid_start anchor (at widths k) n) where
        pub order_none : b ≡ 0 → order_step anchor labels widths k starts l ≡ wrong 7
        unfolding order_step order_means
        order_none z = rw (e, h, eq-eqb m (at widths k) q, ← g, z)

        pub order_fine : 0 < b → order_step anchor labels widths k starts l ≡ right (set starts k b) l'
        unfolding order_step order_means
        order_fine p = rw (e, h, eq-eqb m (at widths k) q, ← g, lt-ltb 0 b p)

-- a guard's line does not go by its index
pub guard_any : (n : ℕ) (labels : List ℕ) (k : ℕ) (guards l : List ℕ) → guard_step n labels k guards l ≡ guard_step n labels 0 guards l
unfolding guard_step
guard_any n labels k guards l = refl

-- the last section of a text s, from place i on
module _ {T : Type 0} (w : List ℕ) (step : ℕ → T → List ℕ → Line T) (n line : ℕ) (t : T) (s : List ℕ) (i : ℕ) where
  pub part_ill : count_line w (drop i s) ≡ none → last_part w step n line t (drop i s) ≡ halt 11 line
  unfolding last_part counted
  part_ill e = rw e

  module _ (m : ℕ) (l : List ℕ) (e : count_line w (drop i s) ≡ some m l) where
    pub part_count : (m ≡ n → ⊥) → last_part w step n line t (drop i s) ≡ halt 1 line
    unfolding last_part counted
    part_count d = rw (e, ne_eqb m n d)

    module _ (q : m ≡ n) where
      pub part_halt : (x y : ℕ) → lines step (line + 1) n 0 t l ≡ halt x y → last_part w step n line t (drop i s) ≡ halt x y
      unfolding last_part counted after
      part_halt x y z = rw (e, eq-eqb m n q, z)

      pub part_left : (t' : T) (f : ℕ) → lines step (line + 1) n 0 t l ≡ done t' (drop f s) → f < length s → last_part w step n line t (drop i s) ≡ halt 11 (line + 1 + n)
      unfolding last_part counted after ended
      part_left t' f z k = let z' = rw (here s f k) at z in rw (e, eq-eqb m n q, z')

      pub part_done : (t' : T) (f : ℕ) → lines step (line + 1) n 0 t l ≡ done t' (drop f s) → length s ≤ f → last_part w step n line t (drop i s) ≡ done t' (drop f s)
      unfolding last_part counted after ended
      part_done t' f z k = let z' = rw (past s f k) at z in rw (past s f k, e, eq-eqb m n q, z')

module _ (n line : ℕ) (labels starts s : List ℕ) (i : ℕ) where
  pub starts_none : length s ≤ i → starts_part n line labels starts (drop i s) ≡ done starts (drop i s)
  unfolding starts_part
  starts_none h = rw (past s i h)

  -- where the text goes on, the starts are its last section
  pub starts_some : i < length s → starts_part n line labels starts (drop i s) ≡ last_part starts_word (start_step labels) n line starts (drop i s)
  unfolding starts_part
  starts_some h = rw (here s i h)

module _ (n : ℕ) (labels guards starts l : List ℕ) where
  pub guards_ill : count_line guards_word l ≡ none → guards_part n labels guards starts l ≡ halt 11 (n + 2)
  unfolding guards_part counted
  guards_ill e = rw e

  module _ (m : ℕ) (l₁ : List ℕ) (e : count_line guards_word l ≡ some m l₁) where
    pub guards_many : 2000 < m → guards_part n labels guards starts l ≡ halt 1 (n + 2)
    unfolding guards_part counted
    guards_many h = rw (e, lt-leb m 2000 h)

    pub guards_halt : m ≤ 2000 → (x y : ℕ) → lines (guard_step n labels) (n + 3) m 0 guards l₁ ≡ halt x y → guards_part n labels guards starts l ≡ halt x y
    unfolding guards_part counted after
    guards_halt h x y z = rw (e, le-leb m 2000 h, z)

    pub guards_rest : m ≤ 2000 → (guards' l₂ : List ℕ) → lines (guard_step n labels) (n + 3) m 0 guards l₁ ≡ done guards' l₂
        → guards_part n labels guards starts l ≡ after (starts_part n (n + m + 3) labels starts l₂) (λ (starts' l₃ : List ℕ). done (guards', starts') l₃)
    unfolding guards_part counted after
    guards_rest h guards' l₂ z = rw (e, le-leb m 2000 h, z)

module _ (labels : List ℕ) (lent : Lent) (starts l : List ℕ) where
  pub sheet_ill : count_line paths_word l ≡ none → sheet_from labels lent starts l ≡ halt 11 1
  unfolding sheet_from counted
  sheet_ill e = rw e

  module _ (n : ℕ) (l₁ : List ℕ) (e : count_line paths_word l ≡ some n l₁) where
    pub sheet_few : n < 1 → sheet_from labels lent starts l ≡ halt 1 1
    unfolding sheet_from counted
    sheet_few h = rw (e, lt-leb 1 n h)

    pub sheet_many : 128 < n → sheet_from labels lent starts l ≡ halt 1 1
    unfolding sheet_from counted
    sheet_many h = rw (e, le-leb 1 n (omega arith), lt-leb n 128 h)

    module _ (h : 1 ≤ n) (k : n ≤ 128) where
      pub sheet_halt : (x y : ℕ) → lines path_step 2 n 0 (labels, lent.widths) l₁ ≡ halt x y → sheet_from labels lent starts l ≡ halt x y
      unfolding sheet_from counted after
      sheet_halt x y z = rw (e, le-leb 1 n h, le-leb n 128 k, z)

      module _ (labels' widths' l₂ : List ℕ) (z : lines path_step 2 n 0 (labels, lent.widths) l₁ ≡ done (labels', widths') l₂) where
        pub sheet_later : (x y : ℕ) → guards_part n labels' lent.guards starts l₂ ≡ halt x y → sheet_from labels lent starts l ≡ halt x y
        unfolding sheet_from counted after
        sheet_later x y u = rw (e, le-leb 1 n h, le-leb n 128 k, z, u)

        pub sheet_done : (guards' starts' l₃ : List ℕ) → guards_part n labels' lent.guards starts l₂ ≡ done (guards', starts') l₃ → sheet_from labels lent starts l ≡ done (n, labels', lend widths' guards', starts') []
        unfolding sheet_from counted after
        sheet_done guards' starts' l₃ u = rw (e, le-leb 1 n h, le-leb n 128 k, z, u)
