-- The guard section, written and read back. Assumes nothing.
use Prim.Native.Nat.{ℕ, zero, suc, ◌+◌, ◌/◌, ◌%◌, ◌≤◌, ◌<◌}
use Rattle.std.specs.Prelude.{◌≡◌, ◌≢◌, ◌⊎◌, Bool, true, false, cond, ◌&&◌, length, set, ltb}
use Rattle.std.proofs.Math.Path.{refl, sym, ap}
use Rattle.std.proofs.Common.{◌∙◌, inl, inr, length-set, add-zero, lt-ltb, le-ltb}
use mathlib.Core.List.{List, ◌∷◌, ◌++◌, append_assoc}
use Rattle.std.proofs.Math.Nat.{zero-add}
use Rattle.std.proofs.Math.Decide.{dec_lt}
use native.Mathlib.Omega.{arith}
use Rattle.rules.specs.Tables.{at, cell, cleared, Lent, lend}
use Rattle.rules.specs.Scan.{sum}
use Rattle.rules.specs.Text.{numeral}
use Rattle.rules.specs.Sheet.{Line, right, done, follow, lines, guard_line, guard_step}
use Rattle.rules.specs.Writing.{label_of, is_pair, pairs, join_from, guard_text}
use Rattle.table_laws.specs.Scans.{and_false, sum_from, sum_from_lem}
use Rattle.table_laws.specs.Tables.{at_same, at_other, cleared_length, cleared_at}
use Rattle.sheet_laws.specs.Lines.{guard_fine, guard_any}
use Rattle.sheet_laws.specs.Writes.{label_short, pair_text, guard_none, guard_some, pair_order, pair_none}
use Rattle.demands.specs.Writable.{Writable}
use Rattle.demands.specs.Kept.{tab_from, tab_is, kept_cells, kept_labels}
use Rattle.demands.specs.RoundTrip.{guard_trip, label_all, some_byte, found_label}

-- the guards of n paths, past them 255
unfoldable pub square_of : ℕ → List ℕ → ℕ → ℕ
square_of n guards c = cond (ltb (c / 128) n && ltb (c % 128) n) (at guards c) 255

unfoldable pub kept_guards : ℕ → List ℕ → List ℕ
kept_guards n guards = tab_from 16384 0 (square_of n guards)

-- the network of n paths, cells past them cleared
abbrev pub kept_network : ℕ → Lent → Lent
kept_network n lent = lend (kept_cells n lent.widths) (kept_guards n lent.guards)

pub square_in : (n : ℕ) (guards : List ℕ) (c : ℕ) → c / 128 < n → c % 128 < n → square_of n guards c ≡ at guards c
unfolding square_of
square_in n guards c a b = rw (lt-ltb (c / 128) n a, lt-ltb (c % 128) n b)

pub square_row : (n : ℕ) (guards : List ℕ) (c : ℕ) → n ≤ c / 128 → square_of n guards c ≡ 255
unfolding square_of
square_row n guards c a = rw (le-ltb (c / 128) n a)

pub square_column : (n : ℕ) (guards : List ℕ) (c : ℕ) → n ≤ c % 128 → square_of n guards c ≡ 255
unfolding square_of
square_column n guards c a = rw (le-ltb (c % 128) n a, and_false (ltb (c / 128) n))

-- the guards of the pairs up to s, by i then j, stand in both their cells, and nothing else
pub record Upto (n : ℕ) (guards : List ℕ) (s : ℕ) (t : List ℕ) : Type 0 where
  pub long : length t ≡ 16384
  pub set_cells : (a b : ℕ) → a < b → b < n → cell a b < s → (at t (cell a b) ≡ at guards (cell a b)) × (at t (cell b a) ≡ at guards (cell a b))
  pub late_cells : (a b : ℕ) → a < b → b < 128 → s ≤ cell a b → (at t (cell a b) ≡ 255) × (at t (cell b a) ≡ 255)
  pub past_cells : (a b : ℕ) → a < b → b < 128 → n ≤ b → (at t (cell a b) ≡ 255) × (at t (cell b a) ≡ 255)
  pub diagonal : (a : ℕ) → a < 128 → at t (cell a a) ≡ 255

module _ (n : ℕ) (labels : List ℕ) (lent : Lent) (starts : List ℕ) (ok : Writable n labels lent starts) where
  abbrev step : ℕ → List ℕ → List ℕ → Line (List ℕ)
  step = guard_step n (kept_labels n labels)

  upto_none : Upto n lent.guards 0 (cleared 16384 255)
  upto_none = record {
    long = cleared_length 16384 255;
    set_cells = λ a b h l c. absurd (omega arith);
    late_cells = λ a b h l c. (cleared_at 16384 255 (cell a b) (omega arith), cleared_at 16384 255 (cell b a) (omega arith));
    past_cells = λ a b h l c. (cleared_at 16384 255 (cell a b) (omega arith), cleared_at 16384 255 (cell b a) (omega arith));
    diagonal = λ a h. cleared_at 16384 255 (cell a a) (omega arith);
  }

  -- one cell on, where no line stands
  upto_skip : (i j : ℕ) (t : List ℕ) → j < 128 → (i < j → at lent.guards (cell i j) ≡ 255) → Upto n lent.guards (cell i j) t → Upto n lent.guards (suc (cell i j)) t
  upto_skip i j t b e u = record {
    long = u.long;
    set_cells = λ a d h l c. go a d h l c (dec_lt (cell a d) (cell i j));
    late_cells = λ a d h l c. u.late_cells a d h l (omega arith);
    past_cells = u.past_cells;
    diagonal = u.diagonal;
  }
    where
      go : (a d : ℕ) → a < d → d < n → cell a d < suc (cell i j) → Dec (cell a d < cell i j) → (at t (cell a d) ≡ at lent.guards (cell a d)) × (at t (cell d a) ≡ at lent.guards (cell a d))
      go a d h l c (yes x) = u.set_cells a d h l x
      go a d h l c (no x) =
          let few = ok.network.few in
          let p : a ≡ i = omega arith in
          let q : d ≡ j = omega arith in
          let v = u.late_cells a d h (omega arith) (omega arith) in
          let w : at lent.guards (cell a d) ≡ 255 = ap (λ (x : ℕ). at lent.guards x) (let z : cell a d ≡ cell i j = omega arith in z) ∙ e (omega arith) in
          (v.0 ∙ sym w, v.1 ∙ sym w)

  -- one pair more
  module _ (i j : ℕ) (t : List ℕ) (h : i < j) (l : j < n) (u : Upto n lent.guards (cell i j) t) where
    abbrev g : ℕ
    g = at lent.guards (cell i j)

    abbrev t' : List ℕ
    t' = set (set t (cell i j) g) (cell j i) g

    other : (c : ℕ) → c ≢ cell i j → c ≢ cell j i → at t' c ≡ at t c
    other c p q = at_other (set t (cell i j) g) (cell j i) g c q ∙ at_other t (cell i j) g c p

    first_cell : at t' (cell i j) ≡ g
    first_cell =
        at_other (set t (cell i j) g) (cell j i) g (cell i j) (λ e. omega (arith, ok.network.few))
        ∙ at_same t (cell i j) g (omega (arith, ok.network.few, u.long))

    second_cell : at t' (cell j i) ≡ g
    second_cell = at_same (set t (cell i j) g) (cell j i) g (omega (arith, ok.network.few, u.long, length-set t (cell i j) g))

    -- a cell above the diagonal, and its mirror, that is not this pair's
    others : (a b v w : ℕ) → a < b → b < 128 → cell a b ≢ cell i j → (at t (cell a b) ≡ v) × (at t (cell b a) ≡ w) → (at t' (cell a b) ≡ v) × (at t' (cell b a) ≡ w)
    others a b v w x y ne p =
        let few = ok.network.few in
        let nr : a ≡ i → b ≡ j → ⊥ = λ e f. ne (omega arith) in
        (other (cell a b) ne (λ e. omega arith) ∙ p.0, other (cell b a) (λ e. omega arith) (λ e. ne (omega arith)) ∙ p.1)

    upto_more : Upto n lent.guards (suc (cell i j)) t'
    upto_more = record {
      long = length-set (set t (cell i j) g) (cell j i) g ∙ length-set t (cell i j) g ∙ u.long;
      set_cells = λ a b x y c. go a b x y (dec_lt (cell a b) (cell i j)) c;
      late_cells = λ a b x y c. others a b 255 255 x y (λ e. omega arith) (u.late_cells a b x y (omega arith));
      past_cells = λ a b x y c. others a b 255 255 x y (λ e. let few = ok.network.few in omega arith) (u.past_cells a b x y c);
      diagonal = λ a x. other (cell a a) (λ e. let few = ok.network.few in omega arith) (λ e. let few = ok.network.few in omega arith) ∙ u.diagonal a x;
    }
      where
        go : (a b : ℕ) → a < b → b < n → Dec (cell a b < cell i j) → cell a b < suc (cell i j) → (at t' (cell a b) ≡ at lent.guards (cell a b)) × (at t' (cell b a) ≡ at lent.guards (cell a b))
        go a b x y (yes d) c = others a b (at lent.guards (cell a b)) (at lent.guards (cell a b)) x (let few = ok.network.few in omega arith) (λ e. omega arith) (u.set_cells a b x y d)
        go a b x y (no d) c =
            let few = ok.network.few in
            let p : a ≡ i = omega arith in
            let q : b ≡ j = omega arith in
            rw (p, q) (first_cell, second_cell)

  -- a row's end is the next row's beginning
  upto_row : (i : ℕ) (t : List ℕ) → Upto n lent.guards (cell i n) t → Upto n lent.guards (cell (suc i) 0) t
  upto_row i t u = record {
    long = u.long;
    set_cells = λ a b h l c. u.set_cells a b h l (let few = ok.network.few in omega arith);
    late_cells = λ a b h l c. u.late_cells a b h l (let few = ok.network.few in omega arith);
    past_cells = u.past_cells;
    diagonal = u.diagonal;
  }

  -- one guard line, written and read
  guard_back : (i j k : ℕ) (t l : List ℕ) → i < j → j < n → at lent.guards (cell i j) ≤ 32 → Upto n lent.guards (cell i j) t
      → step k t (pair_text labels lent.guards i j ++ l) ≡ right (set (set t (cell i j) (at lent.guards (cell i j))) (cell j i) (at lent.guards (cell i j))) l
  guard_back i j k t l h b near u =
      let c : i < n = omega arith in
      let few = ok.network.few in
      let flat : pair_text labels lent.guards i j ++ l ≡ label_of labels i ++ 32 ∷ (label_of labels j ++ 32 ∷ (numeral (at lent.guards (cell i j)) ++ 10 ∷ l)) = simp append_assoc in
      guard_any n (kept_labels n labels) k t (pair_text labels lent.guards i j ++ l)
      ∙ guard_fine n (kept_labels n labels) t (pair_text labels lent.guards i j ++ l) (label_of labels i) (label_of labels j) (at lent.guards (cell i j)) l
      (ap guard_line flat
      ∙ guard_trip (label_of labels i) (label_of labels j) (at lent.guards (cell i j)) l (label_all labels i) (some_byte n labels lent starts ok i c) (label_short labels i)
      (label_all labels j) (some_byte n labels lent starts ok j b) (label_short labels j) (omega arith))
      i j (sym (found_label n labels lent starts ok i c)) (sym (found_label n labels lent starts ok j b)) c b (λ e. omega arith)
      (u.late_cells i j h (omega arith) (omega arith)).0 near

  abbrev mark : ℕ → ℕ → ℕ
  mark i j = cond (is_pair lent.guards i j) 1 0

  -- c lines of a section of c + m are read, and lead to another table and to the text after them
  pub record Reads (top c : ℕ) (t l : List ℕ) (m s : ℕ) (l' : List ℕ) : Type 0 where
    pub then_table : List ℕ
    pub holds : Upto n lent.guards s then_table
    pub leads : (k : ℕ) → lines step top (c + m) k t l ≡ lines step top m (k + c) then_table l'

  one_line : (top m k : ℕ) (t t' l l' : List ℕ) → step k t l ≡ right t' l' → lines step top (suc m) k t l ≡ lines step top m (suc k) t' l'
  unfolding lines follow
  one_line top m k t t' l l' e = rw e

  -- a cell of the square: no line, or a line
  row_cell : (top i j c : ℕ) (t rest l : List ℕ) (m s : ℕ) → i < n → j < n → Upto n lent.guards (cell i j) t
      → ((t' : List ℕ) → Upto n lent.guards (suc (cell i j)) t' → Reads top c t' (rest ++ l) m s l)
      → Reads top (mark i j + c) t ((guard_text labels lent.guards i j ++ rest) ++ l) m s l
  row_cell top i j c t rest l m s x y u ih = go (is_pair lent.guards i j) refl
    where
      none : is_pair lent.guards i j ≡ false → Reads top (0 + c) t ((guard_text labels lent.guards i j ++ rest) ++ l) m s l
      none q =
          let skip : i < j → at lent.guards (cell i j) ≡ 255 = λ h. apart h (ok.network.guard i j x y) in
          rw (guard_none labels lent.guards i j q, zero-add c) (ih t (upto_skip i j t (let few = ok.network.few in omega arith) skip u))
        where
          apart : i < j → (at lent.guards (cell i j) ≤ 32) ⊎ (at lent.guards (cell i j) ≡ 255) → at lent.guards (cell i j) ≡ 255
          apart h (inl l) = absurd (omega (arith, pair_none lent.guards i j q h))
          apart h (inr e) = e

      some_line : is_pair lent.guards i j ≡ true → Reads top (1 + c) t ((guard_text labels lent.guards i j ++ rest) ++ l) m s l
      some_line q =
          let h = pair_order lent.guards i j q in
          let near = close (ok.network.guard i j x y) h.1 in
          let t₁ = set (set t (cell i j) (at lent.guards (cell i j))) (cell j i) (at lent.guards (cell i j)) in
          let r = ih t₁ (upto_more i j t h.0 y u) in
          let text : (guard_text labels lent.guards i j ++ rest) ++ l ≡ pair_text labels lent.guards i j ++ (rest ++ l) = ap (λ (v : List ℕ). (v ++ rest) ++ l) (guard_some labels lent.guards i j q) ∙ append_assoc (pair_text labels lent.guards i j) rest l in
          record {
            then_table = r.then_table;
            holds = r.holds;
            leads = λ k.
                ap (λ (v : List ℕ). lines step top ((1 + c) + m) k t v) text
                ∙ ap (λ (v : ℕ). lines step top v k t (pair_text labels lent.guards i j ++ (rest ++ l))) (let z : (1 + c) + m ≡ suc (c + m) = omega arith in z)
                ∙ one_line top (c + m) k t t₁ (pair_text labels lent.guards i j ++ (rest ++ l)) (rest ++ l) (guard_back i j k t (rest ++ l) h.0 y near u)
                ∙ r.leads (suc k)
                ∙ ap (λ (v : ℕ). lines step top m v r.then_table l) (let z : suc k + c ≡ k + (1 + c) = omega arith in z);
          }
        where
          close : (at lent.guards (cell i j) ≤ 32) ⊎ (at lent.guards (cell i j) ≡ 255) → at lent.guards (cell i j) < 255 → at lent.guards (cell i j) ≤ 32
          close (inl l) f = l
          close (inr e) f = absurd (omega arith)

      go : (b : Bool) → is_pair lent.guards i j ≡ b → Reads top (cond b 1 0 + c) t ((guard_text labels lent.guards i j ++ rest) ++ l) m s l
      go false q = none q
      go true q = some_line q

  row_back : (top i r j : ℕ) (t l : List ℕ) (m : ℕ) → i < n → j + r ≡ n → Upto n lent.guards (cell i j) t
      → Reads top (sum_from r j (mark i)) t (join_from r j (guard_text labels lent.guards i) ++ l) m (cell i n) l
  unfolding sum_from join_from
  row_back top i zero j t l m c e u =
      let q : j ≡ n = omega arith in
      record { then_table = t; holds = rw q at u; leads = λ k. ap (λ (x : ℕ). lines step top x k t l) (zero-add m) ∙ ap (λ (x : ℕ). lines step top m x t l) (sym (add-zero k)) }
  row_back top i (suc r) j t l m c e u =
      row_cell top i j (sum_from r (suc j) (mark i)) t (join_from r (suc j) (guard_text labels lent.guards i)) l m (cell i n) c (omega arith) u
      (λ t' v. row_back top i r (suc j) t' l m c (omega arith) (let q : suc (cell i j) ≡ cell i (suc j) = omega arith in rw q at v))

  abbrev row_marks : ℕ → ℕ
  row_marks i = sum (mark i) n

  abbrev row_text : ℕ → List ℕ
  row_text i = join_from n 0 (guard_text labels lent.guards i)

  row_marks_lem : (i : ℕ) → row_marks i ≡ sum_from n 0 (mark i)
  unfolding sum
  row_marks_lem i = ap (sum (mark i)) (sym (zero-add n)) ∙ sum_from_lem (mark i) n 0 ∙ zero-add (sum_from n 0 (mark i))

  two_parts : (top a b : ℕ) (t v w l : List ℕ) (m s s' : ℕ) → Reads top a t (v ++ (w ++ l)) (b + m) s (w ++ l)
      → ((t' : List ℕ) → Upto n lent.guards s t' → Reads top b t' (w ++ l) m s' l) → Reads top (a + b) t ((v ++ w) ++ l) m s' l
  two_parts top a b t v w l m s s' p f =
      let q = f p.then_table p.holds in
      record {
        then_table = q.then_table;
        holds = q.holds;
        leads = λ k.
            ap (λ (x : List ℕ). lines step top ((a + b) + m) k t x) (append_assoc v w l)
            ∙ ap (λ (x : ℕ). lines step top x k t (v ++ (w ++ l))) (let z : (a + b) + m ≡ a + (b + m) = omega arith in z)
            ∙ p.leads k ∙ q.leads (k + a)
            ∙ ap (λ (x : ℕ). lines step top m x q.then_table l) (let z : (k + a) + b ≡ k + (a + b) = omega arith in z);
      }

  rows_back : (top r i : ℕ) (t l : List ℕ) (m : ℕ) → i + r ≡ n → Upto n lent.guards (cell i 0) t
      → Reads top (sum_from r i row_marks) t (join_from r i row_text ++ l) m (cell n 0) l
  unfolding sum_from join_from
  rows_back top zero i t l m e u =
      let q : i ≡ n = omega arith in
      record { then_table = t; holds = rw q at u; leads = λ k. ap (λ (x : ℕ). lines step top x k t l) (zero-add m) ∙ ap (λ (x : ℕ). lines step top m x t l) (sym (add-zero k)) }
  rows_back top (suc r) i t l m e u =
      rw (row_marks_lem i)
      (two_parts top (sum_from n 0 (mark i)) (sum_from r (suc i) row_marks) t (row_text i) (join_from r (suc i) row_text) l m (cell i n) (cell n 0)
      (row_back top i n 0 t (join_from r (suc i) row_text ++ l) (sum_from r (suc i) row_marks + m) (omega arith) (zero-add n) u)
      (λ t' v. rows_back top r (suc i) t' l m (omega arith) (upto_row i t' v)))

  -- the table at the end
  all_set : (t : List ℕ) → Upto n lent.guards (cell n 0) t → t ≡ kept_guards n lent.guards
  unfolding kept_guards
  all_set t u = tab_is 16384 (square_of n lent.guards) t u.long (λ c l. go c l (c / 128) (c % 128) refl refl (dec_lt (c / 128) n) (dec_lt (c % 128) n))
    where
      inner : (c a b : ℕ) → c ≡ cell a b → a < n → b < n → Dec (a < b) → Dec (b < a) → at t c ≡ at lent.guards c
      inner c a b e x y (yes h) d = rw e (u.set_cells a b h y (omega arith)).0
      inner c a b e x y (no h) (yes g) = rw e ((u.set_cells b a g x (omega arith)).1 ∙ ok.network.mirrored b a y x)
      inner c a b e x y (no h) (no g) =
          let few = ok.network.few in
          let q : a ≡ b = omega arith in
          rw (e, q) (u.diagonal b (omega arith) ∙ sym (ok.network.diagonal b y))

      outer : (c a b : ℕ) → c ≡ cell a b → a < 128 → b < 128 → (n ≤ a) ⊎ (n ≤ b) → Dec (a < b) → Dec (b < a) → at t c ≡ 255
      outer c a b e x y z (yes h) d = rw e (side z)
        where
          side : (n ≤ a) ⊎ (n ≤ b) → at t (cell a b) ≡ 255
          side (inl w) = (u.past_cells a b h y (omega arith)).0
          side (inr w) = (u.past_cells a b h y w).0
      outer c a b e x y z (no h) (yes g) = rw e (side z)
        where
          side : (n ≤ a) ⊎ (n ≤ b) → at t (cell a b) ≡ 255
          side (inl w) = (u.past_cells b a g x w).1
          side (inr w) = (u.past_cells b a g x (omega arith)).1
      outer c a b e x y z (no h) (no g) = let q : a ≡ b = omega arith in rw (e, q) (u.diagonal b y)

      go : (c : ℕ) → c < 16384 → (a b : ℕ) → c / 128 ≡ a → c % 128 ≡ b → Dec (a < n) → Dec (b < n) → at t c ≡ square_of n lent.guards c
      go c l a b p q (yes x) (yes y) = inner c a b (omega arith) x y (dec_lt a b) (dec_lt b a) ∙ sym (square_in n lent.guards c (omega arith) (omega arith))
      go c l a b p q (no x) d = outer c a b (omega arith) (omega arith) (omega arith) (inl (omega arith)) (dec_lt a b) (dec_lt b a) ∙ sym (square_row n lent.guards c (omega arith))
      go c l a b p q (yes x) (no y) = outer c a b (omega arith) (omega arith) (omega arith) (inr (omega arith)) (dec_lt a b) (dec_lt b a) ∙ sym (square_column n lent.guards c (omega arith))

  -- all guard lines, written and read
  pub guards_back : (top : ℕ) (l : List ℕ) → lines step top (pairs n lent.guards) 0 (cleared 16384 255) (join_from n 0 row_text ++ l) ≡ done (kept_guards n lent.guards) l
  unfolding pairs lines sum
  guards_back top l =
      let r = rows_back top n 0 (cleared 16384 255) l 0 (zero-add n) upto_none in
      let e : sum row_marks n ≡ sum_from n 0 row_marks + 0 = ap (sum row_marks) (sym (zero-add n)) ∙ sum_from_lem row_marks n 0 ∙ omega arith in
      ap (λ (m : ℕ). lines step top m 0 (cleared 16384 255) (join_from n 0 row_text ++ l)) e ∙ r.leads 0 ∙ ap (λ (t : List ℕ). done t l) (all_set r.then_table r.holds)
