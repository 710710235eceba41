-- What `read` accepts, `write` accepts, given room (RULES 15). Each section of an accepted sheet leaves its
-- table as the writer's tests ask. Assumes nothing.
use Rattle.std.specs.Prelude.{ℕ, zero, suc, ◌+◌, ◌*◌, ◌≤◌, ◌<◌, ◌≢◌, ◌⊎◌, Bool, ◌&&◌, length, take, drop, eqb}
use Rattle.std.proofs.Math.Path.{◌≡◌, refl, sym, ap, subst}
use Rattle.std.proofs.Common.{◌∙◌, true≢false, length-take, length-drop, drop_of_length-le, ext_get_or, drop-cons}
use Rattle.std.proofs.Math.Logic.{inl, inr}
use Rattle.std.proofs.Math.Bool.{true, false, cond, not}
use mathlib.Core.List.{List, [], ◌∷◌}
use native.Mathlib.Omega.{arith}
use Rattle.std.proofs.Math.Decide.{dec_lt, ℕ_discrete}
use Rattle.std.proofs.Math.ListN.{set, length-set, get_or-eq_default}
use Rattle.std.proofs.Math.Seq.{get_or-take, get_or-drop}
use Rattle.std.proofs.Math.Dec.{ltb, leb}
use borrow.Author.Tests.{ltb-true, leb-true, le-ltb, eqb-false, ne_eqb, not-true}
use Rattle.rules.specs.Tables.{at, cell, cleared, label_byte, Lent, lend, cleared_network}
use Rattle.rules.specs.Scan.{first, found, sum}
use Rattle.rules.specs.Text.{Parsed, none, some, then, paths_word, guards_word, starts_word, is_digit, is_label_byte, run, label}
use Rattle.rules.specs.Sheet.{is_row, find, bytes_from, put_row, Line, wrong, right, Section, halt, done, follow, lines, count_line, path_line, guard_line, path_means, path_step, guard_cell, guard_means, guard_step, start_means, start_step, counted, after, ended, last_part, starts_part, guards_part, sheet_from}
use Rattle.rules.specs.Writing.{label_of, bad_label, label_twice, is_pair, pairs, has_plan}
use Rattle.rules.specs.Numbers.{sheet_sizes}
use Rattle.rules.specs.declared.SheetRead.{SheetRead}
use Rattle.rules.specs.declared.SheetWritten.{SheetWritten}
use Rattle.rules.specs.Calls.{Left, read_outcome, reading, writing}
use Rattle.table_laws.specs.Count.{each_suc}
use Rattle.table_laws.specs.Scans.{and_both, and_false, found_none, found_same, sum_same}
use Rattle.table_laws.specs.Tables.{at_same, at_other, cleared_length, cleared_at}
use Rattle.plan_laws.specs.Answers.{unless_done}
use Rattle.sheet_laws.specs.Texts.{All}
use Rattle.sheet_laws.specs.Rows.{row_same, bytes_length, bytes_at, put_length, put_in, put_before}
use Rattle.demands.specs.Writable.{Writable, writing_writable}
use Rattle.demands.specs.RoundTrip.{run_all}
use Rattle.demands.specs.SheetTrip.{sheet_of, written_read}
use Rattle.demands.specs.SameBytes.{written_again}
use Rattle.demands.specs.Longest.{sheet_most, room_enough}

-- A section that is done: what it was made of
pub after_done : {T U : Type 0} (x : Section T) (go : T → List ℕ → Section U) (u : U) (l : List ℕ) → after x go ≡ done u l → (t : T) × (l₁ : List ℕ) × (x ≡ done t l₁) × (go t l₁ ≡ done u l)
unfolding after
after_done (halt a b) go u l e = let z : ◌≡◌ {A = ℕ} 0 1 = cc in absurd (omega arith)
after_done (done t l₁) go u l e = (t, l₁, refl, e)

pub counted_done : {T : Type 0} (p : Parsed ℕ) (isRight : ℕ → Bool) (line : ℕ) (go : ℕ → List ℕ → Section T) (t : T) (l : List ℕ) → counted p isRight line go ≡ done t l
    → (n : ℕ) × (l₁ : List ℕ) × (p ≡ some n l₁) × (isRight n ≡ true) × (go n l₁ ≡ done t l)
unfolding counted
counted_done none isRight line go t l e = let z : ◌≡◌ {A = ℕ} 0 1 = cc in absurd (omega arith)
counted_done (some n l₁) isRight line go t l e = by (isRight n) refl e
  where
    by : (b : Bool) → isRight n ≡ b → cond b (go n l₁) (halt 1 line) ≡ done t l → (m : ℕ) × (l₂ : List ℕ) × (some n l₁ ≡ some m l₂) × (isRight m ≡ true) × (go m l₂ ≡ done t l)
    by true f e = (n, l₁, refl, f, e)
    by false f e = let z : ◌≡◌ {A = ℕ} 0 1 = cc in absurd (omega arith)

-- what each line keeps, all lines of a section keep
pub lines_keep : {T : Type 0} (step : ℕ → T → List ℕ → Line T) (top bound : ℕ) (P : ℕ → T → Type 0)
    → ((k : ℕ) (t : T) (l : List ℕ) (t' : T) (l' : List ℕ) → k < bound → P k t → step k t l ≡ right t' l' → P (suc k) t')
    → (m k : ℕ) (t : T) (l : List ℕ) (t' : T) (l' : List ℕ) → k + m ≤ bound → P k t → lines step top m k t l ≡ done t' l' → P (k + m) t'
unfolding lines follow
lines_keep step top bound P keep zero k t l t' l' h p e =
    let q : t ≡ t' = cc in
    let z : k ≡ k + 0 = omega arith in
    subst (λ x. P x t') z (subst (P k) q p)
lines_keep {T} step top bound P keep (suc m) k t l t' l' h p e = go (step k t l) refl (λ s r p' e'. lines_keep step top bound P keep m (suc k) s r t' l' (omega arith) p' e') e
  where
    go : (x : Line T) → step k t l ≡ x → ((s : T) (r : List ℕ) → P (suc k) s → lines step top m (suc k) s r ≡ done t' l' → P (suc k + m) t')
        → follow x (top + k) (λ s r. lines step top m (suc k) s r) ≡ done t' l' → P (k + suc m) t'
    go (wrong x) f ih e = let z : ◌≡◌ {A = ℕ} 0 1 = cc in absurd (omega arith)
    go (right s r) f ih e = let z : suc k + m ≡ k + suc m = omega arith in subst (λ x. P x t') z (ih s r (keep k t l s r (omega arith) p f) e)

-- A label that was read
label_is : (l w r : List ℕ) → label l ≡ some w r → All is_label_byte w × (0 < length w) × (length w ≤ 8)
unfolding label
label_is l w r = go (ltb 0 (length (run is_label_byte l)) && leb (length (run is_label_byte l)) 8) refl
  where
    go : (b : Bool) → (ltb 0 (length (run is_label_byte l)) && leb (length (run is_label_byte l)) 8) ≡ b
        → cond b (some (run is_label_byte l) (drop (length (run is_label_byte l)) l)) none ≡ some w r → All is_label_byte w × (0 < length w) × (length w ≤ 8)
    go true f e =
        let q : run is_label_byte l ≡ w = cc in
        let h = and_both _ _ f in
        subst (λ (w : List ℕ). All is_label_byte w × (0 < length w) × (length w ≤ 8)) q (run_all is_label_byte l, ltb-true 0 (length (run is_label_byte l)) h.0, leb-true (length (run is_label_byte l)) 8 h.1)
    go false f e = let z : ◌≡◌ {A = ℕ} 0 1 = cc in absurd (omega arith)

then_some : {A B : Type 0} (p : Parsed A) (k : A → List ℕ → Parsed B) (b : B) (l : List ℕ) → then p k ≡ some b l → (a : A) × (l₁ : List ℕ) × (p ≡ some a l₁) × (k a l₁ ≡ some b l)
unfolding then
then_some none k b l e = let z : ◌≡◌ {A = ℕ} 0 1 = cc in absurd (omega arith)
then_some (some a l₁) k b l e = (a, l₁, refl, e)

pub path_label : (l w : List ℕ) (v : ℕ) (r : List ℕ) → path_line l ≡ some (w, v) r → All is_label_byte w × (0 < length w) × (length w ≤ 8)
unfolding path_line
path_label l w v r e =
    let a = then_some (label l) _ (w, v) r e in
    let b = then_some _ _ (w, v) r a.3 in
    let q : a.0 ≡ w = ap (λ (x : Parsed (List ℕ × ℕ)). fields x) b.3 in
    label_is l w a.1 (a.2 ∙ ap (λ (x : List ℕ). some x a.1) q)
  where
    fields : Parsed (List ℕ × ℕ) → List ℕ
    fields none = []
    fields (some x y) = x.0

-- The labels: path k's row, and those before it
pub run_bytes : (m j : ℕ) (w : List ℕ) → All is_label_byte (drop j w) → length w ≤ j + m → run is_label_byte (bytes_from m j w) ≡ drop j w
unfolding bytes_from run
run_bytes zero j w h l = sym (drop_of_length-le w {i = j} (omega arith))
run_bytes (suc m) j w h l = go (dec_lt j (length w)) (λ a. run_bytes m (suc j) w a (omega arith))
  where
    go : Dec (j < length w) → (All is_label_byte (drop (suc j) w) → run is_label_byte (bytes_from m (suc j) w) ≡ drop (suc j) w)
        → cond (is_label_byte (at w j)) (at w j ∷ run is_label_byte (bytes_from m (suc j) w)) [] ≡ drop j w
    go (yes b) ih =
        let c = drop-cons w j 0 b in
        let a = subst (All is_label_byte) c h in
        rw (a.0, ih a.1) (sym c)
    go (no b) ih = rw (get_or-eq_default w 0 {n = j} (omega arith)) (zero_stops ∙ sym (drop_of_length-le w {i = j} (omega arith)))
      where
        zero_stops : cond (is_label_byte 0) (0 ∷ run is_label_byte (bytes_from m (suc j) w)) [] ≡ []
        zero_stops = unfold is_label_byte is_digit in refl

module _ (labels w : List ℕ) (k : ℕ) (long : length labels ≡ 1024) (l : k < 128) where
  abbrev after_put : List ℕ
  after_put = put_row labels k w

  size : length after_put ≡ 1024
  size = put_length labels w k ∙ long

  row_length : (t : List ℕ) (i : ℕ) → length t ≡ 1024 → i < 128 → length (take 8 (drop (8 * i) t)) ≡ 8
  row_length t i e h = omega (arith, length-take 8 (drop (8 * i) t), length-drop (8 * i) t)

  put_label : All is_label_byte w → length w ≤ 8 → label_of after_put k ≡ w
  unfolding label_of
  put_label a h =
      ap (run is_label_byte)
      (ext_get_or 0 (take 8 (drop (8 * k) after_put)) (bytes_from 8 0 w) (row_length after_put k size l ∙ sym (bytes_length 8 0 w))
      (λ j g.
      let b : j < 8 = omega (arith, row_length after_put k size l) in
      get_or-take 8 (drop (8 * k) after_put) j 0 b ∙ get_or-drop (8 * k) after_put j 0 ∙ put_in labels w k j (omega arith) b ∙ sym (bytes_at 8 0 w j b ∙ ap (at w) (zero_plus j))))
      ∙ run_bytes 8 0 w a h
    where
      zero_plus : (j : ℕ) → 0 + j ≡ j
      zero_plus j = omega arith

  pub other_label : (i : ℕ) → i < k → label_of after_put i ≡ label_of labels i
  unfolding label_of
  other_label i h =
      ap (run is_label_byte)
      (ext_get_or 0 (take 8 (drop (8 * i) after_put)) (take 8 (drop (8 * i) labels)) (row_length after_put i size (omega arith) ∙ sym (row_length labels i long (omega arith)))
      (λ j g.
      let b : j < 8 = omega (arith, row_length after_put i size (omega arith)) in
      get_or-take 8 (drop (8 * i) after_put) j 0 b ∙ get_or-drop (8 * i) after_put j 0 ∙ put_before labels w k (8 * i + j) (omega arith)
      ∙ sym (get_or-take 8 (drop (8 * i) labels) j 0 b ∙ get_or-drop (8 * i) labels j 0)))

  other_row : (u : List ℕ) (i : ℕ) → i < k → is_row after_put u i ≡ is_row labels u i
  unfolding is_row
  other_row u i h =
      ap not (found_same (λ j. not (eqb (label_byte after_put i j) (at u j))) (λ j. not (eqb (label_byte labels i j) (at u j))) 8
      (λ j b. ap (λ (x : ℕ). not (eqb x (at u j))) (put_before labels w k (8 * i + j) (omega arith))))

  pub put_formed : All is_label_byte w → 0 < length w → length w ≤ 8 → bad_label after_put k ≡ false
  unfolding bad_label
  put_formed a p h =
      rw (put_label a h, ne_eqb (length w) 0 (λ e. omega arith), row_same after_put w k (λ j b. put_in labels w k j (omega arith) b))

  pub put_once : All is_label_byte w → length w ≤ 8 → ltb (find labels k w) k ≡ false → label_twice after_put k ≡ false
  unfolding label_twice find found
  put_once a h f =
      rw (put_label a h) (sym (found_eq w) ∙ f)
    where
      found_eq : (u : List ℕ) → ltb (first (is_row labels u) k) k ≡ ltb (first (is_row after_put u) k) k
      found_eq u = unfold found in (sym (found_same (is_row after_put u) (is_row labels u) k (λ i g. other_row u i g)))

  pub other_formed : (i : ℕ) → i < k → bad_label after_put i ≡ bad_label labels i
  unfolding bad_label
  other_formed i h = rw (other_label i h, other_row (label_of labels i) i h)

  pub other_once : (i : ℕ) → i < k → label_twice after_put i ≡ label_twice labels i
  unfolding label_twice
  other_once i h = rw (other_label i h) (found_same (is_row after_put (label_of labels i)) (is_row labels (label_of labels i)) i (λ j g. other_row (label_of labels i) j (omega arith)))

-- what the path lines leave
pub record PathsRead (k : ℕ) (t : List ℕ × List ℕ) : Type 0 where
  pub long_labels : length t.0 ≡ 1024
  pub long_widths : length t.1 ≡ 128
  pub formed : (i : ℕ) → i < k → bad_label t.0 i ≡ false
  pub once : (i : ℕ) → i < k → label_twice t.0 i ≡ false
  pub wide : (i : ℕ) → i < k → (1 ≤ at t.1 i) × (at t.1 i ≤ 64)

paths_first : PathsRead 0 (cleared 1024 0, cleared 128 0)
paths_first = record {
  long_labels = cleared_length 1024 0;
  long_widths = cleared_length 128 0;
  formed = λ i h. absurd (omega arith);
  once = λ i h. absurd (omega arith);
  wide = λ i h. absurd (omega arith);
}

paths_keep : (k : ℕ) (t : List ℕ × List ℕ) (l : List ℕ) (t' : List ℕ × List ℕ) (l' : List ℕ) → k < 128 → PathsRead k t → path_step k t l ≡ right t' l' → PathsRead (suc k) t'
unfolding path_step
paths_keep k t l t' l' b p = go (path_line l) refl
  where
    put : (w : List ℕ) (v : ℕ) → All is_label_byte w × (0 < length w) × (length w ≤ 8) → ltb (find t.0 k w) k ≡ false → (1 ≤ v) × (v ≤ 64) → PathsRead (suc k) (put_row t.0 k w, set t.1 k v)
    put w v a f h = record {
      long_labels = put_length t.0 w k ∙ p.long_labels;
      long_widths = length-set t.1 k v ∙ p.long_widths;
      formed = each_suc (λ i. bad_label (put_row t.0 k w) i ≡ false) k (λ i g. other_formed t.0 w k p.long_labels b i g ∙ p.formed i g) (put_formed t.0 w k p.long_labels b a.0 a.1 a.2);
      once = each_suc (λ i. label_twice (put_row t.0 k w) i ≡ false) k (λ i g. other_once t.0 w k p.long_labels b i g ∙ p.once i g) (put_once t.0 w k p.long_labels b a.0 a.2 f);
      wide = each_suc (λ i. (1 ≤ at (set t.1 k v) i) × (at (set t.1 k v) i ≤ 64)) k
          (λ i g. rw (at_other t.1 k v i (λ q. omega arith)) (p.wide i g)) (rw (at_same t.1 k v (omega (arith, p.long_widths))) h);
    }

    go : (x : Parsed (List ℕ × ℕ)) → path_line l ≡ x → path_means k t.0 t.1 x ≡ right t' l' → PathsRead (suc k) t'
    go none f e = unfold path_means in (let z : ◌≡◌ {A = ℕ} 0 1 = cc in absurd (omega arith))
    go (some (w, v) r) f e = by (ltb (find t.0 k w) k) refl (leb 1 v && leb v 64) refl (unfold path_means in e)
      where
        by : (a : Bool) → ltb (find t.0 k w) k ≡ a → (c : Bool) → (leb 1 v && leb v 64) ≡ c
            → cond a (wrong 12) (cond c (right (put_row t.0 k w, set t.1 k v) r) (wrong 3)) ≡ right t' l' → PathsRead (suc k) t'
        by true g c h e = let z : ◌≡◌ {A = ℕ} 0 1 = cc in absurd (omega arith)
        by false g false h e = let z : ◌≡◌ {A = ℕ} 0 1 = cc in absurd (omega arith)
        by false g true h e =
            let q : (put_row t.0 k w, set t.1 k v) ≡ t' = line_table e in
            let x = and_both (leb 1 v) (leb v 64) h in
            subst (PathsRead (suc k)) q (put w v (path_label l w v r f) g (leb-true 1 v x.0, leb-true v 64 x.1))
          where
            line_table : right (put_row t.0 k w, set t.1 k v) r ≡ right t' l' → (put_row t.0 k w, set t.1 k v) ≡ t'
            line_table e = cc

-- The guards: each line sets both cells of one pair
sum_one : (f g : ℕ → ℕ) (p n : ℕ) → ((k : ℕ) → k < n → k ≢ p → g k ≡ f k) → g p ≤ f p + 1 → sum g n ≤ sum f n + 1
unfolding sum
sum_one f g p zero h o = omega arith
sum_one f g p (suc n) h o = go (ℕ_discrete n p) (λ q. sum_one f g p n (λ k l ne. h k (omega arith) ne) o)
  where
    go : Dec (n ≡ p) → (n ≢ p → sum g n ≤ sum f n + 1) → sum g n + g n ≤ sum f n + f n + 1
    go (yes q) ih = omega (arith, sum_same g f n (λ k l. h k (omega arith) (λ r. omega arith)), ap f q, ap g q)
    go (no q) ih = omega (arith, ih q, h n (omega arith) q)

zeros : (m : ℕ) → sum (λ k. 0) m ≡ 0
unfolding sum
zeros zero = refl
zeros (suc m) = omega (arith, zeros m)

pub record GuardsRead (n k : ℕ) (t : List ℕ) : Type 0 where
  pub long : length t ≡ 16384
  pub near : (a b : ℕ) → a < n → b < n → (at t (cell a b) ≤ 32) ⊎ (at t (cell a b) ≡ 255)
  pub mirrored : (a b : ℕ) → a < n → b < n → at t (cell a b) ≡ at t (cell b a)
  pub alone : (a : ℕ) → a < n → at t (cell a a) ≡ 255
  pub many : pairs n t ≤ k

module _ (n : ℕ) (few : n ≤ 128) where
  guards_first : GuardsRead n 0 (cleared 16384 255)
  guards_first = record {
    long = cleared_length 16384 255;
    near = λ a b x y. inr (blank a b x y);
    mirrored = λ a b x y. blank a b x y ∙ sym (blank b a y x);
    alone = λ a x. blank a a x x;
    many = omega (arith, no_pairs);
  }
    where
      blank : (a b : ℕ) → a < n → b < n → at (cleared 16384 255) (cell a b) ≡ 255
      blank a b x y = cleared_at 16384 255 (cell a b) (omega arith)

      not_pair : (a b : ℕ) → a < n → b < n → is_pair (cleared 16384 255) a b ≡ false
      not_pair a b x y = unfold is_pair in (rw (blank a b x y) (and_false (ltb a b)))

      no_pairs : pairs n (cleared 16384 255) ≡ 0
      no_pairs = unfold pairs in
          (sum_same (λ i. sum (λ j. cond (is_pair (cleared 16384 255) i j) 1 0) n) (λ i. 0) n
          (λ i x. sum_same (λ j. cond (is_pair (cleared 16384 255) i j) 1 0) (λ j. 0) n (λ j y. rw (not_pair i j x y)) ∙ zeros n)
          ∙ zeros n)

  module _ (k i j g : ℕ) (t : List ℕ) (r : GuardsRead n k t) (hi : i < n) (hj : j < n) (ne : i ≢ j) (small : g ≤ 32) where
    abbrev t' : List ℕ
    t' = set (set t (cell i j) g) (cell j i) g

    long_once : length (set t (cell i j) g) ≡ 16384
    long_once = length-set t (cell i j) g ∙ r.long

    at_ij : at t' (cell i j) ≡ g
    at_ij = at_other (set t (cell i j) g) (cell j i) g (cell i j) (λ q. omega arith) ∙ at_same t (cell i j) g (omega (arith, r.long))

    at_ji : at t' (cell j i) ≡ g
    at_ji = at_same (set t (cell i j) g) (cell j i) g (omega (arith, long_once))

    at_else : (a b : ℕ) → cell a b ≢ cell i j → cell a b ≢ cell j i → at t' (cell a b) ≡ at t (cell a b)
    at_else a b x y = at_other (set t (cell i j) g) (cell j i) g (cell a b) y ∙ at_other t (cell i j) g (cell a b) x

    -- a cell is that of the pair, its mirror, or another
    Which : ℕ → ℕ → Type 0
    Which a b = ((a ≡ i) × (b ≡ j)) ⊎ (((a ≡ j) × (b ≡ i)) ⊎ ((cell a b ≢ cell i j) × (cell a b ≢ cell j i)))

    which : (a b : ℕ) → a < n → b < n → Which a b
    unfolding Which
    which a b x y = go (ℕ_discrete a i) (ℕ_discrete b j) (ℕ_discrete a j) (ℕ_discrete b i)
      where
        go : Dec (a ≡ i) → Dec (b ≡ j) → Dec (a ≡ j) → Dec (b ≡ i) → ((a ≡ i) × (b ≡ j)) ⊎ (((a ≡ j) × (b ≡ i)) ⊎ ((cell a b ≢ cell i j) × (cell a b ≢ cell j i)))
        go (yes p) (yes q) c d = inl (p, q)
        go (yes p) (no q) c d = inr (inr (λ e. q (omega arith), λ e. omega arith))
        go (no p) q (yes c) (yes d) = inr (inl (c, d))
        go (no p) q (yes c) (no d) = inr (inr (λ e. p (omega arith), λ e. d (omega arith)))
        go (no p) q (no c) d = inr (inr (λ e. p (omega arith), λ e. c (omega arith)))

    near_more : (a b : ℕ) → a < n → b < n → Which a b → (at t' (cell a b) ≤ 32) ⊎ (at t' (cell a b) ≡ 255)
    unfolding Which
    near_more a b x y (inl (p, q)) = inl (rw (p, q, at_ij) small)
    near_more a b x y (inr (inl (p, q))) = inl (rw (p, q, at_ji) small)
    near_more a b x y (inr (inr (p, q))) = rw (at_else a b p q) (r.near a b x y)

    mirror_more : (a b : ℕ) → a < n → b < n → Which a b → at t' (cell a b) ≡ at t' (cell b a)
    unfolding Which
    mirror_more a b x y (inl (p, q)) = rw (p, q) (at_ij ∙ sym at_ji)
    mirror_more a b x y (inr (inl (p, q))) = rw (p, q) (at_ji ∙ sym at_ij)
    mirror_more a b x y (inr (inr (p, q))) = at_else a b p q ∙ r.mirrored a b x y ∙ sym (at_else b a (λ e. q (omega arith)) (λ e. p (omega arith)))

    alone_more : (a : ℕ) → a < n → at t' (cell a a) ≡ 255
    alone_more a x = at_else a a (λ e. ne (omega arith)) (λ e. ne (omega arith)) ∙ r.alone a x

    -- one pair more, at most
    same_pair : (p q : ℕ) → (((p ≡ i) × (q ≡ j)) ⊎ ((p ≡ j) × (q ≡ i))) → p < q → (a b : ℕ) → a < n → b < n → (a ≡ p → b ≡ q → ⊥) → is_pair t' a b ≡ is_pair t a b
    unfolding Which is_pair
    same_pair p q of p<q a b x y other = go (dec_lt a b) (which a b x y)
      where
        not_it : (((p ≡ i) × (q ≡ j)) ⊎ ((p ≡ j) × (q ≡ i))) → a < b → ((a ≡ i) × (b ≡ j)) ⊎ ((a ≡ j) × (b ≡ i)) → ⊥
        not_it (inl (e, f)) l (inl (c, d)) = other (omega arith) (omega arith)
        not_it (inl (e, f)) l (inr (c, d)) = omega arith
        not_it (inr (e, f)) l (inl (c, d)) = omega arith
        not_it (inr (e, f)) l (inr (c, d)) = other (omega arith) (omega arith)

        go : Dec (a < b) → ((a ≡ i) × (b ≡ j)) ⊎ (((a ≡ j) × (b ≡ i)) ⊎ ((cell a b ≢ cell i j) × (cell a b ≢ cell j i))) → (ltb a b && ltb (at t' (cell a b)) 255) ≡ (ltb a b && ltb (at t (cell a b)) 255)
        go (yes l) (inl c) = absurd (not_it of l (inl c))
        go (yes l) (inr (inl c)) = absurd (not_it of l (inr c))
        go (yes l) (inr (inr (c, d))) = ap (λ (x : ℕ). ltb a b && ltb x 255) (at_else a b c d)
        go (no l) w = rw (le-ltb a b (omega arith))

    at_most_one : (b c : Bool) → cond {A = ℕ} b 1 0 ≤ cond c 1 0 + 1
    at_most_one true true = omega arith
    at_most_one true false = omega arith
    at_most_one false c = omega arith

    pairs_one : (p q : ℕ) → p < n → (((p ≡ i) × (q ≡ j)) ⊎ ((p ≡ j) × (q ≡ i))) → p < q → pairs n t' ≤ pairs n t + 1
    unfolding pairs
    pairs_one p q hp of p<q =
        sum_one (λ a. sum (λ b. cond (is_pair t a b) 1 0) n) (λ a. sum (λ b. cond (is_pair t' a b) 1 0) n) p n
        (λ a x other. sum_same (λ b. cond (is_pair t' a b) 1 0) (λ b. cond (is_pair t a b) 1 0) n (λ b y. rw (same_pair p q of p<q a b x y (λ e f. other e))))
        (sum_one (λ b. cond (is_pair t p b) 1 0) (λ b. cond (is_pair t' p b) 1 0) q n
        (λ b y other. rw (same_pair p q of p<q p b hp y (λ e f. other f))) (at_most_one (is_pair t' p q) (is_pair t p q)))

    many_more : pairs n t' ≤ suc k
    many_more = go (dec_lt i j)
      where
        go : Dec (i < j) → pairs n t' ≤ suc k
        go (yes l) = omega (arith, r.many, pairs_one i j hi (inl (refl, refl)) l)
        go (no l) = omega (arith, r.many, pairs_one j i hj (inr (refl, refl)) (omega arith))

    pub guards_more : GuardsRead n (suc k) t'
    guards_more = record {
      long = length-set (set t (cell i j) g) (cell j i) g ∙ long_once;
      near = λ a b x y. near_more a b x y (which a b x y);
      mirrored = λ a b x y. mirror_more a b x y (which a b x y);
      alone = alone_more;
      many = many_more;
    }

  guards_keep : (labels : List ℕ) (k : ℕ) (t l t' l' : List ℕ) → GuardsRead n k t → guard_step n labels k t l ≡ right t' l' → GuardsRead n (suc k) t'
  unfolding guard_step
  guards_keep labels k t l t' l' r = go (guard_line l)
    where
      cells : (i j g : ℕ) (rest : List ℕ) → guard_cell n i j g t rest ≡ right t' l' → GuardsRead n (suc k) t'
      cells i j g rest e = by (ltb i n && ltb j n && not (eqb i j)) refl (eqb (at t (cell i j)) 255) (leb g 32) refl (unfold guard_cell in e)
        where
          by : (a : Bool) → (ltb i n && ltb j n && not (eqb i j)) ≡ a → (b c : Bool) → leb g 32 ≡ c
              → cond a (cond b (cond c (right (set (set t (cell i j) g) (cell j i) g) rest) (wrong 4)) (wrong 14)) (wrong 13) ≡ right t' l' → GuardsRead n (suc k) t'
          by false f b c h e = let z : ◌≡◌ {A = ℕ} 0 1 = cc in absurd (omega arith)
          by true f false c h e = let z : ◌≡◌ {A = ℕ} 0 1 = cc in absurd (omega arith)
          by true f true false h e = let z : ◌≡◌ {A = ℕ} 0 1 = cc in absurd (omega arith)
          by true f true true h e =
              let q : set (set t (cell i j) g) (cell j i) g ≡ t' = cc in
              let x = and_both (ltb i n && ltb j n) (not (eqb i j)) f in
              let y = and_both (ltb i n) (ltb j n) x.0 in
              subst (GuardsRead n (suc k)) q (guards_more k i j g t r (ltb-true i n y.0) (ltb-true j n y.1) (eqb-false i j (not-true (eqb i j) x.1)) (leb-true g 32 h))

      go : (x : Parsed (List ℕ × (List ℕ × ℕ))) → guard_means n labels t x ≡ right t' l' → GuardsRead n (suc k) t'
      go none e = unfold guard_means in (let z : ◌≡◌ {A = ℕ} 0 1 = cc in absurd (omega arith))
      go (some u rest) e = cells (find labels n u.0) (find labels n u.1.0) u.1.1 rest (unfold guard_means in e)

-- The starts
pub record StartsRead (k : ℕ) (t : List ℕ) : Type 0 where
  pub long : length t ≡ 128
  pub start : (i : ℕ) → i < k → (1 ≤ at t i) × (at t i ≤ 16384)

starts_keep : (labels : List ℕ) (k : ℕ) (t l t' l' : List ℕ) → k < 128 → StartsRead k t → start_step labels k t l ≡ right t' l' → StartsRead (suc k) t'
unfolding start_step
starts_keep labels k t l t' l' b r = go (path_line l)
  where
    go : (x : Parsed (List ℕ × ℕ)) → start_means labels k t x ≡ right t' l' → StartsRead (suc k) t'
    go none e = unfold start_means in (let z : ◌≡◌ {A = ℕ} 0 1 = cc in absurd (omega arith))
    go (some u rest) e = by (is_row labels u.0 k) (leb 1 u.1 && leb u.1 16384) refl (unfold start_means in e)
      where
        by : (a c : Bool) → (leb 1 u.1 && leb u.1 16384) ≡ c → cond a (cond c (right (set t k u.1) rest) (wrong 7)) (wrong 13) ≡ right t' l' → StartsRead (suc k) t'
        by false c h e = let z : ◌≡◌ {A = ℕ} 0 1 = cc in absurd (omega arith)
        by true false h e = let z : ◌≡◌ {A = ℕ} 0 1 = cc in absurd (omega arith)
        by true true h e =
            let q : set t k u.1 ≡ t' = cc in
            let x = and_both (leb 1 u.1) (leb u.1 16384) h in
            subst (StartsRead (suc k)) q record {
              long = length-set t k u.1 ∙ r.long;
              start = each_suc (λ i. (1 ≤ at (set t k u.1) i) × (at (set t k u.1) i ≤ 16384)) k
                  (λ i g. rw (at_other t k u.1 i (λ q. omega arith)) (r.start i g)) (rw (at_same t k u.1 (omega (arith, r.long))) (leb-true 1 u.1 x.0, leb-true u.1 16384 x.1));
            }

-- the starts of a sheet: none of them, or all
pub record PlanRead (n : ℕ) (t : List ℕ) : Type 0 where
  pub long : length t ≡ 128
  pub planned : has_plan n t ≡ true → (k : ℕ) → k < n → (1 ≤ at t k) × (at t k ≤ 16384)

starts_part_lem : (n line : ℕ) (labels l t l' : List ℕ) → n ≤ 128 → starts_part n line labels (cleared 128 0) l ≡ done t l' → PlanRead n t
unfolding starts_part last_part
starts_part_lem n line labels [] t l' few e =
    let q : cleared 128 0 ≡ t = cc in
    subst (PlanRead n) q record {
      long = cleared_length 128 0;
      planned = λ h. absurd (true≢false (sym h ∙ no_plan));
    }
  where
    no_plan : has_plan n (cleared 128 0) ≡ false
    no_plan = unfold has_plan in (found_none (λ k. not (eqb (at (cleared 128 0) k) 0)) n (λ k l. rw (cleared_at 128 0 k (omega arith))))
starts_part_lem n line labels (x ∷ l) t l' few e =
    let a = counted_done (count_line starts_word (x ∷ l)) (λ m. eqb m n) line _ t l' e in
    let b = after_done _ _ t l' a.4 in
    let c = lines_keep (start_step labels) (line + 1) 128 StartsRead (λ k t l t' l' h p f. starts_keep labels k t l t' l' h p f) n 0 (cleared 128 0) a.1 b.0 b.1 (omega arith)
    (record { long = cleared_length 128 0; start = λ i h. absurd (omega arith) }) b.2 in
    let q : b.0 ≡ t = ended_is (line + 1 + n) b.0 b.1 b.3 in
    subst (PlanRead n) q record { long = c.long; planned = λ h k g. c.start k (omega arith) }
  where
    ended_is : (line : ℕ) (s r : List ℕ) → ended line s r ≡ done t l' → s ≡ t
    ended_is line s [] f = unfold ended in cc
    ended_is line s (y ∷ r) f = unfold ended in (let z : ◌≡◌ {A = ℕ} 0 1 = cc in absurd (omega arith))

-- A whole sheet: what was read is as the writer asks
abbrev pub Read : ℕ × List ℕ × Lent × List ℕ → Type 0
Read t = Writable t.0 t.1 t.2 t.3

pub sheet_read_lem : (l : List ℕ) (t : ℕ × List ℕ × Lent × List ℕ) (l' : List ℕ) → sheet_from (cleared 1024 0) cleared_network (cleared 128 0) l ≡ done t l' → Read t
unfolding sheet_from guards_part
sheet_read_lem l t l' e =
    let a = counted_done (count_line paths_word l) (λ n. leb 1 n && leb n 128) 1 _ t l' e in
    let n = a.0 in
    let fit = and_both (leb 1 n) (leb n 128) a.3 in
    let few = leb-true n 128 fit.1 in
    let b = after_done (lines path_step 2 n 0 (cleared 1024 0, cleared 128 0) a.1) _ t l' a.4 in
    let paths : PathsRead (0 + n) b.0 = lines_keep path_step 2 128 PathsRead (λ k t l t' l' h p f. paths_keep k t l t' l' h p f) n 0 (cleared 1024 0, cleared 128 0) a.1 b.0 b.1 (omega arith) paths_first b.2 in
    let c = after_done _ _ t l' b.3 in
    let d = counted_done (count_line guards_word b.1) (λ m. leb m 2000) (n + 2) _ c.0 c.1 c.2 in
    let m = d.0 in
    let f = after_done (lines (guard_step n b.0.0) (n + 3) m 0 (cleared 16384 255) d.1) _ c.0 c.1 d.4 in
    let guards : GuardsRead n (0 + m) f.0 = lines_keep (guard_step n b.0.0) (n + 3) m (GuardsRead n) (λ k t l t' l' h p f. guards_keep n few b.0.0 k t l t' l' p f) m 0 (cleared 16384 255) d.1 f.0 f.1 (omega arith) (guards_first n few) f.2 in
    let s = after_done (starts_part n (n + m + 3) b.0.0 (cleared 128 0) f.1) _ c.0 c.1 f.3 in
    let plan = starts_part_lem n (n + m + 3) b.0.0 f.1 s.0 s.1 few s.2 in
    let tables : ◌≡◌ {A = ℕ × List ℕ × Lent × List ℕ} (n, b.0.0, lend b.0.1 f.0, s.0) t = whole n b.0.0 b.0.1 f.0 s.0 c.0 s.1 c.1 s.3 c.3 in
    subst Read tables record {
      network = record {
        some = leb-true 1 n fit.0;
        few = few;
        widths_size = paths.long_widths;
        guards_size = guards.long;
        width = λ k h. paths.wide k (omega arith);
        guard = guards.near;
        diagonal = guards.alone;
        mirrored = guards.mirrored;
      };
      labels_size = paths.long_labels;
      starts_size = plan.long;
      formed = λ k h. paths.formed k (omega arith);
      once = λ k h. paths.once k (omega arith);
      not_many = omega (arith, guards.many, leb-true m 2000 d.3);
      planned = plan.planned;
    }
  where
    whole : (n : ℕ) (labels widths guards starts : List ℕ) (u : List ℕ × List ℕ) (l₁ l₂ : List ℕ) → done (guards, starts) l₁ ≡ done u l₂ → done (n, labels, lend widths u.0, u.1) [] ≡ done t l'
        → ◌≡◌ {A = ℕ × List ℕ × Lent × List ℕ} (n, labels, lend widths guards, starts) t
    whole n labels widths guards starts u l₁ l₂ p q =
        let x : (guards, starts) ≡ u = cc in
        let y : ◌≡◌ {A = ℕ × List ℕ × Lent × List ℕ} (n, labels, lend widths u.0, u.1) t = cc in
        ap (λ (v : List ℕ × List ℕ). (n, labels, lend widths v.0, v.1)) x ∙ y

-- No refusal has the number 0
abbrev Named : {T : Type 0} → Section T → Type 0
Named (halt x y) = x ≢ 0
Named (done t l) = Unit {0}

abbrev NamedLine : {T : Type 0} → Line T → Type 0
NamedLine (wrong x) = x ≢ 0
NamedLine (right t l) = Unit {0}

lines_named : {T : Type 0} (step : ℕ → T → List ℕ → Line T) (top : ℕ) → ((k : ℕ) (t : T) (l : List ℕ) → NamedLine (step k t l)) → (m k : ℕ) (t : T) (l : List ℕ) → Named (lines step top m k t l)
unfolding lines follow
lines_named step top h zero k t l = tt
lines_named {T} step top h (suc m) k t l = go (step k t l) (h k t l) (λ s r. lines_named step top h m (suc k) s r)
  where
    go : (x : Line T) → NamedLine x → ((s : T) (r : List ℕ) → Named (lines step top m (suc k) s r)) → Named (follow x (top + k) (λ s r. lines step top m (suc k) s r))
    go (wrong x) n ih = n
    go (right s r) n ih = ih s r

counted_named : {T : Type 0} (p : Parsed ℕ) (isRight : ℕ → Bool) (line : ℕ) (go : ℕ → List ℕ → Section T) → ((n : ℕ) (l : List ℕ) → Named (go n l)) → Named (counted p isRight line go)
unfolding counted
counted_named none isRight line go h = λ e. omega arith
counted_named (some n l) isRight line go h = by (isRight n)
  where
    by : (b : Bool) → Named (cond b (go n l) (halt 1 line))
    by true = h n l
    by false = λ e. omega arith

after_named : {T U : Type 0} (x : Section T) (go : T → List ℕ → Section U) → Named x → ((t : T) (l : List ℕ) → Named (go t l)) → Named (after x go)
unfolding after
after_named (halt a b) go n h = n
after_named (done t l) go n h = h t l

path_named : (k : ℕ) (t : List ℕ × List ℕ) (l : List ℕ) → NamedLine (path_step k t l)
unfolding path_step path_means
path_named k t l = go (path_line l)
  where
    go : (x : Parsed (List ℕ × ℕ)) → NamedLine (path_means k t.0 t.1 x)
    go none = λ e. omega arith
    go (some (w, v) r) = by (ltb (find t.0 k w) k) (leb 1 v && leb v 64)
      where
        by : (a b : Bool) → NamedLine {T = List ℕ × List ℕ} (cond a (wrong 12) (cond b (right (put_row t.0 k w, set t.1 k v) r) (wrong 3)))
        by true b = λ e. omega arith
        by false true = tt
        by false false = λ e. omega arith

guard_named : (n : ℕ) (labels : List ℕ) (k : ℕ) (t l : List ℕ) → NamedLine (guard_step n labels k t l)
unfolding guard_step guard_means guard_cell
guard_named n labels k t l = go (guard_line l)
  where
    go : (x : Parsed (List ℕ × (List ℕ × ℕ))) → NamedLine (guard_means n labels t x)
    go none = λ e. omega arith
    go (some u r) = by (ltb i n && ltb j n && not (eqb i j)) (eqb (at t (cell i j)) 255) (leb u.1.1 32)
      where
        i : ℕ
        i = find labels n u.0

        j : ℕ
        j = find labels n u.1.0

        by : (a b c : Bool) → NamedLine (cond a (cond b (cond c (right (set (set t (cell i j) u.1.1) (cell j i) u.1.1) r) (wrong 4)) (wrong 14)) (wrong 13))
        by false b c = λ e. omega arith
        by true false c = λ e. omega arith
        by true true false = λ e. omega arith
        by true true true = tt

start_named : (labels : List ℕ) (k : ℕ) (t l : List ℕ) → NamedLine (start_step labels k t l)
unfolding start_step start_means
start_named labels k t l = go (path_line l)
  where
    go : (x : Parsed (List ℕ × ℕ)) → NamedLine (start_means labels k t x)
    go none = λ e. omega arith
    go (some u r) = by (is_row labels u.0 k) (leb 1 u.1 && leb u.1 16384)
      where
        by : (a b : Bool) → NamedLine (cond a (cond b (right (set t k u.1) r) (wrong 7)) (wrong 13))
        by false b = λ e. omega arith
        by true false = λ e. omega arith
        by true true = tt

starts_named : (n line : ℕ) (labels starts l : List ℕ) → Named (starts_part n line labels starts l)
unfolding starts_part last_part
starts_named n line labels starts [] = tt
starts_named n line labels starts (x ∷ l) =
    counted_named (count_line starts_word (x ∷ l)) (λ m. eqb m n) line _
    (λ m l₁. after_named (lines (start_step labels) (line + 1) n 0 starts l₁) _ (lines_named (start_step labels) (line + 1) (start_named labels) n 0 starts l₁) (λ t l₂. end t l₂))
  where
    end : (t l₂ : List ℕ) → Named (ended (line + 1 + n) t l₂)
    end t [] = unfold ended in tt
    end t (y ∷ r) = unfold ended in (λ e. omega arith)

sheet_named : (labels : List ℕ) (lent : Lent) (starts l : List ℕ) → Named (sheet_from labels lent starts l)
unfolding sheet_from guards_part
sheet_named labels lent starts l =
    counted_named (count_line paths_word l) (λ n. leb 1 n && leb n 128) 1 _
    (λ n l₁. after_named (lines path_step 2 n 0 (labels, lent.widths) l₁) _ (lines_named path_step 2 path_named n 0 (labels, lent.widths) l₁)
    (λ t l₂. after_named _ _
    (counted_named (count_line guards_word l₂) (λ m. leb m 2000) (n + 2) _
    (λ m l₃. after_named (lines (guard_step n t.0) (n + 3) m 0 lent.guards l₃) _ (lines_named (guard_step n t.0) (n + 3) (guard_named n t.0) m 0 lent.guards l₃)
    (λ g l₄. after_named (starts_part n (n + m + 3) t.0 starts l₄) _ (starts_named n (n + m + 3) t.0 starts l₄) (λ s l₅. tt))))
    (λ u l₃. tt)))

-- A sheet that was read is accepted by `write`, given room: 45,489 bytes are always enough
accept_all : (x : Section (ℕ × List ℕ × Lent × List ℕ)) → Named x → ((t : ℕ × List ℕ × Lent × List ℕ) (l : List ℕ) → x ≡ done t l → Read t) → (room : List ℕ) → 45489 ≤ length room
    → (read_outcome x).answer.number ≡ 0
    → (writing (read_outcome x).answer.n (read_outcome x).tables.0 (read_outcome x).tables.1 (read_outcome x).tables.2 room).answer.number ≡ 0
unfolding read_outcome
accept_all (halt a b) n h room long z = absurd (n z)
accept_all (done t l) n h room long z = room_enough t.0 t.1 t.2 t.3 room (h t l refl) long

pub read_written : (text labels : List ℕ) (lent : Lent) (starts : List ℕ) → (sheet_sizes labels lent starts).number ≡ 0 → (reading text labels lent starts).answer.number ≡ 0
    → (room : List ℕ) → 45489 ≤ length room
    → (writing (reading text labels lent starts).answer.n (reading text labels lent starts).tables.0 (reading text labels lent starts).tables.1
    (reading text labels lent starts).tables.2 room).answer.number ≡ 0
read_written text labels lent starts sizes z room long =
    rw e (accept_all x (sheet_named (cleared 1024 0) cleared_network (cleared 128 0) text) (λ t l f. sheet_read_lem text t l f) room long (rw e at z))
  where
    x : Section (ℕ × List ℕ × Lent × List ℕ)
    x = sheet_from (cleared 1024 0) cleared_network (cleared 128 0) text

    e : reading text labels lent starts ≡ read_outcome x
    e = unfold reading in (unless_done (sheet_sizes labels lent starts) _ _ sizes)

-- a sheet that is read and written settles: read and written once more, it is the same bytes
module _ (text labels : List ℕ) (lent : Lent) (starts : List ℕ) (sizes : (sheet_sizes labels lent starts).number ≡ 0) (z : (reading text labels lent starts).answer.number ≡ 0)
    (room again : List ℕ) (long : 45489 ≤ length room) (longer : 45489 ≤ length again) where
  abbrev read_once : Left SheetRead (List ℕ × Lent × List ℕ)
  read_once = reading text labels lent starts

  abbrev written_once : Left SheetWritten (List ℕ)
  written_once = writing read_once.answer.n read_once.tables.0 read_once.tables.1 read_once.tables.2 room

  abbrev read_twice : Left SheetRead (List ℕ × Lent × List ℕ)
  read_twice = reading (sheet_of written_once) labels lent starts

  abbrev written_twice : Left SheetWritten (List ℕ)
  written_twice = writing read_twice.answer.n read_twice.tables.0 read_twice.tables.1 read_twice.tables.2 again

  pub settles : (written_twice.answer.number ≡ 0) × (sheet_of written_twice ≡ sheet_of written_once)
  settles =
      let first = read_written text labels lent starts sizes z room long in
      let n = read_once.answer.n in
      let t = read_once.tables in
      let most = sheet_most n t.0 t.1 t.2 (writing_writable n t.0 t.1 t.2 room first).0 in
      rw (written_read n t.0 t.1 t.2 room first labels lent starts sizes)
      (written_again n t.0 t.1 t.2 room again first (omega arith))
