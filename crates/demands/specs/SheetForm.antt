-- Demand 1, the reader: a text is read exactly when it is the sheet of the tables that are then left, as
-- the writer puts it down, save that the guard lines may come in any order and either way round. Assumes
-- nothing.
use Prim.Native.Nat.{ℕ, zero, suc, ◌+◌, ◌/◌, ◌%◌, ◌≤◌, ◌<◌}
use Rattle.std.specs.Prelude.{◌≡◌, ◌≢◌, ◌⊎◌, cond, not, length, set, ltb, eqb}
use Rattle.std.proofs.Math.Path.{refl, sym, ap}
use Rattle.std.proofs.Common.{subst, ◌∙◌, inl, inr, arith, zero-add, add-zero, ext_get_or, lt-ltb, le-ltb, ne_eqb}
use mathlib.Core.List.{List, [], ◌++◌, append_assoc, append-nil}
use Rattle.std.proofs.Math.Decide.{dec_lt, ℕ_discrete}
use Rattle.std.proofs.Math.ListN.{length-set}
use Rattle.rules.specs.Tables.{at, cell, cleared, Lent, lend, cleared_network}
use Rattle.rules.specs.Text.{paths_word, guards_word, starts_word}
use Rattle.rules.specs.Sheet.{find, put_row, right, done, lines, count_line, path_step, guard_step, start_step, after, starts_part, guards_part}
use Rattle.rules.specs.Writing.{label_of, has_plan, join_from, count_text, path_text, paths_text, starts_text}
use Rattle.rules.specs.Calls.{left, reading}
use Rattle.table_laws.specs.Count.{each_suc}
use Rattle.table_laws.specs.Scans.{found_at, found_none}
use Rattle.table_laws.specs.Tables.{at_same, at_other, cleared_length, cleared_at}
use Rattle.sheet_laws.specs.Rows.{put_length, put_in}
use Rattle.sheet_laws.specs.Lines.{guard_any, guard_fine, guards_rest, sheet_done}
use Rattle.sheet_laws.specs.Writes.{label_short}
use Rattle.demands.specs.Kept.{cells_none, labels_none}
use Rattle.demands.specs.SameBytes.{join_same}
use Rattle.demands.specs.ReadBack.{other_label}
use Rattle.demands.specs.Writable.{Writable}
use Rattle.demands.specs.RoundTrip.{some_byte, found_label, label_all, lines_back, count_trip, paths_back}
use Rattle.demands.specs.SheetTrip.{starts_trip}
use Rattle.demands.specs.Forms.{Label, all_bytes, form_guard, pair_line, line_text}
use Rattle.demands.specs.OnLines.{FirstRight, start, more, path_says, guard_says, start_says}
use Rattle.demands.specs.OnReading.{SheetTables, SheetRight, GuardsRight, without_plan, with_plan, sheet_read, reading_is, reading_right}
use Rattle.demands.specs.ReadCells.{path_put, guard_put, start_put, PastCleared, same_cells, same_labels}
use Rattle.demands.specs.LongestSheet.{row_label}

-- m pairs of paths, a k and b k, are the pairs in conflict: each once, in any order and either way round
pub record Listed (n : ℕ) (guards : List ℕ) (m : ℕ) (a b : ℕ → ℕ) : Type 0 where
  pub first : (k : ℕ) → k < m → a k < n
  pub second : (k : ℕ) → k < m → b k < n
  pub apart : (k : ℕ) → k < m → a k ≢ b k
  pub guard : (k : ℕ) → k < m → at guards (cell (a k) (b k)) ≤ 32
  pub once : (h k : ℕ) → h < k → k < m → (((a h ≡ a k) × (b h ≡ b k)) ⊎ ((a h ≡ b k) × (b h ≡ a k))) → ⊥
  pub all : (i j : ℕ) → i < n → j < n → at guards (cell i j) ≢ 255 → (k : ℕ) × (k < m) × (((a k ≡ i) × (b k ≡ j)) ⊎ ((a k ≡ j) × (b k ≡ i)))

-- their lines
abbrev pub pair_lines : List ℕ → List ℕ → (ℕ → ℕ) → (ℕ → ℕ) → ℕ → List ℕ
pair_lines labels guards a b k = pair_line (label_of labels (a k)) (label_of labels (b k)) (at guards (cell (a k) (b k)))

-- a sheet of these tables, with the guard lines in that order
abbrev pub sheet_lines : ℕ → List ℕ → Lent → List ℕ → ℕ → (ℕ → ℕ) → (ℕ → ℕ) → List ℕ
sheet_lines n labels lent starts m a b =
    paths_text n labels lent.widths ++ (count_text guards_word m ++ (join_from m 0 (pair_lines labels lent.guards a b) ++ starts_text n labels starts))

-- one text more at the end
join_snoc : (m k : ℕ) (f : ℕ → List ℕ) → join_from (suc m) k f ≡ join_from m k f ++ f (k + m)
unfolding join_from
join_snoc zero k f = rw (add-zero k) (append-nil (f k))
join_snoc (suc m) k f =
    let e : suc k + m ≡ k + suc m = omega arith in
    ap (λ (l : List ℕ). f k ++ l) (join_snoc m (suc k) f ∙ ap (λ (x : ℕ). join_from m (suc k) f ++ f x) e) ∙ sym (append_assoc (f k) (join_from m (suc k) f) (f (k + suc m)))

-- k lines that are right: their text is that of the first k cells
join_more : (k : ℕ) (f f' : ℕ → List ℕ) (l r r' : List ℕ) → ((i : ℕ) → i < k → f i ≡ f' i) → l ≡ join_from k 0 f ++ r → r ≡ f' k ++ r' → l ≡ join_from (suc k) 0 f' ++ r'
join_more k f f' l r r' same e g =
    e ∙ ap (λ (x : List ℕ). join_from k 0 f ++ x) g ∙ sym (append_assoc (join_from k 0 f) (f' k) r')
    ∙ ap (λ (x : List ℕ). x ++ r')
    (ap (λ (x : List ℕ). x ++ f' k) (join_same f f' k 0 (λ i h. same i (omega arith))) ∙ ap (λ (x : ℕ). join_from k 0 f' ++ f' x) (sym (zero-add k)) ∙ sym (join_snoc k 0 f'))

record PathsSaid (l : List ℕ) (k : ℕ) (t : List ℕ × List ℕ) (l' : List ℕ) : Type 0 where
  long_labels : length t.0 ≡ 1024
  long_widths : length t.1 ≡ 128
  text : l ≡ join_from k 0 (path_text t.0 t.1) ++ l'

nothing_yet : (f : ℕ → List ℕ) (l : List ℕ) → l ≡ join_from 0 0 f ++ l
unfolding join_from
nothing_yet f l = refl

paths_said : (l : List ℕ) (k : ℕ) (t : List ℕ × List ℕ) (l' : List ℕ) → k ≤ 128 → FirstRight path_step (cleared 1024 0, cleared 128 0) l k t l' → PathsSaid l k t l'
paths_said l k t l' few start = record { long_labels = cleared_length 1024 0; long_widths = cleared_length 128 0; text = nothing_yet _ l }
paths_said l k'' t'' l'' few (more k t l' t' r f e) =
    let p = path_put k t l' _ t' r (path_says k t.0 t.1 l') e in
    let s = paths_said l k t l' (omega arith) f in
    let long = put_length t.0 p.w k ∙ s.long_labels in
    let name = row_label (put_row t.0 k p.w) p.w k long (omega arith) (λ j h. put_in t.0 p.w k j (omega (arith, s.long_labels)) h) p.formed.label in
    let wide = at_same t.1 k p.v (omega (arith, s.long_widths)) in
    subst (λ (u : List ℕ × List ℕ). PathsSaid l (suc k) u r) (sym p.put) (record {
      long_labels = long;
      long_widths = length-set t.1 k p.v ∙ s.long_widths;
      text = join_more k (path_text t.0 t.1) (path_text (put_row t.0 k p.w) (set t.1 k p.v)) l l' r
          (λ i h. kept p.w p.v s.long_labels i h) s.text
          (p.formed.text ∙ ap (λ (x : List ℕ). x ++ r) (line p.w p.v name wide));
    })
  where
    kept : (w : List ℕ) (v : ℕ) → length t.0 ≡ 1024 → (i : ℕ) → i < k → path_text t.0 t.1 i ≡ path_text (put_row t.0 k w) (set t.1 k v) i
    kept w v long i h = unfold path_text in (rw (other_label t.0 w k long (omega arith) i h, at_other t.1 k v i (λ q. omega arith)))

    line : (w : List ℕ) (v : ℕ) → label_of (put_row t.0 k w) k ≡ w → at (set t.1 k v) k ≡ v → line_text w v ≡ path_text (put_row t.0 k w) (set t.1 k v) k
    line w v a b = unfold path_text in (rw (a, b))

record StartsSaid (labels l : List ℕ) (k : ℕ) (t l' : List ℕ) : Type 0 where
  long : length t ≡ 128
  least : (i : ℕ) → i < k → 1 ≤ at t i
  text : l ≡ join_from k 0 (path_text labels t) ++ l'

starts_said : (labels l : List ℕ) (k : ℕ) (t l' : List ℕ) → length labels ≡ 1024 → k ≤ 128 → FirstRight (start_step labels) (cleared 128 0) l k t l' → StartsSaid labels l k t l'
starts_said labels l k t l' long few start = record { long = cleared_length 128 0; least = λ i h. absurd (omega arith); text = nothing_yet _ l }
starts_said labels l k'' t'' l'' long few (more k t l' t' r f e) =
    let p = start_put labels k t l' _ t' r (start_says labels k t l') e in
    let s = starts_said labels l k t l' long (omega arith) f in
    let name = row_label labels p.w k long (omega arith) p.has p.formed.label in
    let at-k = at_same t k p.v (omega (arith, s.long)) in
    subst (λ (u : List ℕ). StartsSaid labels l (suc k) u r) (sym p.put) (record {
      long = length-set t k p.v ∙ s.long;
      least = each_suc (λ i. 1 ≤ at (set t k p.v) i) k (λ i h. rw (at_other t k p.v i (λ q. omega arith)) (s.least i h)) (rw at-k p.least);
      text = join_more k (path_text labels t) (path_text labels (set t k p.v)) l l' r (λ i h. kept p.v i h) s.text
          (p.formed.text ∙ ap (λ (x : List ℕ). x ++ r) (line p.w p.v name at-k));
    })
  where
    kept : (v i : ℕ) → i < k → path_text labels t i ≡ path_text labels (set t k v) i
    kept v i h = unfold path_text in (rw (at_other t k v i (λ q. omega arith)))

    line : (w : List ℕ) (v : ℕ) → label_of labels k ≡ w → at (set t k v) k ≡ v → line_text w v ≡ path_text labels (set t k v) k
    line w v a b = unfold path_text in (rw (a, b))

-- a list of so many entries, and one more
unfoldable extend : (ℕ → ℕ) → ℕ → ℕ → ℕ → ℕ
extend a m x k = cond (ltb k m) (a k) x

extend_in : (a : ℕ → ℕ) (m x k : ℕ) → k < m → extend a m x k ≡ a k
unfolding extend
extend_in a m x k h = rw (lt-ltb k m h)

extend_at : (a : ℕ → ℕ) (m x : ℕ) → extend a m x m ≡ x
unfolding extend
extend_at a m x = rw (le-ltb m m (omega arith))

-- the guard lines: the pairs that they name, in their order
record GuardsSaid (n : ℕ) (labels l : List ℕ) (k : ℕ) (t l' : List ℕ) : Type 0 where
  a : ℕ → ℕ
  b : ℕ → ℕ
  long : length t ≡ 16384
  mirrored : (i j : ℕ) → i < n → j < n → at t (cell i j) ≡ at t (cell j i)
  listed : Listed n t k a b
  text : l ≡ join_from k 0 (pair_lines labels t a b) ++ l'

-- the pair x, y is the pair i, j; or it is another
data Which (i j x y : ℕ) : Type 0 where
  same : x ≡ i → y ≡ j → Which i j x y
  turned : x ≡ j → y ≡ i → Which i j x y
  neither : ((x ≡ i) × (y ≡ j) → ⊥) → ((x ≡ j) × (y ≡ i) → ⊥) → Which i j x y

which : (i j x y : ℕ) → Which i j x y
which i j x y = go (ℕ_discrete x i) (ℕ_discrete y j) (ℕ_discrete x j) (ℕ_discrete y i)
  where
    go : Dec (x ≡ i) → Dec (y ≡ j) → Dec (x ≡ j) → Dec (y ≡ i) → Which i j x y
    go (yes p) (yes q) r s = same p q
    go (yes p) (no q) (yes r) (yes s) = turned r s
    go (yes p) (no q) (yes r) (no s) = neither (λ h. q h.1) (λ h. s h.1)
    go (yes p) (no q) (no r) s = neither (λ h. q h.1) (λ h. r h.0)
    go (no p) q (yes r) (yes s) = turned r s
    go (no p) q (yes r) (no s) = neither (λ h. p h.0) (λ h. s h.1)
    go (no p) q (no r) s = neither (λ h. p h.0) (λ h. r h.0)

module _ (n : ℕ) (few : n ≤ 128) (t : List ℕ) (i j g : ℕ) (long : length t ≡ 16384) (x : i < n) (y : j < n) (apart : i ≢ j) where
  abbrev put : List ℕ
  put = set (set t (cell i j) g) (cell j i) g

  put_mirror : at put (cell j i) ≡ g
  put_mirror = at_same (set t (cell i j) g) (cell j i) g (omega (arith, length-set t (cell i j) g))

  put_first : at put (cell i j) ≡ g
  put_first = at_other (set t (cell i j) g) (cell j i) g (cell i j) (λ q. apart (omega arith)) ∙ at_same t (cell i j) g (omega arith)

  put_other : (u v : ℕ) → u < 128 → v < 128 → ((u ≡ i) × (v ≡ j) → ⊥) → ((u ≡ j) × (v ≡ i) → ⊥) → at put (cell u v) ≡ at t (cell u v)
  put_other u v h k p q =
      at_other (set t (cell i j) g) (cell j i) g (cell u v) (λ e. q (omega arith, omega arith)) ∙ at_other t (cell i j) g (cell u v) (λ e. p (omega arith, omega arith))

  put_long : length put ≡ 16384
  put_long = length-set (set t (cell i j) g) (cell j i) g ∙ length-set t (cell i j) g ∙ long

  put_mirrored : ((u v : ℕ) → u < n → v < n → at t (cell u v) ≡ at t (cell v u)) → (u v : ℕ) → u < n → v < n → at put (cell u v) ≡ at put (cell v u)
  put_mirrored m u v h k = go (which i j u v)
    where
      go : Which i j u v → at put (cell u v) ≡ at put (cell v u)
      go (same p q) = rw (p, q) (put_first ∙ sym put_mirror)
      go (turned p q) = rw (p, q) (put_mirror ∙ sym put_first)
      go (neither p q) = put_other u v (omega arith) (omega arith) p q ∙ m u v h k ∙ sym (put_other v u (omega arith) (omega arith) (λ e. q (e.1, e.0)) (λ e. p (e.1, e.0)))

  -- the pairs so far, and i, j after them
  module _ (m : ℕ) (a b : ℕ → ℕ) (so_far : Listed n t m a b) (fresh : at t (cell i j) ≡ 255) (mirror : at t (cell j i) ≡ 255) (most : g ≤ 32) where
    old_first : (k : ℕ) → k < m → ((a k ≡ i) × (b k ≡ j)) → ⊥
    old_first k h e = omega (arith, so_far.guard k h, ap (λ (c : ℕ). at t c) (λ s. cell (e.0 s) (e.1 s)))

    old_turned : (k : ℕ) → k < m → ((a k ≡ j) × (b k ≡ i)) → ⊥
    old_turned k h e = omega (arith, so_far.guard k h, ap (λ (c : ℕ). at t c) (λ s. cell (e.0 s) (e.1 s)))

    old_cell : (k : ℕ) → k < m → at put (cell (a k) (b k)) ≡ at t (cell (a k) (b k))
    old_cell k h = put_other (a k) (b k) (omega (arith, so_far.first k h)) (omega (arith, so_far.second k h)) (old_first k h) (old_turned k h)

    abbrev a' : ℕ → ℕ
    a' = extend a m i

    abbrev b' : ℕ → ℕ
    b' = extend b m j

    listed_more : Listed n put (suc m) a' b'
    listed_more = record {
      first = each_suc (λ k. a' k < n) m (λ k h. rw (extend_in a m i k h) (so_far.first k h)) (rw (extend_at a m i) x);
      second = each_suc (λ k. b' k < n) m (λ k h. rw (extend_in b m j k h) (so_far.second k h)) (rw (extend_at b m j) y);
      apart = each_suc (λ k. a' k ≢ b' k) m (λ k h. rw (extend_in a m i k h, extend_in b m j k h) (so_far.apart k h)) (rw (extend_at a m i, extend_at b m j) apart);
      guard = each_suc (λ k. at put (cell (a' k) (b' k)) ≤ 32) m
          (λ k h. rw (extend_in a m i k h, extend_in b m j k h, old_cell k h) (so_far.guard k h)) (rw (extend_at a m i, extend_at b m j, put_first) most);
      once = λ h k l r. only h k l (dec_lt k m) r;
      all = λ u v p q ne. named u v p q ne (which i j u v);
    }
      where
        only : (h k : ℕ) → h < k → Dec (k < m) → k < suc m → (((a' h ≡ a' k) × (b' h ≡ b' k)) ⊎ ((a' h ≡ b' k) × (b' h ≡ a' k))) → ⊥
        only h k l (yes r) s = rw (extend_in a m i h (omega arith), extend_in b m j h (omega arith), extend_in a m i k r, extend_in b m j k r) (so_far.once h k l r)
        only h k l (no r) s =
            let e : k ≡ m = omega arith in
            rw (e, extend_in a m i h (omega arith), extend_in b m j h (omega arith), extend_at a m i, extend_at b m j) (λ c. last c)
          where
            last : ((a h ≡ i) × (b h ≡ j)) ⊎ ((a h ≡ j) × (b h ≡ i)) → ⊥
            last (inl c) = old_first h (omega arith) c
            last (inr c) = old_turned h (omega arith) c

        named : (u v : ℕ) → u < n → v < n → at put (cell u v) ≢ 255 → Which i j u v → (k : ℕ) × (k < suc m) × (((a' k ≡ u) × (b' k ≡ v)) ⊎ ((a' k ≡ v) × (b' k ≡ u)))
        named u v p q ne (same c d) = (m, omega arith, inl (extend_at a m i ∙ sym c, extend_at b m j ∙ sym d))
        named u v p q ne (turned c d) = (m, omega arith, inr (extend_at a m i ∙ sym d, extend_at b m j ∙ sym c))
        named u v p q ne (neither c d) = old (so_far.all u v p q (λ e. ne (put_other u v (omega arith) (omega arith) c d ∙ e)))
          where
            old : (k : ℕ) × (k < m) × (((a k ≡ u) × (b k ≡ v)) ⊎ ((a k ≡ v) × (b k ≡ u))) → (k : ℕ) × (k < suc m) × (((a' k ≡ u) × (b' k ≡ v)) ⊎ ((a' k ≡ v) × (b' k ≡ u)))
            old (k, h, inl r) = (k, omega arith, inl (extend_in a m i k h ∙ r.0, extend_in b m j k h ∙ r.1))
            old (k, h, inr r) = (k, omega arith, inr (extend_in a m i k h ∙ r.0, extend_in b m j k h ∙ r.1))

pair_line_is : (labels t : List ℕ) (a b : ℕ → ℕ) (k i j g : ℕ) (u v : List ℕ) → a k ≡ i → b k ≡ j → at t (cell i j) ≡ g → label_of labels i ≡ u → label_of labels j ≡ v
    → pair_line u v g ≡ pair_lines labels t a b k
pair_line_is labels t a b k i j g u v p q c d e = rw (p, q, c, d, e)

guards_said : (n : ℕ) (labels l : List ℕ) (k : ℕ) (t l' : List ℕ) → n ≤ 128 → length labels ≡ 1024 → FirstRight (guard_step n labels) (cleared 16384 255) l k t l' → GuardsSaid n labels l k t l'
guards_said n labels l k t l' few long start = record {
  a = λ k. 0;
  b = λ k. 0;
  long = cleared_length 16384 255;
  mirrored = λ i j x y. cleared_at 16384 255 (cell i j) (omega arith) ∙ sym (cleared_at 16384 255 (cell j i) (omega arith));
  listed = record {
    first = λ k h. absurd (omega arith);
    second = λ k h. absurd (omega arith);
    apart = λ k h. absurd (omega arith);
    guard = λ k h. absurd (omega arith);
    once = λ h k l r. absurd (omega arith);
    all = λ i j x y ne. absurd (ne (cleared_at 16384 255 (cell i j) (omega arith)));
  };
  text = nothing_yet _ l;
}
guards_said n labels l k'' t'' l'' few long (more k t l' t' r f e) =
    let p = guard_put n labels t l' _ t' r (guard_says n labels k t l') e in
    let s = guards_said n labels l k t l' few long f in
    let x = p.first.inside in
    let y = p.second.inside in
    let first = row_label labels p.a p.i long (omega arith) p.first.has p.formed.first in
    let second = row_label labels p.b p.j long (omega arith) p.second.has p.formed.second in
    let mirror = sym (s.mirrored p.i p.j x y) ∙ p.fresh in
    subst (λ (u : List ℕ). GuardsSaid n labels l (suc k) u r) (sym p.put) (record {
      a = extend s.a k p.i;
      b = extend s.b k p.j;
      long = put_long n few t p.i p.j p.g s.long x y p.apart;
      mirrored = put_mirrored n few t p.i p.j p.g s.long x y p.apart s.mirrored;
      listed = listed_more n few t p.i p.j p.g s.long x y p.apart k s.a s.b s.listed p.fresh mirror p.most;
      text = join_more k (pair_lines labels t s.a s.b) (pair_lines labels (set (set t (cell p.i p.j) p.g) (cell p.j p.i) p.g) (extend s.a k p.i) (extend s.b k p.j)) l l' r
          (λ h q. rw (extend_in s.a k p.i h q, extend_in s.b k p.j h q, old_cell n few t p.i p.j p.g s.long x y p.apart k s.a s.b s.listed p.fresh mirror p.most h q))
          s.text
          (p.formed.text
          ∙ ap (λ (u : List ℕ). u ++ r)
          (pair_line_is labels (set (set t (cell p.i p.j) p.g) (cell p.j p.i) p.g) (extend s.a k p.i) (extend s.b k p.j) k p.i p.j p.g p.a p.b
          (extend_at s.a k p.i) (extend_at s.b k p.j) (put_first n few t p.i p.j p.g s.long x y p.apart) first second));
    })

-- no plan, or a plan
no_plan : (n : ℕ) → n ≤ 128 → (labels : List ℕ) → starts_text n labels (cleared 128 0) ≡ []
unfolding starts_text has_plan
no_plan n few labels = rw (found_none (λ k. not (eqb (at (cleared 128 0) k) 0)) n (λ k l. rw (cleared_at 128 0 k (omega arith))))

a_plan : (n : ℕ) (labels starts : List ℕ) → 1 ≤ n → 1 ≤ at starts 0 → starts_text n labels starts ≡ count_text starts_word n ++ join_from n 0 (path_text labels starts)
unfolding starts_text has_plan
a_plan n labels starts some-path h = rw (found_at (λ k. not (eqb (at starts k) 0)) n 0 (omega arith) (ap not (ne_eqb (at starts 0) 0 (λ e. omega arith))))

pub record FormOf (text : List ℕ) (n : ℕ) (labels : List ℕ) (lent : Lent) (starts : List ℕ) : Type 0 where
  pub m : ℕ
  pub a : ℕ → ℕ
  pub b : ℕ → ℕ
  pub few : m ≤ 2000
  pub listed : Listed n lent.guards m a b
  pub lines : text ≡ sheet_lines n labels lent starts m a b

guarded_form : (l : List ℕ) (n : ℕ) (labels widths : List ℕ) (m : ℕ) (guards l₄ starts : List ℕ) → GuardsRight l n labels widths m guards l₄ → l₄ ≡ starts_text n labels starts
    → FormOf l n labels (lend widths guards) starts
guarded_form l n labels widths m guards l₄ starts g e =
    let p = paths_said g.paths.l₁ n (labels, widths) g.l₂ g.paths.most g.paths.each in
    let s = guards_said n labels g.l₃ m guards l₄ g.paths.most p.long_labels g.each in
    record {
      m = m;
      a = s.a;
      b = s.b;
      few = g.most;
      listed = s.listed;
      lines =
          g.paths.count.text ∙ ap (λ (x : List ℕ). count_text paths_word n ++ x) p.text ∙ sym (append_assoc (count_text paths_word n) (join_from n 0 (path_text labels widths)) g.l₂)
          ∙ paths_are n labels widths g.l₂ ∙ ap (λ (x : List ℕ). paths_text n labels widths ++ x) (g.count.text ∙ ap (λ (x : List ℕ). count_text guards_word m ++ x)
          (s.text ∙ ap (λ (x : List ℕ). join_from m 0 (pair_lines labels guards s.a s.b) ++ x) e));
    }
  where
    paths_are : (n : ℕ) (labels widths r : List ℕ) → (count_text paths_word n ++ join_from n 0 (path_text labels widths)) ++ r ≡ paths_text n labels widths ++ r
    paths_are n labels widths r = unfold paths_text in refl

sheet_form : (l : List ℕ) (t : ℕ × List ℕ × Lent × List ℕ) → SheetRight l t → FormOf l t.0 t.1 t.2 t.3
sheet_form l t (without_plan n labels widths m guards g) =
    guarded_form l n labels widths m guards [] (cleared 128 0) g (sym (no_plan n g.paths.most labels))
sheet_form l t (with_plan n labels widths m guards starts s) =
    let g = s.guarded in
    let p = paths_said g.paths.l₁ n (labels, widths) g.l₂ g.paths.most g.paths.each in
    let h = starts_said labels s.l₅ n starts [] p.long_labels g.paths.most s.each in
    guarded_form l n labels widths m guards s.l₄ starts g
    (s.count.text ∙ ap (λ (x : List ℕ). count_text starts_word n ++ x) (h.text ∙ append-nil (join_from n 0 (path_text labels starts)))
    ∙ sym (a_plan n labels starts g.paths.least (h.least 0 (omega (arith, g.paths.least)))))

-- a text that is read is the sheet of the tables that are left
pub read_form : (text labels : List ℕ) (lent : Lent) (starts : List ℕ) → (reading text labels lent starts).answer.number ≡ 0
    → FormOf text (reading text labels lent starts).answer.n (reading text labels lent starts).tables.0 (reading text labels lent starts).tables.1 (reading text labels lent starts).tables.2
read_form text labels lent starts z = sheet_form text _ (reading_right text labels lent starts z).1

-- The other way round. The guards of the first k pairs of a list, put down one after the other
unfoldable filled : List ℕ → (ℕ → ℕ) → (ℕ → ℕ) → ℕ → List ℕ
filled guards a b zero = cleared 16384 255
filled guards a b (suc k) =
    set (set (filled guards a b k) (cell (a k) (b k)) (at guards (cell (a k) (b k)))) (cell (b k) (a k)) (at guards (cell (a k) (b k)))

module _ (n : ℕ) (labels : List ℕ) (lent : Lent) (starts : List ℕ) (w : Writable n labels lent starts) (past : PastCleared n labels lent starts)
    (m : ℕ) (a b : ℕ → ℕ) (listed : Listed n lent.guards m a b) where
  few : n ≤ 128
  few = w.network.few

  abbrev guards : List ℕ
  guards = lent.guards

  abbrev fill : ℕ → List ℕ
  fill k = filled guards a b k

  fill_long : (k : ℕ) → length (fill k) ≡ 16384
  unfolding filled
  fill_long zero = cleared_length 16384 255
  fill_long (suc k) =
      length-set (set (fill k) (cell (a k) (b k)) (at guards (cell (a k) (b k)))) (cell (b k) (a k)) (at guards (cell (a k) (b k)))
      ∙ length-set (fill k) (cell (a k) (b k)) (at guards (cell (a k) (b k))) ∙ fill_long k

  -- a pair that is none of the first k
  abbrev Names : ℕ → ℕ → ℕ → Type 0
  Names h u v = ((a h ≡ u) × (b h ≡ v)) ⊎ ((a h ≡ v) × (b h ≡ u))

  fill_none : (k : ℕ) → k ≤ m → (u v : ℕ) → u < 128 → v < 128 → ((h : ℕ) → h < k → Names h u v → ⊥) → at (fill k) (cell u v) ≡ 255
  unfolding filled
  fill_none zero l u v x y none = cleared_at 16384 255 (cell u v) (omega arith)
  fill_none (suc k) l u v x y none =
      put_other n few (fill k) (a k) (b k) (at guards (cell (a k) (b k))) (fill_long k) (listed.first k (omega arith)) (listed.second k (omega arith)) (listed.apart k (omega arith)) u v x y
      (λ e. none k (omega arith) (inl (sym e.0, sym e.1))) (λ e. none k (omega arith) (inr (sym e.1, sym e.0)))
      ∙ fill_none k (omega arith) u v x y (λ h g. none h (omega arith))

  -- one of them
  fill_set : (k : ℕ) → k ≤ m → (u v : ℕ) → u < n → v < n → (h : ℕ) → h < k → Names h u v → at (fill k) (cell u v) ≡ at guards (cell u v)
  unfolding filled
  fill_set zero l u v x y h g s = absurd (omega arith)
  fill_set (suc k) l u v x y h g s = go (which (a k) (b k) u v) (ℕ_discrete h k) (λ f. fill_set k (omega arith) u v x y h f s)
    where
      p : a k < n
      p = listed.first k (omega arith)

      q : b k < n
      q = listed.second k (omega arith)

      go : Which (a k) (b k) u v → Dec (h ≡ k) → (h < k → at (fill k) (cell u v) ≡ at guards (cell u v))
          → at (set (set (fill k) (cell (a k) (b k)) (at guards (cell (a k) (b k)))) (cell (b k) (a k)) (at guards (cell (a k) (b k)))) (cell u v) ≡ at guards (cell u v)
      go (same c d) e ih = rw (c, d) (put_first n few (fill k) (a k) (b k) (at guards (cell (a k) (b k))) (fill_long k) p q (listed.apart k (omega arith)))
      go (turned c d) e ih =
          rw (c, d) (put_mirror n few (fill k) (a k) (b k) (at guards (cell (a k) (b k))) (fill_long k) p q (listed.apart k (omega arith)) ∙ w.network.mirrored (a k) (b k) p q)
      go (neither c d) (no e) ih =
          put_other n few (fill k) (a k) (b k) (at guards (cell (a k) (b k))) (fill_long k) p q (listed.apart k (omega arith)) u v (omega arith) (omega arith) c d ∙ ih (omega arith)
      go (neither c d) (yes e) ih = absurd (clash s)
        where
          clash : Names h u v → ⊥
          clash (inl r) = c (sym r.0 ∙ ap a e, sym r.1 ∙ ap b e)
          clash (inr r) = d (sym r.1 ∙ ap b e, sym r.0 ∙ ap a e)

  fill_all : fill m ≡ guards
  fill_all = ext_get_or 0 (fill m) guards (fill_long m ∙ sym w.network.guards_size) (λ c l. go c (c / 128) (c % 128) (omega arith) (omega (arith, fill_long m)) (omega arith) (dec_lt (c / 128) n) (dec_lt (c % 128) n))
    where
      inside : (u v : ℕ) → u < n → v < n → Dec (at guards (cell u v) ≡ 255) → at (fill m) (cell u v) ≡ at guards (cell u v)
      inside u v x y (no e) = let k = listed.all u v x y e in fill_set m (omega arith) u v x y k.0 k.1 k.2
      inside u v x y (yes e) = fill_none m (omega arith) u v (omega (arith, few)) (omega (arith, few)) (λ h g s. clash h g s) ∙ sym e
        where
          clash : (h : ℕ) → h < m → Names h u v → ⊥
          clash h g (inl r) = omega (arith, listed.guard h g, ap (λ (c : ℕ). at guards c) (λ i. cell (r.0 i) (r.1 i)))
          clash h g (inr r) = omega (arith, listed.guard h g, ap (λ (c : ℕ). at guards c) (λ i. cell (r.0 i) (r.1 i)), w.network.mirrored u v x y)

      outside : (u v : ℕ) → u < 128 → v < 128 → (n ≤ u) ⊎ (n ≤ v) → at (fill m) (cell u v) ≡ at guards (cell u v)
      outside u v x y o = fill_none m (omega arith) u v x y (λ h g s. clash h g s o) ∙ sym (past.guard_cells u v x y o)
        where
          clash : (h : ℕ) → h < m → Names h u v → (n ≤ u) ⊎ (n ≤ v) → ⊥
          clash h g (inl r) (inl o) = omega (arith, listed.first h g, r.0)
          clash h g (inl r) (inr o) = omega (arith, listed.second h g, r.1)
          clash h g (inr r) (inl o) = omega (arith, listed.second h g, r.1)
          clash h g (inr r) (inr o) = omega (arith, listed.first h g, r.0)

      go : (c u v : ℕ) → c ≡ cell u v → u < 128 → v < 128 → Dec (u < n) → Dec (v < n) → at (fill m) c ≡ at guards c
      go c u v e x y (yes p) (yes q) = rw e (inside u v p q (ℕ_discrete (at guards (cell u v)) 255))
      go c u v e x y (no p) q = rw e (outside u v x y (inl (omega arith)))
      go c u v e x y (yes p) (no q) = rw e (outside u v x y (inr (omega arith)))

  -- each guard line is read
  its_label : (i : ℕ) → i < n → Label (label_of labels i)
  its_label i l = record { some = omega (arith, some_byte n labels lent starts w i l); few = label_short labels i; bytes = all_bytes (label_of labels i) (label_all labels i) }

  its_path : (i : ℕ) → i < n → find labels n (label_of labels i) ≡ i
  its_path i l = ap (λ (t : List ℕ). find t n (label_of labels i)) (same_labels n labels lent starts past w.labels_size) ∙ found_label n labels lent starts w i l

  pair_back : (k : ℕ) → k < m → (l : List ℕ) → guard_step n labels k (fill k) (pair_lines labels guards a b k ++ l) ≡ right (fill (suc k)) l
  unfolding filled
  pair_back k h l =
      guard_any n labels k (fill k) (pair_lines labels guards a b k ++ l)
      ∙ guard_fine n labels (fill k) (pair_lines labels guards a b k ++ l) (label_of labels (a k)) (label_of labels (b k)) (at guards (cell (a k) (b k))) l
      (form_guard (pair_lines labels guards a b k ++ l) (label_of labels (a k)) (label_of labels (b k)) (at guards (cell (a k) (b k))) l
      (record { first = its_label (a k) p; second = its_label (b k) q; number = omega (arith, listed.guard k h); text = refl }))
      (a k) (b k) (sym (its_path (a k) p)) (sym (its_path (b k) q)) p q (listed.apart k h)
      (fill_none k (omega arith) (a k) (b k) (omega (arith, few, p)) (omega (arith, few, q)) (λ i g s. listed.once i k g h s)) (listed.guard k h)
    where
      p : a k < n
      p = listed.first k h

      q : b k < n
      q = listed.second k h

  empty : cleared 16384 255 ≡ fill 0
  unfolding filled
  empty = refl

  pairs_back : (top : ℕ) (l : List ℕ) → lines (guard_step n labels) top m 0 (cleared 16384 255) (join_from m 0 (pair_lines labels guards a b) ++ l) ≡ done guards l
  pairs_back top l =
      ap (λ (t : List ℕ). lines (guard_step n labels) top m 0 t (join_from m 0 (pair_lines labels guards a b) ++ l)) empty
      ∙ lines_back (guard_step n labels) top m fill (pair_lines labels guards a b) pair_back m 0 (omega arith) l
      ∙ ap (λ (k : ℕ). done (fill k) l) (zero-add m) ∙ ap (λ (t : List ℕ). done t l) fill_all

  -- so the sheet is read, to these tables
  guards_form_back : m ≤ 2000 → guards_part n labels (cleared 16384 255) (cleared 128 0) (count_text guards_word m ++ (join_from m 0 (pair_lines labels guards a b) ++ starts_text n labels starts))
      ≡ done (guards, starts) []
  unfolding after
  guards_form_back most =
      guards_rest n labels (cleared 16384 255) (cleared 128 0) (count_text guards_word m ++ (join_from m 0 (pair_lines labels guards a b) ++ starts_text n labels starts)) m
      (join_from m 0 (pair_lines labels guards a b) ++ starts_text n labels starts)
      (count_trip guards_word m (join_from m 0 (pair_lines labels guards a b) ++ starts_text n labels starts) (omega arith)) most guards (starts_text n labels starts)
      (pairs_back (n + 3) (starts_text n labels starts))
      ∙ rw starts_back_here
    where
      starts_back_here : starts_part n (n + m + 3) labels (cleared 128 0) (starts_text n labels starts) ≡ done starts []
      starts_back_here =
          ap (λ (t : List ℕ). starts_part n (n + m + 3) t (cleared 128 0) (starts_text n labels starts)) (same_labels n labels lent starts past w.labels_size)
          ∙ starts_trip n labels lent starts w (n + m + 3)
          ∙ ap (λ (t : List ℕ). done t []) (sym (same_cells n labels lent starts past starts w.starts_size past.start_cells))

  sheet_form_back : m ≤ 2000 → sheet_read (sheet_lines n labels lent starts m a b) ≡ done (n, labels, lent, starts) []
  unfolding paths_text
  sheet_form_back most =
      sheet_done (cleared 1024 0) cleared_network (cleared 128 0) ((count_text paths_word n ++ P) ++ R) n (P ++ R)
      (ap (count_line paths_word) (append_assoc (count_text paths_word n) P R) ∙ count_trip paths_word n (P ++ R) (omega (arith, few))) w.network.some few labels lent.widths R
      (ap (λ (t : List ℕ × List ℕ). lines path_step 2 n 0 t (P ++ R)) (λ i. (labels_none labels i, cells_none lent.widths i)) ∙ paths_back n labels lent starts w R
      ∙ sym (λ i. done (same_labels n labels lent starts past w.labels_size i, same_cells n labels lent starts past lent.widths w.network.widths_size past.width_cells i) R))
      guards starts [] (guards_form_back most)
    where
      P : List ℕ
      P = join_from n 0 (path_text labels lent.widths)

      R : List ℕ
      R = count_text guards_word m ++ (join_from m 0 (pair_lines labels guards a b) ++ starts_text n labels starts)

  -- every sheet of that form is read, to the tables that it is a sheet of
  pub form_read : m ≤ 2000 → (labels' : List ℕ) (lent' : Lent) (starts' : List ℕ) → SheetTables labels' lent' starts'
      → reading (sheet_lines n labels lent starts m a b) labels' lent' starts' ≡ left (record { number = 0; place = 0; n = n }) (labels, lent, starts)
  form_read most labels' lent' starts' sizes = reading_is (sheet_lines n labels lent starts m a b) labels' lent' starts' sizes (n, labels, lent, starts) [] (sheet_form_back most)
