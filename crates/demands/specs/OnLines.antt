-- Demand 1, the lines of a sheet: the number that each kind of line is refused with, exactly: "in a line
-- form first, then fields left to right; 14 precedes 4"; and a section halts at its first line that is not
-- right. Assumes nothing.
use Prim.Native.Nat.{ℕ, zero, suc, ◌+◌, ◌≤◌, ◌<◌}
use Rattle.std.specs.Prelude.{◌≡◌, ◌≢◌, ◌⊎◌, Bool, true, false, set}
use Rattle.std.proofs.Math.Path.{refl}
use Rattle.std.proofs.Common.{sym, ap, subst, ◌∙◌, true≢false, add-zero}
use Rattle.std.proofs.Math.Logic.{inl, inr}
use mathlib.Core.List.{List}
use native.Mathlib.Omega.{arith}
use Rattle.std.proofs.Math.Decide.{dec_lt, ℕ_discrete}
use Rattle.rules.specs.Tables.{at, cell, label_byte}
use Rattle.rules.specs.Scan.{first}
use Rattle.rules.specs.Text.{Parsed, none, some}
use Rattle.rules.specs.Sheet.{is_row, find, put_row, Line, wrong, right, Section, halt, done, follow, lines, path_line, guard_line, path_step, guard_step, start_step}
use Rattle.table_laws.specs.Scans.{First, none as nowhere, some as somewhere, first_is, first_none, first_at}
use Rattle.sheet_laws.specs.Rows.{row_same, row_bytes}
use Rattle.sheet_laws.specs.Lines.{path_ill, path_twice, path_thin, path_wide, path_fine, guard_any, guard_ill, guard_first, guard_second, guard_self, guard_twice, guard_over, guard_fine, start_ill, start_other, start_low, start_high, start_fine}
use Rattle.demands.specs.Forms.{PathForm, path_form, form_path, GuardForm, guard_form, form_guard}

-- path i's label in the table is w: its eight bytes are those of w, "filled at the end with zero bytes"
abbrev pub HasLabel : List ℕ → ℕ → List ℕ → Type 0
HasLabel labels i w = (j : ℕ) → j < 8 → label_byte labels i j ≡ at w j

-- none of the first n paths has the label w; or i is the first that has
abbrev pub Unknown : List ℕ → ℕ → List ℕ → Type 0
Unknown labels n w = (i : ℕ) → i < n → HasLabel labels i w → ⊥

pub record Known (labels : List ℕ) (n : ℕ) (w : List ℕ) (i : ℕ) : Type 0 where
  pub inside : i < n
  pub has : HasLabel labels i w
  pub earliest : Unknown labels i w

pub not_row : (labels w : List ℕ) (i : ℕ) → is_row labels w i ≡ false → HasLabel labels i w → ⊥
not_row labels w i e h = true≢false (sym (row_same labels w i h) ∙ e)

pub row_not : (labels w : List ℕ) (i : ℕ) → (HasLabel labels i w → ⊥) → is_row labels w i ≡ false
row_not labels w i h = go (is_row labels w i) refl
  where
    go : (b : Bool) → is_row labels w i ≡ b → is_row labels w i ≡ false
    go true e = absurd (h (row_bytes labels w i e))
    go false e = e

-- what is found: the first path of a label, or none
module _ (labels : List ℕ) (n : ℕ) (w : List ℕ) where
  pub find_says : (Unknown labels n w × (find labels n w ≡ n)) ⊎ Known labels n w (find labels n w)
  unfolding find
  find_says = go (first_is (is_row labels w) n)
    where
      go : First (is_row labels w) n (first (is_row labels w) n) → (Unknown labels n w × (first (is_row labels w) n ≡ n)) ⊎ Known labels n w (first (is_row labels w) n)
      go (nowhere e h) = inl (λ i l. not_row labels w i (h i l), e)
      go (somewhere l e h) = inr record { inside = l; has = row_bytes labels w (first (is_row labels w) n) e; earliest = λ i g. not_row labels w i (h i g) }

  pub find_unknown : Unknown labels n w → find labels n w ≡ n
  unfolding find
  find_unknown u = first_none (is_row labels w) n (λ i l. row_not labels w i (u i l))

  pub find_known : (i : ℕ) → Known labels n w i → find labels n w ≡ i
  unfolding find
  find_known i k = first_at (is_row labels w) n i (λ j l. row_not labels w j (k.earliest j l)) (row_same labels w i k.has) k.inside

-- A path's line: 11, 12, 3
pub data PathSays (k : ℕ) (labels widths l : List ℕ) : Line (List ℕ × List ℕ) → Type 0 where
  form : ((w : List ℕ) (v : ℕ) (r : List ℕ) → PathForm l w v r → ⊥) → PathSays k labels widths l (wrong 11)
  label_twice : (w : List ℕ) (v : ℕ) (r : List ℕ) → PathForm l w v r → (i : ℕ) → Known labels k w i → PathSays k labels widths l (wrong 12)
  width : (w : List ℕ) (v : ℕ) (r : List ℕ) → PathForm l w v r → Unknown labels k w → (v < 1) ⊎ (64 < v) → PathSays k labels widths l (wrong 3)
  fine : (w : List ℕ) (v : ℕ) (r : List ℕ) → PathForm l w v r → Unknown labels k w → 1 ≤ v → v ≤ 64
      → PathSays k labels widths l (right (put_row labels k w, set widths k v) r)

module _ (k : ℕ) (labels widths l : List ℕ) where
  pub path_says : PathSays k labels widths l (path_step k (labels, widths) l)
  path_says = go (path_line l) refl
    where
      go : (p : Parsed (List ℕ × ℕ)) → path_line l ≡ p → PathSays k labels widths l (path_step k (labels, widths) l)
      go none e = rw (path_ill k labels widths l e) (form (λ w v r f. let x = form_path l w v r f in let z : ◌≡◌ {A = ℕ} 0 1 = cc in omega arith))
      go (some (w, v) r) e = by (find_says labels k w) (dec_lt v 1) (dec_lt 64 v)
        where
          f : PathForm l w v r
          f = path_form l w v r e

          i : ℕ
          i = find labels k w

          by : (Unknown labels k w × (i ≡ k)) ⊎ Known labels k w i → Dec (v < 1) → Dec (64 < v) → PathSays k labels widths l (path_step k (labels, widths) l)
          by (inr h) a b = rw (path_twice k labels widths l w v r e i refl h.inside) (label_twice w v r f i h)
          by (inl u) (yes a) b = rw (path_thin k labels widths l w v r e i refl (omega (arith, u.1)) a) (width w v r f u.0 (inl a))
          by (inl u) (no a) (yes b) = rw (path_wide k labels widths l w v r e i refl (omega (arith, u.1)) b) (width w v r f u.0 (inr b))
          by (inl u) (no a) (no b) =
              rw (path_fine k labels widths l w v r e i refl (omega (arith, u.1)) (omega arith) (omega arith)) (fine w v r f u.0 (omega arith) (omega arith))

  pub path_only : (x : Line (List ℕ × List ℕ)) → PathSays k labels widths l x → path_step k (labels, widths) l ≡ x
  path_only x (form h) = go (path_line l) refl
    where
      go : (p : Parsed (List ℕ × ℕ)) → path_line l ≡ p → path_step k (labels, widths) l ≡ wrong 11
      go none e = path_ill k labels widths l e
      go (some (w, v) r) e = absurd (h w v r (path_form l w v r e))
  path_only x (label_twice w v r f i h) = path_twice k labels widths l w v r (form_path l w v r f) i (sym (find_known labels k w i h)) h.inside
  path_only x (width w v r f u (inl a)) = path_thin k labels widths l w v r (form_path l w v r f) k (sym (find_unknown labels k w u)) (omega arith) a
  path_only x (width w v r f u (inr a)) = path_wide k labels widths l w v r (form_path l w v r f) k (sym (find_unknown labels k w u)) (omega arith) a
  path_only x (fine w v r f u a b) = path_fine k labels widths l w v r (form_path l w v r f) k (sym (find_unknown labels k w u)) (omega arith) a b

-- A guard's line: 11, 13, 14, 4
pub data GuardSays (n : ℕ) (labels guards l : List ℕ) : Line (List ℕ) → Type 0 where
  form : ((a b : List ℕ) (g : ℕ) (r : List ℕ) → GuardForm l a b g r → ⊥) → GuardSays n labels guards l (wrong 11)
  unknown : (a b : List ℕ) (g : ℕ) (r : List ℕ) → GuardForm l a b g r → Unknown labels n a ⊎ Unknown labels n b → GuardSays n labels guards l (wrong 13)
  itself : (a b : List ℕ) (g : ℕ) (r : List ℕ) → GuardForm l a b g r → (i : ℕ) → Known labels n a i → Known labels n b i → GuardSays n labels guards l (wrong 13)
  pair_twice : (a b : List ℕ) (g : ℕ) (r : List ℕ) → GuardForm l a b g r → (i j : ℕ) → Known labels n a i → Known labels n b j → i ≢ j
      → at guards (cell i j) ≢ 255 → GuardSays n labels guards l (wrong 14)
  over : (a b : List ℕ) (g : ℕ) (r : List ℕ) → GuardForm l a b g r → (i j : ℕ) → Known labels n a i → Known labels n b j → i ≢ j
      → at guards (cell i j) ≡ 255 → 32 < g → GuardSays n labels guards l (wrong 4)
  fine : (a b : List ℕ) (g : ℕ) (r : List ℕ) → GuardForm l a b g r → (i j : ℕ) → Known labels n a i → Known labels n b j → i ≢ j
      → at guards (cell i j) ≡ 255 → g ≤ 32 → GuardSays n labels guards l (right (set (set guards (cell i j) g) (cell j i) g) r)

module _ (n : ℕ) (labels : List ℕ) (k : ℕ) (guards l : List ℕ) where
  any : (x : Line (List ℕ)) → guard_step n labels 0 guards l ≡ x → guard_step n labels k guards l ≡ x
  any x e = guard_any n labels k guards l ∙ e

  pub guard_says : GuardSays n labels guards l (guard_step n labels k guards l)
  guard_says = rw (guard_any n labels k guards l) (go (guard_line l) refl)
    where
      go : (p : Parsed (List ℕ × (List ℕ × ℕ))) → guard_line l ≡ p → GuardSays n labels guards l (guard_step n labels 0 guards l)
      go none e = rw (guard_ill n labels guards l e) (form (λ a b g r f. let x = form_guard l a b g r f in let z : ◌≡◌ {A = ℕ} 0 1 = cc in omega arith))
      go (some (a, (b, g)) r) e = by (find_says labels n a) (find_says labels n b) (ℕ_discrete i j) (ℕ_discrete (at guards (cell i j)) 255) (dec_lt 32 g)
        where
          f : GuardForm l a b g r
          f = guard_form l a b g r e

          i : ℕ
          i = find labels n a

          j : ℕ
          j = find labels n b

          by : (Unknown labels n a × (i ≡ n)) ⊎ Known labels n a i → (Unknown labels n b × (j ≡ n)) ⊎ Known labels n b j → Dec (i ≡ j) → Dec (at guards (cell i j) ≡ 255) → Dec (32 < g)
              → GuardSays n labels guards l (guard_step n labels 0 guards l)
          by (inl u) t d c h = rw (guard_first n labels guards l a b g r e i j refl refl (omega (arith, u.1))) (unknown a b g r f (inl u.0))
          by (inr s) (inl u) d c h = rw (guard_second n labels guards l a b g r e i j refl refl s.inside (omega (arith, u.1))) (unknown a b g r f (inr u.0))
          by (inr s) (inr t) (yes d) c h =
              rw (guard_self n labels guards l a b g r e i j refl refl s.inside t.inside d) (itself a b g r f i s (subst (Known labels n b) (sym d) t))
          by (inr s) (inr t) (no d) (no c) h =
              rw (guard_twice n labels guards l a b g r e i j refl refl s.inside t.inside d c) (pair_twice a b g r f i j s t d c)
          by (inr s) (inr t) (no d) (yes c) (yes h) =
              rw (guard_over n labels guards l a b g r e i j refl refl s.inside t.inside d c h) (over a b g r f i j s t d c h)
          by (inr s) (inr t) (no d) (yes c) (no h) =
              rw (guard_fine n labels guards l a b g r e i j refl refl s.inside t.inside d c (omega arith)) (fine a b g r f i j s t d c (omega arith))

  pub guard_only : (x : Line (List ℕ)) → GuardSays n labels guards l x → guard_step n labels k guards l ≡ x
  guard_only x (form h) = any (wrong 11) (go (guard_line l) refl)
    where
      go : (p : Parsed (List ℕ × (List ℕ × ℕ))) → guard_line l ≡ p → guard_step n labels 0 guards l ≡ wrong 11
      go none e = guard_ill n labels guards l e
      go (some (a, (b, g)) r) e = absurd (h a b g r (guard_form l a b g r e))
  guard_only x (unknown a b g r f (inl u)) =
      any x (guard_first n labels guards l a b g r (form_guard l a b g r f) (find labels n a) (find labels n b) refl refl (omega (arith, find_unknown labels n a u)))
  guard_only x (unknown a b g r f (inr u)) = any x (go (find_says labels n a))
    where
      go : (Unknown labels n a × (find labels n a ≡ n)) ⊎ Known labels n a (find labels n a) → guard_step n labels 0 guards l ≡ wrong 13
      go (inl v) = guard_first n labels guards l a b g r (form_guard l a b g r f) (find labels n a) (find labels n b) refl refl (omega (arith, v.1))
      go (inr s) = guard_second n labels guards l a b g r (form_guard l a b g r f) (find labels n a) (find labels n b) refl refl s.inside (omega (arith, find_unknown labels n b u))
  guard_only x (itself a b g r f i s t) =
      any x (guard_self n labels guards l a b g r (form_guard l a b g r f) i i (sym (find_known labels n a i s)) (sym (find_known labels n b i t)) s.inside t.inside refl)
  guard_only x (pair_twice a b g r f i j s t d c) =
      any x (guard_twice n labels guards l a b g r (form_guard l a b g r f) i j (sym (find_known labels n a i s)) (sym (find_known labels n b j t)) s.inside t.inside d c)
  guard_only x (over a b g r f i j s t d c h) =
      any x (guard_over n labels guards l a b g r (form_guard l a b g r f) i j (sym (find_known labels n a i s)) (sym (find_known labels n b j t)) s.inside t.inside d c h)
  guard_only x (fine a b g r f i j s t d c h) =
      any x (guard_fine n labels guards l a b g r (form_guard l a b g r f) i j (sym (find_known labels n a i s)) (sym (find_known labels n b j t)) s.inside t.inside d c h)

-- Path k's start: 11, 13, 7
pub data StartSays (labels : List ℕ) (k : ℕ) (starts l : List ℕ) : Line (List ℕ) → Type 0 where
  form : ((w : List ℕ) (v : ℕ) (r : List ℕ) → PathForm l w v r → ⊥) → StartSays labels k starts l (wrong 11)
  other : (w : List ℕ) (v : ℕ) (r : List ℕ) → PathForm l w v r → (HasLabel labels k w → ⊥) → StartSays labels k starts l (wrong 13)
  start : (w : List ℕ) (v : ℕ) (r : List ℕ) → PathForm l w v r → HasLabel labels k w → (v < 1) ⊎ (16384 < v) → StartSays labels k starts l (wrong 7)
  fine : (w : List ℕ) (v : ℕ) (r : List ℕ) → PathForm l w v r → HasLabel labels k w → 1 ≤ v → v ≤ 16384 → StartSays labels k starts l (right (set starts k v) r)

module _ (labels : List ℕ) (k : ℕ) (starts l : List ℕ) where
  pub start_says : StartSays labels k starts l (start_step labels k starts l)
  start_says = go (path_line l) refl
    where
      go : (p : Parsed (List ℕ × ℕ)) → path_line l ≡ p → StartSays labels k starts l (start_step labels k starts l)
      go none e = rw (start_ill labels k starts l e) (form (λ w v r f. let x = form_path l w v r f in let z : ◌≡◌ {A = ℕ} 0 1 = cc in omega arith))
      go (some (w, v) r) e = by (is_row labels w k) refl (dec_lt v 1) (dec_lt 16384 v)
        where
          f : PathForm l w v r
          f = path_form l w v r e

          by : (t : Bool) → is_row labels w k ≡ t → Dec (v < 1) → Dec (16384 < v) → StartSays labels k starts l (start_step labels k starts l)
          by false t a b = rw (start_other labels k starts l w v r e t) (other w v r f (not_row labels w k t))
          by true t (yes a) b = rw (start_low labels k starts l w v r e t a) (start w v r f (row_bytes labels w k t) (inl a))
          by true t (no a) (yes b) = rw (start_high labels k starts l w v r e t b) (start w v r f (row_bytes labels w k t) (inr b))
          by true t (no a) (no b) = rw (start_fine labels k starts l w v r e t (omega arith) (omega arith)) (fine w v r f (row_bytes labels w k t) (omega arith) (omega arith))

  pub start_only : (x : Line (List ℕ)) → StartSays labels k starts l x → start_step labels k starts l ≡ x
  start_only x (form h) = go (path_line l) refl
    where
      go : (p : Parsed (List ℕ × ℕ)) → path_line l ≡ p → start_step labels k starts l ≡ wrong 11
      go none e = start_ill labels k starts l e
      go (some (w, v) r) e = absurd (h w v r (path_form l w v r e))
  start_only x (other w v r f h) = start_other labels k starts l w v r (form_path l w v r f) (row_not labels w k h)
  start_only x (start w v r f h (inl a)) = start_low labels k starts l w v r (form_path l w v r f) (row_same labels w k h) a
  start_only x (start w v r f h (inr a)) = start_high labels k starts l w v r (form_path l w v r f) (row_same labels w k h) a
  start_only x (fine w v r f h a b) = start_fine labels k starts l w v r (form_path l w v r f) (row_same labels w k h) a b

-- A section of lines. The first k lines are right: they lead from the tables t and the text l to the tables
-- and the text after them
pub data FirstRight {T : Type 0} (step : ℕ → T → List ℕ → Line T) (t : T) (l : List ℕ) : ℕ → T → List ℕ → Type 0 where
  start : FirstRight step t l 0 t l
  more : (k : ℕ) (t' : T) (l' : List ℕ) (t'' : T) (l'' : List ℕ) → FirstRight step t l k t' l' → step k t' l' ≡ right t'' l'' → FirstRight step t l (suc k) t'' l''

-- m lines are right; or the first k of them are, and the line of index k, which is the line top + k, is refused
pub data LinesSay {T : Type 0} (step : ℕ → T → List ℕ → Line T) (top m : ℕ) (t : T) (l : List ℕ) : Section T → Type 0 where
  stops : (k : ℕ) (t' : T) (l' : List ℕ) (x : ℕ) → k < m → FirstRight step t l k t' l' → step k t' l' ≡ wrong x → LinesSay step top m t l (halt x (top + k))
  ends : (t' : T) (l' : List ℕ) → FirstRight step t l m t' l' → LinesSay step top m t l (done t' l')

module _ {T : Type 0} (step : ℕ → T → List ℕ → Line T) (top : ℕ) (t : T) (l : List ℕ) where
  lines_from : (m k : ℕ) (t' : T) (l' : List ℕ) → FirstRight step t l k t' l' → LinesSay step top (k + m) t l (lines step top m k t' l')
  unfolding lines follow
  lines_from zero k t' l' f = rw (add-zero k) (ends t' l' f)
  lines_from (suc m) k t' l' f = go (step k t' l') refl (λ s r g. lines_from m (suc k) s r g)
    where
      go : (x : Line T) → step k t' l' ≡ x → ((s : T) (r : List ℕ) → FirstRight step t l (suc k) s r → LinesSay step top (suc k + m) t l (lines step top m (suc k) s r))
          → LinesSay step top (k + suc m) t l (follow x (top + k) (λ s r. lines step top m (suc k) s r))
      go (wrong x) e ih = stops k t' l' x (omega arith) f e
      go (right s r) e ih = let q : k + suc m ≡ suc k + m = omega arith in rw q (ih s r (more k t' l' s r f e))

  lines_past : (k : ℕ) (t' : T) (l' : List ℕ) → FirstRight step t l k t' l' → (m : ℕ) → lines step top (k + m) 0 t l ≡ lines step top m k t' l'
  lines_past k t' l' start m = let q : 0 + m ≡ m = omega arith in rw q
  lines_past k'' t'' l'' (more k t' l' s r f e) m =
      let q : suc k + m ≡ k + suc m = omega arith in
      rw q (lines_past k t' l' f (suc m) ∙ (unfold lines follow in (rw e)))

  pub lines_say : (m : ℕ) → LinesSay step top m t l (lines step top m 0 t l)
  lines_say m = let q : 0 + m ≡ m = omega arith in subst (λ x. LinesSay step top x t l (lines step top m 0 t l)) q (lines_from m 0 t l start)

  pub lines_only : (m : ℕ) (x : Section T) → LinesSay step top m t l x → lines step top m 0 t l ≡ x
  lines_only m x (ends t' l' f) = let q : m ≡ m + 0 = omega arith in ap (λ (n : ℕ). lines step top n 0 t l) q ∙ lines_past m t' l' f 0 ∙ (unfold lines in refl)
  lines_only m x (stops k t' l' y h f e) = at_rest (rest_of k m h)
    where
      rest_of : (k m : ℕ) → k < m → (j : ℕ) × (m ≡ k + suc j)
      rest_of zero zero h = absurd (omega arith)
      rest_of zero (suc m) h = (m, omega arith)
      rest_of (suc k) zero h = absurd (omega arith)
      rest_of (suc k) (suc m) h = let r = rest_of k m (omega arith) in (r.0, omega (arith, r.1))

      at_rest : (j : ℕ) × (m ≡ k + suc j) → lines step top m 0 t l ≡ halt y (top + k)
      at_rest r = ap (λ (n : ℕ). lines step top n 0 t l) r.1 ∙ lines_past k t' l' f (suc r.0) ∙ (unfold lines follow in (rw e))
