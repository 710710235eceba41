-- The answer to an order sheet does not depend on more than its first 2,318 bytes (RULES 27). The longest one has
-- 2,314; but a last line that is at fault may have four bytes more than one that is right, a sign and five digits
-- before five digits, and its number tells them apart. Assumes nothing.
use Prim.Native.Nat.{ℕ, zero, suc, ◌+◌, ◌-◌, ◌≤◌, ◌<◌}
use Rattle.std.specs.Prelude.{◌≡◌, cond, List, [], ◌∷◌, set, take, ltb, eqb, ℤ, pos, negsuc}
use Rattle.std.proofs.Math.Path.{refl, sym}
use Rattle.std.proofs.Common.{◌∙◌, arith}
use Rattle.std.proofs.Math.Decide.{ℕ_discrete}
use borrow.Author.Tests.{eqb-true, ltb-true}
use Rattle.rules.specs.Tables.{at, Lent}
use Rattle.rules.specs.Text.{Parsed, some, then, word, space, order_word, label, number, below_zero, signed}
use Rattle.rules.specs.Sheet.{is_row, Line, wrong, right, Section, last_field}
use Rattle.rules.specs.Grid.{grid_start, order_line, order_means, order_step, order_from}
use Rattle.rules.specs.Numbers.{order_read_fault}
use Rattle.rules.specs.Calls.{order_outcome, order_reading}
use Rattle.plan_laws.specs.Answers.{unless_done, unless_refused}
use Rattle.sheet_laws.specs.FirstBytes.{Front, less, Alike, neither, both, then_alike, either, word_alike, label_alike, Behind, number_alike, Rest, last_alike, AlikeLine, wrongs, rights, AlikeSection, halts, ends, last_alike_part}
use Rattle.demands.specs.Grid.{Anchor, OnGrid, number_back, number_range}
use Rattle.demands.specs.Orderable.{OrderTables, tables_clear}

-- after a number that may lie below 0, read where b bytes are known: how many bytes it has, no more than five
-- where it is on the grid, and the bytes still known
record Past (b : ℕ) (z : ℤ) (r r' : List ℕ) : Type 0 where
  used : ℕ
  few : used ≤ 6
  tight : OnGrid z → used ≤ 5
  front : Front (b - used) r r'

below_alike : (b : ℕ) (p p' : Parsed ℕ) → Alike (Behind b) p p' → Alike (Past (1 + b)) (below_zero p) (below_zero p')
unfolding below_zero
below_alike b p p' neither = neither
below_alike b p p' (both zero r r' f) = neither
below_alike b p p' (both (suc v) r r' f) =
    both (negsuc v) r r' (record {
      used = 1 + f.used;
      few = omega (arith, f.few);
      tight = λ h. omega (arith, f.tight 4 (omega arith) (omega arith));
      front = less (1 + b - (1 + f.used)) (b - f.used) r r' (omega arith) f.front;
    })

signed_front : (l : List ℕ) (b q : ℕ) → 7 ≤ b → b ≤ q → Alike (Past b) (signed l) (signed (take q l))
unfolding signed
signed_front l b zero o h = absurd (omega arith)
signed_front [] b (suc q) o h = neither
signed_front (x ∷ l) b (suc q) o h =
    either (Alike (Past b)) (eqb x 45) (below_zero (number l)) (below_zero (number (take q l))) (then (number (x ∷ l)) P) (then (number (x ∷ take q l)) P)
    (λ _.
    let e : 1 + (b - 1) ≡ b = omega arith in
    rw e at (below_alike (b - 1) (number l) (number (take q l)) (number_alike l (take q l) (b - 1) (omega arith) (record { kept = q; enough = omega arith; same = refl }))))
    (then_alike (Behind b) (Past b) (number (x ∷ l)) (number (x ∷ take q l)) P (number_alike (x ∷ l) (x ∷ take q l) b (omega arith) (record { kept = suc q; enough = h; same = refl }))
    (λ v r r' f. both (pos v) r r' (record { used = f.used; few = omega (arith, f.few); tight = λ _. f.few; front = f.front })))
  where
    P : ℕ → List ℕ → Parsed ℤ
    P v r = some (pos v) r

signed_alike : (l l' : List ℕ) (b : ℕ) → 7 ≤ b → Front b l l' → Alike (Past b) (signed l) (signed l')
signed_alike l l' b o f = rw f.same (signed_front l b f.kept o f.enough)

-- a line, the bytes known after its label and a space being 9 + d: where it is right, d are known after it
abbrev After : ℕ → List ℕ × (ℤ × ℕ) → List ℕ → List ℕ → Type 0
After d t r r' = OnGrid t.1.0 → t.1.1 ≤ 64 → Front d r r'

order_alike : (l l' : List ℕ) (d : ℕ) → 4 ≤ d → Front (18 + d) l l' → Alike (After d) (order_line l) (order_line l')
unfolding order_line
order_alike l l' d o f =
    let b = 9 + d in
    then_alike (λ _ r r'. Front (1 + b) r r') (After d) (label l) (label l') _ (label_alike l l' (1 + b) (omega arith) (less (8 + (1 + b)) (18 + d) l l' (omega arith) f))
    (λ w r r' g.
    then_alike (λ _ s s'. Front b s s') (After d) (word space r) (word space r') _ (word_alike space r r' b g)
    (λ _ s s' h.
    then_alike (Past b) (After d) (signed s) (signed s') (λ n l₃. then (last_field l₃) (λ m l₄. some (w, (n, m)) l₄)) (signed_alike s s' b (omega arith) h)
    (λ n u u' p.
    let c = b - (p.used + 1) in
    then_alike (Rest c) (After d) (last_field u) (last_field u') (λ m l₄. some (w, (n, m)) l₄) (last_alike c u u' (omega (arith, p.few)) (less (1 + c) (b - p.used) u u' (omega (arith, p.few)) p.front))
    (λ m v v' e. both (w, (n, m)) v v' (λ on small. less d (c - (2 + 1)) v v' (omega (arith, p.tight on)) (e 2 (omega arith) (omega arith)))))))

-- a line of a path whose width is within its limits
module _ (anchor : ℤ) (anchored : Anchor anchor) (labels widths : List ℕ) (k : ℕ) (thin : 1 ≤ at widths k) (wide : at widths k ≤ 64) where
  means_alike : (starts : List ℕ) (d : ℕ) (p p' : Parsed (List ℕ × (ℤ × ℕ))) → Alike (After d) p p' → AlikeLine d (order_means anchor labels widths k starts p) (order_means anchor labels widths k starts p')
  unfolding order_means
  means_alike starts d p p' neither = wrongs 11
  means_alike starts d p p' (both (w, (n, m)) r r' f) =
      either (AlikeLine d) (is_row labels w k) (second r) (second r') (wrong 13) (wrong 13)
      (λ _.
      either (AlikeLine d) (eqb m (at widths k)) (third r) (third r') (wrong 3) (wrong 3)
      (λ q.
      either (AlikeLine d) (ltb 0 b) (right (set starts k b) r) (right (set starts k b) r') (wrong 7) (wrong 7)
      (λ s. rights (set starts k b) r r' (f (on (ltb-true 0 b s)) (omega (arith, eqb-true m (at widths k) q)))) (wrongs 7))
      (wrongs 3))
      (wrongs 13)
    where
      b : ℕ
      b = grid_start anchor (at widths k) n

      third : List ℕ → Line (List ℕ)
      third l = cond (ltb 0 b) (right (set starts k b) l) (wrong 7)

      second : List ℕ → Line (List ℕ)
      second l = cond (eqb m (at widths k)) (third l) (wrong 3)

      on : 0 < b → OnGrid n
      on h = let s = number_back anchor (at widths k) n (λ z. omega arith) in rw s.2 at (number_range anchor b (at widths k) anchored s.0 s.1 thin wide)

  step_alike : (starts l l' : List ℕ) (d : ℕ) → 4 ≤ d → Front (18 + d) l l' → AlikeLine d (order_step anchor labels widths k starts l) (order_step anchor labels widths k starts l')
  unfolding order_step
  step_alike starts l l' d o f = means_alike starts d (order_line l) (order_line l') (order_alike l l' d o f)

outcome_same : (starts : List ℕ) (s s' : Section (List ℕ)) → AlikeSection 0 s s' → order_outcome starts s ≡ order_outcome starts s'
unfolding order_outcome
outcome_same starts s s' (halts x line) = refl
outcome_same starts s s' (ends t r r' f) = refl

-- the call: its answer and the starts are those of the first q bytes, for every q from 2,318 on
module _ (anchor : ℤ) (text : List ℕ) (n : ℕ) (labels : List ℕ) (lent : Lent) (starts : List ℕ) where
  read_alike : (q : ℕ) → 2318 ≤ q → OrderTables anchor n labels lent starts
      → AlikeSection 0 (order_from anchor n labels lent.widths starts text) (order_from anchor n labels lent.widths starts (take q text))
  unfolding order_from
  read_alike q h s =
      last_alike_part order_word (order_step anchor labels lent.widths) 18 4 n
      (λ k l t u u' d o f. let w = s.network.width k l in step_alike anchor s.anchored labels lent.widths k w.0 w.1 t u u' d o f)
      1 starts text (take q text) s.network.some (omega arith) (omega arith) s.network.few
      (record { kept = q; enough = omega (arith, s.network.few); same = refl })

  pub order_first_bytes : (q : ℕ) → 2318 ≤ q → order_reading anchor text n labels lent starts ≡ order_reading anchor (take q text) n labels lent starts
  unfolding order_reading
  order_first_bytes q h = go (ℕ_discrete (order_read_fault anchor n labels lent starts).number 0)
    where
      go : Dec ((order_read_fault anchor n labels lent starts).number ≡ 0) → order_reading anchor text n labels lent starts ≡ order_reading anchor (take q text) n labels lent starts
      go (yes z) =
          unless_done (order_read_fault anchor n labels lent starts) _ _ z
          ∙ outcome_same starts _ _ (read_alike q h (tables_clear anchor n labels lent starts z))
          ∙ sym (unless_done (order_read_fault anchor n labels lent starts) _ _ z)
      go (no z) = unless_refused (order_read_fault anchor n labels lent starts) _ _ z ∙ sym (unless_refused (order_read_fault anchor n labels lent starts) _ _ z)
