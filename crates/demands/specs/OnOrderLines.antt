-- The lines of an order sheet (RULES 27): the number that a line is refused with, exactly, its form first, then
-- its label, its m, and its n; and what a whole text comes to: its first line at fault, or the starts that it
-- gives. Assumes nothing.
use Rattle.std.specs.Prelude.{ℕ, ◌+◌, ◌≤◌, ◌<◌, ◌≡◌, refl, ◌≢◌, ◌⊎◌, Bool, true, false, set, ℤ}
use Rattle.std.proofs.Common.{sym, subst, ◌∙◌, inl, inr, arith}
use mathlib.Core.List.{List, [], ◌∷◌}
use Rattle.std.proofs.Math.Decide.{ℕ_discrete}
use borrow.Author.Tests.{eq-eqb, ne_eqb}
use Rattle.rules.specs.Tables.{at}
use Rattle.rules.specs.Text.{Parsed, none, some, then, order_word, run, label}
use Rattle.rules.specs.Sheet.{is_row, Line, wrong, right, Section, halt, done, lines, count_line, counted, after, ended, last_part}
use Rattle.rules.specs.Grid.{grid_number, grid_start, order_line, order_means, order_step, order_from}
use Rattle.sheet_laws.specs.Rows.{row_same, row_bytes}
use Rattle.sheet_laws.specs.Lines.{order_ill, order_other, order_width, order_none, order_fine}
use Rattle.demands.specs.Forms.{CountForm, count_form, form_count}
use Rattle.demands.specs.OnLines.{HasLabel, not_row, row_not, FirstRight, LinesSay, stops, ends, lines_say, lines_only}
use Rattle.demands.specs.OnReading.{NoCount, count_says, no_count, none_count}
use Rattle.demands.specs.Grid.{start_back, number_back, no_start}
use Rattle.demands.specs.OrderForms.{OrderForm, order_form, form_order}

-- Path k's line: 11 no such form, 13 not its label, 3 an m that is not its width, 7 an n that no start of 1 to
-- 16,384 has with that width; and otherwise its start
pub data OrderSays (anchor : ℤ) (labels widths : List ℕ) (k : ℕ) (starts l : List ℕ) : Line (List ℕ) → Type 0 where
  form : ((w : List ℕ) (n : ℤ) (m : ℕ) (r : List ℕ) → OrderForm l w n m r → ⊥) → OrderSays anchor labels widths k starts l (wrong 11)
  other : (w : List ℕ) (n : ℤ) (m : ℕ) (r : List ℕ) → OrderForm l w n m r → (HasLabel labels k w → ⊥) → OrderSays anchor labels widths k starts l (wrong 13)
  width : (w : List ℕ) (n : ℤ) (m : ℕ) (r : List ℕ) → OrderForm l w n m r → HasLabel labels k w → m ≢ at widths k
      → OrderSays anchor labels widths k starts l (wrong 3)
  off : (w : List ℕ) (n : ℤ) (r : List ℕ) → OrderForm l w n (at widths k) r → HasLabel labels k w
      → ((b : ℕ) → 1 ≤ b → b ≤ 16384 → grid_number anchor b (at widths k) ≢ n) → OrderSays anchor labels widths k starts l (wrong 7)
  fine : (w : List ℕ) (b : ℕ) (r : List ℕ) → OrderForm l w (grid_number anchor b (at widths k)) (at widths k) r → HasLabel labels k w
      → 1 ≤ b → b ≤ 16384 → OrderSays anchor labels widths k starts l (right (set starts k b) r)

module _ (anchor : ℤ) (labels widths : List ℕ) (k : ℕ) (starts l : List ℕ) where
  abbrev step : Line (List ℕ)
  step = order_step anchor labels widths k starts l

  pub order_says : OrderSays anchor labels widths k starts l step
  order_says = go (order_line l) refl
    where
      go : (p : Parsed (List ℕ × (ℤ × ℕ))) → order_line l ≡ p → OrderSays anchor labels widths k starts l step
      go none e = rw (order_ill anchor labels widths k starts l e) (form (λ w n m r f. let x = form_order l w n m r f in let z : ◌≡◌ {A = ℕ} 0 1 = cc in omega arith))
      go (some (w, (n, m)) r) e = by (is_row labels w k) refl (ℕ_discrete m (at widths k)) (ℕ_discrete (grid_start anchor (at widths k) n) 0)
        where
          f : OrderForm l w n m r
          f = order_form l w n m r e

          by : (t : Bool) → is_row labels w k ≡ t → Dec (m ≡ at widths k) → Dec (grid_start anchor (at widths k) n ≡ 0) → OrderSays anchor labels widths k starts l step
          by false t c d = rw (order_other anchor labels widths k starts l w n m r e t) (other w n m r f (not_row labels w k t))
          by true t (no c) d = rw (order_width anchor labels widths k starts l w n m r e t c) (width w n m r f (row_bytes labels w k t) c)
          by true t (yes c) (yes d) =
              rw (order_none anchor labels widths k starts l w n m r e t c (grid_start anchor (at widths k) n) refl d)
              (off w n r (subst (λ (x : ℕ). OrderForm l w n x r) c f) (row_bytes labels w k t) ((no_start anchor (at widths k) n).0 d))
          by true t (yes c) (no d) =
              let s = number_back anchor (at widths k) n d in
              rw (order_fine anchor labels widths k starts l w n m r e t c (grid_start anchor (at widths k) n) refl s.0)
              (fine w (grid_start anchor (at widths k) n) r (subst (λ (x : ℤ). OrderForm l w x (at widths k) r) (sym s.2) (subst (λ (x : ℕ). OrderForm l w n x r) c f)) (row_bytes labels w k t) s.0 s.1)

  pub order_only : (x : Line (List ℕ)) → OrderSays anchor labels widths k starts l x → step ≡ x
  order_only x (form h) = go (order_line l) refl
    where
      go : (p : Parsed (List ℕ × (ℤ × ℕ))) → order_line l ≡ p → step ≡ wrong 11
      go none e = order_ill anchor labels widths k starts l e
      go (some (w, (n, m)) r) e = absurd (h w n m r (order_form l w n m r e))
  order_only x (other w n m r f h) = order_other anchor labels widths k starts l w n m r (form_order l w n m r f) (row_not labels w k h)
  order_only x (width w n m r f h d) = order_width anchor labels widths k starts l w n m r (form_order l w n m r f) (row_same labels w k h) d
  order_only x (off w n r f h d) =
      order_none anchor labels widths k starts l w n (at widths k) r (form_order l w n (at widths k) r f) (row_same labels w k h) refl (grid_start anchor (at widths k) n) refl ((no_start anchor (at widths k) n).1 d)
  order_only x (fine w b r f h p q) =
      let n = grid_number anchor b (at widths k) in
      order_fine anchor labels widths k starts l w n (at widths k) r (form_order l w n (at widths k) r f) (row_same labels w k h) refl b (sym (start_back anchor b (at widths k) p q)) p

-- a line that is missing is of wrong form
pub order_missing : (anchor : ℤ) (labels widths : List ℕ) (k : ℕ) (starts : List ℕ) → order_step anchor labels widths k starts [] ≡ wrong 11
unfolding order_step order_means order_line then label run
order_missing anchor labels widths k starts = refl

-- the numbers of lines
order_named : (anchor : ℤ) (labels widths : List ℕ) (k : ℕ) (starts l : List ℕ) (y : Line (List ℕ)) (x : ℕ) → OrderSays anchor labels widths k starts l y → y ≡ wrong x → x ≢ 0
order_named anchor labels widths k starts l y x (form h) e = let q : 11 ≡ x = cc in λ z. omega arith
order_named anchor labels widths k starts l y x (other w n m r f h) e = let q : 13 ≡ x = cc in λ z. omega arith
order_named anchor labels widths k starts l y x (width w n m r f h d) e = let q : 3 ≡ x = cc in λ z. omega arith
order_named anchor labels widths k starts l y x (off w n r f h d) e = let q : 7 ≡ x = cc in λ z. omega arith
order_named anchor labels widths k starts l y x (fine w b r f h p q) e = let z : ◌≡◌ {A = ℕ} 0 1 = cc in absurd (omega arith)

-- A whole text, read over the starts of n paths: the first line at fault, as the number and the line. Line 1 is
-- the count's, 2 + k path k's, and 2 + n that of text which is left over
pub data OrderWrong (anchor : ℤ) (n : ℕ) (labels widths starts l : List ℕ) : ℕ → ℕ → Type 0 where
  count_formless : NoCount order_word l → OrderWrong anchor n labels widths starts l 11 1
  count_other : (m : ℕ) (r : List ℕ) → CountForm order_word l m r → m ≢ n → OrderWrong anchor n labels widths starts l 1 1
  line_wrong : (l₁ : List ℕ) → CountForm order_word l n l₁ → (k : ℕ) (t l₂ : List ℕ) (x : ℕ) → k < n → FirstRight (order_step anchor labels widths) starts l₁ k t l₂
      → order_step anchor labels widths k t l₂ ≡ wrong x → OrderWrong anchor n labels widths starts l x (2 + k)
  left_over : (l₁ : List ℕ) → CountForm order_word l n l₁ → (t : List ℕ) (y : ℕ) (r : List ℕ) → FirstRight (order_step anchor labels widths) starts l₁ n t (y ∷ r)
      → OrderWrong anchor n labels widths starts l 11 (2 + n)

-- or no line is at fault, and what the starts then are
pub record OrderRight (anchor : ℤ) (n : ℕ) (labels widths starts l after : List ℕ) : Type 0 where
  pub l₁ : List ℕ
  pub count : CountForm order_word l n l₁
  pub each : FirstRight (order_step anchor labels widths) starts l₁ n after []

pub data OrderReads (anchor : ℤ) (n : ℕ) (labels widths starts l : List ℕ) : Type 0 where
  wrong_at : (x y : ℕ) → OrderWrong anchor n labels widths starts l x y → OrderReads anchor n labels widths starts l
  rightly : (t : List ℕ) → OrderRight anchor n labels widths starts l t → OrderReads anchor n labels widths starts l

module _ (anchor : ℤ) (n : ℕ) (labels widths starts l : List ℕ) where
  abbrev each_line : ℕ → List ℕ → List ℕ → Line (List ℕ)
  each_line = order_step anchor labels widths

  pub order_reads : OrderReads anchor n labels widths starts l
  order_reads = count (count_says order_word l)
    where
      each_one : (r : List ℕ) → CountForm order_word l n r → (x : Section (List ℕ)) → LinesSay each_line 2 n starts r x → OrderReads anchor n labels widths starts l
      each_one r f x (stops k t l₂ z h g e) = wrong_at z (2 + k) (line_wrong r f k t l₂ z h g e)
      each_one r f x (ends t [] g) = rightly t (record { l₁ = r; count = f; each = g })
      each_one r f x (ends t (y ∷ u) g) = wrong_at 11 (2 + n) (left_over r f t y u g)

      count : ((c : ℕ) × (r : List ℕ) × (count_line order_word l ≡ some c r)) ⊎ (count_line order_word l ≡ none) → OrderReads anchor n labels widths starts l
      count (inr e) = wrong_at 11 1 (count_formless (no_count order_word l e))
      count (inl c) = by (ℕ_discrete c.0 n)
        where
          f : CountForm order_word l c.0 c.1
          f = count_form order_word l c.0 c.1 c.2

          by : Dec (c.0 ≡ n) → OrderReads anchor n labels widths starts l
          by (no d) = wrong_at 1 1 (count_other c.0 c.1 f d)
          by (yes q) = each_one c.1 (subst (λ k. CountForm order_word l k c.1) q f) _ (lines_say each_line 2 starts c.1 n)

  -- each of these is what the text comes to
  pub after_count : (l₁ : List ℕ) → CountForm order_word l n l₁
      → order_from anchor n labels widths starts l ≡ after (lines each_line 2 n 0 starts l₁) (λ (t r : List ℕ). ended (2 + n) t r)
  unfolding order_from last_part counted
  after_count l₁ f = rw (form_count order_word l n l₁ f, eq-eqb n n refl)

  pub order_wrong : (x y : ℕ) → OrderWrong anchor n labels widths starts l x y → order_from anchor n labels widths starts l ≡ halt x y
  unfolding after ended
  order_wrong x y (count_formless h) = unfold order_from last_part counted in (rw (none_count order_word l h))
  order_wrong x y (count_other m r f d) = unfold order_from last_part counted in (rw (form_count order_word l m r f, ne_eqb m n d))
  order_wrong x y (line_wrong l₁ f k t l₂ z h g e) = after_count l₁ f ∙ rw (lines_only each_line 2 starts l₁ n (halt z (2 + k)) (stops k t l₂ z h g e))
  order_wrong x y (left_over l₁ f t z r g) = after_count l₁ f ∙ rw (lines_only each_line 2 starts l₁ n (done t (z ∷ r)) (ends t (z ∷ r) g))

  pub order_right : (t : List ℕ) → OrderRight anchor n labels widths starts l t → order_from anchor n labels widths starts l ≡ done t []
  unfolding after ended
  order_right t h = after_count h.l₁ h.count ∙ rw (lines_only each_line 2 starts h.l₁ n (done t []) (ends t [] h.each))

  -- no line's number is 0
  pub wrong_named : (x y : ℕ) → OrderWrong anchor n labels widths starts l x y → x ≢ 0
  wrong_named x y (count_formless h) = λ z. omega arith
  wrong_named x y (count_other m r f d) = λ z. omega arith
  wrong_named x y (line_wrong l₁ f k t l₂ u h g e) = order_named anchor labels widths k t l₂ _ u (order_says anchor labels widths k t l₂) e
  wrong_named x y (left_over l₁ f t z r g) = λ z. omega arith
