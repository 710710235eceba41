-- What `order_read` accepts is the order sheet of the starts that it gives, byte for byte (RULES 27): there is one
-- order sheet for a plan. It is written back to the same text, given room, where no two paths have one label.
-- Assumes nothing.
use Rattle.std.specs.Prelude.{ℕ, zero, suc, ◌+◌, ◌≤◌, ◌<◌, ◌≡◌, false, length, set, ℤ}
use Rattle.std.proofs.Math.Path.{refl, ap}
use Rattle.std.proofs.Common.{sym, subst, ◌∙◌, add-zero, zero-add, arith, length-set}
use mathlib.Core.List.{List, [], ◌++◌, append_assoc, append-nil}
use borrow.Author.Tests.{ne_eqb}
use Rattle.rules.specs.Tables.{at}
use Rattle.rules.specs.Limits.{KeptFrom}
use Rattle.rules.specs.Text.{order_word}
use Rattle.rules.specs.Sheet.{Line, right}
use Rattle.rules.specs.Writing.{label_of, bad_label, join_from, count_text}
use Rattle.rules.specs.Grid.{grid_number, order_step, order_line_text, order_text}
use Rattle.table_laws.specs.Count.{each_suc}
use Rattle.table_laws.specs.Tables.{at_same, at_other}
use Rattle.sheet_laws.specs.Rows.{row_same}
use Rattle.demands.specs.SameBytes.{join_same}
use Rattle.demands.specs.Forms.{Label}
use Rattle.demands.specs.LongestSheet.{row_label}
use Rattle.demands.specs.OnLines.{HasLabel, FirstRight, start, more}
use Rattle.demands.specs.OrderForms.{ordered_line, OrderForm}
use Rattle.demands.specs.OnOrderLines.{OrderSays, form, other, width, off, fine, order_says, OrderRight}

-- a line that is right: its label, and the start that it puts down
pub record OrderPut (anchor : ℤ) (labels widths : List ℕ) (k : ℕ) (t l t' r : List ℕ) : Type 0 where
  pub w : List ℕ
  pub b : ℕ
  pub formed : OrderForm l w (grid_number anchor b (at widths k)) (at widths k) r
  pub has : HasLabel labels k w
  pub least : 1 ≤ b
  pub most : b ≤ 16384
  pub put : t' ≡ set t k b

order_put : (anchor : ℤ) (labels widths : List ℕ) (k : ℕ) (t l : List ℕ) (y : Line (List ℕ)) (t' r : List ℕ) → OrderSays anchor labels widths k t l y → y ≡ right t' r
    → OrderPut anchor labels widths k t l t' r
order_put anchor labels widths k t l y t' r (form h) e = let z : ◌≡◌ {A = ℕ} 0 1 = cc in absurd (omega arith)
order_put anchor labels widths k t l y t' r (other w n m u f h) e = let z : ◌≡◌ {A = ℕ} 0 1 = cc in absurd (omega arith)
order_put anchor labels widths k t l y t' r (width w n m u f h d) e = let z : ◌≡◌ {A = ℕ} 0 1 = cc in absurd (omega arith)
order_put anchor labels widths k t l y t' r (off w n u f h d) e = let z : ◌≡◌ {A = ℕ} 0 1 = cc in absurd (omega arith)
order_put anchor labels widths k t l y t' r (fine w b u f h p q) e =
    let s : set t k b ≡ t' = cc in
    let v : u ≡ r = cc in
    record { w = w; b = b; formed = subst (λ (x : List ℕ). OrderForm l w (grid_number anchor b (at widths k)) (at widths k) x) v f; has = h; least = p; most = q; put = sym s }

-- one text more
pub join_snoc : (m k : ℕ) (f : ℕ → List ℕ) → join_from (suc m) k f ≡ join_from m k f ++ f (k + m)
unfolding join_from
join_snoc zero k f = append-nil (f k) ∙ ap f (sym (add-zero k))
join_snoc (suc m) k f =
    let e : suc k + m ≡ k + suc m = omega arith in
    ap (λ (l : List ℕ). f k ++ l) (join_snoc m (suc k) f ∙ ap (λ (i : ℕ). join_from m (suc k) f ++ f i) e) ∙ sym (append_assoc (f k) (join_from m (suc k) f) (f (k + suc m)))

-- k lines that are right: the starts past k are as they were, those below are within their limits, each label has
-- its form, and the lines are those of these starts
pub record Taken (anchor : ℤ) (labels widths t₀ l : List ℕ) (k : ℕ) (t l' : List ℕ) : Type 0 where
  pub kept : KeptFrom k t₀ t
  pub planned : (i : ℕ) → i < k → (1 ≤ at t i) × (at t i ≤ 16384)
  pub formed : (i : ℕ) → i < k → bad_label labels i ≡ false
  pub text : l ≡ join_from k 0 (order_line_text anchor labels widths t) ++ l'

module _ (anchor : ℤ) (labels widths t₀ l : List ℕ) (long : length labels ≡ 1024) (size : length t₀ ≡ 128) where
  -- a row that was matched has its form
  row_fine : (k : ℕ) (w : List ℕ) → label_of labels k ≡ w → HasLabel labels k w → Label w → bad_label labels k ≡ false
  unfolding bad_label
  row_fine k w e h f = rw (e, ne_eqb (length w) 0 (λ q. omega (arith, f.some)), row_same labels w k h)

  one_more : (k : ℕ) (t l' t' r : List ℕ) → k < 128 → Taken anchor labels widths t₀ l k t l' → OrderPut anchor labels widths k t l' t' r
      → Taken anchor labels widths t₀ l (suc k) t' r
  one_more k t l' t' r h a p = record {
    kept = record {
      size = ap length p.put ∙ length-set t k p.b ∙ a.kept.size;
      cells = λ i g. ap (λ (s : List ℕ). at s i) p.put ∙ at_other t k p.b i (λ e. omega arith) ∙ a.kept.cells i (omega arith);
    };
    planned = each_suc (λ i. (1 ≤ at t' i) × (at t' i ≤ 16384)) k (λ i g. rw (lower i g) (a.planned i g)) (rw here (p.least, p.most));
    formed = each_suc (λ i. bad_label labels i ≡ false) k a.formed (row_fine k p.w named p.has p.formed.label);
    text =
        a.text
        ∙ (λ i. join_same (F t) (F t') k 0 (λ j g. line j (sym (lower j (omega arith)))) i ++ (p.formed.text ∙ ap (λ (u : List ℕ). u ++ r) (sym own)) i)
        ∙ sym (append_assoc (join_from k 0 (F t')) (F t' k) r)
        ∙ ap (λ (u : List ℕ). u ++ r) (sym (join_snoc k 0 (F t') ∙ ap (λ (i : ℕ). join_from k 0 (F t') ++ F t' i) (zero-add k)));
  }
    where
      F : List ℕ → ℕ → List ℕ
      F s = order_line_text anchor labels widths s

      lower : (i : ℕ) → i < k → at t' i ≡ at t i
      lower i g = ap (λ (s : List ℕ). at s i) p.put ∙ at_other t k p.b i (λ e. omega arith)

      here : at t' k ≡ p.b
      here = ap (λ (s : List ℕ). at s k) p.put ∙ at_same t k p.b (omega (arith, a.kept.size))

      named : label_of labels k ≡ p.w
      named = row_label labels p.w k long h p.has p.formed.label

      line : (i : ℕ) → at t i ≡ at t' i → F t i ≡ F t' i
      line i e = unfold order_line_text in (rw e)

      own : F t' k ≡ ordered_line p.w (grid_number anchor p.b (at widths k)) (at widths k)
      own = unfold order_line_text in (rw (here, named))

  pub lines_taken : (k : ℕ) (t l' : List ℕ) → k ≤ 128 → FirstRight (order_step anchor labels widths) t₀ l k t l' → Taken anchor labels widths t₀ l k t l'
  unfolding join_from
  lines_taken k t l' h start = record { kept = record { size = refl; cells = λ i g. refl }; planned = λ i g. absurd (omega arith); formed = λ i g. absurd (omega arith); text = refl }
  lines_taken k'' t'' l'' h (more k t l' t' r f e) =
      one_more k t l' t' r (omega arith) (lines_taken k t l' (omega arith) f) (order_put anchor labels widths k t l' _ t' r (order_says anchor labels widths k t l') e)

-- a text that is right is the order sheet of the starts that it gives
module _ (anchor : ℤ) (n : ℕ) (labels widths starts l t : List ℕ) (long : length labels ≡ 1024) (size : length starts ≡ 128) (few : n ≤ 128)
    (s : OrderRight anchor n labels widths starts l t) where
  pub right_taken : Taken anchor labels widths starts s.l₁ n t []
  right_taken = lines_taken anchor labels widths starts s.l₁ long size n t [] few s.each

  pub right_text : l ≡ order_text anchor n labels widths t
  unfolding order_text
  right_text = s.count.text ∙ ap (λ (u : List ℕ). count_text order_word n ++ u) (right_taken.text ∙ append-nil (join_from n 0 (order_line_text anchor labels widths t)))
