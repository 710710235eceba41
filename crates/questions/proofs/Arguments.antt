-- An argument that is a field whole, against the definitions. Assumes nothing.
use Prim.Native.Nat.{ℕ, ◌≤◌}
use Rattle.std.specs.Prelude.{◌≡◌, ◌≢◌, refl, Bool, true, false, cond, ◌&&◌, ℤ, List, [], ◌∷◌, length, drop, eqb, ltb, leb}
use Rattle.std.proofs.Common.{sym, ap, ◌∙◌, arith, eq-eqb, ne_eqb, leb-true, true≢false, length-drop}
use Rattle.std.proofs.Math.Decide.{ℕ_discrete}
use lib.Pointwise.{pointwise}
use Rattle.rules.specs.Text.{none, some, word, order_word, run, is_label_byte, label, signed}
use Rattle.rules.specs.Numbers.{anchor_fault}
use Rattle.rules.specs.Program.{refusal_text, on_sheet}
use Rattle.rules.specs.Asking.{why_text, is_whole, why_word, no_label_text, bad_label_text, no_anchor_text, bad_anchor_text, order_asked, with_one, asked}
use Rattle.sheet_laws.specs.Texts.{past}

-- a word is the argument that has its bytes
pub same_bytes : (s w : List ℕ) → pointwise eqb s w ≡ is_whole (word w s)
unfolding is_whole word
same_bytes [] [] = refl
same_bytes [] (y ∷ w) = refl
same_bytes (x ∷ s) [] = refl
same_bytes (x ∷ s) (y ∷ w) = go (ℕ_discrete x y) (same_bytes s w)
  where
    go : Dec (x ≡ y) → pointwise eqb s w ≡ is_whole (word w s) → (eqb x y && pointwise eqb s w) ≡ is_whole (cond (eqb y x) (word w s) none)
    go (yes e) h = rw (eq-eqb x y e, eq-eqb y x (sym e)) h
    go (no d) h = rw (ne_eqb x y d, ne_eqb y x (λ e. d (sym e)))

-- and a label is no longer than a label may be
pub label_short : (s : List ℕ) → is_whole (label s) ≡ true → length s ≤ 8
unfolding is_whole label
label_short s h = go (ltb 0 (length w)) (leb (length w) 8) refl (drop (length w) s) refl h
  where
    w : List ℕ
    w = run is_label_byte s

    go : (a b : Bool) → leb (length w) 8 ≡ b → (l : List ℕ) → drop (length w) s ≡ l → is_whole (cond (a && b) (some w l) none) ≡ true → length s ≤ 8
    go true true e [] f h = omega (arith, leb-true (length w) 8 e, length-drop (length w) s, ap length f)
    go true true e (x ∷ l) f h = absurd (true≢false (sym h))
    go true false e l f h = absurd (true≢false (sym h))
    go false b e l f h = absurd (true≢false (sym h))

-- a word that takes one argument more
module _ (count : ℕ) (first second input : List ℕ) where
  one_given : (missing answer : List ℕ) → count ≢ 1 → count ≡ 2 → with_one count missing answer ≡ answer
  unfolding with_one
  one_given missing answer e f = rw (ne_eqb count 1 e, eq-eqb count 2 f)

  -- the word `why`
  module _ (w : is_whole (word why_word first) ≡ true) where
    why_word_lem : asked count first second input ≡ with_one count no_label_text (cond (is_whole (label second)) (on_sheet refusal_text (why_text second) input) bad_label_text)
    unfolding asked
    why_word_lem = rw w

    pub bad_label_lem : count ≢ 1 → count ≡ 2 → is_whole (label second) ≡ false → asked count first second input ≡ bad_label_text
    bad_label_lem e f l = why_word_lem ∙ one_given _ _ e f ∙ rw l

  -- the word `order`
  module _ (w : is_whole (word why_word first) ≡ false) (o : is_whole (word order_word first) ≡ true) where
    order_word_lem : asked count first second input ≡ with_one count no_anchor_text (order_asked (signed second) input)
    unfolding asked
    order_word_lem = rw (w, o)

-- an anchor as an argument s, of which the field ends at e, and which is not within its range
pub anchor_out_lem : (s input : List ℕ) (a : ℤ) (e : ℕ) → signed s ≡ some a (drop e s) → e ≡ length s → (anchor_fault a).number ≢ 0 → order_asked (signed s) input ≡ bad_anchor_text
unfolding order_asked
anchor_out_lem s input a e f q z = rw (f, past s e (omega (arith, q)), ne_eqb (anchor_fault a).number 0 z)
