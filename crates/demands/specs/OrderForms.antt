-- The form of an order sheet's line, exactly (RULES 27): a number that may lie below 0 stands in a text in one way
-- alone, the writer's, and so does a line `label n m`. Assumes nothing.
use Rattle.std.specs.Prelude.{ℕ, zero, suc, ◌≤◌, ◌<◌, ◌≡◌, refl, Bool, true, false, cond, List, [], ◌∷◌, ◌++◌, length, eqb, ℤ, pos, negsuc, nat_abs}
use Rattle.std.proofs.Common.{sym, ap, subst, ◌∙◌, append_assoc, arith, eqb-true, ne_eqb}
use Rattle.rules.specs.Text.{Parsed, none, some, then, word, space, line_feed, is_digit, is_label_byte, label, number, numeral, below_zero, signed, signed_numeral}
use Rattle.rules.specs.Sheet.{last_field}
use Rattle.rules.specs.Grid.{order_line}
use Rattle.sheet_laws.specs.Texts.{All, Stops, digit_bounds, Spelled, numeral_spelled, word_trip, label_trip, number_stops}
use Rattle.demands.specs.RoundTrip.{last_trip}
use Rattle.demands.specs.Forms.{then_some, word_is, Label, bytes_all, label_field, number_field, last_is}

-- A number that may lie below 0, as it is written and read back. What comes after it does not begin with a digit
pub signed_trip : (z : ℤ) (r : List ℕ) → nat_abs z < 100000 → Stops is_digit r → signed (signed_numeral z ++ r) ≡ some z r
unfolding signed_numeral signed then below_zero
signed_trip (pos v) r h stop = go (numeral v) refl (numeral_spelled v h)
  where
    go : (w : List ℕ) → numeral v ≡ w → Spelled 5 v w → signed (w ++ r) ≡ some (pos v) r
    go [] e s = absurd (omega (arith, s.some_digit))
    go (y ∷ w) e s =
        let d = digit_bounds y s.digits.0 in
        let back : number (y ∷ (w ++ r)) ≡ some v r = ap (λ (u : List ℕ). number (u ++ r)) (sym e) ∙ number_stops v r h stop in
        rw (ne_eqb y 45 (λ q. omega arith), back)
signed_trip (negsuc v) r h stop = rw (number_stops (suc v) r h stop)

-- and the other way: what is read as such a number is the writer's spelling of one of at most five digits
pub signed_field : (l : List ℕ) (z : ℤ) (r : List ℕ) → signed l ≡ some z r → (nat_abs z ≤ 99999) × (l ≡ signed_numeral z ++ r)
unfolding signed below_zero signed_numeral
signed_field [] z r e = let y : ◌≡◌ {A = ℕ} 0 1 = cc in absurd (omega arith)
signed_field (x ∷ l) z r e = go (eqb x 45) refl e
  where
    below : (p : Parsed ℕ) → number l ≡ p → x ≡ 45 → below_zero p ≡ some z r → (nat_abs z ≤ 99999) × (x ∷ l ≡ signed_numeral z ++ r)
    below none q f e = let y : ◌≡◌ {A = ℕ} 0 1 = cc in absurd (omega arith)
    below (some zero s) q f e = let y : ◌≡◌ {A = ℕ} 0 1 = cc in absurd (omega arith)
    below (some (suc v) s) q f e =
        let n = number_field l (suc v) s q in
        let a : negsuc v ≡ z = cc in
        let b : s ≡ r = cc in
        subst (λ (y : ℤ). (nat_abs y ≤ 99999) × (x ∷ l ≡ signed_numeral y ++ r)) a (n.0, (λ i. f i ∷ l) ∙ ap (λ (u : List ℕ). 45 ∷ u) (n.1 ∙ ap (λ (u : List ℕ). numeral (suc v) ++ u) b))

    above : then (number (x ∷ l)) (λ v l₁. some (pos v) l₁) ≡ some z r → (nat_abs z ≤ 99999) × (x ∷ l ≡ signed_numeral z ++ r)
    above e =
        let p = then_some (number (x ∷ l)) _ z r e in
        let n = number_field (x ∷ l) p.0 p.1 p.2 in
        let f = p.3 in
        let a : pos p.0 ≡ z = cc in
        let b : p.1 ≡ r = cc in
        subst (λ (y : ℤ). (nat_abs y ≤ 99999) × (x ∷ l ≡ signed_numeral y ++ r)) a (n.0, n.1 ∙ ap (λ (u : List ℕ). numeral p.0 ++ u) b)

    go : (b : Bool) → eqb x 45 ≡ b → cond b (below_zero (number l)) (then (number (x ∷ l)) (λ v l₁. some (pos v) l₁)) ≡ some z r
        → (nat_abs z ≤ 99999) × (x ∷ l ≡ signed_numeral z ++ r)
    go true f e = below (number l) refl (eqb-true x 45 f) e
    go false f e = above e

-- The line
abbrev pub ordered_line : List ℕ → ℤ → ℕ → List ℕ
ordered_line w n m = w ++ (space ++ (signed_numeral n ++ (space ++ (numeral m ++ line_feed))))

-- the text begins with a line of the form, and r comes after it
pub record OrderForm (l w : List ℕ) (n : ℤ) (m : ℕ) (r : List ℕ) : Type 0 where
  pub label : Label w
  pub number : nat_abs n ≤ 99999
  pub width : m ≤ 99999
  pub text : l ≡ ordered_line w n m ++ r

pub order_flat : (w : List ℕ) (n : ℤ) (m : ℕ) (r : List ℕ) → ordered_line w n m ++ r ≡ w ++ 32 ∷ (signed_numeral n ++ 32 ∷ (numeral m ++ 10 ∷ r))
order_flat w n m r = simp append_assoc

pub order_trip : (w : List ℕ) (n : ℤ) (m : ℕ) (r : List ℕ) → All is_label_byte w → 0 < length w → length w ≤ 8 → nat_abs n < 100000 → m < 100000
    → order_line (ordered_line w n m ++ r) ≡ some (w, (n, m)) r
unfolding order_line then is_label_byte is_digit
order_trip w n m r h low high a b =
    let s = numeral m ++ 10 ∷ r in
    rw (order_flat w n m r, label_trip w 32 (signed_numeral n ++ 32 ∷ s) h low high refl, word_trip space (signed_numeral n ++ 32 ∷ s), signed_trip n (32 ∷ s) a refl, last_trip m r b)

pub form_order : (l w : List ℕ) (n : ℤ) (m : ℕ) (r : List ℕ) → OrderForm l w n m r → order_line l ≡ some (w, (n, m)) r
form_order l w n m r f =
    ap order_line f.text
    ∙ order_trip w n m r (bytes_all w f.label.bytes) (omega (arith, f.label.some)) f.label.few (omega (arith, f.number)) (omega (arith, f.width))

pub order_form : (l w : List ℕ) (n : ℤ) (m : ℕ) (r : List ℕ) → order_line l ≡ some (w, (n, m)) r → OrderForm l w n m r
unfolding order_line
order_form l w n m r e =
    let a = then_some (label l) _ (w, (n, m)) r e in
    let b = then_some (word space a.1) _ (w, (n, m)) r a.3 in
    let c = then_some (signed b.1) _ (w, (n, m)) r b.3 in
    let d = then_some (last_field c.1) _ (w, (n, m)) r c.3 in
    let p = label_field l a.0 a.1 a.2 in
    let q = signed_field b.1 c.0 c.1 c.2 in
    let s = last_is c.1 d.0 d.1 d.2 in
    let x : a.0 ≡ w = ap (λ (y : Parsed (List ℕ × (ℤ × ℕ))). (fields y).0) d.3 in
    let y : c.0 ≡ n = ap (λ (y : Parsed (List ℕ × (ℤ × ℕ))). (fields y).1.0) d.3 in
    let z : d.0 ≡ m = ap (λ (y : Parsed (List ℕ × (ℤ × ℕ))). (fields y).1.1) d.3 in
    let u : d.1 ≡ r = ap rest d.3 in
    record {
      label = subst Label x p.0;
      number = subst (λ (v : ℤ). nat_abs v ≤ 99999) y q.0;
      width = omega (arith, s.0);
      text = p.1 ∙ (λ i. x i ++ a.1)
          ∙ ap (λ (v : List ℕ). w ++ v) (word_is space a.1 b.0 b.1 b.2 ∙ ap (λ (v : List ℕ). space ++ v) (q.1 ∙ (λ i. signed_numeral (y i) ++ c.1) ∙ ap (λ (v : List ℕ). signed_numeral n ++ v) (s.1 ∙ (λ i. space ++ (numeral (z i) ++ line_feed) ++ u i))))
          ∙ sym (append_assoc w (space ++ (signed_numeral n ++ (space ++ (numeral m ++ line_feed)))) r ∙ ap (λ (v : List ℕ). w ++ (space ++ v)) (append_assoc (signed_numeral n) (space ++ (numeral m ++ line_feed)) r));
    }
  where
    fields : Parsed (List ℕ × (ℤ × ℕ)) → List ℕ × (ℤ × ℕ)
    fields none = ([], (pos 0, 0))
    fields (some t u) = t

    rest : Parsed (List ℕ × (ℤ × ℕ)) → List ℕ
    rest none = []
    rest (some t u) = u
