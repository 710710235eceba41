-- Numbers on the grid as code works with them (RULES 27). A number that may lie below 0 is counted from -100,000, below
-- which no line can spell one: all of the arithmetic is then of natural numbers. Assumes nothing.
use Prim.Native.Nat.{ℕ, zero, suc, ◌+◌, ◌-◌, ◌*◌, ◌≤◌, ◌<◌}
use Rattle.std.specs.Prelude.{◌≡◌, Bool, true, false, cond, List, [], ◌∷◌, ◌++◌, ℤ, ◌+ℤ◌, ◌*ℤ◌, eqb, length}
use Rattle.std.proofs.Math.Path.{refl, ap}
use Rattle.std.proofs.Common.{sym, ◌∙◌, lt-ltb, le-ltb, eq-eqb, ne_eqb, eqb-true, length-append}
use native.Mathlib.Omega.{arith}
use Rattle.std.proofs.Math.Decide.{dec_lt}
use Rattle.std.proofs.Math.IntN.{pos, negsuc, neg_ℤ, +ℤ_assoc, +ℤ_comm, +ℤ_invr, +ℤ_idl, +ℤ_idr, neg_ℤ-+ℤ}
use Rattle.std.proofs.lemmas.Bool.{eqb-false}
use Rattle.rules.specs.Tables.{at}
use Rattle.rules.specs.Text.{Parsed, none, some, then, word, space, line_feed, order_word, hyphen, run, is_plain, number, numeral, below_zero, signed, signed_numeral}
use Rattle.rules.specs.Writing.{label_of, join_from, count_text}
use Rattle.rules.specs.Grid.{grid_number, start_above, grid_start, quarters, order_line_text, order_text}

-- the number that is counted as u
abbrev pub lowered : ℕ → ℤ
lowered u = pos u +ℤ negsuc 99999

-- the other way: what is 100,000 above a number counts it
pub raised : (z : ℤ) (u : ℕ) → z +ℤ pos 100000 ≡ pos u → z ≡ lowered u
raised z u e =
    sym (+ℤ_idr z) ∙ ap (λ (x : ℤ). z +ℤ x) (sym (+ℤ_invr (pos 100000))) ∙ sym (+ℤ_assoc z (pos 100000) (negsuc 99999)) ∙ ap (λ (x : ℤ). x +ℤ negsuc 99999) e

lowered_more : (k m : ℕ) → lowered k +ℤ pos m ≡ lowered (k + m)
lowered_more k m =
    +ℤ_assoc (pos k) (negsuc 99999) (pos m) ∙ ap (λ (x : ℤ). pos k +ℤ x) (+ℤ_comm (negsuc 99999) (pos m)) ∙ sym (+ℤ_assoc (pos k) (pos m) (negsuc 99999))

-- n of a block
pub number_low : (k b w : ℕ) → grid_number (lowered k) b w ≡ lowered (k + (2 * (b - 1) + w))
unfolding grid_number
number_low k b w = lowered_more k (2 * (b - 1) + w)

-- how far one number lies above another does not depend on where both are counted from
apart : (u v : ℕ) → lowered u +ℤ neg_ℤ (lowered v) ≡ pos u +ℤ neg_ℤ (pos v)
apart u v =
    ap (λ (x : ℤ). lowered u +ℤ x) (neg_ℤ-+ℤ (pos v) (negsuc 99999) ∙ +ℤ_comm (neg_ℤ (pos v)) (pos 100000))
    ∙ +ℤ_assoc (pos u) (negsuc 99999) (pos 100000 +ℤ neg_ℤ (pos v))
    ∙ ap (λ (x : ℤ). pos u +ℤ x) (sym (+ℤ_assoc (negsuc 99999) (pos 100000) (neg_ℤ (pos v))) ∙ +ℤ_idl (neg_ℤ (pos v)))

below : (u v : ℕ) → u < v → pos u +ℤ neg_ℤ (pos v) ≡ negsuc (v - suc u)
below u zero h = absurd (omega arith)
below u (suc v) h = rw (lt-ltb u (suc v) h)

pub above : (u v : ℕ) → v ≤ u → pos u +ℤ neg_ℤ (pos v) ≡ pos (u - v)
above u zero h = let e : u + 0 ≡ u - 0 = omega arith in ap pos e
above u (suc v) h = rw (le-ltb u (suc v) h)

-- the start that n gives: none where n lies below the centre of a block in slot 1
module _ (k w u : ℕ) where
  from_edge : grid_start (lowered k) w (lowered u) ≡ start_above (pos u +ℤ neg_ℤ (pos (k + w)))
  unfolding grid_start
  from_edge = ap (λ (x : ℤ). start_above (lowered u +ℤ neg_ℤ x)) (lowered_more k w) ∙ ap start_above (apart u (k + w))

  pub start_under : u < k + w → grid_start (lowered k) w (lowered u) ≡ 0
  start_under h = from_edge ∙ ap start_above (below u (k + w) h) ∙ (unfold start_above in refl)

  pub start_over : k + w ≤ u → grid_start (lowered k) w (lowered u) ≡ start_above (pos (u - (k + w)))
  start_over h = from_edge ∙ ap start_above (above u (k + w) h)

-- a hyphen in front, or none
after_hyphen : (l r : List ℕ) → word hyphen l ≡ some tt r → signed l ≡ below_zero (number r)
unfolding word signed
after_hyphen [] r e = let z : ◌≡◌ {A = ℕ} 0 1 = cc in absurd (omega arith)
after_hyphen (x ∷ l) r e = go (eqb 45 x) refl e
  where
    go : (b : Bool) → eqb 45 x ≡ b → ◌≡◌ {A = Parsed (Unit {0})} (cond b (some tt l) none) (some tt r) → cond (eqb x 45) (below_zero (number l)) (then (number (x ∷ l)) (λ v l₁. some (pos v) l₁)) ≡ below_zero (number r)
    go true f h = let q : l ≡ r = cc in rw (eq-eqb x 45 (sym (eqb-true 45 x f))) (ap (λ (u : List ℕ). below_zero (number u)) q)
    go false f h = let z : ◌≡◌ {A = ℕ} 0 1 = cc in absurd (omega arith)

no_hyphen : (l : List ℕ) → word hyphen l ≡ none → signed l ≡ then (number l) (λ v l₁. some (pos v) l₁)
unfolding word signed
no_hyphen [] e = unfold number is_plain run then in refl
no_hyphen (x ∷ l) e = go (eqb 45 x) refl e
  where
    go : (b : Bool) → eqb 45 x ≡ b → ◌≡◌ {A = Parsed (Unit {0})} (cond b (some tt l) none) none → cond (eqb x 45) (below_zero (number l)) (then (number (x ∷ l)) (λ v l₁. some (pos v) l₁)) ≡ then (number (x ∷ l)) (λ v l₁. some (pos v) l₁)
    go true f h = let z : ◌≡◌ {A = ℕ} 0 1 = cc in absurd (omega arith)
    go false f h = rw (ne_eqb x 45 (λ q. eqb-false 45 x f (sym q)))

-- a number as it is read: where a hyphen stands in front, a number that is not 0 has to follow
module _ (l : List ℕ) where
  module _ (r : List ℕ) (e : word hyphen l ≡ some tt r) where
    pub hyphen_none : number r ≡ none → signed l ≡ none
    hyphen_none f = after_hyphen l r e ∙ ap below_zero f ∙ (unfold below_zero in refl)

    pub hyphen_zero : (r' : List ℕ) → number r ≡ some 0 r' → signed l ≡ none
    hyphen_zero r' f = after_hyphen l r e ∙ ap below_zero f ∙ (unfold below_zero in refl)

    pub hyphen_some : (v : ℕ) (r' : List ℕ) → number r ≡ some v r' → 0 < v → v ≤ 100000 → signed l ≡ some (lowered (100000 - v)) r'
    unfolding below_zero
    hyphen_some zero r' f p q = absurd (omega arith)
    hyphen_some (suc v) r' f p q =
        let k : 100000 - suc (100000 - suc v) ≡ v = omega arith in
        after_hyphen l r e ∙ ap below_zero f ∙ ap (λ (z : ℤ). some z r') (sym (below (100000 - suc v) 100000 (omega arith) ∙ ap negsuc k))

  module _ (e : word hyphen l ≡ none) where
    pub plain_none : number l ≡ none → signed l ≡ none
    plain_none f = no_hyphen l e ∙ (unfold then in (rw f))

    pub plain_some : (v : ℕ) (r : List ℕ) → number l ≡ some v r → signed l ≡ some (lowered (v + 100000)) r
    unfolding then
    plain_some v r f =
        let k : v + 100000 - 100000 ≡ v = omega arith in
        let z : lowered (v + 100000) ≡ pos v = above (v + 100000) 100000 (omega arith) ∙ ap pos k in
        no_hyphen l e ∙ rw (f, z)

-- a number as it is spelled
pub spelled_below : (u : ℕ) → u < 100000 → signed_numeral (lowered u) ≡ hyphen ++ numeral (100000 - u)
spelled_below u h =
    ap signed_numeral (below u 100000 h) ∙ (unfold signed_numeral in (let e : suc (100000 - suc u) ≡ 100000 - u = omega arith in ap (λ (v : ℕ). hyphen ++ numeral v) e))

pub spelled_above : (u : ℕ) → 100000 ≤ u → signed_numeral (lowered u) ≡ numeral (u - 100000)
spelled_above u h = ap signed_numeral (above u 100000 h) ∙ (unfold signed_numeral in refl)

-- the centre in quarters of a GHz, which lies above 0
pub quarters_low : (u : ℕ) → 69104 ≤ u → quarters (lowered u) ≡ pos (25 * u - 1727600)
unfolding quarters
quarters_low u h = go (dec_lt u 100000)
  where
    go : Dec (u < 100000) → pos 772400 +ℤ pos 25 *ℤ lowered u ≡ pos (25 * u - 1727600)
    go (yes l) =
        let v = 25 * suc (100000 - suc u) in
        let e : 772400 - v ≡ 25 * u - 1727600 = omega arith in
        ap (λ (z : ℤ). pos 772400 +ℤ pos 25 *ℤ z) (below u 100000 l) ∙ above 772400 v (omega arith) ∙ ap pos e
    go (no l) =
        let e : 772400 + 25 * (u - 100000) ≡ 25 * u - 1727600 = omega arith in
        ap (λ (z : ℤ). pos 772400 +ℤ pos 25 *ℤ z) (above u 100000 (omega arith)) ∙ ap pos e

-- the lengths of a line of the order sheet, and of the whole
pub order_line_length : (anchor : ℤ) (labels widths starts : List ℕ) (k : ℕ) → length (order_line_text anchor labels widths starts k)
    ≡ length (label_of labels k) + length (signed_numeral (grid_number anchor (at starts k) (at widths k))) + length (numeral (at widths k)) + 3
unfolding order_line_text
order_line_length anchor labels widths starts k =
    let n = signed_numeral (grid_number anchor (at starts k) (at widths k)) in
    let m = numeral (at widths k) in
    omega (
      arith,
      length-append (label_of labels k) (space ++ (n ++ (space ++ (m ++ line_feed)))),
      length-append n (space ++ (m ++ line_feed)),
      length-append m line_feed,
    )

pub order_length : (anchor : ℤ) (n : ℕ) (labels widths starts : List ℕ) → length (order_text anchor n labels widths starts)
    ≡ length (count_text order_word n) + length (join_from n 0 (order_line_text anchor labels widths starts))
unfolding order_text
order_length anchor n labels widths starts = length-append (count_text order_word n) (join_from n 0 (order_line_text anchor labels widths starts))
