-- RULES 27, the grid: n and the start determine each other, n is one of -1,023 to 33,854, and the centre that is
-- called for is 193,100 + 6.25 n GHz with nothing lost. Assumes nothing.
use Rattle.std.specs.Prelude.{ℕ, suc, ◌+◌, ◌-◌, ◌*◌, ◌/◌, ◌%◌, ◌^◌, ◌≤◌, ◌<◌, ◌≡◌, refl, ◌≢◌, ◌↔◌, Bool, true, false, cond, ◌&&◌, ◌||◌, T, ltb, eqb, ℤ, pos, negsuc, nat_abs, neg_ℤ, ◌+ℤ◌, ◌*ℤ◌, Float}
use Rattle.std.proofs.Common.{sym, ap, subst, ◌∙◌, true≢false, arith, mul_assoc, lt_of_lt_of_le, lit<, lit≤, shl_lt, ltb-true, ltb-false, le-ltb, lt-ltb, eqb-true}
use Rattle.std.proofs.Math.Decide.{ℕ_discrete}
use Rattle.std.proofs.Math.Nat.{eq_of_mul-eq-mul_right}
use Rattle.std.proofs.Math.IntN.{+ℤ_assoc, +ℤ_comm, +ℤ-neg_ℤ_cancel, -ℤ-+ℤ_cancel, pos-ne-negsuc}
use Rattle.std.specs.Int.Signed.{lt_z}
use Rattle.std.specs.Float.Ieee.{round}
use Rattle.std.specs.Float.{binary64}
use Rattle.std.specs.Float.Ieee.Exact.{HasValue, round_exact}
use Rattle.std.specs.Float.Ieee.Positive.{den, den_pos, value→cross, positive, positive_of_value}
use Rattle.rules.specs.Grid.{grid_number, start_above, grid_start, quarters, centre_of}
use Rattle.rules.specs.Numbers.{refuse_if, outside, anchor_fault, centre_fault}
use Rattle.rules.specs.Calls.{no_centre, centring, centre_number}
use Rattle.table_laws.specs.Faults.{refuse_not, refuse_clear, or_clear, or_none}
use Rattle.table_laws.specs.Limits.{clear_of, outside_not, outside_none}
use Rattle.plan_laws.specs.Answers.{unless_done, unless_refused}
use Rattle.sheet_laws.specs.Grid.{above}

-- d steps above the lower edge of slot 1 and half a width, there and back
edge_up : (a : ℤ) (w d : ℕ) → a +ℤ pos (d + w) ≡ pos d +ℤ (a +ℤ pos w)
edge_up a w d = sym (+ℤ_assoc a (pos d) (pos w)) ∙ ap (λ (x : ℤ). x +ℤ pos w) (+ℤ_comm a (pos d)) ∙ +ℤ_assoc (pos d) a (pos w)

-- the n of a start gives the start
pub start_back : (a : ℤ) (b w : ℕ) → 1 ≤ b → b ≤ 16384 → grid_start a w (grid_number a b w) ≡ b
unfolding grid_start grid_number start_above
start_back a b w low high =
    let d = 2 * (b - 1) in
    let e : d % 2 ≡ 0 = omega arith in
    let h : d / 2 ≡ b - 1 = omega arith in
    let g : b - 1 + 1 ≡ b = omega arith in
    ap start_above (ap (λ (x : ℤ). x +ℤ neg_ℤ (a +ℤ pos w)) (edge_up a w d) ∙ +ℤ-neg_ℤ_cancel (pos d) (a +ℤ pos w))
    ∙ rw (e, h, lt-ltb (b - 1) 16384 (omega arith)) g

-- a start that n gives is one of 1 to 16,384, and n is its n
above_is : (x : ℤ) → start_above x ≢ 0 → (1 ≤ start_above x) × (start_above x ≤ 16384) × (pos (2 * (start_above x - 1)) ≡ x)
unfolding start_above
above_is (negsuc d) ne = absurd (ne refl)
above_is (pos d) ne = go (eqb (d % 2) 0) refl (ltb (d / 2) 16384) refl ne
  where
    go : (s : Bool) → eqb (d % 2) 0 ≡ s → (t : Bool) → ltb (d / 2) 16384 ≡ t → cond (s && t) (d / 2 + 1) 0 ≢ 0
        → (1 ≤ cond (s && t) (d / 2 + 1) 0) × (cond (s && t) (d / 2 + 1) 0 ≤ 16384) × (pos (2 * (cond (s && t) (d / 2 + 1) 0 - 1)) ≡ pos d)
    go true p true q n =
        let even = eqb-true (d % 2) 0 p in
        let low = ltb-true (d / 2) 16384 q in
        (omega arith, omega arith, let e : 2 * (d / 2 + 1 - 1) ≡ d = omega arith in ap pos e)
    go true p false q n = absurd (n refl)
    go false p t q n = absurd (n refl)

pub number_back : (a : ℤ) (w : ℕ) (g : ℤ) → grid_start a w g ≢ 0 → (1 ≤ grid_start a w g) × (grid_start a w g ≤ 16384) × (grid_number a (grid_start a w g) w ≡ g)
unfolding grid_start grid_number
number_back a w g ne =
    let E = a +ℤ pos w in
    let h = above_is (g +ℤ neg_ℤ E) ne in
    (h.0, h.1, edge_up a w (2 * (start_above (g +ℤ neg_ℤ E) - 1)) ∙ ap (λ (x : ℤ). x +ℤ E) h.2 ∙ -ℤ-+ℤ_cancel g E)

-- so it gives none exactly where no start of 1 to 16,384 has that n
pub no_start : (a : ℤ) (w : ℕ) (g : ℤ) → (grid_start a w g ≡ 0) ↔ ((b : ℕ) → 1 ≤ b → b ≤ 16384 → grid_number a b w ≢ g)
no_start a w g = (λ z b low high e. omega (arith, start_back a b w low high, ap (grid_start a w) e), other (ℕ_discrete (grid_start a w g) 0))
  where
    other : Dec (grid_start a w g ≡ 0) → ((b : ℕ) → 1 ≤ b → b ≤ 16384 → grid_number a b w ≢ g) → grid_start a w g ≡ 0
    other (yes z) h = z
    other (no ne) h = let k = number_back a w g ne in absurd (h (grid_start a w g) k.0 k.1 k.2)

-- two starts of one width have two numbers
pub one_start : (a : ℤ) (b c w : ℕ) → 1 ≤ b → b ≤ 16384 → 1 ≤ c → c ≤ 16384 → grid_number a b w ≡ grid_number a c w → b ≡ c
one_start a b c w p q r s e = sym (start_back a b w p q) ∙ ap (grid_start a w) e ∙ start_back a c w r s

-- An anchor of -1,024 to 1,024: so many steps above -1,024
pub record Anchor (a : ℤ) : Type 0 where
  pub steps : ℕ
  pub few : steps ≤ 2048
  pub is : a +ℤ pos 1024 ≡ pos steps

-- the test says so of all others
abbrev pub anchor_out : ℤ → Bool
anchor_out a = lt_z a (negsuc 1023) || lt_z (pos 1024) a

anchor_in : (a : ℤ) → anchor_out a ≡ false → Anchor a
anchor_in (pos x) e = let h = ltb-false 1024 x e in record { steps = x + 1024; few = omega arith; is = refl }
anchor_in (negsuc x) e = go (ltb 1023 x) refl e
  where
    go : (t : Bool) → ltb 1023 x ≡ t → (t || false) ≡ false → Anchor (negsuc x)
    go true p e = absurd (true≢false e)
    go false p e =
        let h = ltb-false 1023 x p in
        record { steps = 1024 - suc x; few = omega arith; is = rw (le-ltb 1024 (suc x) (omega arith)) refl }

-- and by its sign
anchor_low : (a : ℤ) → Anchor a → lt_z a (negsuc 1023) ≡ false
anchor_low (pos x) h = refl
anchor_low (negsuc x) h = go (ltb 1023 x) refl
  where
    go : (t : Bool) → ltb 1023 x ≡ t → ltb 1023 x ≡ false
    go true p =
        let l = ltb-true 1023 x p in
        let e : negsuc (suc x - suc 1024) ≡ pos h.steps = rw (lt-ltb 1024 (suc x) (omega arith)) at h.is in
        absurd (pos-ne-negsuc h.steps (suc x - suc 1024) (sym e))
    go false p = p

anchor_high : (a : ℤ) → Anchor a → lt_z (pos 1024) a ≡ false
anchor_high (pos x) h = let e : x + 1024 ≡ h.steps = cc h.is in le-ltb 1024 x (omega (arith, h.few))
anchor_high (negsuc x) h = refl

pub anchor_small : (a : ℤ) → Anchor a → nat_abs a ≤ 1024
anchor_small (pos x) h = ltb-false 1024 x (anchor_high (pos x) h)
anchor_small (negsuc x) h = let l = ltb-false 1023 x (anchor_low (negsuc x) h) in omega arith

pub anchor_tells : (a : ℤ) → (anchor_out a ≡ false) ↔ Anchor a
anchor_tells a = (anchor_in a, λ h. rw (anchor_low a h, anchor_high a h))

pub anchor_clear : (a : ℤ) → ((anchor_fault a).number ≡ 0) ↔ Anchor a
unfolding anchor_fault
anchor_clear a = (λ z. anchor_in a (refuse_clear (anchor_out a) 17 0 (omega arith) z), λ h. clear_of (refuse_not (anchor_out a) 17 0 ((anchor_tells a).1 h)))

-- The n of a block: -1,023 to 33,854
abbrev pub OnGrid : ℤ → Type 0
OnGrid (pos v) = v ≤ 33854
OnGrid (negsuc v) = v ≤ 1022

pub number_range : (a : ℤ) (b w : ℕ) → Anchor a → 1 ≤ b → b ≤ 16384 → 1 ≤ w → w ≤ 64 → OnGrid (grid_number a b w)
unfolding grid_number
number_range (pos x) b w h p q r s = let l = ltb-false 1024 x (anchor_high (pos x) h) in omega arith
number_range (negsuc x) b w h p q r s = go (ltb m (suc x)) refl
  where
    m : ℕ
    m = 2 * (b - 1) + w

    go : (t : Bool) → ltb m (suc x) ≡ t → OnGrid (cond t (negsuc (suc x - suc m)) (pos (m - suc x)))
    go true e = let l = ltb-false 1023 x (anchor_low (negsuc x) h) in omega arith
    go false e = omega arith

-- The centre. What the call accepts
pub record Block (a : ℤ) (b w : ℕ) : Type 0 where
  pub anchor : Anchor a
  pub low : 1 ≤ b
  pub high : b ≤ 16384
  pub thin : 1 ≤ w
  pub wide : w ≤ 64

pub centre_accepts : (a : ℤ) (b w : ℕ) → (centre_number a b w ≡ 0) ↔ Block a b w
unfolding centre_number centre_fault
centre_accepts a b w = (
  λ z.
      let f = or_clear (anchor_fault a) _ z in
      let g = or_clear (refuse_if (outside 1 64 w) 3 0) _ f.1 in
      let r = outside_not 1 64 w (refuse_clear (outside 1 64 w) 3 0 (omega arith) g.0) in
      let s = outside_not 1 16384 b (refuse_clear (outside 1 16384 b) 7 0 (omega arith) g.1) in
      record { anchor = (anchor_clear a).0 f.0; low = s.0; high = s.1; thin = r.0; wide = r.1 },
  λ h.
      or_none _ _ ((anchor_clear a).1 h.anchor)
      (or_none _ _ (clear_of (refuse_not (outside 1 64 w) 3 0 (outside_none 1 64 w h.thin h.wide)))
      (clear_of (refuse_not (outside 1 16384 b) 7 0 (outside_none 1 16384 b h.low h.high)))),
)

-- a refused call gives 0.0
pub centre_none : (a : ℤ) (b w : ℕ) → centre_number a b w ≢ 0 → centring a b w ≡ no_centre
unfolding centring centre_number
centre_none a b w ne = unless_refused (centre_fault a b w) _ _ ne

-- an accepted one the centre that the block's n names: two blocks of one n have one centre
pub centre_of_number : (a : ℤ) (b w : ℕ) → centre_number a b w ≡ 0 → centring a b w ≡ centre_of (grid_number a b w)
unfolding centring centre_number
centre_of_number a b w z = unless_done (centre_fault a b w) _ _ z

pub centre_same : (a c : ℤ) (b w d v : ℕ) → centre_number a b w ≡ 0 → centre_number c d v ≡ 0 → grid_number a b w ≡ grid_number c d v → centring a b w ≡ centring c d v
centre_same a c b w d v y z e = centre_of_number a b w y ∙ ap centre_of e ∙ sym (centre_of_number c d v z)

-- x GHz is 193,100 + 6.25 n, exactly: it is above 0, and 4 times it is the whole number 4 * 193,100 + 25 n
pub record Centre (n : ℤ) (x : Float) : Type 0 where
  pub quarter : ℕ
  pub is : pos quarter ≡ pos (4 * 193100) +ℤ pos 25 *ℤ n
  pub some : 1 ≤ quarter
  pub value : HasValue x false quarter 4

whole : (n : ℤ) → OnGrid n → (q : ℕ) × (quarters n ≡ pos q) × (1 ≤ q) × (q < 2000000)
unfolding quarters
whole (pos v) h = (772400 + 25 * v, refl, omega arith, omega arith)
whole (negsuc v) h = (772400 - 25 * suc v, above 772400 (25 * suc v) (omega arith), omega arith, omega arith)

sum_is : (n : ℤ) → quarters n ≡ pos (4 * 193100) +ℤ pos 25 *ℤ n
unfolding quarters
sum_is n = refl

quarters_exact : (q : ℕ) → q < 2000000 → HasValue (round binary64 false q 4) false q 4
quarters_exact q h =
    let fits : q < 2 ^ 53 = lt_of_lt_of_le h (lit≤ tt) in
    round_exact binary64 false q 4 q 1072 (lit< tt) fits (lt_of_lt_of_le (shl_lt 53 1072 fits) (lit≤ tt)) (sym (mul_assoc q (2 ^ 1072) 4))

rounded : (n : ℤ) (q : ℕ) → quarters n ≡ pos q → centre_of n ≡ round binary64 false q 4
unfolding centre_of
rounded n q e = ap (λ (x : ℤ). round binary64 false (nat_abs x) 4) e

pub centre_exact : (a : ℤ) (b w : ℕ) → centre_number a b w ≡ 0 → Centre (grid_number a b w) (centring a b w)
centre_exact a b w z =
    let h = (centre_accepts a b w).0 z in
    let n = grid_number a b w in
    let q = whole n (number_range a b w h.anchor h.low h.high h.thin h.wide) in
    record {
      quarter = q.0;
      is = sym q.1 ∙ sum_is n;
      some = q.2;
      value = subst (λ (x : Float). HasValue x false q.0 4) (sym (centre_of_number a b w z ∙ rounded n q.0 q.1)) (quarters_exact q.0 q.3);
    }

-- and it is no other number of quarters
pub centre_only : (a : ℤ) (b w : ℕ) → centre_number a b w ≡ 0 → (q : ℕ) → HasValue (centring a b w) false q 4 → pos q ≡ pos (4 * 193100) +ℤ pos 25 *ℤ grid_number a b w
centre_only a b w z q v =
    let c = centre_exact a b w z in
    let x = centring a b w in
    let e = sym (value→cross x q 4 v) ∙ value→cross x c.quarter 4 c.value in
    ap pos (eq_of_mul-eq-mul_right (den x) (den_pos x) q c.quarter e) ∙ c.is

-- so 0.0 is given by no accepted call
pub centre_some : (a : ℤ) (b w : ℕ) → centre_number a b w ≡ 0 → centring a b w ≢ no_centre
centre_some a b w z e =
    let c = centre_exact a b w z in
    let p : T (positive (centring a b w)) = positive_of_value (centring a b w) c.quarter 4 c.value c.some in
    subst (λ (x : Float). T (positive x)) e p
