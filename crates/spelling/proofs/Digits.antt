-- The digits of a number, the first one first. Assumes nothing.
use Prim.Native.Nat.{ℕ, ◌+◌, ◌/◌, ◌%◌, ◌≤◌, ◌<◌}
use Rattle.std.specs.Prelude.{◌≡◌, refl, cond, leb, List, [], ◌∷◌, ◌++◌, drop}
use Rattle.std.proofs.Common.{ap, ◌∙◌}
use Rattle.std.proofs.Math.Decide.{dec_lt}
use Rattle.std.proofs.lemmas.Bool.{le-leb, lt-leb}
use native.Mathlib.Omega.{arith}
use Rattle.rules.specs.Tables.{at}
use Rattle.rules.specs.Text.{numeral}
use Rattle.sheet_laws.specs.Texts.{here, numeral_small, numeral_big}

-- those at the given powers of ten that the number reaches, and the last one
unfoldable pub digits : List ℕ → ℕ → List ℕ
digits [] v = (48 + v % 10) ∷ []
digits (p ∷ ps) v = cond (leb p v) ((48 + v / p % 10) ∷ digits ps v) (digits ps v)

abbrev pub powers : List ℕ
powers = 10000 ∷ 1000 ∷ 100 ∷ 10 ∷ []

-- one power, and none
module _ (i v : ℕ) (l : i < 4) where
  pub digit_reached : at powers i ≤ v → digits (drop i powers) v ≡ (48 + v / at powers i % 10) ∷ digits (drop (i + 1) powers) v
  unfolding digits
  digit_reached h = rw (here powers i l, le-leb (at powers i) v h) refl

  pub digit_passed : v < at powers i → digits (drop i powers) v ≡ digits (drop (i + 1) powers) v
  unfolding digits
  digit_passed h = rw (here powers i l, lt-leb (at powers i) v h) refl

pub digit_last : (i v : ℕ) → i ≡ 4 → digits (drop i powers) v ≡ (48 + v % 10) ∷ []
unfolding digits
digit_last i v e = rw e refl

-- a number from 10 on has the digits of a tenth of it, and its last one
tenth : (v : ℕ) (w : List ℕ) → 10 ≤ v → v < 100000 → numeral (v / 10) ≡ w → numeral v ≡ w ++ ((48 + v % 10) ∷ [])
tenth v w l h e = numeral_big v l h ∙ ap (λ (u : List ℕ). u ++ ((48 + v % 10) ∷ [])) e

one : (v : ℕ) → v < 10 → numeral v ≡ (48 + v % 10) ∷ []
one v h = let e : v % 10 ≡ v = omega arith in rw e (numeral_small v h)

two : (v : ℕ) → 10 ≤ v → v < 100 → numeral v ≡ (48 + v / 10 % 10) ∷ (48 + v % 10) ∷ []
two v l h = tenth v _ l (omega arith) (one (v / 10) (omega arith))

three : (v : ℕ) → 100 ≤ v → v < 1000 → numeral v ≡ (48 + v / 100 % 10) ∷ (48 + v / 10 % 10) ∷ (48 + v % 10) ∷ []
three v l h = let e : v / 100 ≡ v / 10 / 10 = omega arith in rw e (tenth v _ (omega arith) (omega arith) (two (v / 10) (omega arith) (omega arith)))

four : (v : ℕ) → 1000 ≤ v → v < 10000 → numeral v ≡ (48 + v / 1000 % 10) ∷ (48 + v / 100 % 10) ∷ (48 + v / 10 % 10) ∷ (48 + v % 10) ∷ []
four v l h =
    let e : v / 100 ≡ v / 10 / 10 = omega arith in
    let f : v / 1000 ≡ v / 10 / 100 = omega arith in
    rw (e, f) (tenth v _ (omega arith) (omega arith) (three (v / 10) (omega arith) (omega arith)))

five : (v : ℕ) → 10000 ≤ v → v < 100000
    → numeral v ≡ (48 + v / 10000 % 10) ∷ (48 + v / 1000 % 10) ∷ (48 + v / 100 % 10) ∷ (48 + v / 10 % 10) ∷ (48 + v % 10) ∷ []
five v l h =
    let e : v / 100 ≡ v / 10 / 10 = omega arith in
    let f : v / 1000 ≡ v / 10 / 100 = omega arith in
    let g : v / 10000 ≡ v / 10 / 1000 = omega arith in
    rw (e, f, g) (tenth v _ (omega arith) (omega arith) (four (v / 10) (omega arith) (omega arith)))

pub numeral_digits : (v : ℕ) → v < 100000 → digits powers v ≡ numeral v
unfolding digits
numeral_digits v b = below10000 (dec_lt v 10000)
  where
    below10 : v < 100 → Dec (v < 10) → digits powers v ≡ numeral v
    below10 l (yes h) = rw (lt-leb 10000 v (omega arith), lt-leb 1000 v (omega arith), lt-leb 100 v (omega arith), lt-leb 10 v h, one v h) refl
    below10 l (no h) = rw (lt-leb 10000 v (omega arith), lt-leb 1000 v (omega arith), lt-leb 100 v l, le-leb 10 v (omega arith), two v (omega arith) l) refl

    below100 : v < 1000 → Dec (v < 100) → digits powers v ≡ numeral v
    below100 l (yes h) = below10 h (dec_lt v 10)
    below100 l (no h) =
        rw (lt-leb 10000 v (omega arith), lt-leb 1000 v l, le-leb 100 v (omega arith), le-leb 10 v (omega arith), three v (omega arith) l) refl

    below1000 : v < 10000 → Dec (v < 1000) → digits powers v ≡ numeral v
    below1000 l (yes h) = below100 h (dec_lt v 100)
    below1000 l (no h) =
        rw (lt-leb 10000 v l, le-leb 1000 v (omega arith), le-leb 100 v (omega arith), le-leb 10 v (omega arith), four v (omega arith) l) refl

    below10000 : Dec (v < 10000) → digits powers v ≡ numeral v
    below10000 (yes h) = below1000 h (dec_lt v 1000)
    below10000 (no h) =
        rw (le-leb 10000 v (omega arith), le-leb 1000 v (omega arith), le-leb 100 v (omega arith), le-leb 10 v (omega arith), five v (omega arith) b) refl
