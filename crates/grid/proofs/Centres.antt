-- The centre as the program works it out: so many quarters, times a quarter, are rounded from the very number.
-- Assumes nothing.
use Prim.Native.Nat.{ℕ, ◌*◌, ◌^◌, ◌<◌}
use mathlib.Core.Path.{◌≡◌, refl, sym, ap, ◌∙◌}
use mathlib.Core.Bool.{false}
use native.Mathlib.Omega.{arith}
use lib.IntN.{ℤ, pos, negsuc, nat_abs}
use lib.Dec.{lit<}
use lib.Ieee.{fin, round, mul, of_int, binary64}
use lib.Ieee.Exact.{HasValue}
use lib.Ieee.Back.{round_whole}
use lib.Ieee.Positive.{mul_at, positive_of_value}
use Rattle.rules.specs.declared.Refusal.{Refusal}
use Rattle.rules.specs.Grid.{grid_number, quarters, centre_of}
use Rattle.rules.specs.Numbers.{no_fault, centre_fault}
use Rattle.rules.specs.Calls.{no_centre, centring}
use Rattle.rules.specs.Told.{refused}
use Rattle.table_laws.specs.Results.{unless_err, unless_ok}

quarters_round : (q : ℕ) → 0 < q → q < 2 ^ 53 → mul binary64 (of_int binary64 (pos q)) (fin false 1 (negsuc 1)) ≡ round binary64 false q 4
unfolding of_int
quarters_round q p h =
    let vx : HasValue (round binary64 false q 1) false q 1 = round_whole binary64 false q (omega arith) in
    let vy : HasValue (fin false 1 (negsuc 1)) false 1 4 = (refl, refl) in
    mul_at binary64 (round binary64 false q 1) (fin false 1 (negsuc 1)) q 1 1 4
    (positive_of_value (round binary64 false q 1) q 1 vx p) (positive_of_value (fin false 1 (negsuc 1)) 1 4 vy (lit< tt)) (lit< tt) (lit< tt) vx vy
    ∙ (let e : q * 1 ≡ q = omega arith in ap (λ (x : ℕ). round binary64 false x 4) e)

module _ (a : ℤ) (b w : ℕ) where
  pub centre_refused : (r : Refusal) → refused r ≡ centre_fault a b w → no_centre ≡ centring a b w
  unfolding centring
  centre_refused r e = sym (unless_err _ _ r e)

  pub centre_done : no_fault ≡ centre_fault a b w → (q : ℕ) → quarters (grid_number a b w) ≡ pos q → 0 < q → q < 2000000
      → mul binary64 (of_int binary64 (pos q)) (fin false 1 (negsuc 1)) ≡ centring a b w
  unfolding centring centre_of
  centre_done z q e p h =
      quarters_round q p (omega arith)
      ∙ sym (unless_ok _ _ z ∙ ap (λ (x : ℤ). round binary64 false (nat_abs x) 4) e)
