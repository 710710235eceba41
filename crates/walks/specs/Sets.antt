-- A set of positions as a number: position j is in it where the number's bit j is set. Assumes nothing.
use Rattle.std.specs.Prelude.{ℕ, bit_and, zero, suc, ◌+◌, ◌-◌, ◌/◌, ◌%◌, ◌^◌, ◌≤◌, ◌<◌, ◌≡◌, refl, ◌≢◌, Bool, true, false, eqb}
use Rattle.std.proofs.Common.{sym, ap, ◌∙◌, arith}
use Rattle.std.proofs.Math.Decide.{ℕ_discrete}
use Rattle.std.proofs.Math.Nat.{pow-suc, pow-le-pow_right}
use Rattle.std.specs.Int.{bit_at}
use Rattle.std.proofs.lemmas.Nat.{pow_pos}
use Rattle.std.proofs.lemmas.Nat.Bits.{bit_at_lowest, bit_at-suc, bit_at-zero, bit_at_above, bit_at_ones, bit_at-lt, shr_and_one}
use borrow.Author.Tests.{eqb-true, eqb-false, eq-eqb, ne_eqb}
use Rattle.rules.specs.Scan.{sum}
use Rattle.rules.specs.Packing.{Order, placed}
use Rattle.table_laws.specs.Orders.{placed_none, placed_hit, placed_miss, shorter, sum_order}

-- the set of position j alone
abbrev pub alone : ℕ → ℕ
alone j = 2 ^ j

unfoldable pub has : ℕ → ℕ → Bool
has s j = eqb (bit_at s j) 1

-- the set of the first m of an order
unfoldable pub members : (ℕ → ℕ) → ℕ → ℕ
members order m = sum (λ i. alone (order i)) m

-- few positions have few sets
pub sets_few : (i j : ℕ) → i ≤ j → alone i ≤ alone j
sets_few i j l = pow-le-pow_right {n = 2} (omega arith) l

-- a bit of a set, by the set without its first position
has_first : (s : ℕ) → has s 0 ≡ eqb (s % 2) 1
unfolding has
has_first s = ap (λ (x : ℕ). eqb x 1) (bit_at_lowest s)

has_later : (s j : ℕ) → has s (suc j) ≡ has (s / 2) j
unfolding has
has_later s j = ap (λ (x : ℕ). eqb x 1) (bit_at-suc s j)

-- for the code: the test of a bit
pub has_not : (s j : ℕ) → bit_and (s / alone j) 1 ≡ 0 → has s j ≡ false
unfolding has
has_not s j e = ne_eqb (bit_at s j) 1 (λ z. omega (arith, shr_and_one s j))

pub has_set : (s j : ℕ) → bit_and (s / alone j) 1 ≢ 0 → has s j ≡ true
unfolding has
has_set s j ne = eq-eqb (bit_at s j) 1 (omega (arith, bit_at-lt s j, shr_and_one s j))

-- nothing is in the empty set, and all that there is in the full one
pub has_none : (j : ℕ) → has 0 j ≡ false
unfolding has
has_none j = ne_eqb (bit_at 0 j) 1 (λ e. omega (arith, bit_at-zero j))

pub has_all : (k j : ℕ) → j < k → has (alone k - 1) j ≡ true
unfolding has
has_all k j l = eq-eqb (bit_at (alone k - 1) j) 1 (bit_at_ones k j l)

-- one position more: it is in the set, and the others are as before
pub has_added : (s j : ℕ) → has s j ≡ false → has (s + alone j) j ≡ true
has_added s zero e =
    let h = eqb-false (s % 2) 1 (sym (has_first s) ∙ e) in
    has_first (s + alone 0) ∙ eq-eqb ((s + 1) % 2) 1 (omega arith)
has_added s (suc j) e =
    let q : (s + alone (suc j)) / 2 ≡ s / 2 + alone j = omega (arith, pow-suc 2 j) in
    has_later (s + alone (suc j)) j ∙ ap (λ x. has x j) q ∙ has_added (s / 2) j (sym (has_later s j) ∙ e)

pub has_other : (s j i : ℕ) → has s j ≡ false → i ≢ j → has (s + alone j) i ≡ has s i
has_other s zero zero e ne = absurd (ne refl)
has_other s zero (suc i) e ne =
    let h = eqb-false (s % 2) 1 (sym (has_first s) ∙ e) in
    let q : (s + alone 0) / 2 ≡ s / 2 = omega arith in
    has_later (s + alone 0) i ∙ ap (λ x. has x i) q ∙ sym (has_later s i)
has_other s (suc j) zero e ne =
    let q : (s + alone (suc j)) % 2 ≡ s % 2 = omega (arith, pow-suc 2 j) in
    has_first (s + alone (suc j)) ∙ ap (λ (x : ℕ). eqb x 1) q ∙ sym (has_first s)
has_other s (suc j) (suc i) e ne =
    let q : (s + alone (suc j)) / 2 ≡ s / 2 + alone j = omega (arith, pow-suc 2 j) in
    has_later (s + alone (suc j)) i ∙ ap (λ x. has x i) q ∙ has_other (s / 2) j i (sym (has_later s j) ∙ e) (λ z. ne (ap suc z)) ∙ sym (has_later s i)

-- one position less
pub alone_le : (s j : ℕ) → has s j ≡ true → alone j ≤ s
alone_le s zero e = let h = eqb-true (s % 2) 1 (sym (has_first s) ∙ e) in omega arith
alone_le s (suc j) e = omega (arith, alone_le (s / 2) j (sym (has_later s j) ∙ e), pow-suc 2 j)

pub has_taken : (s j : ℕ) → has s j ≡ true → has (s - alone j) j ≡ false
has_taken s zero e =
    let h = eqb-true (s % 2) 1 (sym (has_first s) ∙ e) in
    has_first (s - alone 0) ∙ ne_eqb ((s - 1) % 2) 1 (λ z. omega arith)
has_taken s (suc j) e =
    let b = sym (has_later s j) ∙ e in
    let l = alone_le (s / 2) j b in
    let q : (s - alone (suc j)) / 2 ≡ s / 2 - alone j = omega (arith, pow-suc 2 j) in
    has_later (s - alone (suc j)) j ∙ ap (λ x. has x j) q ∙ has_taken (s / 2) j b

-- a set of the first n positions has none past them, and the rest of them has none that it has
pub has_past : (s n j : ℕ) → s < alone n → n ≤ j → has s j ≡ false
unfolding has
has_past s n j l h = ne_eqb (bit_at s j) 1 (λ e. omega (arith, bit_at_above s n j l h))

pub has_rest : (n s j : ℕ) → s < alone n → j < n → has s j ≡ true → has (alone n - 1 - s) j ≡ false
has_rest zero s j l h e = absurd (omega arith)
has_rest (suc n) s zero l h e =
    let p = pow_pos n in
    let odd = eqb-true (s % 2) 1 (sym (has_first s) ∙ e) in
    has_first (alone (suc n) - 1 - s) ∙ ne_eqb ((alone (suc n) - 1 - s) % 2) 1 (λ z. omega (arith, pow-suc 2 n))
has_rest (suc n) s (suc j) l h e =
    let p = pow_pos n in
    let q : (alone (suc n) - 1 - s) / 2 ≡ alone n - 1 - s / 2 = omega (arith, pow-suc 2 n) in
    let small : s / 2 < alone n = omega (arith, pow-suc 2 n) in
    has_later (alone (suc n) - 1 - s) j ∙ ap (λ x. has x j) q ∙ has_rest n (s / 2) j small (omega arith) (sym (has_later s j) ∙ e)

-- a position is in the set of an order's first m exactly where it is placed
pub members_have : (o : ℕ → ℕ) (k m : ℕ) → Order o k m → (j : ℕ) → has (members o m) j ≡ placed o m j
unfolding members sum
members_have o k zero ord j = has_none j ∙ sym (placed_none o 0 j (λ i l. absurd (omega arith)))
members_have o k (suc m) ord j = go (ℕ_discrete j (o m)) (λ i. members_have o k m (shorter ord) i)
  where
    all : ℕ
    all = sum (λ i. alone (o i)) m

    fresh : ((i : ℕ) → has all i ≡ placed o m i) → has all (o m) ≡ false
    fresh ih = ih (o m) ∙ placed_none o m (o m) (λ i l. ord.fresh i m l (omega arith))

    go : Dec (j ≡ o m) → ((i : ℕ) → has all i ≡ placed o m i) → has (all + alone (o m)) j ≡ placed o (suc m) j
    go (yes e) ih = rw e (has_added all (o m) (fresh ih) ∙ placed_hit o m (o m) refl)
    go (no ne) ih = has_other all (o m) j (fresh ih) ne ∙ placed_miss o m j (has all j) (ih j) (λ e. ne (sym e))

-- a whole order has all positions
powers : (k : ℕ) → sum (λ i. alone i) k ≡ alone k - 1
unfolding sum
powers zero = refl
powers (suc k) = omega (arith, powers k, pow_pos k, pow-suc 2 k)

pub members_all : (o : ℕ → ℕ) (k : ℕ) → Order o k k → members o k ≡ alone k - 1
unfolding members
members_all o k ord = sum_order (λ i. alone i) o k ord ∙ powers k
