-- The highest slot. Assumes nothing.
use Rattle.std.specs.Prelude.{ℕ, ◌≤◌, ◌<◌, ◌≡◌}
use Rattle.std.proofs.Common.{ap, subst, arith}
use Rattle.rules.specs.Scan.{largest}
use Rattle.rules.specs.Plan.{Net, end, highest}
use Rattle.rules.specs.Packing.{Order}
use Rattle.table_laws.specs.Scans.{largest_ge, largest_le, largest_same}
use Rattle.table_laws.specs.Orders.{place}

module _ (net : Net) (p : ℕ → ℕ) where
  pub highest_ge : (n k : ℕ) → k < n → end net k (p k) ≤ highest net p n
  unfolding highest
  highest_ge n k l = largest_ge (λ k. end net k (p k)) n k l

  pub highest_le : (n x : ℕ) → ((k : ℕ) → k < n → end net k (p k) ≤ x) → highest net p n ≤ x
  unfolding highest
  highest_le n x h = largest_le (λ k. end net k (p k)) n x h

pub highest_same : (net : Net) (p q : ℕ → ℕ) (n : ℕ) → ((k : ℕ) → k < n → p k ≡ q k) → highest net p n ≡ highest net q n
unfolding highest
highest_same net p q n h = largest_same _ _ n (λ k l. ap (end net k) (h k l))

-- the largest along a whole order is the largest
pub largest_order : (f o : ℕ → ℕ) (n : ℕ) → Order o n n → largest (λ i. f (o i)) n ≡ largest f n
largest_order f o n ord =
    omega (
      arith,
      largest_le (λ i. f (o i)) n (largest f n) (λ i l. largest_ge f n (o i) (ord.inside i l)),
      largest_le f n (largest (λ i. f (o i)) n) (λ k l. let r = place o n ord k l in subst (λ x. f x ≤ largest (λ i. f (o i)) n) r.2 (largest_ge (λ i. f (o i)) n r.0 r.1)),
    )
