-- The sides, for the code: what the finding goes by, and that the two-sided order is an order. Assumes nothing.
use Prim.Native.Nat.{ℕ, zero, suc, ◌≤◌, ◌<◌}
use Rattle.std.specs.Prelude.{◌≡◌, Bool, List, length}
use Rattle.std.proofs.Math.Path.{refl, ap}
use Rattle.std.proofs.Math.Bool.{cond}
use Rattle.std.proofs.Common.{arith}
use Rattle.rules.specs.Tables.{at}
use Rattle.rules.specs.Plan.{Net, in_conflict}
use Rattle.rules.specs.Packing.{Order}
use Rattle.rules.specs.Sides.{touches, opposite, two_sided}
use Rattle.table_laws.specs.Scans.{found_same}
use Rattle.plan_laws.specs.Pack.{Local}
use Rattle.plan_laws.specs.Arranged.{arranged_length, arranged_order}

module _ (net : Net) where
  pub touches_local : (o r : ℕ → ℕ) (m k : ℕ) → ((i : ℕ) → i < m → o i ≡ r i) → touches net o m k ≡ touches net r m k
  unfolding touches
  touches_local o r m k h = found_same (λ i. in_conflict net (o i) k) (λ i. in_conflict net (r i) k) m (λ i l. ap (λ x. in_conflict net x k) (h i l))

  pub opposite_local : Local (opposite net)
  unfolding opposite
  opposite_local p q o r zero k h g = refl
  opposite_local p q o r (suc m) k h g = rw (opposite_local p q o r m k (λ i l. h i (omega arith)) (λ i l. g i (omega arith)), g m (omega arith), h m (omega arith))

module _ (n : ℕ) (high : ℕ → Bool) (order : List ℕ) (room : n ≤ length order) where
  pub sided_length : length (two_sided n high order) ≡ length order
  unfolding two_sided
  sided_length = arranged_length (λ s i k. cond (high k) 1 0) n order room n

  pub sided_order : Order (at (two_sided n high order)) n n
  unfolding two_sided
  sided_order = arranged_order (λ s i k. cond (high k) 1 0) n order room n (omega arith)
