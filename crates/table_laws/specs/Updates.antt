-- A loop that runs over a table and replaces each cell by f of its index and of what it held. Assumes nothing.
use Rattle.std.specs.Prelude.{ℕ, ◌+◌, ◌≤◌, ◌<◌, ◌≡◌, refl, List, length, set}
use Rattle.std.proofs.Common.{ap, ◌∙◌, arith, length-set, below_none, below_more}
use Rattle.rules.specs.Tables.{at}
use Rattle.rules.specs.Limits.{KeptFrom}
use Rattle.table_laws.specs.Tables.{at_same, at_other}

-- xs is xs₀ with the cells below j replaced
pub record Updated (f : ℕ → ℕ → ℕ) (xs₀ xs : List ℕ) (j : ℕ) : Type 0 where
  pub long : length xs ≡ length xs₀
  pub done : (k : ℕ) → k < j → at xs k ≡ f k (at xs₀ k)
  pub left : (k : ℕ) → j ≤ k → at xs k ≡ at xs₀ k

pub update_none : (f : ℕ → ℕ → ℕ) (xs : List ℕ) → Updated f xs xs 0
update_none f xs = record { long = refl; done = below_none _; left = λ k l. refl }

pub update_more : (f : ℕ → ℕ → ℕ) (xs₀ xs : List ℕ) (j v : ℕ) → Updated f xs₀ xs j → j < length xs₀ → v ≡ f j (at xs j) → Updated f xs₀ (set xs j v) (j + 1)
update_more f xs₀ xs j v u l e = record {
  long = length-set xs j v ∙ u.long;
  done = below_more (λ k. at (set xs j v) k ≡ f k (at xs₀ k)) j
      (λ k m. at_other xs j v k (λ q. omega arith) ∙ u.done k m)
      (at_same xs j v (omega (arith, u.long)) ∙ e ∙ ap (f j) (u.left j (omega arith)));
  left = λ k m. at_other xs j v k (λ q. omega arith) ∙ u.left k (omega arith);
}

pub update_all : (f : ℕ → ℕ → ℕ) (xs₀ xs : List ℕ) (j n : ℕ) → Updated f xs₀ xs j → j ≡ n → Updated f xs₀ xs n
update_all f xs₀ xs j n u e = rw e at u

pub update_set : (f : ℕ → ℕ → ℕ) (xs₀ xs : List ℕ) (j c v size : ℕ) → Updated f xs₀ xs j → length xs₀ ≡ size → length (set xs c v) ≡ size
update_set f xs₀ xs j c v size u e = length-set xs c v ∙ u.long ∙ e

-- the cells of index n or more: no cell is written, then one below n
pub kept_none : (n : ℕ) (t : List ℕ) → KeptFrom n t t
kept_none n t = record { size = refl; cells = λ k l. refl }

pub kept_set : (n : ℕ) (t s : List ℕ) (c v : ℕ) → c < n → KeptFrom n t s → KeptFrom n t (set s c v)
kept_set n t s c v l h = record { size = length-set s c v ∙ h.size; cells = λ k g. at_other s c v k (λ e. omega arith) ∙ h.cells k g }

-- one after the other, and a loop over the cells below n
pub kept_then : (n : ℕ) (t s r : List ℕ) → KeptFrom n t s → KeptFrom n s r → KeptFrom n t r
kept_then n t s r p q = record { size = q.size ∙ p.size; cells = λ k l. q.cells k l ∙ p.cells k l }

pub kept_update : (f : ℕ → ℕ → ℕ) (n : ℕ) (t s : List ℕ) → Updated f t s n → KeptFrom n t s
kept_update f n t s u = record { size = u.long; cells = u.left }
