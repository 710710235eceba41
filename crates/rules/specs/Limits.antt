-- RULES 3 as statements: what the theorems speak of, and what the tests have to accept exactly. Assumes
-- nothing.
use Rattle.std.specs.Prelude.{ℕ, ◌≤◌, ◌<◌, ◌≡◌, ◌⊎◌, List, length}
use Rattle.rules.specs.Tables.{at, cell, Lent}

-- a network within its limits: how many paths, the sizes of its tables, and what their cells hold
pub record Network (n : ℕ) (lent : Lent) : Type 0 where
  pub some : 1 ≤ n
  pub few : n ≤ 128
  pub widths_size : length lent.widths ≡ 128
  pub guards_size : length lent.guards ≡ 16384
  pub width : (k : ℕ) → k < n → (1 ≤ at lent.widths k) × (at lent.widths k ≤ 64)
  pub guard : (i j : ℕ) → i < n → j < n → (at lent.guards (cell i j) ≤ 32) ⊎ (at lent.guards (cell i j) ≡ 255)
  pub diagonal : (k : ℕ) → k < n → at lent.guards (cell k k) ≡ 255
  pub mirrored : (i j : ℕ) → i < n → j < n → at lent.guards (cell i j) ≡ at lent.guards (cell j i)

-- starts within their limits
pub record Starts (n : ℕ) (starts : List ℕ) : Type 0 where
  pub size : length starts ≡ 128
  pub start : (k : ℕ) → k < n → (1 ≤ at starts k) × (at starts k ≤ 16384)

-- what a call leaves of a table that it may write: the size is the same, and the cells of index n or more
-- are as they were
pub record KeptFrom (n : ℕ) (before after : List ℕ) : Type 0 where
  pub size : length after ≡ length before
  pub cells : (k : ℕ) → n ≤ k → at after k ≡ at before k
