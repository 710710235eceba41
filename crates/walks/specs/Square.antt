-- The square of a list's guards, by position. Assumes nothing.
use Rattle.std.specs.Prelude.{ℕ, suc, ◌-◌, ◌≤◌, ◌<◌, ◌≡◌, List, [], length, get_or}
use Rattle.std.proofs.Common.{sym, ◌∙◌, arith}
use Rattle.rules.specs.Tables.{at, cell, Lent}
use Rattle.rules.specs.Floor.{walk_length}
use Rattle.table_laws.specs.Scans.{sum_le}
use Rattle.plan_laws.specs.Fits.{network_bounds}
use Rattle.plan_laws.specs.Answers.{Floorable}

-- a row of a square table, and the guard of two positions in a square
abbrev pub row_at : List (List ℕ) → ℕ → List ℕ
row_at table i = get_or table i []

abbrev pub guard_in : List (List ℕ) → ℕ → ℕ → ℕ
guard_in square i j = at (row_at square i) j

-- the guards of k positions are the same both ways, and a walk through them fits a byte that has 255 for none
pub record Walkable (guard : ℕ → ℕ → ℕ) (k : ℕ) : Type 0 where
  pub mirror : (i j : ℕ) → i < k → j < k → guard i j ≡ guard j i
  pub small : walk_length guard k (λ i. i) < 255

-- the guards of a path with each path of the list, and such a row for each of them
pub record Row (guards list : List ℕ) (from : ℕ) (row : List ℕ) : Type 0 where
  pub guard : (q : ℕ) → q < length list → at row q ≡ at guards (cell from (at list q))

pub record SquareOf (guards list : List ℕ) (square : List (List ℕ)) : Type 0 where
  pub row : (p : ℕ) → p < length list → Row guards list (at list p) (row_at square p)

-- a list of paths, each two in conflict, can be walked: a guard is at most 32
module _ (n : ℕ) (lent : Lent) (list : List ℕ) (f : Floorable n lent list) (square : List (List ℕ)) (q : SquareOf lent.guards list square) where
  near : (i j : ℕ) → i < j → j < length list → guard_in square i j ≤ 32
  near i j h l =
      let inside = f.clique.inside in
      rw ((q.row i (omega arith)).guard j l) ((network_bounds n lent f.network).near (at list i) (at list j) (inside i (omega arith)) (inside j l) (f.clique.all i j h l))

  pub walkable : Walkable (guard_in square) (length list)
  unfolding walk_length
  walkable = record {
    mirror = λ i j h l. (q.row i h).guard j l ∙ f.network.mirrored (at list i) (at list j) (f.clique.inside i h) (f.clique.inside j l) ∙ sym ((q.row j l).guard i h);
    small = omega (arith, f.few, sum_le (λ i. guard_in square i (suc i)) 32 (length list - 1) (λ i l. near i (suc i) (omega arith) (omega arith)));
  }
