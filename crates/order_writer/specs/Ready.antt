-- What an order sheet is written from: tables that were tested, and an anchor counted from -100,000. Assumes nothing.
use Rattle.std.specs.Prelude.{ℕ, ◌+◌, ◌*◌, ◌≤◌, ◌<◌, List, length}
use Rattle.rules.specs.Tables.{at}

-- path k's block, and its label's row
pub record Block (anchor : ℕ) (labels widths starts : List ℕ) (k : ℕ) : Type 0 where
  pub least : 98976 ≤ anchor
  pub most : anchor ≤ 101024
  pub row : 8 * k + 8 ≤ length labels
  pub in_widths : k < length widths
  pub in_starts : k < length starts
  pub narrow : at widths k ≤ 64
  pub first : 1 ≤ at starts k
  pub last : at starts k ≤ 16384

-- those of n paths
pub record Ready (anchor n : ℕ) (labels widths starts : List ℕ) : Type 0 where
  pub few : n ≤ 128
  pub block : (k : ℕ) → k < n → Block anchor labels widths starts k
