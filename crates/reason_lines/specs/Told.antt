-- What the lines of the ask program are told of. Assumes nothing.
use Rattle.std.specs.Prelude.{ℕ, ◌≤◌, ◌<◌, ◌≡◌, List, ◌++◌, length}
use Rattle.rules.specs.Tables.{at}
use Rattle.rules.specs.Text.{bytes}
use Rattle.rules.specs.Writing.{label_of}
use Rattle.rules.specs.Asking.{slots_text}

-- path k's slots can be told: it has a row in each table, and its numbers are within their limits
pub record Told (labels widths starts : List ℕ) (k : ℕ) : Type 0 where
  pub path : k < 128
  pub labels_size : length labels ≡ 1024
  pub widths_size : length widths ≡ 128
  pub starts_size : length starts ≡ 128
  pub start : at starts k ≤ 16384
  pub some : 1 ≤ at widths k
  pub most : at widths k ≤ 64

-- a chain of such paths, at least one of them
pub record Chained (labels widths guards starts chain : List ℕ) : Type 0 where
  pub some : 1 ≤ length chain
  pub few : length chain ≤ 128
  pub guards_size : length guards ≡ 16384
  pub paths : (i : ℕ) → i < length chain → Told labels widths starts (at chain i)

-- the two longer ends of a chain, after the label of its last path
unfoldable pub held_text : List ℕ → ℕ → List ℕ
held_text labels k = bytes " is in slot 1, so " ++ (label_of labels k ++ bytes " cannot come down in this order.\n")

unfoldable pub free_text : ℕ → List ℕ
free_text d = bytes " can come down " ++ (slots_text d ++ bytes ".\n")
