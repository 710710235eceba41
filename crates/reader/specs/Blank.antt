-- Tables that are cleared, all cells. Assumes nothing.
use Rattle.std.specs.Prelude.{ℕ, ◌≡◌, List}
use Rattle.rules.specs.Tables.{cleared}

pub record Blank (labels widths guards starts : List ℕ) : Type 0 where
  pub blank_labels : labels ≡ cleared 1024 0
  pub blank_widths : widths ≡ cleared 128 0
  pub blank_guards : guards ≡ cleared 16384 255
  pub blank_starts : starts ≡ cleared 128 0
