-- The tables of a sheet, of their sizes. Assumes nothing.
use Rattle.std.specs.Prelude.{ℕ, ◌≡◌, List, length}
use Rattle.rules.specs.Tables.{lend}
use Rattle.rules.specs.Numbers.{label_sizes, sheet_sizes}
use Rattle.table_laws.specs.Faults.{or_clear, size_clear}
use Rattle.table_laws.specs.Chains.{sizes_clear}

pub record Sized (labels widths guards starts : List ℕ) : Type 0 where
  pub labels_size_lem : length labels ≡ 1024
  pub widths_size_lem : length widths ≡ 128
  pub guards_size_lem : length guards ≡ 16384
  pub starts_size_lem : length starts ≡ 128

-- 2, of the labels and the starts
pub labels_clear : (labels starts : List ℕ) → (label_sizes labels starts).number ≡ 0 → (length labels ≡ 1024) × (length starts ≡ 128)
unfolding label_sizes
labels_clear labels starts z = let h = or_clear _ _ z in (size_clear labels 1024 h.0, size_clear starts 128 h.1)

-- and of all four
pub all_clear : (labels widths guards starts : List ℕ) → (sheet_sizes labels (lend widths guards) starts).number ≡ 0 → Sized labels widths guards starts
unfolding sheet_sizes
all_clear labels widths guards starts z =
    let h = or_clear _ _ z in
    let n = sizes_clear (lend widths guards) h.0 in
    let l = labels_clear labels starts h.1 in
    record { labels_size_lem = l.0; widths_size_lem = n.0; guards_size_lem = n.1; starts_size_lem = l.1 }
