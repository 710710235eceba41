-- What a search of the numbers below n answers that looks for the first one that passes a test. Assumes nothing.
use Rattle.std.specs.Prelude.{ℕ, ◌<◌, ◌≡◌, Bool, true, false, Option, None, Some}

-- none below n passes, or i is the first that does
abbrev pub FirstIs : (ℕ → Bool) → ℕ → Option ℕ → Type 0
FirstIs test n None = (k : ℕ) → k < n → test k ≡ false
FirstIs test n (Some i) = (i < n) × (test i ≡ true) × ((k : ℕ) → k < i → test k ≡ false)

-- the same over a square, row by row: no cell below n passes, or (i, j) is the first that does
abbrev pub FirstCellIs : (ℕ → ℕ → Bool) → ℕ → Option (ℕ × ℕ) → Type 0
FirstCellIs test n None = (i : ℕ) → i < n → FirstIs (test i) n None
FirstCellIs test n (Some (i, j)) = (i < n) × FirstIs (test i) n (Some j) × ((k : ℕ) → k < i → FirstIs (test k) n None)
