-- RULES 3. A lent table is the list of its cells: widths, starts and orders 128, guards 16,384, labels 1,024,
-- whatever n is. Paths are numbered from 0. Assumes nothing.
use Rattle.std.specs.Prelude.{ℕ, ◌+◌, ◌*◌, List, get_or, replicate}

-- what stands at index k of a table
abbrev pub at : List ℕ → ℕ → ℕ
at table k = get_or table k 0

-- where the guard of i and j stands
abbrev pub cell : ℕ → ℕ → ℕ
cell i j = 128 * i + j

-- a cleared table: so many cells of one value
unfoldable pub cleared : ℕ → ℕ → List ℕ
cleared size value = replicate size value

-- the lent tables that make a network, as one thing: what each call that knows a network is given
pub record Lent : Type 0 where
  pub widths : List ℕ
  pub guards : List ℕ

abbrev pub lend : List ℕ → List ℕ → Lent
lend widths guards = record { widths = widths; guards = guards }

-- cleared: no widths, and no conflicts
abbrev pub cleared_network : Lent
cleared_network = lend (cleared 128 0) (cleared 16384 255)

-- byte j of the eight that hold path k's label
abbrev pub label_byte : List ℕ → ℕ → ℕ → ℕ
label_byte labels k j = at labels (8 * k + j)
