use Rattle.std.specs.Prelude.{ℕ, ◌<◌, Bool, Option, None}
use Rattle.table_laws.specs.Firsts.{FirstIs}
use Rattle.tables.proofs.first_cell.Given as goal

abbrev pub invariant-loop-i : goal.invariant-loop-i
invariant-loop-i g l =
    (bad : ℕ → ℕ → Bool) → ((i : ℕ) (r : Option ℕ) → i < l.n → goal.F-post g l.in_row i r → FirstIs (bad i) l.n r)
    → (k : ℕ) → k < l.i → FirstIs (bad k) l.n None
