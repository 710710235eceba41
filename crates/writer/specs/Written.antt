-- The guard lines of a sheet. Assumes nothing.
use Rattle.std.specs.Prelude.{ℕ, List}
use Rattle.rules.specs.Writing.{join_from, guard_text}

abbrev pub guard_lines : ℕ → List ℕ → List ℕ → List ℕ
guard_lines n labels guards = join_from n 0 (λ i. join_from n 0 (guard_text labels guards i))
