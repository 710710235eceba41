-- The tests of a block: its width, then its start. Assumes nothing.
use Rattle.std.specs.Prelude.{ℕ}
use Rattle.rules.specs.declared.Fault.{Fault}
use Rattle.rules.specs.Numbers.{refuse_if, ◌or_else◌, outside}

unfoldable pub block_fault : ℕ → ℕ → Fault
block_fault start width = refuse_if (outside 1 64 width) 3 0 or_else refuse_if (outside 1 16384 start) 7 0
