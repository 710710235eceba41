use native.Mathlib.Omega.{arith}
use Rattle.sheet_laws.specs.Grid.{quarters_low}
use Rattle.grid.proofs.in_quarters.Goals as goal

pub returns : goal.returns
returns c = (quarters_low c.args.n (omega arith), omega arith, omega arith)
