use Rattle.std.proofs.Common.{arith}
use Rattle.sheet_laws.specs.Grid.{number_low}
use Rattle.grid.proofs.number.Goals as goal

pub returns : goal.returns
returns c = (number_low c.args.anchor c.args.start c.args.width, omega arith, omega arith)
