use Rattle.std.proofs.Common.{arith}
use Rattle.sides.proofs.Steps.{next_met}
use Rattle.sides.proofs.next_path.Goals as goal

pub returns-in-Some : goal.returns-in-Some
returns-in-Some c = next_met c.args.n c.in-Some.met c.args.mark.now (omega arith) c.in-Some.ensures
