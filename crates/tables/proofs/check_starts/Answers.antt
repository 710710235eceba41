use Rattle.rules.specs.Numbers.{start_fault}
use Rattle.tables.proofs.check_starts.Goals as goal

pub returns : goal.returns
unfolding start_fault
returns c = c.check_range.ensures
