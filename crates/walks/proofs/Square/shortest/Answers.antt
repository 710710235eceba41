use Rattle.std.proofs.Common.{◌-◌, arith}
use Rattle.walks.specs.Sets.{sets_few}
use Rattle.walks.specs.Filled.{blank_table}
use Rattle.walks.proofs.Square.shortest.Goals as goal

pub shortest_in-requires-clause-room : goal.shortest_in-requires-clause-room
shortest_in-requires-clause-room c = omega (arith, sets_few (c.args.self.now.size - 1) 4 (omega arith))

pub shortest_in-requires-else-self-le5-clause-blank : goal.shortest_in-requires-else-self-le5-clause-blank
shortest_in-requires-else-self-le5-clause-blank c = blank_table 128
