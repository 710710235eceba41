use Rattle.std.proofs.Common.{arith}
use Rattle.network.specs.Lent.{lent}
use Rattle.walks.specs.Square.{walkable}
use Rattle.walks.proofs.Square.of.Goals as goal

pub square_of-requires : goal.square_of-requires
square_of-requires c = (c.requires.network.guards_size, (c.requires.few, λ i l. omega (arith, c.requires.clique.inside i l, c.requires.network.few)))

pub invariant_of-result : goal.invariant_of-result
invariant_of-result c = record {
  sized = (c.requires.some, c.requires.few);
  walkable = walkable c.args.net.now.n (lent c.args.net.now) c.args.list.now c.requires c.square_of.result c.square_of.ensures;
}
