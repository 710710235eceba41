-- A network's lent tables, as the rules speak of them. Assumes nothing.
use Rattle.rules.specs.Tables.{Lent, lend}
use Rattle.network.specs.declared.Network.{Network}

abbrev pub lent : Network → Lent
lent n = lend n.widths.now n.guards.now
