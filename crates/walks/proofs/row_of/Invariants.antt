use Rattle.std.proofs.Common.{replicate}
use Rattle.rules.specs.Tables.{at, cell}
use Rattle.table_laws.specs.Updates.{Updated}
use Rattle.walks.proofs.row_of.Given as goal

abbrev pub invariant-loop-q : goal.invariant-loop-q
invariant-loop-q l = Updated (λ k v. at l.guards (cell l.from (at l.list k))) (replicate 8 255) l.row l.q
