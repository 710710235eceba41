use Rattle.network.specs.Lent.{lent}
use Rattle.rules.specs.Tables.{at}
use Rattle.rules.specs.Plan.{net_of}
use Rattle.plan_laws.specs.Reason.{Writing}
use Rattle.reason.proofs.write_chain.Given as goal

abbrev pub invariant-loop-m : goal.invariant-loop-m
invariant-loop-m l = let p = l.files.plan.now in Writing (net_of (lent p.net)) (at p.starts.now) p.net.n l.path l.initial.table l.m l.k l.table
