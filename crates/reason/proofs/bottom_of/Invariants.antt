use Rattle.std.proofs.Common.{◌≡◌, max}
use Rattle.network.specs.Lent.{lent}
use Rattle.rules.specs.Tables.{at}
use Rattle.rules.specs.Scan.{largest}
use Rattle.rules.specs.Plan.{net_of}
use Rattle.plan_laws.specs.Reason.{asks_of}
use Rattle.reason.proofs.bottom_of.Given as goal

abbrev pub invariant-loop-j : goal.invariant-loop-j
invariant-loop-j l = l.low ≡ max 1 (largest (asks_of (net_of (lent l.plan.net)) (at l.plan.starts.now) l.k) l.j)
