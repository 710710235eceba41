use Rattle.std.proofs.Common.{◌-◌}
use Rattle.network.specs.Lent.{lent}
use Rattle.rules.specs.Tables.{at}
use Rattle.rules.specs.Plan.{net_of}
use Rattle.rules.specs.Reason.{holds_up}
use Rattle.links.specs.Files.{file_at, file_of, Searching}
use Rattle.links.proofs.Files.link_of.Given as goal

abbrev pub invariant-loop-j : goal.invariant-loop-j
invariant-loop-j l = let p = l.self.plan.now in Searching (holds_up (net_of (lent p.net)) (at p.starts.now) l.k) (file_of p.net.widths.now p.starts.now) p.net.n (file_at (at p.starts.now l.k)) l.j

abbrev pub decreases-loop-j : goal.decreases-loop-j
decreases-loop-j l = l.self.plan.now.net.n - l.j
