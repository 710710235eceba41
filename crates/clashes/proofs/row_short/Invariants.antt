use Rattle.std.proofs.Common.{◌≡◌, false, ℕ, ◌<◌}
use Rattle.network.specs.Lent.{lent}
use Rattle.rules.specs.Tables.{at}
use Rattle.rules.specs.Plan.{net_of, too_close}
use Rattle.clashes.proofs.row_short.Given as goal

abbrev pub invariant-loop-j : goal.invariant-loop-j
invariant-loop-j l = (k : ℕ) → k < l.j → l.most ≡ 0 → too_close (net_of (lent l.plan.net)) (at l.plan.starts.now) l.i k ≡ false
