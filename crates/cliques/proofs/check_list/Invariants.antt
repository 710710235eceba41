use Rattle.std.proofs.Common.{◌≡◌, ℕ, ◌<◌, false}
use Rattle.network.specs.Lent.{lent}
use Rattle.rules.specs.Plan.{net_of}
use Rattle.rules.specs.Numbers.{bad_member}
use Rattle.cliques.proofs.check_list.Given as goal

abbrev pub invariant-loop-k : goal.invariant-loop-k
invariant-loop-k l = (i : ℕ) → i < l.k → bad_member l.net.n (net_of (lent l.net)) l.list i ≡ false
