use Rattle.std.proofs.Common.{◌≡◌, ◌+◌, length}
use Rattle.rules.specs.Tables.{at}
use Rattle.rules.specs.Scan.{least}
use Rattle.walks.proofs.onward.Given as goal

abbrev pub invariant-loop-guard : goal.invariant-loop-guard
invariant-loop-guard l = l.best ≡ least 255 (λ i. at l.guards i + at l.walks i) (length l.yielded)
