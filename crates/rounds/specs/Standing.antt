-- Where improving stands, as the code holds it: the numbers in a struct, and the order in its table.
-- Assumes nothing.
use Rattle.std.specs.Prelude.{ℕ, List}
use Rattle.rules.specs.Tables.{Lent}
use Rattle.rules.specs.Plan.{net_of}
use Rattle.rules.specs.Packing.{lowest, height}
use Rattle.rules.specs.Planning.{Run}
use Rattle.rounds.specs.declared.Standing.{Standing}

abbrev pub run_of : Standing → List ℕ → Run
run_of s order = record { state = s.state; order = order; highest = s.highest; kept = s.kept }

-- the highest slot of an order, packed into a table
abbrev pub highest_of : ℕ → Lent → List ℕ → List ℕ → ℕ
highest_of n lent table = height (net_of lent) n (lowest (net_of lent)) table
