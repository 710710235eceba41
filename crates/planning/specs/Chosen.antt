-- What choosing the order of a plan leaves: an order that can be packed, and packed it is the plan, whatever table of
-- starts is lent. Assumes nothing.
use Rattle.std.specs.Prelude.{ℕ, ◌≡◌, List}
use Rattle.rules.specs.Tables.{Lent}
use Rattle.rules.specs.Plan.{net_of}
use Rattle.rules.specs.Calls.{done_planned, done_plan}
use Rattle.plan_laws.specs.Answers.{Packable}

pub record Chosen (n : ℕ) (lent : Lent) (before starts : List ℕ) (seed rounds kept : ℕ) (order : List ℕ) : Type 0 where
  pub packable : Packable n lent order starts
  pub done : done_planned (net_of lent) n order starts kept ≡ done_plan (net_of lent) n before starts seed rounds
