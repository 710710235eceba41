use Rattle.std.proofs.Common.{ℕ, not, eqb, arith, rules, tests}
use Rattle.std.proofs.lemmas.List.{get_or_read}
use Rattle.rules.specs.Tables.{at}
use Rattle.rules.specs.Writing.{has_plan}
use Rattle.table_laws.specs.Searches.{any_found}
use Rattle.sheet_tables.proofs.has_plan.Goals as goal

pub returns : goal.returns
unfolding has_plan
returns c =
    any_found c.args.n _ _ c.any.result (λ (k : ℕ). not (eqb (at c.args.starts.now k) 0)) c.any.ensures.ran
    (λ x b q h. (search (rules, tests), grind (arith, tests, get_or_read)))
