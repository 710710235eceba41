use Rattle.std.proofs.Common.{arith, rules, tests}
use Rattle.std.proofs.lemmas.List.{get_or_read}
use Rattle.rules.specs.Numbers.{bad_guard}
use Rattle.table_laws.specs.Searches.{find_first}
use Rattle.guard_rows.proofs.guard_fault.Goals as goal

pub returns : goal.returns
returns c =
    find_first _ _ _ _ (bad_guard c.args.guards.now c.args.i) c.find.ensures.ran
    (λ x b q h. (search (rules, tests), grind (arith, tests, get_or_read)))
