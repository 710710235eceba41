use Rattle.std.proofs.Common.{ℕ, arith, rules, tests}
use Rattle.std.proofs.lemmas.List.{get_or_read}
use Rattle.rules.specs.Tables.{at}
use Rattle.rules.specs.Numbers.{outside}
use Rattle.table_laws.specs.Searches.{find_first}
use Rattle.tables.proofs.check_range.Goals as goal

pub returns : goal.returns
returns c =
    let bad = λ (k : ℕ). outside 1 c.args.most (at c.args.table.now k) in
    c.refuse_at.ensures bad c.args.n
    (find_first _ _ _ _ bad c.find-first.ensures.ran (λ x b q h. (search (rules, tests), grind (arith, tests, get_or_read))))
