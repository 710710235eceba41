use Rattle.std.proofs.Common.{arith, rules, tests, lt-ltb}
use Rattle.std.specs.Prelude.{not, eqb}
use Rattle.std.proofs.lemmas.List.{get_or_read}
use Rattle.rules.specs.Tables.{at, cell}
use Rattle.rules.specs.Numbers.{bad_mirror}
use Rattle.table_laws.specs.Searches.{find_from}
use Rattle.guard_rows.proofs.Tests.{mirror_before}
use Rattle.guard_rows.proofs.mirror_fault.Goals as goal

pub returns : goal.returns
returns c =
    let guards = c.args.guards.now in
    let i = c.args.i in
    find_from _ _ _ _ (bad_mirror guards i) (λ j. not (eqb (at guards (cell i j)) (at guards (cell j i)))) c.find.ensures.ran
    (λ x b q h. (search (rules, tests), grind (arith, tests, get_or_read)))
    (λ k l. mirror_before guards i k (omega arith))
    (λ k a l. rw (lt-ltb i k (omega arith)))
