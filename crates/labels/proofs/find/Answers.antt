use Rattle.std.proofs.Common.{None, refl, sym, arith, rules, tests}
use Rattle.rules.specs.Sheet.{is_row, find}
use Rattle.table_laws.specs.Firsts.{FirstIs}
use Rattle.table_laws.specs.Searches.{find_from, first_of}
use Rattle.labels.specs.Keys.{Bytes}
use Rattle.labels.proofs.find.Goals as goal

pub returns-then-is_here : goal.returns-then-is_here
unfolding find
returns-then-is_here c =
    let holds = is_row c.args.labels.now c.args.name.now in
    let bytes : Bytes c.args.name.now = λ j. omega (arith, c.type_inv.name j) in
    let keyed = c.key-key.ensures in
    let first : FirstIs holds c.args.n c.find.result =
    find_from _ _ _ _ holds holds c.find.ensures.ran (λ x b q h. (search (rules, tests), search (rules, tests))) c.loop-b.invariant (λ k a b. refl) in
    record { first = first; value = sym (first_of holds c.args.n c.find.result first) }

pub returns-clause-value : goal.returns-clause-value
unfolding find
returns-clause-value c =
    sym (first_of (is_row c.args.labels.now c.args.name.now) c.args.n None (λ j h. c.loop-b.invariant j (omega arith)))
