use Rattle.std.proofs.Common.{ap, ◌∙◌, rules, tests}
use Rattle.std.specs.Prelude.{not}
use Rattle.rules.specs.Tables.{at}
use Rattle.rules.specs.Plan.{net_of}
use Rattle.rules.specs.Scan.{found, found_pair}
use Rattle.rules.specs.Sides.{has_sides, same_mark}
use Rattle.table_laws.specs.Searches.{any_found}
use Rattle.plan_laws.specs.Alike.{alike, rows_alike}
use Rattle.sides.proofs.are_sides.Goals as goal

pub returns : goal.returns
unfolding has_sides
returns c = λ l q m.
    let net = c.args.net.now in
    ap not (any_found _ _ _ _ (λ i. found (alike net.guards.now c.args.mark.now i) 128) c.any.ensures.ran (λ x b q h. (search (rules, tests), search (rules, tests)))
    ∙ rows_alike net.n net.within.few net.guards.now c.args.mark.now (record { own = net.within.diagonal; other = net.within.mirrored }) c.requires l q
    ∙ ap (λ mark. found_pair (same_mark (net_of l) (at mark)) net.n) m)
