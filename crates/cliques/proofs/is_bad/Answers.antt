use Rattle.std.proofs.Common.{◌≡◌, Bool, false, not, ◌||◌, eqb, ◌∙◌, arith, rules, tests}
use Rattle.std.proofs.lemmas.Bool.{lt-leb}
use Rattle.std.proofs.lemmas.List.{get_or_read}
use Rattle.network.specs.Lent.{lent}
use Rattle.rules.specs.Tables.{at}
use Rattle.rules.specs.Plan.{net_of, in_conflict}
use Rattle.table_laws.specs.Searches.{any_found}
use Rattle.cliques.proofs.is_bad.Goals as goal

or_no : {a b : Bool} → a ≡ false → b ≡ (a || b)
or_no e = rw e

pub returns-else-net-path : goal.returns-else-net-path
returns-else-net-path c =
    let net = net_of (lent c.args.net.now) in
    let list = c.args.list.now in
    λ l q. rw q (any_found _ _ _ _ (λ i. eqb (at list i) (at list c.args.k) || not (in_conflict net (at list i) (at list c.args.k))) c.any.ensures.ran (λ x b q h. (search (rules, tests), grind (arith, tests, get_or_read)))
    ∙ or_no (lt-leb c.args.net.now.n (at list c.args.k) (omega (arith, c.from-path.ensures, c.if-net-path.false))))
