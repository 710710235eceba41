use Rattle.std.proofs.Common.{ℕ, ◌<◌, ◌≡◌, not, eqb, rules, tests, arith, eq-eqb, ne_eqb}
use Rattle.std.proofs.Math.Decide.{ℕ_discrete}
use Rattle.network.specs.Lent.{lent}
use Rattle.rules.specs.Tables.{at}
use Rattle.rules.specs.Plan.{Net, net_of, too_close}
use Rattle.table_laws.specs.Searches.{find_from}
use Rattle.plan_laws.specs.Clash.{lack, lack_none, lack_some, close_before}
use Rattle.clashes.proofs.close_row.Goals as goal

-- what is asked of a path past i
close_past : (net : Net) (plan : ℕ → ℕ) (i j : ℕ) → i < j → too_close net plan i j ≡ not (eqb (lack net plan i j) 0)
close_past net plan i j l =
    elim (ℕ_discrete (lack net plan i j) 0) [ yes e ↦ rw (lack_none net plan i j l e, eq-eqb _ 0 e) | no e ↦ rw (lack_some net plan i j l e, ne_eqb _ 0 e) ]

pub returns : goal.returns
returns c =
    let p = c.args.plan.now in
    let net = net_of (lent p.net) in
    let plan = at p.starts.now in
    let i = c.args.i in
    find_from _ _ _ _ (too_close net plan i) (λ j. not (eqb (lack net plan i j) 0)) c.find.ensures.ran
    (λ x b q h. (search (rules, tests), grind (arith, tests)))
    (λ k l. close_before net plan i k (omega arith))
    (λ k a l. close_past net plan i k (omega arith))
