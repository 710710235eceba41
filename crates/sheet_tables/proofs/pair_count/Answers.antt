use Rattle.std.proofs.Common.{ℕ, ◌∙◌, cond, arith, rules, tests}
use Rattle.std.proofs.lemmas.Iterator.{YieldsList-from_range, YieldsList-from_map}
use Rattle.std.proofs.lemmas.Iterator.Consumers.{sum_from_yields_List, fits_from_yields_list}
use Rattle.rules.specs.Scan.{sum}
use Rattle.rules.specs.Writing.{is_pair, pairs}
use Rattle.sheet_tables.proofs.Plans.{sum_below, pairs_few}
use Rattle.sheet_tables.proofs.pair_count.Goals as goal

pub sum-requires-clause-fits : goal.sum-requires-clause-fits
unfolding pairs
sum-requires-clause-fits c =
    let n = c.args.n in
    let row = λ (i : ℕ). sum (λ j. cond (is_pair c.args.guards.now i j) 1 0) n in
    fits_from_yields_list c.map.result _
    (YieldsList-from_map _ row (YieldsList-from_range 0 n n (cc) (omega arith)) c.map.ensures.closure (λ x r q k. search (rules, tests)))
    (omega (arith, sum_below row n, pairs_few n c.args.guards.now c.requires.0))

pub returns : goal.returns
unfolding pairs
returns c =
    let n = c.args.n in
    let row = λ (i : ℕ). sum (λ j. cond (is_pair c.args.guards.now i j) 1 0) n in
    let e = sum_from_yields_List c.map.result c.sum.result c.sum.ensures.ran
    (YieldsList-from_map _ row (YieldsList-from_range 0 n n (cc) (omega arith)) c.map.ensures.closure (λ x r q k. search (rules, tests))) ∙ sum_below row n in
    (e, omega (arith, e, pairs_few n c.args.guards.now c.requires.0))
