use Rattle.std.proofs.Common.{ℕ, ◌≡◌, ◌≤◌, ◌+◌, ◌-◌, ◌∙◌, unwrap_or, ap, sym, arith, rules, tests}
use Rattle.std.proofs.lemmas.Iterator.{YieldsList-from_range, YieldsList-from_map}
use Rattle.std.proofs.lemmas.Iterator.Consumers.{max_from_yields_List}
use Rattle.std.proofs.lemmas.Iterator.Adapters.{option_map_id}
use Rattle.rules.specs.Tables.{at}
use Rattle.rules.specs.Scan.{largest}
use Rattle.rules.specs.Plan.{highest}
use Rattle.table_laws.specs.Scans.{largest_le}
use Rattle.questions.proofs.Slots.{largest_below}
use Rattle.questions.proofs.highest_slot.Goals as goal

pub returns : goal.returns
unfolding highest
returns c =
    let p = c.args.plan.now in
    let n = p.net.n in
    let last = λ (k : ℕ). at p.starts.now k + at p.net.widths.now k - 1 in
    let e = sym (option_map_id c.max.result) ∙ max_from_yields_List c.map-ends.result c.max.result c.max.ensures.ran
    (YieldsList-from_map _ last (YieldsList-from_range 0 n n (cc) (omega arith)) c.map-ends.ensures.closure (λ x r q k. search (rules, tests))) in
    let u : c.map_or.result ≡ unwrap_or c.max.result 0 = search (rules, tests) in
    let t = u ∙ ap (λ o. unwrap_or o 0) e ∙ largest_below last n in
    let b : largest last n ≤ 16448 = largest_le last n 16448 (λ k l. omega (arith, p.legal.start k l, p.net.within.width k l)) in
    (t, omega (arith, t, b))
