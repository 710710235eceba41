use Rattle.std.proofs.Common.{◌≡◌, length, ap, ◌∙◌, arith}
use Rattle.rules.specs.Tables.{at, cell}
use Rattle.rules.specs.Scan.{sum}
use Rattle.rules.specs.Floor.{shortest, floor}
use Rattle.table_laws.specs.Scans.{sum_le}
use Rattle.plan_laws.specs.Walks.{shortest_same}
use Rattle.walks.specs.Square.{guard_in}
use Rattle.cliques.proofs.Sums.{sum_list}
use Rattle.cliques.proofs.floor_of.Goals as goal
use Rattle.cliques.proofs.floor_of.Goals.{After-widths_added}

-- the widths, by position
widths : (c : After-widths_added) → c.widths_added.result ≡ sum (λ i. at c.args.net.now.widths.now (at c.args.list.now i)) (length c.args.list.now)
widths c = c.widths_added.ensures ∙ sum_list (at c.args.net.now.widths.now) c.args.list.now

pub overflow_add-result : goal.overflow_add-result
overflow_add-result c =
    let net = c.args.net.now in
    omega (arith, widths (goal.at.overflow_add-result c).After-widths_added, c.requires.few, c.from.ensures, c.shortest.type_inv, sum_le (λ i. at net.widths.now (at c.args.list.now i)) 64 (length c.args.list.now) (λ i l. (net.within.width _ (c.requires.clique.inside i l)).1))

pub returns : goal.returns
unfolding floor
returns c =
    let net = c.args.net.now in
    let list = c.args.list.now in
    let square = c.of.result.guards in
    let walk : c.from.result ≡ shortest (λ i j. at net.guards.now (cell (at list i) (at list j))) (length list) =
    c.from.ensures ∙ c.shortest.ensures ∙ ap (shortest (guard_in square)) c.of.ensures.size
    ∙ shortest_same (guard_in square) (λ i j. at net.guards.now (cell (at list i) (at list j))) (length list) (λ i j h l. (c.of.ensures.guards.row i h).guard j l)
    in
    rw (widths (goal.at.returns c).After-widths_added, walk)
