use Rattle.std.proofs.Common.{rules, ◌∙◌}
use Rattle.rules.specs.Numbers.{bad_guard, bad_mirror}
use Rattle.table_laws.specs.Firsts.{FirstCellIs}
use Rattle.table_laws.specs.Results.{handed_on, err_stop, ok_on}
use Rattle.tables.proofs.check_guards.Goals as goal
use Rattle.tables.proofs.check_guards.Goals.{After-first_cell-guard, After-first_cell-mirror}

-- what the two searches answer
first_guard : (c : After-first_cell-guard) → FirstCellIs (bad_guard c.args.guards.now) c.args.n c.first_cell-guard.result
first_guard c = c.first_cell-guard.ensures (bad_guard c.args.guards.now) (λ i r l p. search rules)

first_mirror : (c : After-first_cell-mirror) → FirstCellIs (bad_mirror c.args.guards.now) c.args.n c.first_cell-mirror.result
first_mirror c = c.first_cell-mirror.ensures (bad_mirror c.args.guards.now) (λ i r l p. search rules)

pub refuse_cell-requires : goal.refuse_cell-requires
refuse_cell-requires c = (bad_guard c.args.guards.now, c.args.n, c.requires.0, first_guard c)

pub returns-in_err-refuse_cell : goal.returns-in_err-refuse_cell
returns-in_err-refuse_cell c =
    let f = first_guard (goal.at.returns-in_err-refuse_cell c).After-first_cell-guard in
    handed_on _ _ c.from_residual.ensures.1 ∙ err_stop _ _ (c.in_err-refuse_cell.ensures _ _ f)

pub refuse_cell-requires-2 : goal.refuse_cell-requires-2
refuse_cell-requires-2 c = (bad_mirror c.args.guards.now, c.args.n, c.requires.0, first_mirror c)

pub returns : goal.returns
returns c =
    let f = first_guard (goal.at.returns c).After-first_cell-guard in
    let g = first_mirror (goal.at.returns c).After-first_cell-mirror in
    ok_on _ (c.in_ok-refuse_cell.ensures _ _ f) (c.refuse_cell-2.ensures _ _ g)
