use Rattle.std.proofs.Common.{◌≤◌, ◌∙◌}
use Rattle.std.proofs.lemmas.Result.{err_from_is_err_and}
use Rattle.sheet_laws.specs.Sizes.{Sized}
use Rattle.sheet_laws.specs.Outcomes.{room_is, room_clear, written_err, written_ok}
use Rattle.sheet_laws.specs.Shorts.{refuse_short, refused_short, handed_short}
use Rattle.table_laws.specs.Results.{err_stop, ok_on}
use Rattle.sheet.proofs.Written.{writing_is, table_short, table_clear}
use Rattle.sheet.proofs.write.Goals as goal
use Rattle.sheet.proofs.write.Goals.{In_ok-check_tables}

fit : (c : In_ok-check_tables) → (c.args.n ≤ 128) × Sized c.args.labels.now c.args.widths.now c.args.guards.now c.args.starts.now
fit c = table_clear _ _ _ _ _ c.in_ok-check_tables.ensures

pub returns-in_err-check_tables-clause-writes : goal.returns-in_err-check_tables-clause-writes
returns-in_err-check_tables-clause-writes c =
    let p = err_from_is_err_and c.from_residual.result c.from_residual.ensures.1 in
    rw (p.1, p.2) (written_err _ _ _ (err_stop _ _ c.in_err-check_tables.ensures) ∙ writing_is _ _ _ _ _)

pub returns-in_err-check_tables-clause-short : goal.returns-in_err-check_tables-clause-short
returns-in_err-check_tables-clause-short c =
    handed_short _ _ c.from_residual.ensures.1 (refused_short _ c.in_err-check_tables.ensures (table_short _ _ _ _))

pub sheet_length-length-requires : goal.sheet_length-length-requires
sheet_length-length-requires c = fit (goal.at.sheet_length-length-requires c).In_ok-check_tables

pub returns-in_err-refuse_if-clause-writes : goal.returns-in_err-refuse_if-clause-writes
returns-in_err-refuse_if-clause-writes c =
    let p = err_from_is_err_and c.from_residual-in_err-refuse_if.result c.from_residual-in_err-refuse_if.ensures.1 in
    rw (p.1, p.2) (written_err _ _ _ (ok_on _ c.in_ok-check_tables.ensures (c.in_err-refuse_if.ensures ∙ room_is _ _ c.sheet_length-length.ensures)) ∙ writing_is _ _ _ _ _)

pub returns-in_err-refuse_if-clause-short : goal.returns-in_err-refuse_if-clause-short
returns-in_err-refuse_if-clause-short c =
    handed_short _ _ c.from_residual-in_err-refuse_if.ensures.1 (refused_short _ c.in_err-refuse_if.ensures (refuse_short _ 16 0))

pub put_sheet-requires : goal.put_sheet-requires
put_sheet-requires c =
    let f = fit (goal.at.put_sheet-requires c).In_ok-check_tables in
    (f.0, f.1, room_clear _ _ (c.in_ok-refuse_if.ensures ∙ room_is _ _ c.sheet_length-length.ensures))

pub returns-clause-writes : goal.returns-clause-writes
returns-clause-writes c =
    let room = c.in_ok-refuse_if.ensures ∙ room_is _ _ c.sheet_length-length.ensures in
    written_ok _ _ (ok_on _ c.in_ok-check_tables.ensures room) (room_clear _ _ room) _ _ c.put_sheet.ensures ∙ writing_is _ _ _ _ _
