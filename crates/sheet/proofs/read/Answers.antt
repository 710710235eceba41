use Rattle.std.proofs.Common.{sym, ◌∙◌}
use Rattle.std.proofs.lemmas.Result.{err_from_is_err_and}
use Rattle.rules.specs.Calls.{reading}
use Rattle.table_laws.specs.Results.{clear_none, unless_err, unless_ok}
use Rattle.sheet_laws.specs.Sizes.{all_clear}
use Rattle.sheet_laws.specs.Shorts.{sheet_short, refused_short, handed_short}
use Rattle.sheet.proofs.read.Goals as goal

pub returns-in_err-check_sheet_sizes-clause-reads : goal.returns-in_err-check_sheet_sizes-clause-reads
unfolding reading
returns-in_err-check_sheet_sizes-clause-reads c =
    let p = err_from_is_err_and c.from_residual.result c.from_residual.ensures.1 in
    rw (p.1, p.2) (sym (unless_err _ _ _ c.in_err-check_sheet_sizes.ensures))

pub returns-in_err-check_sheet_sizes-clause-short : goal.returns-in_err-check_sheet_sizes-clause-short
returns-in_err-check_sheet_sizes-clause-short c =
    handed_short _ _ c.from_residual.ensures.1 (refused_short _ c.in_err-check_sheet_sizes.ensures (sheet_short _ _ _))

pub read_sized-requires : goal.read_sized-requires
read_sized-requires c = all_clear _ _ _ _ (clear_none c.in_ok-check_sheet_sizes.ensures)

pub returns-clause-reads : goal.returns-clause-reads
unfolding reading
returns-clause-reads c = c.read_sized.ensures.reads ∙ sym (unless_ok _ _ c.in_ok-check_sheet_sizes.ensures)
