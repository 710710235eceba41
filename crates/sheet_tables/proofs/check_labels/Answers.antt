use Rattle.std.proofs.Common.{◌∙◌, rules, tests}
use Rattle.rules.specs.Writing.{bad_label, label_twice}
use Rattle.table_laws.specs.Firsts.{FirstIs}
use Rattle.table_laws.specs.Searches.{find_first}
use Rattle.table_laws.specs.Results.{handed_on, err_stop, ok_on}
use Rattle.sheet_tables.proofs.check_labels.Goals as goal
use Rattle.sheet_tables.proofs.check_labels.Goals.{After-find-bad, After-find-twice}

-- what the two searches answer
first_bad : (c : After-find-bad) → FirstIs (bad_label c.args.labels.now) c.args.n c.find-bad.result
first_bad c = find_first _ _ _ _ (bad_label c.args.labels.now) c.find-bad.ensures.ran (λ x b q h. (search (rules, tests), search (rules, tests)))

first_twice : (c : After-find-twice) → FirstIs (label_twice c.args.labels.now) c.args.n c.find-twice.result
first_twice c = find_first _ _ _ _ (label_twice c.args.labels.now) c.find-twice.ensures.ran (λ x b q h. (search (rules, tests), search (rules, tests)))

pub returns-in_err-refuse_at : goal.returns-in_err-refuse_at
returns-in_err-refuse_at c =
    let f = first_bad (goal.at.returns-in_err-refuse_at c).After-find-bad in
    handed_on _ _ c.from_residual.ensures.1 ∙ err_stop _ _ (c.in_err-refuse_at.ensures _ _ f)

pub returns : goal.returns
returns c =
    let f = first_bad (goal.at.returns c).After-find-bad in
    let g = first_twice (goal.at.returns c).After-find-twice in
    ok_on _ (c.in_ok-refuse_at.ensures _ _ f) (c.refuse_at-2.ensures _ _ g)
