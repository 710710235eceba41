use Rattle.std.proofs.Common.{sym, ◌∙◌}
use Rattle.sheet_tables.proofs.Plans.{plan_tested, plan_untested}
use Rattle.sheet_tables.proofs.check_plan.Goals as goal

pub returns-then-has_plan : goal.returns-then-has_plan
returns-then-has_plan c = plan_tested c.args.n c.args.starts.now _ (sym c.has_plan.ensures ∙ c.if-has_plan.true) c.check_starts.ensures

pub returns : goal.returns
returns c = plan_untested c.args.n c.args.starts.now (sym c.has_plan.ensures ∙ c.if-has_plan.false)
