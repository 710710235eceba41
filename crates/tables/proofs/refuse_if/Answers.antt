use Rattle.std.proofs.Common.{sym, ◌∙◌}
use Rattle.table_laws.specs.Faults.{refuse_bad, refuse_not}
use Rattle.tables.proofs.refuse_if.Goals as goal

pub returns-then-bad : goal.returns-then-bad
returns-then-bad c = c.whole.ensures ∙ sym (refuse_bad _ _ 0 c.if-bad.true)

pub returns : goal.returns
returns c = sym (refuse_not _ _ 0 c.if-bad.false)
