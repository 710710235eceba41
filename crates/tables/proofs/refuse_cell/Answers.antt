use Rattle.std.proofs.Common.{sym, ◌∙◌}
use Rattle.rules.specs.Numbers.{nowhere_short}
use Rattle.table_laws.specs.Results.{square_search, square_found}
use Rattle.tables.proofs.refuse_cell.Goals as goal

pub returns-in-Some : goal.returns-in-Some
returns-in-Some c = λ bad n h. c.at.ensures ∙ square_found _ bad nowhere_short n c.in-Some.i c.in-Some.j (rw c.in-Some.is at h)

pub returns-in-None : goal.returns-in-None
returns-in-None c = λ bad n h. sym (square_search _ bad nowhere_short n (rw c.in-None.is at h))
