use Rattle.std.proofs.Common.{sym, ◌∙◌}
use Rattle.table_laws.specs.Results.{scan_search, scan_found}
use Rattle.tables.proofs.refuse_at.Goals as goal

pub returns-in-Some : goal.returns-in-Some
returns-in-Some c = λ bad n h. c.at.ensures ∙ sym (scan_found _ bad n c.in-Some.k (rw c.in-Some.is at h))

pub returns-in-None : goal.returns-in-None
returns-in-None c = λ bad n h. sym (scan_search _ bad n (rw c.in-None.is at h))
