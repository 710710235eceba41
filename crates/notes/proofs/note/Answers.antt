use Rattle.std.proofs.Common.{rules}
use Rattle.rules.specs.Tables.{lend}
use Rattle.table_laws.specs.Tables.{blank}
use Rattle.notes.proofs.Notes.{sides_told}
use Rattle.notes.proofs.note.Goals as goal

pub returns-clause-wrote : goal.returns-clause-wrote
returns-clause-wrote c =
    let sides = sides_told c.args.n (lend c.args.widths.now c.args.guards.now) _ c.two_sides-sides.new.order c.two_sides-sides.result (blank 128 0) c.two_sides-sides.ensures.leaves in
    let put = rw (c.is_ok.ensures.value, c.pair_count-conflicts.ensures.0, sides) at c.put_note.ensures.wrote in
    search rules
