-- A turn of a loop over the lines of a section. Assumes nothing.
use Rattle.sheet_laws.specs.Lines.{lines_step, lines_halt, lines_end, guard_any}

pub ruleset turns = (lines_step, lines_halt, lines_end, guard_any)
