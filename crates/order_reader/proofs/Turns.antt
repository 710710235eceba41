-- A turn of the loop over the lines. Assumes nothing.
use Rattle.sheet_laws.specs.Lines.{lines_step, lines_halt, lines_end}

pub ruleset turns = (lines_step, lines_halt, lines_end)
