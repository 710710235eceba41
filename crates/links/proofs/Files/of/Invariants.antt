use Rattle.links.specs.Files.{file_of, Filed}
use Rattle.links.proofs.Files.of.Given as goal

abbrev pub invariant-loop-j : goal.invariant-loop-j
invariant-loop-j l = Filed (file_of l.plan.net.widths.now l.plan.starts.now) l.plan.net.n l.j l.room.heads l.room.owns l.room.ups
