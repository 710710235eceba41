use mathlib.Core.Path.{refl}
use Rattle.rules.specs.Calls.{done_planned}
use Rattle.planning.proofs.packed_plan.Goals as goal

pub returns : goal.returns
unfolding done_planned
returns c = rw (c.pack_into-highest.ensures.value, c.pack_into-highest.ensures.starts_after) refl
