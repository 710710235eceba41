use Rattle.std.proofs.Common.{cond, List, ℕ}
use Rattle.plan_laws.specs.Passes.{Passing, sides_of}
use Rattle.sides.proofs.put_side.Given as goal

abbrev pub invariant-loop-k : goal.invariant-loop-k
invariant-loop-k l =
    (before : List ℕ) → Passing (sides_of l.mark) l.n before l.initial.order (cond l.high 1 0) 0 l.from → Passing (sides_of l.mark) l.n before l.order (cond l.high 1 0) l.k l.p
