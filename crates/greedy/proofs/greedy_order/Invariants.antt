use Prim.Native.Nat.{ℕ}
use mathlib.Core.Path.{◌≡◌}
use mathlib.Core.List.{List}
use lib.ListN.{length}
use Rattle.network.specs.Lent.{lent}
use Rattle.plan_laws.specs.Growing.{Growing}
use Rattle.greedy.proofs.greedy_order.Given as goal

abbrev pub invariant-loop-m : goal.invariant-loop-m
invariant-loop-m l =
    (length l.need ≡ 128) × ((table : List ℕ) → length table ≡ 128 → Growing l.net.n (lent l.net) l.initial.order table l.order l.need l.m)
