use Rattle.std.proofs.Common.{◌<◌, length, arith}
use Rattle.rounds.proofs.Kept.{swap_packable, round_kept, round_undone}
use Rattle.rounds.proofs.one_round.Goals as goal
use Rattle.rounds.proofs.one_round.Goals.{After-place_of-b}

-- the places that are drawn are places of the order
places : (c : After-place_of-b) → (c.place_of-a.result < length c.args.order.now) × (c.place_of-b.result < length c.args.order.now)
places c = omega (arith, c.place_of-a.ensures.below, c.place_of-b.ensures.below, c.requires.0.order_size, c.requires.0.network.few)

pub height_of-h-requires : goal.height_of-h-requires
height_of-h-requires c =
    swap_packable _ _ _ _ _ _ _ c.requires.0 c.place_of-a.ensures.below c.place_of-b.ensures.below c.swap.ensures

pub returns-then-h-run-clause-by_index : goal.returns-then-h-run-clause-by_index
returns-then-h-run-clause-by_index c = λ table l.
    round_kept _ _ c.args.run.now c.args.order.now _ _ _ _ _ _ c.next_state-x.ensures c.next_state-y.ensures c.place_of-a.ensures.drawn c.place_of-b.ensures.drawn c.swap.ensures (c.height_of-h.ensures.by_index table l) c.if-h-run.true

pub returns-else-h-run-clause-by_index : goal.returns-else-h-run-clause-by_index
returns-else-h-run-clause-by_index c = λ table l.
    let p = places (goal.at.returns-else-h-run-clause-by_index c).After-place_of-b in
    round_undone _ _ c.args.run.now c.args.order.now _ _ _ _ _ _ c.next_state-x.ensures c.next_state-y.ensures c.place_of-a.ensures.drawn c.place_of-b.ensures.drawn c.swap.ensures (c.height_of-h.ensures.by_index table l)
    _ p.0 p.1 c.swap-else-h-run.ensures c.if-h-run.false
