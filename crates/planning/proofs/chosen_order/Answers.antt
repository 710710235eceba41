use Rattle.std.proofs.Common.{refl}
use Rattle.network.specs.Lent.{lent}
use Rattle.planning.proofs.Outcomes.{chosen_sided, greedy_ready, chosen_greedy}
use Rattle.planning.proofs.chosen_order.Goals as goal

pub returns-in-Some-clause-chosen : goal.returns-in-Some-clause-chosen
returns-in-Some-clause-chosen c =
    chosen_sided _ (lent c.args.net.now) _ _ c.requires.network c.requires.order_size c.requires.starts_size _ _ _ _ (c.in-Some.ensures (lent c.args.net.now) refl)

pub improve_order-requires : goal.improve_order-requires
improve_order-requires c =
    (greedy_ready _ (lent c.args.net.now) _ _ c.requires.network c.requires.order_size c.requires.starts_size _ (c.in-None.ensures (lent c.args.net.now) refl) _ (c.greedy_order.ensures c.args.starts.now c.requires.starts_size), c.requires.few)

pub returns-in-None-clause-chosen : goal.returns-in-None-clause-chosen
returns-in-None-clause-chosen c =
    chosen_greedy _ (lent c.args.net.now) _ _ c.requires.network c.requires.order_size c.requires.starts_size _ (c.in-None.ensures (lent c.args.net.now) refl) _ (c.greedy_order.ensures c.args.starts.now c.requires.starts_size) _ _ _ _
    (c.improve_order.ensures.by_index c.args.starts.now c.requires.starts_size)
