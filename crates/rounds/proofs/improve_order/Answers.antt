use Rattle.std.proofs.Common.{◌∙◌, arith}
use Rattle.network.specs.Lent.{lent}
use Rattle.table_laws.specs.Updates.{kept_none, kept_then}
use Rattle.rounds.proofs.Kept.{improving_first, improving_more, improving_packable}
use Rattle.rounds.proofs.improve_order.Goals as goal

pub loop-init : goal.loop-init
loop-init c =
    (improving_first _ (lent c.args.net.now) _ _ _ c.height_of-highest.ensures.by_index, kept_none _ _)

-- the order so far, and the table as it stands, can be packed
pub one_round-requires : goal.one_round-requires
one_round-requires c =
    let size = c.loop.invariant.1.size ∙ c.height_of-highest.ensures.kept_from.size ∙ c.requires.0.starts_size in
    (improving_packable _ (lent c.args.net.now) _ _ _ c.requires.0 _ _ _ c.loop.invariant.0 _ size, omega (arith, c.loop.invariant.0.few, c.requires.1))

pub loop-preserved : goal.loop-preserved
loop-preserved c = (
  improving_more _ (lent c.args.net.now) _ _ _ _ _ _ _ c.loop.invariant.0 c.one_round.ensures.by_index,
  kept_then _ _ _ _ c.loop.invariant.1 c.one_round.ensures.kept_from,
)
