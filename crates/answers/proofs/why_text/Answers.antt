use Rattle.std.proofs.Common.{sym}
use lib.Seq.{length-take-le}
use Rattle.answers.proofs.Reasons.{refused_reason, refused_small, done_reason, chain_within, chain_told, down_small}
use Rattle.answers.proofs.why_text.Goals as goal

pub slice_bounds-chain-end : goal.slice_bounds-chain-end
slice_bounds-chain-end c = chain_within _ _ _ _ _ _ _ c.in-Ok.ensures

pub slice_bounds-put_reason-end : goal.slice_bounds-put_reason-end
slice_bounds-put_reason-end c = sym (length-take-le _ _ (chain_within _ _ _ _ _ _ _ c.in-Ok.ensures))

pub put_reason-requires : goal.put_reason-requires
put_reason-requires c = (chain_told _ _ _ _ _ _ _ c.in-Ok.ensures _ c.requires.1.labels_size_lem c.requires.0, down_small _ _ _ _ _ _ _ c.in-Ok.ensures, c.requires.3)

pub put_refused-requires : goal.put_refused-requires
put_refused-requires c = (c.requires.1.labels_size_lem, c.requires.2, rw c.number.ensures (refused_small _ _ _ _ _ _ c.in-Err.ensures), c.requires.3)

pub returns-in-Ok-clause-wrote : goal.returns-in-Ok-clause-wrote
returns-in-Ok-clause-wrote c = rw (done_reason _ _ _ _ _ _ _ c.in-Ok.ensures _ _ c.path_called-path.ensures) at c.put_reason.ensures.wrote

pub returns-in-Err-clause-wrote : goal.returns-in-Err-clause-wrote
returns-in-Err-clause-wrote c = rw (c.number.ensures, refused_reason _ _ _ _ _ _ c.in-Err.ensures _ _ c.path_called-path.ensures) at c.put_refused.ensures.wrote
