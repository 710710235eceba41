use Rattle.std.proofs.Common.{arith}
use Rattle.labels.proofs.Rows.{chunk_at}
use Rattle.labels.proofs.row.Goals as goal

pub returns : goal.returns
returns c = rw c.as_chunks.ensures.front (chunk_at 8 _ c.args.k c.args.labels.now (omega arith))
