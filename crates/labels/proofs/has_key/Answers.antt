use Rattle.std.proofs.Common.{arith}
use Rattle.labels.proofs.Rows.{same_key}
use Rattle.labels.proofs.has_key.Goals as goal

pub returns : goal.returns
returns c = λ w b e. rw (c.from_le_bytes.ensures, c.row.ensures, e) (same_key c.args.labels.now w c.args.k (λ j. omega (arith, c.type_inv.labels j)) b (omega arith))
