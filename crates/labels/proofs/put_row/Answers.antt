use Rattle.std.proofs.Common.{◌≡◌, ◌∙◌, ◌*◌, ◌+◌, ◌-◌, arith}
use Rattle.rules.specs.Sheet.{bytes_from, put_row}
use Rattle.sheet_laws.specs.Rows.{bytes_length}
use Rattle.labels.proofs.Rows.{put_in}
use Rattle.labels.proofs.put_row.Goals as goal

pub returns : goal.returns
unfolding put_row
returns c =
    let e : c.copy_from_slice.new.self ≡ bytes_from 8 0 c.args.name.now = c.copy_from_slice.ensures.after ∙ c.filled.ensures in
    let n : 8 ≡ 8 * c.args.k + 8 - 8 * c.args.k = omega arith in
    rw e (put_in c.args.labels.now (bytes_from 8 0 c.args.name.now) (8 * c.args.k) _ (bytes_length 8 0 c.args.name.now ∙ n) (omega arith))
