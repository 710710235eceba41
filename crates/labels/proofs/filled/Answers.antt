use Rattle.std.proofs.Common.{◌≡◌, take}
use Rattle.labels.proofs.Rows.{filled_is}
use Rattle.labels.proofs.filled.Goals as goal

pub returns : goal.returns
returns c =
    let e : c.copy_from_slice.new.self ≡ take c.min-m.result c.args.name.now = c.copy_from_slice.ensures.after in
    rw e (filled_is c.args.name.now c.min-m.result c.min-m.ensures)
