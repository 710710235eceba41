use native.Mathlib.Omega.{arith}
use lib.ListN.{length, length-take}
use Prim.Native.Nat.{◌-◌}
use Rattle.console.proofs.Keeping.{kept}
use Rattle.console.proofs.keep.Goals as goal

pub returns : goal.returns
returns c =
    let text = c.args.text.now in
    let came = c.args.came.now in
    rw c.copy_from_slice.ensures.after (kept text came c.args.have c.min-count.result c.requires (omega (arith, length-take (length text - c.args.have) came)))
