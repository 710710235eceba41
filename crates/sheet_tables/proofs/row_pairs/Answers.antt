use Rattle.std.proofs.Common.{◌≡◌, ℕ, Bool, cond, ◌+◌, sym, ap, arith, tests}
use lib.Dec.{ltb}
use Rattle.rules.specs.Tables.{at, cell}
use Rattle.rules.specs.Writing.{is_pair}
use Rattle.sheet_laws.specs.Writes.{pair_test, pairs_before}
use Rattle.table_laws.specs.Scans.{sum_suc}
use Rattle.sheet_tables.proofs.row_pairs.Goals as goal

pub loop-j-init : goal.loop-j-init
loop-j-init c = (sym (pairs_before c.args.guards.now c.args.i (c.args.i + 1) (omega arith)), omega arith)

pub loop-j-preserved : goal.loop-j-preserved
loop-j-preserved c =
    let e = ap {B = ℕ} (λ (b : Bool). cond b 1 0) (pair_test c.args.guards.now c.args.i c.loop-j.j (omega arith)) in
    let s = sum_suc (λ j. cond (is_pair c.args.guards.now c.args.i j) 1 0) c.loop-j.j in
    let f : c.from-count.result ≡ cond (ltb (at c.args.guards.now (cell c.args.i c.loop-j.j)) 255) 1 0 = grind (arith, tests) in
    (omega (arith, f, c.loop-j.invariant.0, s, e), grind (arith, tests))
