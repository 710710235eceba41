use Prim.Native.Nat.{ℕ, ◌+◌}
use native.Mathlib.Omega.{arith}
use Rattle.rules.specs.Tables.{at, lend}
use Rattle.rules.specs.Plan.{net_of}
use Rattle.rules.specs.Asking.{link_text}
use Rattle.spelling.specs.Joins.{joins_none, joins_more}
use Rattle.reason_lines.proofs.put_links.Goals as goal

pub loop-i-init : goal.loop-i-init
loop-i-init g c =
    let line = λ (m : ℕ). link_text c.args.labels.now (net_of (lend c.args.widths.now c.args.guards.now)) (at c.args.starts.now) (at c.args.chain.now m) (at c.args.chain.now (m + 1)) in
    record { wrote = joins_none g.met.S.Sink.laws line c.args.sink.now; upper_bound = omega arith }

pub put_link-requires : goal.put_link-requires
put_link-requires g c =
    let paths = c.requires.0.paths in
    rw (c.from-k.ensures, c.from-j.ensures) (paths (c.loop-i.i + 1) (omega arith), (paths c.loop-i.i (omega arith)).path, c.requires.0.guards_size, omega arith)

pub loop-i-preserved : goal.loop-i-preserved
loop-i-preserved g c =
    let line = λ (m : ℕ). link_text c.args.labels.now (net_of (lend c.args.widths.now c.args.guards.now)) (at c.args.starts.now) (at c.args.chain.now m) (at c.args.chain.now (m + 1)) in
    let link = rw (c.from-k.ensures, c.from-j.ensures) at c.put_link.ensures.wrote in
    record { wrote = joins_more g.met.S.Sink.laws line c.loop-i.i c.loop-i.invariant.wrote link; upper_bound = omega (arith, c.put_link.ensures.upper_bound) }
