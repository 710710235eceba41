use Rattle.std.proofs.Common.{◌≡◌, ◌++◌, length, drop, ◌∙◌, arith}
use Rattle.network.specs.Lent.{lent}
use Rattle.rules.specs.Tables.{at}
use Rattle.rules.specs.Plan.{net_of}
use Rattle.rules.specs.Reason.{chain}
use Rattle.reason.proofs.Told.{some_paths, last_path, chain_told}
use Rattle.reason.proofs.explain.Goals as goal
use Rattle.reason.proofs.explain.Goals.{After-write_chain-length}

-- how many paths are written, and what then stands in the table
length_is : (c : After-write_chain-length) → let p = c.args.plan.now in c.write_chain-length.result ≡ length (chain (net_of (lent p.net)) (at p.starts.now) p.net.n c.args.path)
length_is c = rw c.of-files.ensures at c.write_chain-length.ensures.value

table_is : (c : After-write_chain-length) → let p = c.args.plan.now in let ch = chain (net_of (lent p.net)) (at p.starts.now) p.net.n c.args.path in c.write_chain-length.new.table ≡ ch ++ drop (length ch) c.args.chain.now
table_is c = rw c.of-files.ensures at c.write_chain-length.ensures.table_after

pub overflow_sub-length : goal.overflow_sub-length
overflow_sub-length c =
    let w = (goal.at.overflow_sub-length c).After-write_chain-length in
    some_paths _ _ _ _ _ c.requires.0 _ _ (length_is w) (table_is w)

pub down_of-requires : goal.down_of-requires
down_of-requires c =
    let w = (goal.at.down_of-requires c).After-write_chain-length in
    rw c.of-files.ensures (omega (arith, last_path _ _ _ _ _ c.requires.0 _ _ (length_is w) (table_is w)))

pub returns : goal.returns
returns c =
    let w = (goal.at.returns c).After-write_chain-length in
    chain_told _ _ _ _ _ c.requires.0 _ _ (length_is w) (table_is w) _ (c.from-down.ensures ∙ rw (c.of-files.ensures, c.from-last.ensures) at c.down_of.ensures)
