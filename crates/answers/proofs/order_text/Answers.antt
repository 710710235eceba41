use Rattle.std.proofs.Common.{◌≡◌, List, ℕ, sym, arith, replicate}
use lib.Seq.{length-take-le}
use Rattle.rules.specs.declared.SheetWritten.{SheetWritten}
use Rattle.rules.specs.Tables.{lend}
use Rattle.rules.specs.Calls.{Left, left, order_writing}
use Rattle.rules.specs.Told.{written_of}
use Rattle.sheet_laws.specs.Grid.{lowered}
use Rattle.grid.proofs.Anchors.{lowered_on}
use Rattle.answers.proofs.Plans.{plan_small, order_refused, order_done, order_within}
use Rattle.answers.proofs.order_text.Goals as goal
use Rattle.answers.proofs.order_text.Goals.{After-order_write-written}

-- the call of the writing, by the anchor as it is counted
wrote : (c : After-order_write-written) → ◌≡◌ {A = Left SheetWritten (List ℕ)} (left (written_of c.order_write-written.result) c.order_write-written.new.text)
    (order_writing (lowered c.args.anchor) c.args.n c.args.labels.now (lend c.args.widths.now c.args.guards.now) c.args.starts.now (replicate 2314 0))
wrote c = rw (lowered_on c.args.anchor c.requires.0 c.uncounted.result c.uncounted.ensures) at c.order_write-written.ensures.writes

pub put_refused-requires : goal.put_refused-requires
put_refused-requires c = (c.requires.1, omega arith, rw c.number.ensures (plan_small _ _ _ _ c.in-Err.ensures), c.requires.2)

pub returns-in-Err-clause-wrote : goal.returns-in-Err-clause-wrote
returns-in-Err-clause-wrote c = rw (c.number.ensures, order_refused _ _ _ _ c.in-Err.ensures _ (lowered c.args.anchor)) at c.put_refused.ensures.wrote

pub slice_bounds-sheet-end : goal.slice_bounds-sheet-end
slice_bounds-sheet-end c = rw c.unwrap_or.ensures (order_within _ _ _ _ _ _ _ (wrote (goal.at.slice_bounds-sheet-end c).After-order_write-written))

pub slice_bounds-put_text-end : goal.slice_bounds-put_text-end
slice_bounds-put_text-end c =
    sym (length-take-le _ _ (rw c.unwrap_or.ensures (order_within _ _ _ _ _ _ _ (wrote (goal.at.slice_bounds-put_text-end c).After-order_write-written))))

pub returns-in-Ok-clause-wrote : goal.returns-in-Ok-clause-wrote
returns-in-Ok-clause-wrote c =
    rw (c.unwrap_or.ensures, order_done _ _ _ _ _ _ _ (wrote (goal.at.returns-in-Ok-clause-wrote c).After-order_write-written) c.in-Ok.ensures) at c.put_text.ensures
