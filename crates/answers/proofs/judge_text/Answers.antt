use Rattle.std.proofs.Common.{◌≡◌, arith}
use Rattle.rules.specs.Tables.{lend}
use Rattle.rules.specs.Numbers.{no_fault, ◌or_else◌, judge_fault}
use Rattle.rules.specs.Calls.{judging}
use Rattle.rules.specs.Told.{refused}
use Rattle.answers.proofs.Plans.{plan_small, judge_refused, judge_valid}
use Rattle.answers.proofs.judge_text.Goals as goal
use Rattle.answers.proofs.judge_text.Goals.{In-Err, In-Ok}

-- the tests of a plan are those of judging
refusal : (c : In-Err) → refused c.in-Err.e ≡ judging c.args.n (lend c.args.widths.now c.args.guards.now) c.args.starts.now
unfolding judging judge_fault ◌or_else◌
refusal c = c.in-Err.ensures.number

valid : (c : In-Ok) → no_fault ≡ judging c.args.n (lend c.args.widths.now c.args.guards.now) c.args.starts.now
unfolding judging judge_fault ◌or_else◌
valid c = c.in-Ok.ensures.number

pub put_refused-requires : goal.put_refused-requires
put_refused-requires c = (c.requires.0, omega arith, rw c.number.ensures (plan_small _ _ _ _ (refusal (goal.at.put_refused-requires c).In-Err)), c.requires.1)

pub returns-in-Err-clause-wrote : goal.returns-in-Err-clause-wrote
returns-in-Err-clause-wrote c = rw (c.number.ensures, judge_refused _ _ _ _ (refusal (goal.at.returns-in-Err-clause-wrote c).In-Err)) at c.put_refused.ensures.wrote

pub returns-in-Ok-clause-wrote : goal.returns-in-Ok-clause-wrote
returns-in-Ok-clause-wrote c =
    rw (judge_valid _ _ c.args.labels.now _ _ _ _ (valid (goal.at.returns-in-Ok-clause-wrote c).In-Ok) c.in-Ok.ensures.plan _ c.highest_slot.ensures.0) at c.put_valid.ensures.wrote
