use Rattle.std.proofs.Common.{refl, arith, rules}
use Rattle.rules.specs.Tables.{lend}
use Rattle.rules.specs.Program.{refusal_text}
use Rattle.table_laws.specs.Results.{number_some}
use Rattle.sheet_laws.specs.Reads.{short_refusal, few_paths, on_refusal, on_tables}
use Rattle.console.proofs.Refusal.{number_few}
use Rattle.questions.specs.Asks.{topic_text}
use Rattle.asking.proofs.Making.{retold}
use Rattle.asking.proofs.sheet_answer.Goals as goal

pub refuse-requires : goal.refuse-requires
refuse-requires c =
    let s = c.requires.0 in
    let k = short_refusal _ c.args.labels.now (lend c.args.widths.now c.args.guards.now) c.args.starts.now s.labels_size_lem s.widths_size_lem s.guards_size_lem s.starts_size_lem _ _ _ _ c.in-Err.ensures.reads in
    (rw c.number.ensures (number_few c.in-Err.refusal.cause), k.1, omega (arith, c.requires.2))

pub topic_text-requires : goal.topic_text-requires
topic_text-requires c =
    let s = c.requires.0 in
    (few_paths _ c.args.labels.now (lend c.args.widths.now c.args.guards.now) c.args.starts.now s.labels_size_lem s.widths_size_lem s.guards_size_lem s.starts_size_lem _ _ _ _ c.in-Ok.ensures.reads, search rules, c.requires.1, c.requires.2)

pub returns-in-Ok-clause-wrote : goal.returns-in-Ok-clause-wrote
returns-in-Ok-clause-wrote c =
    let s = c.requires.0 in
    retold _ _ _ _ _ (on_tables _ c.args.labels.now (lend c.args.widths.now c.args.guards.now) c.args.starts.now s.labels_size_lem s.widths_size_lem s.guards_size_lem s.starts_size_lem _ _ _ _ c.in-Ok.ensures.reads refusal_text (topic_text c.args.second.now c.args.topic) refl) c.topic_text.ensures.wrote

pub returns-in-Err-clause-wrote : goal.returns-in-Err-clause-wrote
returns-in-Err-clause-wrote c =
    let s = c.requires.0 in
    retold _ _ _ _ _ (on_refusal _ c.args.labels.now (lend c.args.widths.now c.args.guards.now) c.args.starts.now s.labels_size_lem s.widths_size_lem s.guards_size_lem s.starts_size_lem _ _ _ _ c.in-Err.ensures.reads refusal_text (topic_text c.args.second.now c.args.topic) (number_some c.in-Err.refusal.cause)) (rw c.number.ensures at c.refuse.ensures.wrote)
