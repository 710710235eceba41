use Rattle.std.proofs.Common.{ℕ, refl, ap, ◌∙◌, arith, [], rules}
use Rattle.rules.specs.Tables.{lend}
use Rattle.rules.specs.Program.{refusal_text, planned_text}
use Rattle.table_laws.specs.Results.{number_some}
use Rattle.sheet_laws.specs.Reads.{short_refusal, few_paths, on_refusal, on_tables}
use Rattle.console.proofs.Keeping.{front}
use Rattle.console.proofs.Refusal.{number_few}
use Rattle.printing.specs.Made.{note_of}
use Rattle.printing.proofs.Front.{made_printed, made_noted}
use Rattle.printing.proofs.answer.Goals as goal

pub planned-requires : goal.planned-requires
planned-requires c =
    (few_paths _ c.args.labels.now (lend c.args.widths.now c.args.guards.now) c.args.starts.now c.requires.0 c.requires.1 c.requires.2 c.requires.3 _ _ _ _ c.in-Ok.ensures.reads, search rules, c.requires.4, c.requires.5)

pub refuse-requires : goal.refuse-requires
refuse-requires c =
    let k = short_refusal _ c.args.labels.now (lend c.args.widths.now c.args.guards.now) c.args.starts.now c.requires.0 c.requires.1 c.requires.2 c.requires.3 _ _ _ _ c.in-Err.ensures.reads in
    let few = number_few c.in-Err.refusal.cause in
    (omega (arith, few, k.1, c.number.ensures), omega (arith, few, k.1, c.number.ensures), omega (arith, c.requires.4))

pub returns-in-Ok-clause-prints : goal.returns-in-Ok-clause-prints
returns-in-Ok-clause-prints c =
    made_printed c.args.input.now c.planned.new.out c.planned.result.out (omega (arith, c.planned.ensures.out_after.1, c.planned.auto, c.requires.4))
    (c.planned.ensures.out_after.0 ∙ on_tables _ c.args.labels.now (lend c.args.widths.now c.args.guards.now) c.args.starts.now c.requires.0 c.requires.1 c.requires.2 c.requires.3 _ _ _ _ c.in-Ok.ensures.reads refusal_text planned_text refl)

pub returns-in-Ok-clause-notes : goal.returns-in-Ok-clause-notes
returns-in-Ok-clause-notes c =
    made_noted c.args.input.now c.planned.new.line c.planned.result.line (omega (arith, c.planned.ensures.line_after.1, c.planned.auto, c.requires.5))
    (c.planned.ensures.line_after.0 ∙ on_tables _ c.args.labels.now (lend c.args.widths.now c.args.guards.now) c.args.starts.now c.requires.0 c.requires.1 c.requires.2 c.requires.3 _ _ _ _ c.in-Ok.ensures.reads (λ number line. []) note_of refl)

pub returns-in-Err-clause-prints : goal.returns-in-Err-clause-prints
returns-in-Err-clause-prints c =
    made_printed c.args.input.now c.refuse.new.out c.refuse.result (omega (arith, c.refuse.ensures.upper_bound, c.refuse.auto, c.requires.4))
    (front c.args.out.now c.refuse.new.out (refusal_text c.number.result c.in-Err.refusal.place) c.refuse.result c.refuse.ensures.wrote (omega (arith, c.refuse.ensures.wrote.0, c.refuse.ensures.upper_bound, c.requires.4))
    ∙ ap (λ (k : ℕ). refusal_text k c.in-Err.refusal.place) c.number.ensures
    ∙ on_refusal _ c.args.labels.now (lend c.args.widths.now c.args.guards.now) c.args.starts.now c.requires.0 c.requires.1 c.requires.2 c.requires.3 _ _ _ _ c.in-Err.ensures.reads refusal_text planned_text (number_some c.in-Err.refusal.cause))

pub returns-in-Err-clause-notes : goal.returns-in-Err-clause-notes
returns-in-Err-clause-notes c =
    made_noted c.args.input.now c.args.line.now 0 (omega arith)
    (on_refusal _ c.args.labels.now (lend c.args.widths.now c.args.guards.now) c.args.starts.now c.requires.0 c.requires.1 c.requires.2 c.requires.3 _ _ _ _ c.in-Err.ensures.reads (λ number line. []) note_of (number_some c.in-Err.refusal.cause))
