use Rattle.std.proofs.Common.{◌≡◌, refl, ap, ◌∙◌, arith}
use Rattle.std.specs.Prelude.{ℕ, Result, Ok, Err, eqb}
use Rattle.std.specs.Result.{result_unwrap_or}
use Rattle.rules.specs.declared.Arranged.{Arranged}
use Rattle.rules.specs.declared.Refusal.{Refusal}
use Rattle.rules.specs.Tables.{cleared, lend}
use Rattle.rules.specs.Writing.{pairs}
use Rattle.rules.specs.Calls.{siding}
use Rattle.rules.specs.Told.{planned_of, written_of}
use Rattle.notes.specs.Note.{note_text}
use Rattle.console.proofs.Keeping.{front}
use Rattle.table_laws.specs.Tables.{blank}
use Rattle.printing.proofs.Prints.{prints_sheet, prints_within}
use Rattle.printing.proofs.Notes.{note_of_lem}
use Rattle.printing.proofs.planned.Goals as goal

-- what is done, 0 where the call is refused, is what C is told
written_done : (r : Result ℕ Refusal) → result_unwrap_or r 0 ≡ (written_of r).length
written_done (Ok d) = refl
written_done (Err e) = refl

planned_done : (r : Result Arranged Refusal) → result_unwrap_or r (record { highest = 0; kept = 0 }) ≡ record { highest = (planned_of r).highest; kept = (planned_of r).kept }
planned_done (Ok d) = refl
planned_done (Err e) = refl

pub returns-clause-out_after : goal.returns-clause-out_after
returns-clause-out_after c =
    rw (c.unwrap_or-out.ensures, written_done c.write.result) (
      prints_sheet c.args.n c.args.labels.now (lend c.args.widths.now c.args.guards.now) c.args.starts.now _ c.plan-done.new.order c.plan-done.new.starts c.args.out.now c.write.new.text (planned_of c.plan-done.result) (written_of c.write.result) (blank 128 0) c.requires.2 c.plan-done.ensures.leaves c.write.ensures.writes,
      prints_within c.args.n c.args.labels.now (lend c.args.widths.now c.args.guards.now) c.plan-done.new.starts c.args.out.now c.write.new.text (written_of c.write.result) c.requires.2 c.write.ensures.writes,
    )

pub returns-clause-line_after : goal.returns-clause-line_after
returns-clause-line_after c =
    let lent = lend c.args.widths.now c.args.guards.now in
    let z = note_of_lem c.args.n c.args.labels.now lent c.args.starts.now _ c.plan-done.new.order c.plan-done.new.starts (planned_of c.plan-done.result) (blank 128 0) c.plan-done.ensures.leaves in
    let n : ◌≡◌ {A = Arranged} c.unwrap_or-plan.result _ = c.unwrap_or-plan.ensures ∙ planned_done c.plan-done.result in (
      front c.args.line.now c.note-line.new.line _ c.note-line.result c.note-line.ensures.wrote (omega (arith, c.note-line.ensures.wrote.0, c.note-line.ensures.upper_bound))
          ∙ ap (λ (p : Arranged). note_text c.args.n (pairs c.args.n lent.guards) p.highest (eqb (siding c.args.n lent (cleared 128 0)).answer.number 0) p.kept) n ∙ z,
      c.note-line.ensures.upper_bound,
    )
