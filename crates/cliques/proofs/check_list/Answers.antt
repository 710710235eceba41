use Rattle.std.proofs.Common.{◌≡◌, refl, sym, ap, ◌∙◌, arith, tests}
use borrow.Author.Count.{below_more}
use Rattle.network.specs.Lent.{lent}
use Rattle.rules.specs.Numbers.{no_fault, refuse_if, outside, list_fault}
use Rattle.table_laws.specs.Faults.{scan_none, scan_at}
use Rattle.table_laws.specs.Results.{handed_on, err_stop, ok_on}
use Rattle.std.proofs.Common.{length}
use Rattle.cliques.proofs.check_list.Goals as goal
use Rattle.cliques.proofs.check_list.Goals.{In_ok-refuse_if}

-- the list is not too short or long
sized : (c : In_ok-refuse_if) → no_fault ≡ refuse_if (outside 1 8 (length c.args.list.now)) 15 0
sized c = c.in_ok-refuse_if.ensures ∙ ap (λ x. refuse_if x 15 0) (grind (arith, tests))

pub returns-in_err-refuse_if : goal.returns-in_err-refuse_if
unfolding list_fault
returns-in_err-refuse_if c = λ l q. handed_on _ _ c.from_residual.ensures.1 ∙ err_stop _ _ (c.in_err-refuse_if.ensures ∙ ap (λ x. refuse_if x 15 0) (grind (arith, tests)))

pub loop-k-preserved : goal.loop-k-preserved
loop-k-preserved c = below_more _ c.loop-k.k c.loop-k.invariant (sym (c.is_bad.ensures (lent c.args.net.now) refl) ∙ c.if-is_bad.false)

pub returns-then-is_bad : goal.returns-then-is_bad
unfolding list_fault
returns-then-is_bad c =
    λ l q. rw q (ok_on _ (sized (goal.at.returns-then-is_bad c).In_ok-refuse_if) (c.at.ensures ∙ sym (scan_at 15 _ _ c.loop-k.k c.loop-k.invariant (sym (c.is_bad.ensures (lent c.args.net.now) refl) ∙ c.if-is_bad.true) c.loop-k-test.true)))

pub returns : goal.returns
unfolding list_fault
returns c = λ l q. rw q (ok_on _ (sized (goal.at.returns c).In_ok-refuse_if) (sym (scan_none 15 _ _ (λ k h. c.loop-k.invariant k (omega arith)))))
