use Rattle.std.proofs.Common.{◌≡◌, refl, ap, ◌∙◌, subst, sym, List, ℕ, length, not, eqb, Result, Ok, Err}
use Rattle.std.specs.Result.{result_and}
use Rattle.rules.specs.declared.Fault.{Fault}
use Rattle.rules.specs.declared.Refusal.{Refusal}
use Rattle.network.specs.Lent.{lent}
use Rattle.rules.specs.Tables.{Lent, lend}
use Rattle.rules.specs.Plan.{net_of}
use Rattle.rules.specs.Limits.{Starts}
use Rattle.rules.specs.Told.{told}
use Rattle.rules.specs.Numbers.{no_fault, ◌or_else◌, refuse_if, size_fault, lent_fault, clash_fault}
use Rattle.table_laws.specs.Faults.{or_clear, size_clear}
use Rattle.table_laws.specs.Chains.{lent_clear}
use Rattle.table_laws.specs.Limits.{starts_within}
use Rattle.table_laws.specs.Results.{clear_none, handed_on, err_stop, ok_on}
use Rattle.clashes.proofs.check_plan.Goals as goal
use Rattle.clashes.proofs.check_plan.Goals.{In_ok-net, In_ok-check_starts}

both_sizes : (starts : List ℕ) (others own both : Result Unit Refusal) → both ≡ result_and others own → told own ≡ refuse_if (not (eqb (length starts) 128)) 2 0
    → told both ≡ (told others or_else size_fault starts 128)
unfolding size_fault
both_sizes starts (Ok d) own both e h = ap told e ∙ ok_on _ refl h
both_sizes starts (Err r) own both e h = ap told e ∙ err_stop _ r refl

pub returns-in_err-net-clause-number : goal.returns-in_err-net-clause-number
returns-in_err-net-clause-number c =
    handed_on _ _ c.from_residual.ensures.1
    ∙ err_stop _ _ (c.in_err-net.ensures.number ∙ ap (lent_fault _ _) (both_sizes _ _ _ _ c.and-sizes.ensures c.check_size.ensures))

-- the network is tested, and the starts have their size
network_tested : (c : In_ok-net) → no_fault ≡ lent_fault c.args.n (lend c.args.widths.now c.args.guards.now) (told c.args.others or_else size_fault c.args.starts.now 128)
network_tested c =
    c.in_ok-net.ensures.number ∙ ap (lent_fault _ _) (both_sizes _ _ _ _ c.and-sizes.ensures c.check_size.ensures)

starts_sized : (c : In_ok-net) → length c.args.starts.now ≡ 128
starts_sized c = size_clear c.args.starts.now 128 (or_clear _ _ (lent_clear _ _ _ (clear_none (network_tested c))).1).1

pub check_starts-requires : goal.check_starts-requires
check_starts-requires c = ((lent_clear _ _ _ (clear_none (network_tested c))).0.few, starts_sized c)

pub returns-in_err-check_starts-clause-number : goal.returns-in_err-check_starts-clause-number
returns-in_err-check_starts-clause-number c =
    handed_on _ _ c.from_residual-in_err-check_starts.ensures.1
    ∙ ok_on _ (network_tested (goal.at.returns-in_err-check_starts-clause-number c).In_ok-net) (err_stop _ _ c.in_err-check_starts.ensures)

pub invariant_of-plan : goal.invariant_of-plan
invariant_of-plan c = record {
  legal = subst (λ k. Starts k c.args.starts.now) (sym c.in_ok-net.ensures.network.0)
      (starts_within c.args.n c.args.starts.now (starts_sized (goal.at.invariant_of-plan c).In_ok-net) (clear_none c.in_ok-check_starts.ensures));
}

-- what is tested of the plan is what is lent
lent_clash : (c : In_ok-check_starts) (f : Fault) → f ≡ clash_fault c.in_ok-net.net.n (net_of (lent c.in_ok-net.net)) c.args.starts.now
    → f ≡ clash_fault c.args.n (net_of (lend c.args.widths.now c.args.guards.now)) c.args.starts.now
lent_clash c f e =
    let p = c.in_ok-net.ensures.network in
    e ∙ ap (λ (k : ℕ). clash_fault k (net_of (lent c.in_ok-net.net)) c.args.starts.now) p.0 ∙ ap (λ (x : Lent). clash_fault c.args.n (net_of x) c.args.starts.now) p.1

pub returns-in_err-check_clashes-clause-number : goal.returns-in_err-check_clashes-clause-number
returns-in_err-check_clashes-clause-number c =
    let at = goal.at.returns-in_err-check_clashes-clause-number c in
    handed_on _ _ c.from_residual-in_err-check_clashes.ensures.1
    ∙ ok_on _ (network_tested at.In_ok-net) (ok_on _ c.in_ok-check_starts.ensures (lent_clash at.In_ok-check_starts _ c.in_err-check_clashes.ensures))

pub returns-clause-number : goal.returns-clause-number
returns-clause-number c =
    let at = goal.at.returns-clause-number c in
    ok_on _ (network_tested at.In_ok-net) (ok_on _ c.in_ok-check_starts.ensures (lent_clash at.In_ok-check_starts _ c.in_ok-check_clashes.ensures))
