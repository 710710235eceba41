-- What is told of a reason, by what the call for it leaves: the chain stands at the front of its table. Assumes nothing.
use Prim.Native.Nat.{ℕ, ◌-◌, ◌≤◌, ◌<◌}
use Rattle.std.specs.Prelude.{◌≡◌, Bool, true, false, cond, eqb, List, ◌++◌, length, take, drop, Ok, Err}
use Rattle.std.proofs.Common.{sym, ap, subst, ◌∙◌, arith, replicate, length-append, ne_eqb}
use lib.Seq.{take-append_seam}
use Rattle.rules.specs.declared.Fault.{Fault}
use Rattle.rules.specs.declared.Refusal.{Refusal}
use Rattle.rules.specs.declared.Explained.{Explained}
use Rattle.rules.specs.declared.Why.{Why}
use Rattle.rules.specs.Tables.{at, cleared, Lent, lend}
use Rattle.rules.specs.Plan.{Net, net_of}
use Rattle.rules.specs.Reason.{chain, bottom, down, last, Chain}
use Rattle.rules.specs.Sheet.{find}
use Rattle.rules.specs.Numbers.{why_fault}
use Rattle.rules.specs.Calls.{Left, left, unless, refused_why, done_why, explaining}
use Rattle.rules.specs.Told.{number_of, refused, why_of}
use Rattle.rules.specs.Asking.{reason_text, refused_text, why_text}
use Rattle.table_laws.specs.Results.{number_some}
use Rattle.plan_laws.specs.Answers.{Explainable, explaining_explainable, explainable_explaining}
use Rattle.plan_laws.specs.Reason.{chain_is, chain_few, chain_inside}
use Rattle.reason_lines.specs.Told.{Chained}
use Rattle.answers.proofs.Small.{Small, why_small}

-- it is refused
module _ (n : ℕ) (lent : Lent) (starts table : List ℕ) (path : ℕ) (r : Refusal)
    (e : ◌≡◌ {A = Left Why (List ℕ)} (left (why_of (Err r)) table) (explaining n lent starts path (replicate 128 0))) where
  fault_is : refused r ≡ why_fault n lent starts path (replicate 128 0)
  unfolding explaining unless refused_why done_why
  fault_is = go (eqb fault.number 0) e
    where
      fault : Fault
      fault = why_fault n lent starts path (replicate 128 0)

      go : (b : Bool) → ◌≡◌ {A = Left Why (List ℕ)} (left (why_of (Err r)) table)
          (cond b (done_why (net_of lent) (at starts) n path (replicate 128 0)) (refused_why (replicate 128 0) fault)) → refused r ≡ fault
      go true h = absurd (number_some r.cause (ap (λ (y : Left Why (List ℕ)). y.answer.number) h))
      go false h = ap (λ (y : Left Why (List ℕ)). record { number = y.answer.number; place = y.answer.place; short = y.answer.short }) h

  pub refused_reason : (name labels : List ℕ) → path ≡ find labels n name → refused_text labels name (number_of r.cause) r.place r.short ≡ why_text name n labels lent starts
  unfolding why_text cleared
  refused_reason name labels p = sym (rw (← p, ← e, ne_eqb (number_of r.cause) 0 (number_some r.cause)))

  pub refused_small : Small (refused r)
  refused_small = subst Small (sym fault_is) (why_small n lent starts path (replicate 128 0))

-- it is done
module _ (n : ℕ) (widths guards starts table : List ℕ) (path : ℕ) (a : Explained)
    (e : ◌≡◌ {A = Left Why (List ℕ)} (left (why_of (Ok a)) table) (explaining n (lend widths guards) starts path (replicate 128 0))) where
  abbrev net : Net
  net = net_of (lend widths guards)

  pub done_reason : (name labels : List ℕ) → path ≡ find labels n name → reason_text labels net (at starts) (take a.length table) a.down ≡ why_text name n labels (lend widths guards) starts
  unfolding why_text cleared
  done_reason name labels p = sym (rw (← p, ← e))

  abbrev links : List ℕ
  links = chain net (at starts) n path

  x : Explainable n (lend widths guards) starts path (replicate 128 0)
  x = explaining_explainable n (lend widths guards) starts path (replicate 128 0) (sym (ap (λ (y : Left Why (List ℕ)). y.answer.number) e))

  is_done : ◌≡◌ {A = Left Why (List ℕ)} (left (why_of (Ok a)) table) (done_why net (at starts) n path (replicate 128 0))
  is_done = e ∙ explainable_explaining n (lend widths guards) starts path (replicate 128 0) x

  it_is : Chain net (at starts) n path links
  it_is = chain_is net (at starts) n path x.inside

  inside : (i : ℕ) → i < length links → at links i < n
  inside = chain_inside net (at starts) n path links x.inside it_is

  length_is : a.length ≡ length links
  unfolding done_why
  length_is = ap (λ (y : Left Why (List ℕ)). y.answer.length) is_done

  table_is : table ≡ links ++ drop (length links) (replicate 128 0)
  unfolding done_why
  table_is = ap (λ (y : Left Why (List ℕ)). y.tables) is_done

  pub chain_within : a.length ≤ length table
  chain_within = omega (arith, length_is, ap length table_is, length-append links (drop (length links) (replicate 128 0)))

  pub chain_told : (labels : List ℕ) → length labels ≡ 1024 → n ≤ 128 → Chained labels widths guards starts (take a.length table)
  chain_told labels long few =
      let front : take a.length table ≡ links = rw (length_is, table_is) (take-append_seam links (drop (length links) (replicate 128 0))) in
      subst (Chained labels widths guards starts) (sym front) (record {
        some = it_is.some;
        few = omega (arith, chain_few net (at starts) n path, few);
        guards_size = x.network.guards_size;
        paths = λ i l. let k = inside i l in record {
          path = omega (arith, few);
          labels_size = long;
          widths_size = x.network.widths_size;
          starts_size = x.legal.size;
          start = (x.legal.start (at links i) k).1;
          some = (x.network.width (at links i) k).0;
          most = (x.network.width (at links i) k).1;
        };
      })

  pub down_small : a.down < 100000
  unfolding done_why down
  down_small =
      let d : a.down ≡ at starts (last links) - bottom net (at starts) n (last links) = ap (λ (y : Left Why (List ℕ)). y.answer.down) is_done in
      let l = inside (length links - 1) (omega (arith, it_is.some)) in
      omega (arith, d, (x.legal.start (last links) l).1)
