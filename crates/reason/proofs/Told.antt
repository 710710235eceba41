-- From what the inner functions answer to what `why` promises. Assumes nothing.
use Rattle.std.specs.Prelude.{ℕ, ◌+◌, ◌-◌, ◌≤◌, ◌<◌, ◌≡◌, Bool, true, false, cond, not, ltb, leb, eqb, List, ◌++◌, length, drop, Result, Ok, None, Some}
use Rattle.std.proofs.Common.{refl, sym, ap, ◌∙◌, arith}
use Rattle.std.proofs.lemmas.Bool.Decides.{nat_tests}
use Rattle.rules.specs.declared.Fault.{Fault}
use Rattle.rules.specs.declared.Why.{Why}
use Rattle.rules.specs.declared.Refusal.{Refusal}
use Rattle.network.specs.declared.Plan.{Plan}
use Rattle.network.specs.Lent.{lent}
use Rattle.rules.specs.Tables.{at, cell, Lent}
use Rattle.rules.specs.Plan.{Net, net_of}
use Rattle.rules.specs.Reason.{is_last, link, chain, down, last}
use Rattle.rules.specs.Numbers.{no_fault, ◌or_else◌, refuse_if, size_fault, lent_fault, start_fault, clash_fault, path_fault, plan_sizes, why_fault}
use Rattle.rules.specs.Calls.{Left, left, refused_why, done_why, explaining}
use Rattle.rules.specs.Told.{refused, told, why_of}
use Rattle.table_laws.specs.Faults.{or_assoc}
use Rattle.table_laws.specs.Results.{err_stop, ok_on, unless_ok}
use Rattle.plan_laws.specs.Reason.{asks_of, asks_told, chain_is, chain_inside, last_in}

-- the next path of a chain, where there is one
module _ (net : Net) (plan : ℕ → ℕ) (n k : ℕ) where
  pub chain_ends : None ≡ cond (is_last net plan n k) None (Some (link net plan n k)) → is_last net plan n k ≡ true
  chain_ends = go (is_last net plan n k)
    where
      go : (b : Bool) → None ≡ cond b None (Some (link net plan n k)) → b ≡ true
      go true e = refl
      go false e = cc

  pub chain_goes : (j : ℕ) → Some j ≡ cond (is_last net plan n k) None (Some (link net plan n k)) → (is_last net plan n k ≡ false) × (link net plan n k ≡ j)
  chain_goes j = go (is_last net plan n k)
    where
      go : (b : Bool) → Some j ≡ cond b None (Some (link net plan n k)) → (b ≡ false) × (link net plan n k ≡ j)
      go true e = cc
      go false e = (refl, cc)

-- what path j asks of path k, in the cells that the code reads
pub asks_is : (p : Plan) (k j : ℕ) → k < p.net.n → j < p.net.n
    → asks_of (net_of (lent p.net)) (at p.starts.now) k j ≡ cond (ltb (at p.net.guards.now (cell k j)) 255) (cond (ltb (at p.starts.now j) (at p.starts.now k)) (at p.starts.now j + at p.net.widths.now j - 1 + at p.net.guards.now (cell k j) + 1) 0) 0
asks_is p k j l m = sym (asks_told (net_of (lent p.net)) (at p.starts.now) k j (p.net.within.mirrored k j l m))

-- the test of a pair, for the code
pub ruleset pairs = (asks_is, nat_tests)

-- the chain stands in the table
module _ (net : Net) (plan : ℕ → ℕ) (n path : ℕ) (table : List ℕ) (l : path < n) (m : ℕ) (after : List ℕ)
    (q : m ≡ length (chain net plan n path)) (t : after ≡ chain net plan n path ++ drop (length (chain net plan n path)) table) where
  abbrev c : List ℕ
  c = chain net plan n path

  pub some_paths : 1 ≤ m
  some_paths = omega (arith, q, (chain_is net plan n path l).some)

  last_is : at after (m - 1) ≡ last c
  last_is = ap (λ (i : ℕ). at after (i - 1)) q ∙ ap (λ (x : List ℕ). at x (length c - 1)) t ∙ last_in c (drop (length c) table) (omega (arith, q, some_paths))

  pub last_path : at after (m - 1) < n
  last_path =
      omega (arith, last_is, chain_inside net plan n path c l (chain_is net plan n path l) (length c - 1) (omega (arith, q, some_paths)))

  pub chain_told : (d : ℕ) → d ≡ down net plan n (at after (m - 1)) → left (why_of (Ok (record { length = m; down = d }))) after ≡ done_why net plan n path table
  unfolding done_why
  chain_told d h = rw (h, last_is, q, t)

-- the tests: those of a plan, of which the chain's size is the first, and then that of the path
module _ (n : ℕ) (lent : Lent) (starts : List ℕ) (path : ℕ) (table : List ℕ) (others : Result Unit Refusal)
    (e : told others ≡ refuse_if (not (eqb (length table) 128)) 2 0) where
  abbrev network_tests : Fault
  network_tests = lent_fault n lent (told others or_else size_fault starts 128)

  abbrev plan_tests : Fault
  plan_tests = network_tests or_else start_fault n starts or_else clash_fault n (net_of lent) starts

  all_tests : (plan_tests or_else path_fault n path) ≡ why_fault n lent starts path table
  unfolding why_fault plan_sizes size_fault
  all_tests =
      rw (← e)
      (or_assoc network_tests _ (path_fault n path) ∙ ap (λ x. network_tests or_else x) (or_assoc (start_fault n starts) (clash_fault n (net_of lent) starts) (path_fault n path)))

  pub plan_refused : (r : Refusal) → refused r ≡ plan_tests → refused r ≡ why_fault n lent starts path table
  plan_refused r h = err_stop _ r h ∙ all_tests

  pub path_tested : no_fault ≡ plan_tests → (f : Fault) → f ≡ refuse_if (leb n path) 6 0 → f ≡ why_fault n lent starts path table
  unfolding path_fault
  path_tested h f g = ok_on _ h g ∙ all_tests

-- what is done
module _ (n : ℕ) (lent : Lent) (starts : List ℕ) (path : ℕ) (table : List ℕ) where
  pub why_done : no_fault ≡ why_fault n lent starts path table → (m : ℕ) (tested : Lent) (own : List ℕ) → (m ≡ n) × (tested ≡ lent) × (own ≡ starts)
      → (x : Left Why (List ℕ)) → x ≡ done_why (net_of tested) (at own) m path table → x ≡ explaining n lent starts path table
  unfolding explaining
  why_done e m tested own s x h = h ∙ rw (s.0, s.1, s.2) (sym (unless_ok (refused_why table) _ e))
