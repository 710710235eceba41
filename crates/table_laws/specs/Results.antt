-- For code that runs tests one after the other by `?`: what a refusal, or the lack of one, says of a chain of tests and
-- of a call. Assumes nothing.
use Rattle.std.specs.Prelude.{ℕ, ◌≡◌, ◌≢◌, Bool, None, Some, Result, Ok, Err, IsErrAnd}
use Rattle.std.proofs.Common.{sym, ap, ◌∙◌, arith, eq-eqb, ne_eqb}
use Rattle.rules.specs.declared.Cause.{Cause}
use Rattle.rules.specs.declared.Cause.TheVariants.{Count, Size, Width, Guard, Mirror, Entry, Start, Clash, NoSides, Rounds, Form, LabelTwice, LabelUnknown, PairTwice, List, Room, Anchor}
use Rattle.rules.specs.declared.Refusal.{Refusal}
use Rattle.rules.specs.declared.Fault.{Fault}
use Rattle.rules.specs.Tables.{cell}
use Rattle.rules.specs.Numbers.{fault, no_fault, ◌or_else◌, scan, square}
use Rattle.rules.specs.Calls.{unless}
use Rattle.rules.specs.Told.{number_of, refused, told}
use Rattle.table_laws.specs.Faults.{or_first, or_second, scan_none, scan_at, square_none, square_hit}
use Rattle.table_laws.specs.Firsts.{FirstIs, FirstCellIs}
use Rattle.table_laws.specs.Scans.{found_none}
use Rattle.table_laws.specs.Searches.{first_of}

-- no cause has the number 0
pub number_some : (cause : Cause) → number_of cause ≢ 0
number_some Count = λ e. omega arith
number_some Size = λ e. omega arith
number_some Width = λ e. omega arith
number_some Guard = λ e. omega arith
number_some Mirror = λ e. omega arith
number_some Entry = λ e. omega arith
number_some Start = λ e. omega arith
number_some Clash = λ e. omega arith
number_some NoSides = λ e. omega arith
number_some Rounds = λ e. omega arith
number_some Form = λ e. omega arith
number_some LabelTwice = λ e. omega arith
number_some LabelUnknown = λ e. omega arith
number_some PairTwice = λ e. omega arith
number_some List = λ e. omega arith
number_some Room = λ e. omega arith
number_some Anchor = λ e. omega arith

refused_some : {a : Fault} (r : Refusal) → refused r ≡ a → a.number ≢ 0
refused_some r e z = number_some r.cause (ap (λ (x : Fault). x.number) e ∙ z)

-- a test that finds no fault has no number
pub clear_none : {a : Fault} → no_fault ≡ a → a.number ≡ 0
clear_none e = sym (ap (λ (x : Fault). x.number) e)

-- `?` hands a refusal on as it is
pub handed_on : {T : Type 0} (r : Result T Refusal) (x : Refusal) → IsErrAnd r (λ e. e ≡ x) → told r ≡ refused x
handed_on (Ok d) x h = absurd h
handed_on (Err e) x h = ap refused h

-- the first test refuses, so the chain does; it does not, so the chain goes on
pub err_stop : (b : Fault) {a : Fault} (r : Refusal) → refused r ≡ a → refused r ≡ (a or_else b)
err_stop b {a} r e = e ∙ sym (or_first a b (refused_some r e))

pub ok_on : (b : Fault) {a f : Fault} → no_fault ≡ a → f ≡ b → f ≡ (a or_else b)
ok_on b {a} e h = h ∙ sym (or_second a b (clear_none e))

-- a call of which the tests refuse, or do not
pub unless_err : {A : Type 0} {f : Fault} (refusing : Fault → A) (result : A) (r : Refusal) → refused r ≡ f → unless f refusing result ≡ refusing (refused r)
unfolding unless
unless_err {A} {f} refusing result r e = rw (ne_eqb f.number 0 (refused_some r e)) (ap refusing (sym e))

pub unless_ok : {A : Type 0} {f : Fault} (refusing : Fault → A) (result : A) → no_fault ≡ f → unless f refusing result ≡ result
unfolding unless
unless_ok {A} {f} refusing result e = rw (eq-eqb f.number 0 (clear_none e))

-- a scan, by what a search of it answers
pub scan_search : (m : ℕ) (bad : ℕ → Bool) (n : ℕ) → FirstIs bad n None → scan m bad n ≡ no_fault
scan_search m bad n h = scan_none m bad n h

pub scan_found : (m : ℕ) (bad : ℕ → Bool) (n i : ℕ) → FirstIs bad n (Some i) → scan m bad n ≡ fault m i
scan_found m bad n i h = scan_at m bad n i h.2 h.1 h.0

-- and a scan of the square
pub square_search : (m : ℕ) (bad : ℕ → ℕ → Bool) (lack : ℕ → ℕ → ℕ) (n : ℕ) → FirstCellIs bad n None → square m bad lack n ≡ no_fault
square_search m bad lack n h = square_none m bad lack n (λ i j l g. h i l j g)

pub square_found : (m : ℕ) (bad : ℕ → ℕ → Bool) (lack : ℕ → ℕ → ℕ) (n i j : ℕ) → FirstCellIs bad n (Some (i, j))
    → record { number = m; place = cell i j; short = lack i j } ≡ square m bad lack n
square_found m bad lack n i j h =
    square_hit m bad lack n i j (λ k l. found_none (bad k) n (h.2 k l)) (sym (first_of (bad i) n (Some j) h.1)) h.1.0 h.0
