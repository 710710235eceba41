-- What is told of a plan that is judged, and of its order sheet. Assumes nothing.
use Rattle.std.specs.Prelude.{ℕ, ◌≤◌, ◌≡◌, refl, ℤ, Bool, true, false, cond, eqb, List, [], length, take, drop, Result, Ok, Err}
use Rattle.std.specs.Result.{result_unwrap_or}
use Rattle.std.proofs.Common.{sym, ap, subst, arith, replicate, length-append, ne_eqb}
use Rattle.rules.specs.declared.Refusal.{Refusal}
use Rattle.rules.specs.declared.SheetWritten.{SheetWritten}
use Rattle.rules.specs.Tables.{at, cleared, Lent}
use Rattle.rules.specs.Plan.{net_of, highest}
use Rattle.rules.specs.Grid.{order_text}
use Rattle.rules.specs.Numbers.{no_fault, order_write_fault}
use Rattle.rules.specs.Calls.{Left, left, unless, judging, refused_written, done_written, order_writing}
use Rattle.rules.specs.Told.{number_of, refused, written_of}
use Rattle.rules.specs.Asking.{valid_text, refused_text, judge_text, ordered_text}
use Rattle.table_laws.specs.Results.{number_some}
use Rattle.answers.proofs.Small.{Small, judge_small}

-- it is refused
module _ (n : ℕ) (lent : Lent) (starts : List ℕ) (r : Refusal) (e : refused r ≡ judging n lent starts) where
  pub plan_small : Small (refused r)
  unfolding judging
  plan_small = subst Small (sym e) (judge_small n lent starts)

  pub judge_refused : (labels : List ℕ) → refused_text labels [] (number_of r.cause) r.place r.short ≡ judge_text n labels lent starts
  unfolding judge_text
  judge_refused labels = sym (rw (← e, ne_eqb (number_of r.cause) 0 (number_some r.cause)))

  pub order_refused : (labels : List ℕ) (anchor : ℤ) → refused_text labels [] (number_of r.cause) r.place r.short ≡ ordered_text anchor n labels lent starts
  unfolding ordered_text
  order_refused labels anchor = sym (rw (← e, ne_eqb (number_of r.cause) 0 (number_some r.cause)))

-- it is valid, and the tests hand its network and its starts on
pub judge_valid : (n m : ℕ) (labels : List ℕ) (lent net : Lent) (starts s : List ℕ) → no_fault ≡ judging n lent starts
    → (m ≡ n) × (net ≡ lent) × (s ≡ starts) → (top : ℕ) → top ≡ highest (net_of net) (at s) m → valid_text top ≡ judge_text n labels lent starts
unfolding judge_text
judge_valid n m labels lent net starts s e same top t = sym (rw (← e, t, same.0, same.1, same.2))

-- what was written of its order sheet
module _ (anchor : ℤ) (n : ℕ) (labels : List ℕ) (lent : Lent) (starts sheet : List ℕ) (r : Result ℕ Refusal)
    (w : ◌≡◌ {A = Left SheetWritten (List ℕ)} (left (written_of r) sheet) (order_writing anchor n labels lent starts (replicate 2314 0))) where
  length_of : (x : Result ℕ Refusal) → (written_of x).length ≡ result_unwrap_or x 0
  length_of (Ok m) = refl
  length_of (Err x) = refl

  pub order_done : no_fault ≡ judging n lent starts → take (result_unwrap_or r 0) sheet ≡ ordered_text anchor n labels lent starts
  unfolding ordered_text cleared
  order_done e = sym (rw (← e, ← w) (ap (λ (k : ℕ). take k sheet) (length_of r)))

  pub order_within : result_unwrap_or r 0 ≤ length sheet
  unfolding order_writing unless
  order_within = go (eqb (order_write_fault anchor n labels lent starts (replicate 2314 0)).number 0) w
    where
      text : List ℕ
      text = order_text anchor n labels lent.widths starts

      go : (b : Bool) → ◌≡◌ {A = Left SheetWritten (List ℕ)} (left (written_of r) sheet)
          (cond b (done_written text (replicate 2314 0)) (refused_written (replicate 2314 0) (order_write_fault anchor n labels lent starts (replicate 2314 0)))) → result_unwrap_or r 0 ≤ length sheet
      go true g =
          omega (arith, length_of r, ap (λ (x : Left SheetWritten (List ℕ)). x.answer.length) g, ap (λ (x : Left SheetWritten (List ℕ)). length x.tables) g, length-append text (drop (length text) (replicate 2314 0)))
      go false g = omega (arith, length_of r, ap (λ (x : Left SheetWritten (List ℕ)). x.answer.length) g)
