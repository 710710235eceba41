-- Whether two sides are told, against what the call answers. Assumes nothing.
use Prim.Native.Nat.{ℕ}
use mathlib.Core.Path.{◌≡◌, refl, sym, ap, ◌∙◌}
use mathlib.Core.List.{List}
use lib.Dec.{eqb}
use borrow.Author.Tests.{ne_eqb}
use Rattle.std.specs.Prelude.{Result, Ok, Err, is_ok}
use Rattle.rules.specs.declared.Refusal.{Refusal}
use Rattle.rules.specs.declared.Sided.{Sided}
use Rattle.rules.specs.Tables.{cleared, Lent}
use Rattle.rules.specs.Told.{number_of, sided_of}
use Rattle.rules.specs.Calls.{Left, left, siding}
use Rattle.table_laws.specs.Results.{number_some}

done_number : (r : Result ℕ Refusal) → eqb (sided_of r).number 0 ≡ is_ok r
done_number (Ok d) = refl
done_number (Err r) = ne_eqb (number_of r.cause) 0 (number_some r.cause)

pub sides_told : (n : ℕ) (lent : Lent) (order order' : List ℕ) (r : Result ℕ Refusal) → order ≡ cleared 128 0
    → ◌≡◌ {A = Left Sided (List ℕ)} (left (sided_of r) order') (siding n lent order) → is_ok r ≡ eqb (siding n lent (cleared 128 0)).answer.number 0
sides_told n lent order order' r z e =
    sym (done_number r) ∙ ap (λ (x : Left Sided (List ℕ)). eqb x.answer.number 0) e ∙ ap (λ (o : List ℕ). eqb (siding n lent o).answer.number 0) z
