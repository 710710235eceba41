-- A sum over a list, as the rules have it: by position. Assumes nothing.
use Rattle.std.proofs.Common.{◌≡◌, ℕ, ◌+◌, List, [], ◌∷◌, length, sum_by, refl, ap, sym, ◌∙◌}
use Rattle.std.proofs.lemmas.List.Sums.{sum_by-cons}
use Rattle.rules.specs.Tables.{at}
use Rattle.rules.specs.Scan.{sum}
use Rattle.table_laws.specs.Scans.{sum_front}

pub sum_list : (f : ℕ → ℕ) (xs : List ℕ) → sum_by f xs ≡ sum (λ i. f (at xs i)) (length xs)
unfolding sum
sum_list f [] = refl
sum_list f (x ∷ xs) = sum_by-cons f x xs ∙ ap (λ y. f x + y) (sum_list f xs) ∙ sym (sum_front (λ i. f (at (x ∷ xs) i)) (length xs))
