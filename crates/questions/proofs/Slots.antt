-- The highest slot, by the largest of a list. Assumes nothing.
use Prim.Native.Nat.{ℕ, zero, suc, max}
use Rattle.std.specs.Prelude.{◌≡◌, refl, List, [], ◌∷◌, ◌++◌, map, unwrap_or}
use Rattle.std.specs.List.{reduce, range_with_len}
use Rattle.std.proofs.Common.{sym, ap, ◌∙◌, arith, add-one}
use Rattle.std.proofs.lemmas.List.FromFn.{map-range_with_len_more}
use Rattle.std.proofs.lemmas.List.Sums.{fold_push}
use Rattle.rules.specs.Scan.{largest}

-- one more
reduce_push : (xs : List ℕ) (y : ℕ) → unwrap_or (reduce max (xs ++ y ∷ [])) 0 ≡ max (unwrap_or (reduce max xs) 0) y
reduce_push [] y = omega arith
reduce_push (x ∷ xs) y = fold_push max x xs y

pub largest_below : (f : ℕ → ℕ) (n : ℕ) → unwrap_or (reduce max (map f (range_with_len 0 n))) 0 ≡ largest f n
unfolding largest
largest_below f zero = refl
largest_below f (suc n) =
    ap (λ (m : ℕ). unwrap_or (reduce max (map f (range_with_len 0 m))) 0) (sym (add-one n))
    ∙ ap (λ (xs : List ℕ). unwrap_or (reduce max xs) 0) (map-range_with_len_more f 0 n n (omega arith))
    ∙ reduce_push (map f (range_with_len 0 n)) (f n)
    ∙ ap (λ (m : ℕ). max m (f n)) (largest_below f n)
