-- What takes the texts of several numbers, one after the other. Assumes nothing.
use Prim.Native.Nat.{ℕ, zero, suc, ◌+◌, ◌-◌, ◌≤◌, ◌<◌}
use Rattle.std.specs.Prelude.{◌≡◌, refl, length}
use Rattle.std.proofs.Common.{sym, ap, ◌∙◌, add-zero, append_assoc, length-append}
use Rattle.std.proofs.lemmas.List.{append-nil}
use mathlib.Core.List.{List, [], ◌++◌}
use native.Mathlib.Omega.{arith}
use Rattle.rules.specs.Writing.{join_from}
use Rattle.spelling.specs.Sinks.{IsSink}

-- the first k of the texts, and then the others
join_parts : (k m i : ℕ) (f : ℕ → List ℕ) → join_from (k + m) i f ≡ join_from k i f ++ join_from m (i + k) f
unfolding join_from
join_parts zero m i f = let a : 0 + m ≡ m = omega arith in rw (a, add-zero i) refl
join_parts (suc k) m i f =
    let a : suc k + m ≡ suc (k + m) = omega arith in
    let b : i + suc k ≡ suc i + k = omega arith in
    rw (a, b) (ap (λ (w : List ℕ). f i ++ w) (join_parts k m (suc i) f) ∙ sym (append_assoc (f i) (join_from k (suc i) f) (join_from m (suc i + k) f)))

join_last : (k : ℕ) (f : ℕ → List ℕ) → join_from (k + 1) 0 f ≡ join_from k 0 f ++ f k
unfolding join_from
join_last k f = let e : 0 + k ≡ k = omega arith in join_parts k 1 0 f ∙ rw (e, append-nil) refl

-- texts that are all empty
pub join_empty : (m : ℕ) (f : ℕ → List ℕ) → ((j : ℕ) → j < m → f j ≡ []) → join_from m 0 f ≡ []
unfolding join_from
join_empty zero f h = refl
join_empty (suc m) f h =
    let e : suc m ≡ m + 1 = omega arith in
    let y = join_empty m f (λ j l. h j (omega arith)) in
    let z = h m (omega arith) in
    ap (λ (x : ℕ). join_from x 0 f) e ∙ join_last m f ∙ rw (y, z) refl

-- where the first k are taken, there is room for the next, and then that is taken too
module _ {S : Type 0} {room : S → ℕ} {takes : S → List ℕ → S → Type 0} (laws : IsSink room takes) (f : ℕ → List ℕ) where
  pub joins_none : (s : S) → takes s (join_from 0 0 f) s
  unfolding join_from
  joins_none s = laws.none s

  pub joins_room : {s t : S} (k n : ℕ) → k < n → length (join_from n 0 f) ≤ room s → takes s (join_from k 0 f) t → length (f k) ≤ room t
  joins_room k n l h t =
      let e : n ≡ (k + 1) + (n - (k + 1)) = omega arith in
      let rest = join_from (n - (k + 1)) (0 + (k + 1)) f in
      let whole : length (join_from n 0 f) ≡ length (join_from (k + 1) 0 f ++ rest)
      = ap (λ (m : ℕ). length (join_from m 0 f)) e ∙ ap length (join_parts (k + 1) (n - (k + 1)) 0 f) in
      omega (arith, laws.left t, whole, length-append (join_from (k + 1) 0 f) rest, ap length (join_last k f), length-append (join_from k 0 f) (f k))

  pub joins_more : {s t u : S} (k : ℕ) → takes s (join_from k 0 f) t → takes t (f k) u → takes s (join_from (k + 1) 0 f) u
  joins_more k h t = rw (join_last k f) (laws.both h t)
