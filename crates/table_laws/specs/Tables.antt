-- Laws of tables: a stored cell, and cleared tables. Assumes nothing.
use Rattle.std.specs.Prelude.{ℕ, ◌<◌, ◌≡◌, refl, ◌≢◌, List, length, set, replicate}
use Rattle.std.proofs.lemmas.List.{length-replicate, get_or-replicate}
use Rattle.std.proofs.Common.{get_or-set_same, get_or-set_other}
use Rattle.rules.specs.Tables.{at, cleared}

pub at_same : (t : List ℕ) (k v : ℕ) → k < length t → at (set t k v) k ≡ v
at_same t k v l = get_or-set_same t k v 0 l

pub at_other : (t : List ℕ) (k v i : ℕ) → i ≢ k → at (set t k v) i ≡ at t i
at_other t k v i ne = get_or-set_other t k i v 0 ne

pub cleared_length : (size v : ℕ) → length (cleared size v) ≡ size
unfolding cleared
cleared_length size v = length-replicate size v

pub cleared_at : (size v k : ℕ) → k < size → at (cleared size v) k ≡ v
unfolding cleared
cleared_at size v k l = get_or-replicate size k v 0 l

-- an array of the code, as it begins
pub blank : (size v : ℕ) → replicate size v ≡ cleared size v
unfolding cleared
blank size v = refl
