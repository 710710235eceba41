-- A table of marks: 1 for each path that stands among the first m of an order, and 0 for the others. It
-- answers `placed` without a search. Assumes nothing.
use Rattle.std.specs.Prelude.{ℕ, suc, ◌+◌, ◌<◌, ◌≡◌, refl, ◌≢◌, Bool, true, false, cond, not, List, length, set, eqb}
use Rattle.std.proofs.Common.{sym, subst, ap, ◌∙◌, arith, add-one, eq-eqb, ne_eqb}
use Rattle.std.proofs.Math.Decide.{ℕ_discrete}
use Rattle.rules.specs.Tables.{at}
use Rattle.rules.specs.Packing.{placed}
use Rattle.table_laws.specs.Scans.{found_same}
use Rattle.table_laws.specs.Tables.{at_same, at_other}
use Rattle.table_laws.specs.Orders.{placed_none, placed_hit, placed_miss}

abbrev pub Marked : ℕ → (ℕ → ℕ) → ℕ → List ℕ → Type 0
Marked n o m marks = (k : ℕ) → k < n → at marks k ≡ cond (placed o m k) 1 0

-- what a mark says
abbrev is_marked : List ℕ → ℕ → Bool
is_marked marks k = not (eqb (at marks k) 0)

marked_is : (n : ℕ) (o : ℕ → ℕ) (m : ℕ) (marks : List ℕ) → Marked n o m marks → (k : ℕ) → k < n → is_marked marks k ≡ placed o m k
marked_is n o m marks h k l = rw (h k l) (go (placed o m k))
  where
    go : (b : Bool) → not (eqb (cond b 1 0) 0) ≡ b
    go true = refl
    go false = refl

pub marked_yes : (n : ℕ) (o : ℕ → ℕ) (m : ℕ) (marks : List ℕ) → Marked n o m marks → (k : ℕ) → k < n → at marks k ≢ 0 → placed o m k ≡ true
marked_yes n o m marks h k l e = sym (marked_is n o m marks h k l) ∙ rw (ne_eqb (at marks k) 0 e) refl

pub marked_no : (n : ℕ) (o : ℕ → ℕ) (m : ℕ) (marks : List ℕ) → Marked n o m marks → (k : ℕ) → k < n → at marks k ≡ 0 → placed o m k ≡ false
marked_no n o m marks h k l e = sym (marked_is n o m marks h k l) ∙ rw (eq-eqb (at marks k) 0 e) refl

-- no path, and one path more
pub marked_none : (n : ℕ) (o : ℕ → ℕ) (marks : List ℕ) → ((k : ℕ) → k < n → at marks k ≡ 0) → Marked n o 0 marks
marked_none n o marks h k l = rw (placed_none o 0 k (λ i g. absurd (omega arith))) (h k l)

pub marked_more : (n : ℕ) (o : ℕ → ℕ) (m : ℕ) (marks : List ℕ) (x : ℕ) → x ≡ o m → x < length marks → Marked n o m marks → Marked n o (m + 1) (set marks x 1)
marked_more n o m marks x e l h k g = rw add-one (go (ℕ_discrete x k))
  where
    go : Dec (x ≡ k) → at (set marks x 1) k ≡ cond (placed o (suc m) k) 1 0
    go (yes q) = rw (← placed_hit o m k (sym e ∙ q)) (subst (λ (y : ℕ). at (set marks x 1) y ≡ 1) q (at_same marks x 1 l))
    go (no q) = at_other marks x 1 k (λ r. q (sym r)) ∙ h k g ∙ ap (λ (b : Bool). cond b 1 0) (placed_miss o m k (placed o m k) refl (λ r. q (e ∙ r)))

-- it goes by the first m of the order alone
pub placed_local : (o r : ℕ → ℕ) (m k : ℕ) → ((i : ℕ) → i < m → o i ≡ r i) → placed o m k ≡ placed r m k
unfolding placed
placed_local o r m k h = found_same (λ i. eqb (o i) k) (λ i. eqb (r i) k) m (λ i l. ap (λ (x : ℕ). eqb x k) (h i l))
