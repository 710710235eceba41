-- Packing, once over every rule. Assumes nothing.
use Prim.Native.Nat.{ℕ, zero, suc, ◌≤◌, ◌<◌}
use Rattle.std.specs.Prelude.{◌≡◌, ◌≢◌, List, length, set}
use Rattle.std.proofs.Math.Path.{refl}
use Rattle.std.proofs.Common.{sym, ◌∙◌}
use native.Mathlib.Omega.{arith}
use Rattle.std.proofs.Math.ListN.{length-set}
use Rattle.rules.specs.Tables.{at}
use Rattle.rules.specs.Packing.{Rule, packed, Order}
use Rattle.table_laws.specs.Count.{each_suc}
use Rattle.table_laws.specs.Tables.{at_same, at_other}

-- a rule goes by the first m of the order and their starts alone
abbrev pub Local : Rule → Type 0
Local f = (p q o r : ℕ → ℕ) (m k : ℕ) → ((i : ℕ) → i < m → o i ≡ r i) → ((i : ℕ) → i < m → p (o i) ≡ q (o i)) → f p o m k ≡ f q r m k

-- and falls nowhere when those starts rise
abbrev pub Monotone : Rule → Type 0
Monotone f = (p q o : ℕ → ℕ) (m k : ℕ) → ((i : ℕ) → i < m → p (o i) ≤ q (o i)) → f p o m k ≤ f q o m k

-- along the first m of the order each start is what the rule gives; each start is no lower than that
abbrev pub Packs : Rule → (ℕ → ℕ) → (ℕ → ℕ) → ℕ → Type 0
Packs f o p m = (i : ℕ) → i < m → p (o i) ≡ f p o i (o i)

abbrev pub Respects : Rule → (ℕ → ℕ) → (ℕ → ℕ) → ℕ → Type 0
Respects f o q m = (i : ℕ) → i < m → f q o i (o i) ≤ q (o i)

-- T2, the least plan: what respects a rule along an order is nowhere below what the rule packs
pub least : (f : Rule) → Monotone f → (o p q : ℕ → ℕ) (m : ℕ) → Packs f o p m → Respects f o q m → (i : ℕ) → i < m → p (o i) ≤ q (o i)
least f mono o p q zero a b = λ i l. omega arith
least f mono o p q (suc m) a b =
    let ih = least f mono o p q m (λ i l. a i (omega arith)) (λ i l. b i (omega arith)) in
    each_suc (λ i. p (o i) ≤ q (o i)) m ih (omega (arith, a m (omega arith), b m (omega arith), mono p q o m (o m) ih))

module _ (f : Rule) (loc : Local f) where
  -- what the packing leaves alone, and its size
  pub packed_length : (o : ℕ → ℕ) (t : List ℕ) (m : ℕ) → length (packed f o t m) ≡ length t
  unfolding packed
  packed_length o t zero = refl
  packed_length o t (suc m) = simp length-set (packed_length o t m)

  pub packed_other : (o : ℕ → ℕ) (t : List ℕ) (m k : ℕ) → ((i : ℕ) → i < m → o i ≢ k) → at (packed f o t m) k ≡ at t k
  unfolding packed
  packed_other o t zero k h = refl
  packed_other o t (suc m) k h =
      let s = packed f o t m in
      at_other s (o m) (f (at s) o m (o m)) k (λ e. h m (omega arith) (sym e)) ∙ packed_other o t m k (λ i l. h i (omega arith))

  packs_step : (o : ℕ → ℕ) (s : List ℕ) (m : ℕ) → Order o (length s) (suc m) → Packs f o (at s) m → Packs f o (at (set s (o m) (f (at s) o m (o m)))) (suc m)
  packs_step o s m ord ih =
      each_suc (λ i. r (o i) ≡ f r o i (o i)) m
      (λ i l. omega (arith, agree i l, ih i l, loc r (at s) o o i (o i) (λ j k. refl) (λ j k. agree j (omega arith))))
      (omega (arith, at_same s (o m) (f (at s) o m (o m)) (ord.inside m (omega arith)), loc r (at s) o o m (o m) (λ j k. refl) agree))
    where
      r : ℕ → ℕ
      r = at (set s (o m) (f (at s) o m (o m)))

      agree : (i : ℕ) → i < m → r (o i) ≡ at s (o i)
      agree i l = at_other s (o m) (f (at s) o m (o m)) (o i) (ord.fresh i m l (omega arith))

  -- the packed table is packed
  pub packed_packs : (o : ℕ → ℕ) (t : List ℕ) (m : ℕ) → Order o (length t) m → Packs f o (at (packed f o t m)) m
  unfolding packed
  packed_packs o t zero ord = λ i l. omega arith
  packed_packs o t (suc m) ord =
      let shorter : Order o (length t) m = record { inside = λ i l. ord.inside i (omega arith); fresh = λ i j h l. ord.fresh i j h (omega arith) } in
      packs_step o (packed f o t m) m (rw (packed_length o t m) ord) (packed_packs o t m shorter)

-- for the code: one store more
pub packed_next : (f : Rule) (o : ℕ → ℕ) (t : List ℕ) (m : ℕ) (s : List ℕ) (k v : ℕ) → s ≡ packed f o t m → k ≡ o m → v ≡ f (at s) o m k → set s k v ≡ packed f o t (suc m)
unfolding packed
packed_next f o t m s k v e g h = rw (h, g, e)

pub packed_local : (f : Rule) → Local f → (o r : ℕ → ℕ) (t : List ℕ) (m : ℕ) → ((i : ℕ) → i < m → o i ≡ r i) → packed f o t m ≡ packed f r t m
unfolding packed
packed_local f loc o r t zero h = refl
packed_local f loc o r t (suc m) h =
    let s = packed f r t m in
    rw (packed_local f loc o r t m (λ i l. h i (omega arith)), h m (omega arith), loc (at s) (at s) o r m (r m) (λ i l. h i (omega arith)) (λ i l. refl))
