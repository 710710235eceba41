-- A walk that passes a position is two walks away from it, the first of them backwards: as long where guards
-- are the same both ways, and through the same positions. Assumes nothing.
use Rattle.std.specs.Prelude.{ℕ, zero, suc, ◌+◌, ◌-◌, ◌≤◌, ◌<◌, ◌≡◌, refl, ◌≢◌, cond, ltb}
use Rattle.std.proofs.Common.{sym, ap, ◌∙◌, arith, add-zero, lt-ltb, le-ltb}
use Rattle.std.proofs.Math.Decide.{dec_lt}
use Rattle.rules.specs.Scan.{sum}
use Rattle.rules.specs.Packing.{Order}
use Rattle.table_laws.specs.Scans.{sum_same, sum_front}
use Rattle.walks.specs.Sets.{alone, members}
use Rattle.walks.specs.Walked.{steps}

-- a sum backwards, and in two parts
sum_back : (f : ℕ → ℕ) (m : ℕ) → sum (λ i. f (m - suc i)) m ≡ sum f m
unfolding sum
sum_back f zero = refl
sum_back f (suc m) =
    let e : suc m - 1 ≡ m = omega arith in
    omega (
      arith,
      ap f e,
      sum_front (λ i. f (suc m - suc i)) m,
      sum_same (λ i. f (suc m - suc (suc i))) (λ i. f (m - suc i)) m (λ i l. ap f (omega arith)),
      sum_back f m,
    )

pub sum_cut : (f : ℕ → ℕ) (m n : ℕ) → sum f (m + n) ≡ sum f m + sum (λ i. f (m + i)) n
unfolding sum
sum_cut f m zero = omega (arith, ap (sum f) (add-zero m))
sum_cut f m (suc n) = let e : m + suc n ≡ suc (m + n) = omega arith in rw e (omega (arith, sum_cut f m n))

members_same : (o r : ℕ → ℕ) (m : ℕ) → ((i : ℕ) → i < m → o i ≡ r i) → members o m ≡ members r m
unfolding members
members_same o r m h = sum_same (λ i. alone (o i)) (λ i. alone (r i)) m (λ i l. ap (λ x. alone x) (h i l))

steps_same : (guard : ℕ → ℕ → ℕ) (k : ℕ) (o r : ℕ → ℕ) (m : ℕ) → ((i : ℕ) → i < suc m → o i ≡ r i) → steps guard k o m ≡ steps guard k r m
steps_same guard k o r m h = sum_same (λ i. guard (o i) (o (suc i))) (λ i. guard (r i) (r (suc i))) m (λ i l. rw (h i (omega arith), h (suc i) (omega arith)))

-- from position m of an order backwards, and on from there
abbrev pub back : (ℕ → ℕ) → ℕ → ℕ → ℕ
back o m i = o (m - i)

abbrev pub on : (ℕ → ℕ) → ℕ → ℕ → ℕ
on o m i = o (m + i)

pub members_around : (o : ℕ → ℕ) (m n : ℕ) → members o (suc (m + n)) + alone (o m) ≡ members (back o m) (suc m) + members (on o m) (suc n)
unfolding members sum
members_around o m n =
    let e : m + suc n ≡ suc (m + n) = omega arith in
    omega (
      arith,
      ap (sum (λ i. alone (o i))) e,
      sum_cut (λ i. alone (o i)) m (suc n),
      sum_back (λ i. alone (o i)) (suc m),
      sum_same (λ i. alone (o (suc m - suc i))) (λ i. alone (o (m - i))) (suc m) (λ i l. ap (λ x. alone (o x)) (omega arith)),
    )

pub back_order : (o : ℕ → ℕ) (k m n : ℕ) → Order o k (suc (m + n)) → Order (back o m) k (suc m)
back_order o k m n ord = record {
  inside = λ i l. ord.inside (m - i) (omega arith);
  fresh = λ i j h l e. ord.fresh (m - j) (m - i) (omega arith) (omega arith) (sym e);
}

pub on_order : (o : ℕ → ℕ) (k m n : ℕ) → Order o k (suc (m + n)) → Order (on o m) k (suc n)
on_order o k m n ord = record {
  inside = λ i l. ord.inside (m + i) (omega arith);
  fresh = λ i j h l. ord.fresh (m + i) (m + j) (omega arith) (omega arith);
}

pub steps_around : (guard : ℕ → ℕ → ℕ) (k : ℕ) → ((i j : ℕ) → i < k → j < k → guard i j ≡ guard j i) → (o : ℕ → ℕ) (m n : ℕ) → Order o k (suc (m + n))
    → steps guard k o (m + n) ≡ steps guard k (back o m) m + steps guard k (on o m) n
steps_around guard k mirror o m n ord =
    omega (
      arith,
      sum_cut (λ i. guard (o i) (o (suc i))) m n,
      sum_back (λ i. guard (o i) (o (suc i))) m,
      sum_same (λ i. guard (o (m - suc i)) (o (suc (m - suc i)))) (λ i. guard (o (m - i)) (o (m - suc i))) m turned,
      sum_same (λ i. guard (o (m + i)) (o (suc (m + i)))) (λ i. guard (o (m + i)) (o (m + suc i))) n (λ i l. ap (λ x. guard (o (m + i)) (o x)) (omega arith)),
    )
  where
    turned : (i : ℕ) → i < m → guard (o (m - suc i)) (o (suc (m - suc i))) ≡ guard (o (m - i)) (o (m - suc i))
    turned i l =
        let e : suc (m - suc i) ≡ m - i = omega arith in
        rw e (mirror (o (m - suc i)) (o (m - i)) (ord.inside (m - suc i) (omega arith)) (ord.inside (m - i) (omega arith)))

-- two walks from one position joined there: m steps of the first backwards, and then the second
unfoldable pub around : (ℕ → ℕ) → ℕ → (ℕ → ℕ) → ℕ → ℕ
around a m b i = cond (ltb i m) (a (m - i)) (b (i - m))

module _ (a b : ℕ → ℕ) (m : ℕ) where
  around_first : (i : ℕ) → i < m → around a m b i ≡ a (m - i)
  unfolding around
  around_first i l = rw (lt-ltb i m l)

  around_second : (i : ℕ) → m ≤ i → around a m b i ≡ b (i - m)
  unfolding around
  around_second i l = rw (le-ltb i m l)

  around_back : a 0 ≡ b 0 → (i : ℕ) → i < suc m → back (around a m b) m i ≡ a i
  around_back e zero l = let z : m - 0 - m ≡ 0 = omega arith in around_second (m - 0) (omega arith) ∙ ap b z ∙ sym e
  around_back e (suc i) l = let z : m - (m - suc i) ≡ suc i = omega arith in around_first (m - suc i) (omega arith) ∙ ap a z

  around_on : (i : ℕ) → on (around a m b) m i ≡ b i
  around_on i = let z : m + i - m ≡ i = omega arith in around_second (m + i) (omega arith) ∙ ap b z

  -- what it goes through, and how long it is
  pub around_members : a 0 ≡ b 0 → (n : ℕ) → members (around a m b) (suc (m + n)) + alone (b 0) ≡ members a (suc m) + members b (suc n)
  around_members e n =
      let z : m - m ≡ 0 = omega arith in
      omega (
        arith,
        ap (λ x. alone x) (around_second m (omega arith) ∙ ap b z),
        members_around (around a m b) m n,
        members_same (back (around a m b) m) a (suc m) (around_back e),
        members_same (on (around a m b) m) b (suc n) (λ i l. around_on i),
      )

  pub around_steps : (guard : ℕ → ℕ → ℕ) (k n : ℕ) → ((i j : ℕ) → i < k → j < k → guard i j ≡ guard j i) → a 0 ≡ b 0 → Order (around a m b) k (suc (m + n))
      → steps guard k (around a m b) (m + n) ≡ steps guard k a m + steps guard k b n
  around_steps guard k n mirror e ord =
      omega (
        arith,
        steps_around guard k mirror (around a m b) m n ord,
        steps_same guard k (back (around a m b) m) a m (around_back e),
        steps_same guard k (on (around a m b) m) b n (λ i l. around_on i),
      )

  -- an order where the second has nothing that the first has after its beginning
  pub around_order : (k n : ℕ) → Order a k (suc m) → Order b k (suc n) → ((i j : ℕ) → i < m → j < suc n → a (suc i) ≢ b j) → Order (around a m b) k (suc (m + n))
  around_order k n x y apart = record { inside = λ i l. inside i l (dec_lt i m); fresh = λ i j h l. fresh i j h l (dec_lt i m) (dec_lt j m) }
    where
      inside : (i : ℕ) → i < suc (m + n) → Dec (i < m) → around a m b i < k
      inside i l (yes h) = rw (around_first i h) (x.inside (m - i) (omega arith))
      inside i l (no h) = rw (around_second i (omega arith)) (y.inside (i - m) (omega arith))

      fresh : (i j : ℕ) → i < j → j < suc (m + n) → Dec (i < m) → Dec (j < m) → around a m b i ≢ around a m b j
      fresh i j h l (yes p) (yes q) = λ e. x.fresh (m - j) (m - i) (omega arith) (omega arith) (sym (around_first j q) ∙ sym e ∙ around_first i p)
      fresh i j h l (yes p) (no q) = λ e.
          apart (m - suc i) (j - m) (omega arith) (omega arith) (ap a (omega arith) ∙ sym (around_first i p) ∙ e ∙ around_second j (omega arith))
      fresh i j h l (no p) (yes q) = absurd (omega arith)
      fresh i j h l (no p) (no q) = λ e. y.fresh (i - m) (j - m) (omega arith) (omega arith) (sym (around_second i (omega arith)) ∙ e ∙ around_second j (omega arith))
