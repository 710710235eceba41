-- Bounded quantifiers and counting. Assumes nothing.
use Rattle.std.specs.Prelude.{ℕ, zero, suc, ◌+◌, ◌≤◌, ◌<◌, ◌≡◌, refl, Bool, true, false, cond, ◌||◌, eqb}
use Rattle.std.proofs.Common.{sym, subst, ap, ◌∙◌, arith, eq-eqb, ne_eqb}
use Rattle.std.proofs.lemmas.Bool.{false≢true}
use Rattle.std.proofs.Math.Decide.{ℕ_discrete}
use Rattle.rules.specs.Scan.{sum}

-- a property of every number below n, and of n
pub each_suc : (P : ℕ → Type 0) (n : ℕ) → ((i : ℕ) → i < n → P i) → P n → (i : ℕ) → i < suc n → P i
each_suc P n h z i l = go (ℕ_discrete n i)
  where
    go : Dec (n ≡ i) → P i
    go (yes e) = subst P e z
    go (no ne) = h i (omega arith)

-- what the numbers below n that pass a test weigh
unfoldable pub weigh : (ℕ → ℕ) → (ℕ → Bool) → ℕ → ℕ
weigh f P zero = 0
weigh f P (suc n) = cond (P n) (f n) 0 + weigh f P n

-- tests that agree weigh the same
pub weigh_same : (f : ℕ → ℕ) (P Q : ℕ → Bool) (n : ℕ) → ((k : ℕ) → k < n → P k ≡ Q k) → weigh f P n ≡ weigh f Q n
unfolding weigh
weigh_same f P Q zero h = refl
weigh_same f P Q (suc n) h = rw (h n (omega arith), weigh_same f P Q n (λ k l. h k (omega arith)))

-- one number more passes
weigh_past : (f : ℕ → ℕ) (P : ℕ → Bool) (x n : ℕ) → n ≤ x → weigh f (λ k. P k || eqb x k) n ≡ weigh f P n
unfolding weigh
weigh_past f P x zero h = refl
weigh_past f P x (suc n) h = go (P n) (weigh_past f P x n (omega arith))
  where
    go : (b : Bool) → weigh f (λ k. P k || eqb x k) n ≡ weigh f P n → cond (b || eqb x n) (f n) 0 + weigh f (λ k. P k || eqb x k) n ≡ cond b (f n) 0 + weigh f P n
    go true ih = omega arith
    go false ih = rw (ne_eqb x n (λ e. omega arith)) (omega arith)

pub weigh_add : (f : ℕ → ℕ) (P : ℕ → Bool) (x n : ℕ) → x < n → P x ≡ false → weigh f (λ k. P k || eqb x k) n ≡ f x + weigh f P n
unfolding weigh
weigh_add f P x zero l e = absurd (omega arith)
weigh_add f P x (suc n) l e = go (ℕ_discrete x n) (P n) refl (λ h. weigh_add f P x n h e)
  where
    go : Dec (x ≡ n) → (b : Bool) → P n ≡ b → (x < n → weigh f (λ k. P k || eqb x k) n ≡ f x + weigh f P n)
        → cond (b || eqb x n) (f n) 0 + weigh f (λ k. P k || eqb x k) n ≡ f x + (cond b (f n) 0 + weigh f P n)
    go (yes q) true g ih = absurd (false≢true (sym e ∙ ap P q ∙ g))
    go (yes q) false g ih = rw (eq-eqb x n q) (omega (arith, weigh_past f P x n (omega arith), ap f q))
    go (no ne) true g ih = omega (arith, ih (omega arith))
    go (no ne) false g ih = rw (ne_eqb x n ne) (omega (arith, ih (omega arith)))

pub weigh_none : (f : ℕ → ℕ) (n : ℕ) → weigh f (λ k. false) n ≡ 0
unfolding weigh
weigh_none f zero = refl
weigh_none f (suc n) = omega (arith, weigh_none f n)

pub weigh_all : (f : ℕ → ℕ) (P : ℕ → Bool) (n : ℕ) → ((k : ℕ) → k < n → P k ≡ true) → weigh f P n ≡ sum f n
unfolding weigh sum
weigh_all f P zero h = refl
weigh_all f P (suc n) h = rw (h n (omega arith)) (omega (arith, weigh_all f P n (λ k l. h k (omega arith))))

-- how many pass
abbrev pub count : (ℕ → Bool) → ℕ → ℕ
count P n = weigh (λ k. 1) P n

pub count_le : (P : ℕ → Bool) (n : ℕ) → count P n ≤ n
unfolding weigh
count_le P zero = omega arith
count_le P (suc n) = go (P n) (count_le P n)
  where
    go : (b : Bool) → count P n ≤ n → cond b 1 0 + count P n ≤ suc n
    go true h = omega arith
    go false h = omega arith

-- what passes P passes Q: at least as many pass, and more where one passes Q alone
count_each : (P Q : ℕ → Bool) (k : ℕ) → (P k ≡ true → Q k ≡ true) → cond (P k) 1 0 ≤ cond (Q k) 1 0
count_each P Q k h = go (P k) refl
  where
    go : (b : Bool) → P k ≡ b → cond b 1 0 ≤ cond (Q k) 1 0
    go true e = rw (h e) (omega arith)
    go false e = omega arith

pub count_rises : (P Q : ℕ → Bool) (n : ℕ) → ((k : ℕ) → k < n → P k ≡ true → Q k ≡ true) → count P n ≤ count Q n
unfolding weigh
count_rises P Q zero h = omega arith
count_rises P Q (suc n) h = omega (arith, count_each P Q n (h n (omega arith)), count_rises P Q n (λ k l. h k (omega arith)))

pub count_more : (P Q : ℕ → Bool) (n x : ℕ) → ((k : ℕ) → k < n → P k ≡ true → Q k ≡ true) → x < n → P x ≡ false → Q x ≡ true → count P n < count Q n
unfolding weigh
count_more P Q zero x h l p q = absurd (omega arith)
count_more P Q (suc n) x h l p q = go (ℕ_discrete n x) (λ g. count_more P Q n x (λ k m. h k (omega arith)) g p q)
  where
    go : Dec (n ≡ x) → (x < n → count P n < count Q n) → cond (P n) 1 0 + count P n < cond (Q n) 1 0 + count Q n
    go (yes e) ih = rw (e, p, q) (omega (arith, count_rises P Q x (λ k m. h k (omega arith))))
    go (no e) ih = omega (arith, ih (omega arith), count_each P Q n (h n (omega arith)))

-- all pass, or one fails
pub count_full : (P : ℕ → Bool) (n : ℕ) → count P n ≡ n → (k : ℕ) → k < n → P k ≡ true
unfolding weigh
count_full P zero h = λ k l. absurd (omega arith)
count_full P (suc n) h = go (P n) refl h (count_full P n)
  where
    go : (b : Bool) → P n ≡ b → cond b 1 0 + count P n ≡ suc n → (count P n ≡ n → (k : ℕ) → k < n → P k ≡ true) → (k : ℕ) → k < suc n → P k ≡ true
    go true e h ih = each_suc (λ k. P k ≡ true) n (ih (omega arith)) e
    go false e h ih = absurd (omega (arith, count_le P n))

pub count_some : (P : ℕ → Bool) (n : ℕ) → count P n < n → (k : ℕ) × (k < n) × (P k ≡ false)
unfolding weigh
count_some P zero h = absurd (omega arith)
count_some P (suc n) h = go (P n) refl h (count_some P n)
  where
    go : (b : Bool) → P n ≡ b → cond b 1 0 + count P n < suc n → (count P n < n → (k : ℕ) × (k < n) × (P k ≡ false)) → (k : ℕ) × (k < suc n) × (P k ≡ false)
    go true e h ih = let r = ih (omega arith) in (r.0, omega arith, r.2)
    go false e h ih = (n, omega arith, e)
