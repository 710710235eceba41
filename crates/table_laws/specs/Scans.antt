-- The laws of the one scan, of the largest, the least and the sum, each once. Assumes nothing.
use Rattle.std.specs.Prelude.{ℕ, zero, suc, ◌+◌, ◌*◌, ◌≤◌, ◌<◌, max, min, ◌≡◌, refl, ◌⊎◌, Bool, true, false, ◌&&◌, ◌||◌, ltb}
use Rattle.std.proofs.Common.{suc-le-suc, sym, ap, ◌∙◌, inl, inr, true≢false, arith, le_of_suc-le-suc, zero-lt-suc, add-zero, add-one, lt-ltb, le-ltb, ltb-true, ltb-false}
use Rattle.std.proofs.lemmas.Bool.{false≢true}
use Rattle.std.proofs.Math.Decide.{dec_lt}
use Rattle.rules.specs.Scan.{first, found, found_pair, largest, least, sum}
use Rattle.table_laws.specs.Count.{each_suc}

-- two tests at once
pub and_both : (a b : Bool) → (a && b) ≡ true → (a ≡ true) × (b ≡ true)
and_both true b e = (refl, e)
and_both false b e = absurd (false≢true e)

pub and_false : (b : Bool) → (b && false) ≡ false
and_false true = refl
and_false false = refl

-- nothing passes below n
pub first_none : (test : ℕ → Bool) (n : ℕ) → ((k : ℕ) → k < n → test k ≡ false) → first test n ≡ n
unfolding first
first_none test zero h = refl
first_none test (suc n) h = rw (h zero (zero-lt-suc n)) (ap suc (first_none (λ k. test (suc k)) n (λ k l. h (suc k) (suc-le-suc l))))

-- the first that passes is i
pub first_at : (test : ℕ → Bool) (n i : ℕ) → ((k : ℕ) → k < i → test k ≡ false) → test i ≡ true → i < n → first test n ≡ i
unfolding first
first_at test zero i h b l = absurd (omega arith)
first_at test (suc n) zero h b l = rw b refl
first_at test (suc n) (suc i) h b l =
    rw (h zero (zero-lt-suc i)) (ap suc (first_at (λ k. test (suc k)) n i (λ k m. h (suc k) (suc-le-suc m)) b (le_of_suc-le-suc l)))

-- none below n passes, or r is the first that does
pub data First (test : ℕ → Bool) (n r : ℕ) : Type 0 where
  none : r ≡ n → ((k : ℕ) → k < n → test k ≡ false) → First test n r
  some : r < n → test r ≡ true → ((k : ℕ) → k < r → test k ≡ false) → First test n r

-- a scan of one more
first_more : (test : ℕ → Bool) (n r : ℕ) → First test n r → (r' : ℕ) × First test (suc n) r'
first_more test n r (some l e h) = (r, some (omega arith) e h)
first_more test n r (none e h) = go (test n) refl
  where
    go : (b : Bool) → test n ≡ b → (r' : ℕ) × First test (suc n) r'
    go true f = (n, some (omega arith) f h)
    go false f = (suc n, none refl (each_suc (λ k. test k ≡ false) n h f))

scanned : (test : ℕ → Bool) (n : ℕ) → (r : ℕ) × First test n r
scanned test zero = (zero, none refl (λ k l. absurd (omega arith)))
scanned test (suc n) = let x = scanned test n in first_more test n x.0 x.1

pub first_is : (test : ℕ → Bool) (n : ℕ) → First test n (first test n)
first_is test n = let x = scanned test n in go x.0 x.1
  where
    go : (r : ℕ) → First test n r → First test n (first test n)
    go r (none e h) = none (first_none test n h) h
    go r (some l e h) = rw (first_at test n r h e l) (some l e h)

-- some index passes, or none does
pub found_at : (test : ℕ → Bool) (n i : ℕ) → i < n → test i ≡ true → found test n ≡ true
unfolding found
found_at test n i l e = go (first_is test n)
  where
    go : First test n (first test n) → ltb (first test n) n ≡ true
    go (some g f h) = lt-ltb (first test n) n g
    go (none f h) = absurd (true≢false (sym e ∙ h i l))

pub found_none : (test : ℕ → Bool) (n : ℕ) → ((k : ℕ) → k < n → test k ≡ false) → found test n ≡ false
unfolding found
found_none test n h = rw (first_none test n h) (le-ltb n n (omega arith))

pub found_first : (test : ℕ → Bool) (n : ℕ) → found test n ≡ true → (first test n < n) × (test (first test n) ≡ true)
unfolding found
found_first test n e = go (first_is test n)
  where
    go : First test n (first test n) → (first test n < n) × (test (first test n) ≡ true)
    go (some g f h) = (g, f)
    go (none f h) = absurd (omega (arith, ltb-true (first test n) n e))

pub found_not : (test : ℕ → Bool) (n : ℕ) → found test n ≡ false → (k : ℕ) → k < n → test k ≡ false
unfolding found
found_not test n e = go (first_is test n)
  where
    go : First test n (first test n) → (k : ℕ) → k < n → test k ≡ false
    go (some g f h) = absurd (omega (arith, ltb-false (first test n) n e))
    go (none f h) = h

-- one index more
pub found_suc : (test : ℕ → Bool) (n : ℕ) → found test (suc n) ≡ (found test n || test n)
found_suc test n = go (found test n) refl (test n) refl
  where
    go : (a : Bool) → found test n ≡ a → (b : Bool) → test n ≡ b → found test (suc n) ≡ (a || b)
    go true e b f = let x = found_first test n e in found_at test (suc n) (first test n) (omega (arith, x.0)) x.1
    go false e true f = found_at test (suc n) n (omega arith) f
    go false e false f = found_none test (suc n) (each_suc (λ k. test k ≡ false) n (found_not test n e) f)

-- two tests that agree below n
pub found_same : (test other : ℕ → Bool) (n : ℕ) → ((k : ℕ) → k < n → test k ≡ other k) → found test n ≡ found other n
found_same test other n h = go (found test n) refl
  where
    go : (a : Bool) → found test n ≡ a → found test n ≡ found other n
    go true e = let x = found_first test n e in e ∙ sym (found_at other n (first test n) x.0 (sym (h (first test n) x.0) ∙ x.1))
    go false e = e ∙ sym (found_none other n (λ k l. sym (h k l) ∙ found_not test n e k l))

pub pair_none : (test : ℕ → ℕ → Bool) (n : ℕ) → ((i j : ℕ) → i < n → j < n → test i j ≡ false) → found_pair test n ≡ false
unfolding found_pair
pair_none test n h = found_none (λ i. found (test i) n) n (λ i l. found_none (test i) n (λ j g. h i j l g))

pub pair_not : (test : ℕ → ℕ → Bool) (n : ℕ) → found_pair test n ≡ false → (i j : ℕ) → i < n → j < n → test i j ≡ false
unfolding found_pair
pair_not test n e i j h l = found_not (test i) n (found_not (λ i. found (test i) n) n e i h) j l

-- the largest
pub largest_ge : (f : ℕ → ℕ) (n k : ℕ) → k < n → f k ≤ largest f n
unfolding largest
largest_ge f zero k l = absurd (omega arith)
largest_ge f (suc n) k l = each_suc (λ k. f k ≤ max (largest f n) (f n)) n (λ k l. omega (arith, largest_ge f n k l)) (omega arith) k l

pub largest_le : (f : ℕ → ℕ) (n x : ℕ) → ((k : ℕ) → k < n → f k ≤ x) → largest f n ≤ x
unfolding largest
largest_le f zero x h = omega arith
largest_le f (suc n) x h = omega (arith, largest_le f n x (λ k l. h k (omega arith)), h n (omega arith))

-- it is reached, or there is none above 0
pub largest_at : (f : ℕ → ℕ) (n : ℕ) → (largest f n ≡ 0) ⊎ ((k : ℕ) × (k < n) × (f k ≡ largest f n))
unfolding largest
largest_at f zero = inl refl
largest_at f (suc n) = go (dec_lt (largest f n) (f n)) (largest_at f n)
  where
    go : Dec (largest f n < f n) → (largest f n ≡ 0) ⊎ ((k : ℕ) × (k < n) × (f k ≡ largest f n))
        → (max (largest f n) (f n) ≡ 0) ⊎ ((k : ℕ) × (k < suc n) × (f k ≡ max (largest f n) (f n)))
    go (yes l) h = inr (n, omega arith, omega arith)
    go (no l) (inl e) = inl (omega arith)
    go (no l) (inr (k, g, e)) = inr (k, omega arith, omega arith)

pub largest_same : (f g : ℕ → ℕ) (n : ℕ) → ((k : ℕ) → k < n → f k ≡ g k) → largest f n ≡ largest g n
unfolding largest
largest_same f g zero h = refl
largest_same f g (suc n) h = rw (largest_same f g n (λ k l. h k (omega arith)), h n (omega arith))

-- the least
pub least_le : (d : ℕ) (f : ℕ → ℕ) (n k : ℕ) → k < n → least d f n ≤ f k
unfolding least
least_le d f zero k l = absurd (omega arith)
least_le d f (suc n) k l = each_suc (λ k. min (least d f n) (f n) ≤ f k) n (λ k l. omega (arith, least_le d f n k l)) (omega arith) k l

pub least_start : (d : ℕ) (f : ℕ → ℕ) (n : ℕ) → least d f n ≤ d
unfolding least
least_start d f zero = omega arith
least_start d f (suc n) = omega (arith, least_start d f n)

pub least_ge : (d : ℕ) (f : ℕ → ℕ) (n x : ℕ) → x ≤ d → ((k : ℕ) → k < n → x ≤ f k) → x ≤ least d f n
unfolding least
least_ge d f zero x l h = l
least_ge d f (suc n) x l h = omega (arith, least_ge d f n x l (λ k g. h k (omega arith)), h n (omega arith))

pub least_same : (d : ℕ) (f g : ℕ → ℕ) (n : ℕ) → ((k : ℕ) → k < n → f k ≡ g k) → least d f n ≡ least d g n
unfolding least
least_same d f g zero h = refl
least_same d f g (suc n) h = rw (least_same d f g n (λ k l. h k (omega arith)), h n (omega arith))

-- it is reached, or no number is below the one given
pub least_at : (d : ℕ) (f : ℕ → ℕ) (n : ℕ) → (least d f n ≡ d) ⊎ ((i : ℕ) × (i < n) × (least d f n ≡ f i))
unfolding least
least_at d f zero = inl refl
least_at d f (suc n) = go (dec_lt (f n) (least d f n)) (least_at d f n)
  where
    go : Dec (f n < least d f n) → (least d f n ≡ d) ⊎ ((i : ℕ) × (i < n) × (least d f n ≡ f i))
        → (min (least d f n) (f n) ≡ d) ⊎ ((i : ℕ) × (i < suc n) × (min (least d f n) (f n) ≡ f i))
    go (yes l) h = inr (n, omega arith, omega arith)
    go (no l) (inl e) = inl (omega arith)
    go (no l) (inr (i, h, e)) = inr (i, omega arith, omega arith)

-- the sum
pub sum_ge : (f : ℕ → ℕ) (a k : ℕ) → ((i : ℕ) → i < k → a ≤ f i) → k * a ≤ sum f k
unfolding sum
sum_ge f a zero h = omega arith
sum_ge f a (suc k) h = omega (arith, sum_ge f a k (λ i l. h i (omega arith)), h k (omega arith))

pub sum_le : (f : ℕ → ℕ) (a k : ℕ) → ((i : ℕ) → i < k → f i ≤ a) → sum f k ≤ k * a
unfolding sum
sum_le f a zero h = omega arith
sum_le f a (suc k) h = omega (arith, sum_le f a k (λ i l. h i (omega arith)), h k (omega arith))

pub sum_same : (f g : ℕ → ℕ) (n : ℕ) → ((k : ℕ) → k < n → f k ≡ g k) → sum f n ≡ sum g n
unfolding sum
sum_same f g zero h = refl
sum_same f g (suc n) h = omega (arith, sum_same f g n (λ k l. h k (omega arith)), h n (omega arith))

-- the first apart from the rest
pub sum_front : (f : ℕ → ℕ) (n : ℕ) → sum f (suc n) ≡ f 0 + sum (λ i. f (suc i)) n
unfolding sum
sum_front f zero = omega arith
sum_front f (suc n) = omega (arith, sum_front f n)

-- ones among the first i alone add up to at most i; ones at each of the first i, to i at least
sum_all : (f : ℕ → ℕ) (m : ℕ) → ((j : ℕ) → f j ≤ 1) → sum f m ≤ m
unfolding sum
sum_all f zero one = omega arith
sum_all f (suc m) one = omega (arith, sum_all f m one, one m)

pub sum_few : (f : ℕ → ℕ) (i m : ℕ) → ((j : ℕ) → f j ≤ 1) → ((j : ℕ) → i ≤ j → j < m → f j ≡ 0) → sum f m ≤ i
unfolding sum
sum_few f i zero one rest = omega arith
sum_few f i (suc m) one rest = go (dec_lt m i) (sum_few f i m one (λ j h l. rest j h (omega arith)))
  where
    go : Dec (m < i) → sum f m ≤ i → sum f m + f m ≤ i
    go (yes l) ih = omega (arith, sum_all f m one, one m)
    go (no l) ih = omega (arith, rest m (omega arith) (omega arith))

sum_rises : (f : ℕ → ℕ) (i m : ℕ) → i ≤ m → sum f i ≤ sum f m
unfolding sum
sum_rises f i zero l = let e : i ≡ 0 = omega arith in rw e (omega arith)
sum_rises f i (suc m) l = go (dec_lt m i) (λ h. sum_rises f i m h)
  where
    go : Dec (m < i) → (i ≤ m → sum f i ≤ sum f m) → sum f i ≤ sum f m + f m
    go (yes h) ih = let e : i ≡ suc m = omega arith in rw e (omega arith)
    go (no h) ih = omega (arith, ih (omega arith))

pub sum_ones : (f : ℕ → ℕ) (i : ℕ) → ((j : ℕ) → j < i → f j ≡ 1) → sum f i ≡ i
unfolding sum
sum_ones f zero h = refl
sum_ones f (suc i) h = omega (arith, sum_ones f i (λ j l. h j (omega arith)), h i (omega arith))

pub sum_many : (f : ℕ → ℕ) (i m : ℕ) → i ≤ m → ((j : ℕ) → j < i → f j ≡ 1) → i ≤ sum f m
sum_many f i m l h = omega (arith, sum_rises f i m l, sum_ones f i h)

-- for the code: one index more
pub sum_suc : (f : ℕ → ℕ) (k : ℕ) → sum f (k + 1) ≡ sum f k + f k
unfolding sum
sum_suc f k = rw (add-one k)

pub sum_next : (f : ℕ → ℕ) (n r v : ℕ) → r ≡ sum f n → v ≡ f n → r + v ≡ sum f (suc n)
unfolding sum
sum_next f n r v e g = rw (e, g)

-- f added up from j on
unfoldable pub sum_from : ℕ → ℕ → (ℕ → ℕ) → ℕ
sum_from zero j f = 0
sum_from (suc r) j f = f j + sum_from r (suc j) f

pub sum_from_lem : (f : ℕ → ℕ) (r j : ℕ) → sum f (j + r) ≡ sum f j + sum_from r j f
unfolding sum_from sum
sum_from_lem f zero j = omega (arith, ap (sum f) (add-zero j))
sum_from_lem f (suc r) j = let e : j + suc r ≡ suc j + r = omega arith in rw e (omega (arith, sum_from_lem f r (suc j)))
