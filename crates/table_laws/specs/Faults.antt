-- The laws of tests and of tests in their order. For a definition: what a chain that finds no fault says of
-- each test. For code: what a function that tests has to show. Assumes nothing.
use Rattle.std.specs.Prelude.{ℕ, ◌≤◌, ◌<◌, ◌≡◌, refl, ◌≢◌, ◌⊎◌, Bool, true, false, cond, not, List, length, eqb}
use Rattle.std.proofs.Common.{sym, ap, ◌∙◌, inl, inr, arith, eq-eqb, ne_eqb, eqb-true, lt-ltb, le-ltb}
use Rattle.std.proofs.lemmas.Bool.{eqb-false}
use Rattle.rules.specs.declared.Fault.{Fault}
use Rattle.rules.specs.Tables.{cell, Lent}
use Rattle.rules.specs.Scan.{first, found, first_row, found_pair}
use Rattle.rules.specs.Numbers.{fault, no_fault, refuse_if, ◌or_else◌, scan, square, count_fault, size_fault, network_fault, network_sizes, lent_fault}
use Rattle.table_laws.specs.Scans.{first_at, found_at, found_none, found_not, pair_none, pair_not}

-- a fault where a test says so, and else none: what its number says of the test
told_clear : (bad : Bool) (f : Fault) → 0 < f.number → (cond bad f no_fault).number ≡ 0 → bad ≡ false
told_clear true f p z = absurd (omega arith)
told_clear false f p z = refl

never_told : (bad : Bool) (f : Fault) (x : ℕ) → (x ≢ f.number) → (cond bad f no_fault).number ≡ x → x ≡ 0
never_told true f x h e = absurd (h (sym e))
never_told false f x h e = sym e

-- one test
pub refuse_bad : (bad : Bool) (m k : ℕ) → bad ≡ true → refuse_if bad m k ≡ fault m k
unfolding refuse_if
refuse_bad bad m k e = rw e

pub refuse_not : (bad : Bool) (m k : ℕ) → bad ≡ false → refuse_if bad m k ≡ no_fault
unfolding refuse_if
refuse_not bad m k e = rw e

pub refuse_clear : (bad : Bool) (m k : ℕ) → 0 < m → (refuse_if bad m k).number ≡ 0 → bad ≡ false
unfolding refuse_if
refuse_clear bad m k p z = told_clear bad (fault m k) p z

-- two tests in their order
pub or_first : (a b : Fault) → a.number ≢ 0 → a or_else b ≡ a
unfolding ◌or_else◌
or_first a b h = rw (ne_eqb a.number 0 h)

pub or_second : (a b : Fault) → a.number ≡ 0 → a or_else b ≡ b
unfolding ◌or_else◌
or_second a b h = rw (eq-eqb a.number 0 h)

pub or_clear : (a b : Fault) → (a or_else b).number ≡ 0 → (a.number ≡ 0) × (b.number ≡ 0)
unfolding ◌or_else◌
or_clear a b = go (eqb a.number 0) refl
  where
    go : (t : Bool) → eqb a.number 0 ≡ t → (cond t b a).number ≡ 0 → (a.number ≡ 0) × (b.number ≡ 0)
    go true e z = (eqb-true a.number 0 e, z)
    go false e z = absurd (eqb-false a.number 0 e z)

pub or_none : (a b : Fault) → a.number ≡ 0 → b.number ≡ 0 → (a or_else b).number ≡ 0
or_none a b e f = rw (or_second a b e) f

pub or_assoc : (a b c : Fault) → ((a or_else b) or_else c) ≡ (a or_else (b or_else c))
unfolding ◌or_else◌
or_assoc a b c = go (eqb a.number 0) refl
  where
    go : (t : Bool) → eqb a.number 0 ≡ t → cond (eqb (cond t b a).number 0) c (cond t b a) ≡ cond t (cond (eqb b.number 0) c b) a
    go true e = refl
    go false e = rw e

-- a chain of tests: f is what the first test answered; it is the answer, or the chain goes on
pub or_stop : (b : Fault) {a f : Fault} → f ≡ a → f.number ≢ 0 → f ≡ (a or_else b)
or_stop b {a} {f} e h = e ∙ sym (or_first a b (λ z. h (ap (λ (x : Fault). x.number) e ∙ z)))

pub or_on : (b : Fault) {a f r : Fault} → f ≡ a → f.number ≡ 0 → r ≡ b → r ≡ (a or_else b)
or_on b {a} {f} {r} e z h = h ∙ sym (or_second a b (sym (ap (λ (x : Fault). x.number) e) ∙ z))

-- a scan: nothing is bad, the first bad index is i, and what an accepted table says
pub scan_none : (m : ℕ) (bad : ℕ → Bool) (n : ℕ) → ((k : ℕ) → k < n → bad k ≡ false) → scan m bad n ≡ no_fault
unfolding scan
scan_none m bad n h = refuse_not (found bad n) m (first bad n) (found_none bad n h)

pub scan_at : (m : ℕ) (bad : ℕ → Bool) (n i : ℕ) → ((k : ℕ) → k < i → bad k ≡ false) → bad i ≡ true → i < n → scan m bad n ≡ fault m i
unfolding scan
scan_at m bad n i h b l = rw (first_at bad n i h b l) (refuse_bad (found bad n) m i (found_at bad n i l b))

pub scan_clear : (m : ℕ) (bad : ℕ → Bool) (n : ℕ) → 0 < m → (scan m bad n).number ≡ 0 → (k : ℕ) → k < n → bad k ≡ false
unfolding scan
scan_clear m bad n p z = found_not bad n (refuse_clear (found bad n) m (first bad n) p z)

-- a scan of the square. A search of row i answers j, the first bad cell, or n
pub square_none : (m : ℕ) (bad : ℕ → ℕ → Bool) (lack : ℕ → ℕ → ℕ) (n : ℕ) → ((i j : ℕ) → i < n → j < n → bad i j ≡ false)
    → square m bad lack n ≡ no_fault
unfolding square
square_none m bad lack n h = rw (pair_none bad n h)

pub square_clear : (m : ℕ) (bad : ℕ → ℕ → Bool) (lack : ℕ → ℕ → ℕ) (n : ℕ) → 0 < m → (square m bad lack n).number ≡ 0
    → (i j : ℕ) → i < n → j < n → bad i j ≡ false
unfolding square
square_clear m bad lack n p z = pair_not bad n (told_clear (found_pair bad n) _ p z)

pub row_hit : (bad : ℕ → ℕ → Bool) (n i j : ℕ) → j ≡ first (bad i) n → j < n → found (bad i) n ≡ true
unfolding found
row_hit bad n i j e l = lt-ltb (first (bad i) n) n (omega arith)

pub row_miss : (bad : ℕ → ℕ → Bool) (n i j : ℕ) → j ≡ first (bad i) n → n ≤ j → found (bad i) n ≡ false
unfolding found
row_miss bad n i j e l = le-ltb (first (bad i) n) n (omega arith)

pub square_rows : (m : ℕ) (bad : ℕ → ℕ → Bool) (lack : ℕ → ℕ → ℕ) (n : ℕ) → ((k : ℕ) → k < n → found (bad k) n ≡ false)
    → square m bad lack n ≡ no_fault
square_rows m bad lack n h = square_none m bad lack n (λ i j l g. found_not (bad i) n (h i l) j g)

pub square_hit : (m : ℕ) (bad : ℕ → ℕ → Bool) (lack : ℕ → ℕ → ℕ) (n i j : ℕ) → ((k : ℕ) → k < i → found (bad k) n ≡ false)
    → j ≡ first (bad i) n → j < n → i < n → record { number = m; place = cell i j; short = lack i j } ≡ square m bad lack n
unfolding square first_row found_pair
square_hit m bad lack n i j h e l g =
    let hit = row_hit bad n i j e l in
    let row = first_at (λ i. found (bad i) n) n i h hit g in
    let some = found_at (λ i. found (bad i) n) n i g hit in
    rw (row, ← e, some)

-- 2
pub size_good : (table : List ℕ) (size : ℕ) → length table ≡ size → no_fault ≡ size_fault table size
unfolding size_fault
size_good table size e = rw (eq-eqb (length table) size e) (sym (refuse_not false 2 0 refl))

pub size_clear : (table : List ℕ) (size : ℕ) → (size_fault table size).number ≡ 0 → length table ≡ size
unfolding size_fault
size_clear table size z = go (eqb (length table) size) refl z
  where
    go : (b : Bool) → eqb (length table) size ≡ b → (refuse_if (not b) 2 0).number ≡ 0 → length table ≡ size
    go true e z = eqb-true (length table) size e
    go false e z = absurd (omega (arith, ap (λ (x : Fault). x.number) (refuse_bad true 2 0 refl)))

-- which numbers a test answers: a chain past tests that never answer x
pub never_refuse : (bad : Bool) (m k x : ℕ) → (x ≢ m) → (refuse_if bad m k).number ≡ x → x ≡ 0
unfolding refuse_if
never_refuse bad m k x h = never_told bad (fault m k) x h

never_square : (m : ℕ) (bad : ℕ → ℕ → Bool) (lack : ℕ → ℕ → ℕ) (n x : ℕ) → (x ≢ m) → (square m bad lack n).number ≡ x → x ≡ 0
unfolding square
never_square m bad lack n x h = never_told (found_pair bad n) _ x h

pub or_past : (a b : Fault) (x : ℕ) → (a.number ≡ x → x ≡ 0) → (a or_else b).number ≡ x → (a.number ≡ 0) × (b.number ≡ x)
unfolding ◌or_else◌
or_past a b x h = go (eqb a.number 0) refl
  where
    go : (t : Bool) → eqb a.number 0 ≡ t → (cond t b a).number ≡ x → (a.number ≡ 0) × (b.number ≡ x)
    go true e z = (eqb-true a.number 0 e, z)
    go false e z = absurd (eqb-false a.number 0 e (z ∙ h z))

pub never_or : (a b : Fault) (x : ℕ) → (a.number ≡ x → x ≡ 0) → (b.number ≡ x → x ≡ 0) → (a or_else b).number ≡ x → x ≡ 0
never_or a b x f g z = g (or_past a b x f z).1

pub never_size : (table : List ℕ) (size x : ℕ) → (x ≢ 2) → (size_fault table size).number ≡ x → x ≡ 0
unfolding size_fault
never_size table size x h = never_refuse _ 2 0 x h

pub never_sizes : (lent : Lent) (x : ℕ) → (x ≢ 2) → (network_sizes lent).number ≡ x → x ≡ 0
unfolding network_sizes
never_sizes lent x h = never_or _ _ x (never_size lent.widths 128 x h) (never_size lent.guards 16384 x h)

pub never_network : (n : ℕ) (lent : Lent) (x : ℕ) → (x ≡ 0) ⊎ (6 ≤ x) → (network_fault n lent).number ≡ x → x ≡ 0
unfolding network_fault count_fault scan
never_network n lent x (inl e) = λ z. e
never_network n lent x (inr l) =
    never_or _ _ x (never_refuse _ 1 0 x (λ e. omega arith)) (never_or _ _ x (never_refuse _ 3 _ x (λ e. omega arith))
    (never_or _ _ x (never_square 4 _ _ n x (λ e. omega arith)) (never_square 5 _ _ n x (λ e. omega arith))))

pub never_lent : (n : ℕ) (lent : Lent) (sizes : Fault) (x : ℕ) → (sizes.number ≡ x → x ≡ 0) → (x ≡ 0) ⊎ (6 ≤ x) → (lent_fault n lent sizes).number ≡ x → x ≡ 0
unfolding lent_fault
never_lent n lent sizes x s h = never_or _ _ x (never_sizes lent x (two h)) (never_or _ _ x s (never_network n lent x h))
  where
    two : (x ≡ 0) ⊎ (6 ≤ x) → x ≢ 2
    two (inl e) f = omega arith
    two (inr l) f = omega arith
