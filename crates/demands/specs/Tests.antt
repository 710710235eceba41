-- Tests in their order: the one law by which a chain of tests gives what the words of RULES 17 and 18 give.
-- Assumes nothing.
use Rattle.std.specs.Prelude.{ℕ, ◌≤◌, ◌<◌, ◌≡◌, refl, ◌⊎◌, ◌↔◌, Bool, true, false, cond, List, [], ◌∷◌, ◌++◌, eqb}
use Rattle.std.proofs.Common.{sym, ap, subst, ◌∙◌, inl, inr, arith, eqb-true}
use Rattle.std.proofs.Math.Decide.{dec_lt}
use Rattle.rules.specs.declared.Fault.{Fault}
use Rattle.rules.specs.Tables.{cell}
use Rattle.rules.specs.Scan.{first, found}
use Rattle.rules.specs.Numbers.{fault, no_fault, refuse_if, ◌or_else◌, scan, square}
use Rattle.rules.specs.Calls.{unless}
use Rattle.rules.specs.Refusing.{Test, Nowhere, Refusal, Gives, once, each, cells}
use Rattle.table_laws.specs.Scans.{First, none, some, first_is, found_first, found_not}
use Rattle.table_laws.specs.Faults.{or_first, or_second, scan_none, scan_at, square_rows, square_hit}
use Rattle.table_laws.specs.Limits.{clear_of}

abbrev pub told : ℕ → ℕ → ℕ → Fault
told number place short = record { number = number; place = place; short = short }

fault_same : (f g : Fault) → f.number ≡ g.number → f.place ≡ g.place → f.short ≡ g.short → f ≡ g
fault_same f g a b c =
    ap (λ (m : ℕ). told m f.place f.short) a ∙ ap (λ (p : ℕ). told g.number p f.short) b ∙ ap (λ (s : ℕ). told g.number g.place s) c

-- a test and its words: it is true exactly where they hold
pub record Tells (P : Type 0) (test : Bool) : Type 0 where
  pub holds : test ≡ true → P
  pub fails : test ≡ false → P → ⊥

-- one test of a whole
pub refuse_gives : (m : ℕ) (P : Type 0) (bad : Bool) → 0 < m → Tells P bad → Gives (once m P ∷ []) (refuse_if bad m 0)
unfolding Gives refuse_if
refuse_gives m P true pos t = inl (record { some = pos; number = refl; bad = (refl, t.holds refl); first = λ p l b. omega arith; short = refl; only = λ s e. e })
refuse_gives m P false pos t = inr (λ p b. t.fails refl b.1, refl)

-- of each index
pub scan_gives : (m n : ℕ) (P : ℕ → Type 0) (bad : ℕ → Bool) → 0 < m → ((k : ℕ) → k < n → Tells (P k) (bad k)) → Gives (each m n P ∷ []) (scan m bad n)
unfolding Gives
scan_gives m n P bad pos t = go (first bad n) (first_is bad n)
  where
    go : (r : ℕ) → First bad n r → Refusal (each m n P) (scan m bad n) ⊎ (Nowhere (each m n P) × (scan m bad n ≡ no_fault))
    go r (none e h) = inr (λ p b. (t p b.0).fails (h p b.0) b.1, scan_none m bad n h)
    go r (some l e h) =
        rw (scan_at m bad n r h e l)
        (inl (record { some = pos; number = refl; bad = (l, (t r l).holds e); first = λ p g b. (t p b.0).fails (h p g) b.1; short = refl; only = λ s e. e }))

-- a scan of the square has found no bad cell, or the first one, which is in the first row that has one
pub data Squared (m : ℕ) (bad : ℕ → ℕ → Bool) (lack : ℕ → ℕ → ℕ) (n : ℕ) : Type 0 where
  all_right : ((i j : ℕ) → i < n → j < n → bad i j ≡ false) → square m bad lack n ≡ no_fault → Squared m bad lack n
  first_bad : (i j : ℕ) → i < n → j < n → bad i j ≡ true → ((r c : ℕ) → r < i → c < n → bad r c ≡ false) → ((c : ℕ) → c < j → bad i c ≡ false)
      → square m bad lack n ≡ told m (cell i j) (lack i j) → Squared m bad lack n

pub squared : (m : ℕ) (bad : ℕ → ℕ → Bool) (lack : ℕ → ℕ → ℕ) (n : ℕ) → Squared m bad lack n
squared m bad lack n = go (first (λ i. found (bad i) n) n) (first_is (λ i. found (bad i) n) n)
  where
    go : (r : ℕ) → First (λ i. found (bad i) n) n r → Squared m bad lack n
    go r (none e h) = all_right (λ i j l g. found_not (bad i) n (h i l) j g) (square_rows m bad lack n h)
    go r (some l e h) = row (first (bad r) n) (first_is (bad r) n) refl
      where
        row : (c : ℕ) → First (bad r) n c → c ≡ first (bad r) n → Squared m bad lack n
        row c (none f g) q = absurd (omega (arith, (found_first (bad r) n e).0))
        row c (some g f k) q = first_bad r c l g f (λ i j x y. found_not (bad i) n (h i x) j y) k (sym (square_hit m bad lack n r c h q g l))

-- of each cell of the square; what the answer says of the cell is so, and nothing else is
pub square_gives : (m n : ℕ) (P Short : ℕ → ℕ → Type 0) (bad : ℕ → ℕ → Bool) (lack : ℕ → ℕ → ℕ) → 0 < m → n ≤ 128
    → ((i j : ℕ) → i < n → j < n → Tells (P i j) (bad i j))
    → ((i j : ℕ) → i < n → j < n → bad i j ≡ true → Short (cell i j) (lack i j) × ((s : ℕ) → Short (cell i j) s → s ≡ lack i j))
    → Gives (cells m n P Short ∷ []) (square m bad lack n)
unfolding Gives
square_gives m n P Short bad lack pos few t says = go (squared m bad lack n)
  where
    go : Squared m bad lack n → Refusal (cells m n P Short) (square m bad lack n) ⊎ (Nowhere (cells m n P Short) × (square m bad lack n ≡ no_fault))
    go (all_right h e) = inr (λ p b. (t b.0 b.1 b.2 b.3).fails (h b.0 b.1 b.2 b.3) b.5, e)
    go (first_bad i j l g f rows row e) =
        rw e
        (inl (record {
          some = pos;
          number = refl;
          bad = (i, j, l, g, refl, (t i j l g).holds f);
          first = λ p x b. (t b.0 b.1 b.2 b.3).fails (before b.0 b.1 b.3 (omega (arith, b.4)) (dec_lt b.0 i)) b.5;
          short = (says i j l g f).0;
          only = (says i j l g f).1;
        }))
      where
        before : (r c : ℕ) → c < n → cell r c < cell i j → Dec (r < i) → bad r c ≡ false
        before r c y x (yes z) = rows r c z y
        before r c y x (no z) = let s : r ≡ i = omega arith in rw s (row c (omega arith))

-- no test
pub gives_done : Gives [] no_fault
unfolding Gives
gives_done = refl

-- one test after another: the second is asked where the first found nothing
pub gives_append : (ts us : List Test) (f g : Fault) → Gives ts f → (f.number ≡ 0 → Gives us g) → Gives (ts ++ us) (f or_else g)
unfolding Gives
gives_append [] us f g e k = rw (or_second f g (clear_of e)) (k (clear_of e))
gives_append (t ∷ ts) us f g (inl r) k = inl (rw (or_first f g (λ z. omega (arith, r.some))) r)
gives_append (t ∷ ts) us f g (inr (n, r)) k = inr (n, gives_append ts us f g r k)

-- there is one answer
pub gives_one : (ts : List Test) (f g : Fault) → Gives ts f → Gives ts g → f ≡ g
unfolding Gives
gives_one [] f g a b = a ∙ sym b
gives_one (t ∷ ts) f g (inl a) (inl b) = fault_same f g (a.number ∙ sym b.number) place (sym (a.only g.short (rw place b.short)))
  where
    go : Dec (f.place < g.place) → Dec (g.place < f.place) → f.place ≡ g.place
    go (yes x) d = absurd (b.first f.place x a.bad)
    go (no x) (yes y) = absurd (a.first g.place y b.bad)
    go (no x) (no y) = omega arith

    place : f.place ≡ g.place
    place = go (dec_lt f.place g.place) (dec_lt g.place f.place)
gives_one (t ∷ ts) f g (inl a) (inr (n, b)) = absurd (n f.place a.bad)
gives_one (t ∷ ts) f g (inr (n, a)) (inl b) = absurd (n g.place b.bad)
gives_one (t ∷ ts) f g (inr (n, a)) (inr (m, b)) = gives_one ts f g a b

-- so what tests give is given by nothing else
pub gives_exact : (ts : List Test) (f g : Fault) → Gives ts f → Gives ts g ↔ (g ≡ f)
gives_exact ts f g h = (λ k. gives_one ts g f k h, λ e. subst (Gives ts) (sym e) h)

-- 0 is given exactly where no test finds anything at fault; its place is 0
abbrev pub Faultless : List Test → Type 0
Faultless [] = Unit {0}
Faultless (t ∷ ts) = Nowhere t × Faultless ts

pub gives_zero : (ts : List Test) (f : Fault) → Gives ts f → (f.number ≡ 0) ↔ Faultless ts
unfolding Gives
gives_zero [] f e = (λ z. tt, λ c. clear_of e)
gives_zero (t ∷ ts) f (inl r) = (λ z. absurd (omega (arith, r.some)), λ c. absurd (c.0 f.place r.bad))
gives_zero (t ∷ ts) f (inr (n, r)) = (λ z. (n, (gives_zero ts f r).0 z), λ c. (gives_zero ts f r).1 c.1)

pub gives_none : (ts : List Test) (f : Fault) → Gives ts f → f.number ≡ 0 → f ≡ no_fault
unfolding Gives
gives_none [] f e z = e
gives_none (t ∷ ts) f (inl r) z = absurd (omega (arith, r.some))
gives_none (t ∷ ts) f (inr (n, r)) z = gives_none ts f r z

-- where none of the tests says a number of slots, the answer says none
abbrev pub Silent : List Test → Type 0
Silent [] = Unit {0}
Silent (t ∷ ts) = ((p s : ℕ) → t.Short p s → s ≡ 0) × Silent ts

pub silent_append : (ts us : List Test) → Silent ts → Silent us → Silent (ts ++ us)
silent_append [] us a b = b
silent_append (t ∷ ts) us a b = (a.0, silent_append ts us a.1 b)

pub silent_short : (ts : List Test) (f : Fault) → Silent ts → Gives ts f → f.short ≡ 0
unfolding Gives
silent_short [] f h e = ap (λ (x : Fault). x.short) e
silent_short (t ∷ ts) f h (inl r) = h.0 f.place f.short r.short
silent_short (t ∷ ts) f h (inr (n, r)) = silent_short ts f h.1 r

-- past tests that say none
pub silent_rest : (ts us : List Test) (f : Fault) → Silent ts → Gives (ts ++ us) f → (f.short ≡ 0) ⊎ Gives us f
unfolding Gives
silent_rest [] us f h g = inr g
silent_rest (t ∷ ts) us f h (inl r) = inl (h.0 f.place f.short r.short)
silent_rest (t ∷ ts) us f h (inr (n, r)) = silent_rest ts us f h.1 r

-- the answer of a call that refuses where its tests find a fault and else is done
pub unless_gives : {A : Type 0} (number place short : A → ℕ) (ts : List Test) (f : Fault) (refused : Fault → A) (result : A)
    → number (refused f) ≡ f.number → place (refused f) ≡ f.place → short (refused f) ≡ f.short
    → number result ≡ 0 → place result ≡ 0 → short result ≡ 0 → Gives ts f
    → Gives ts (told (number (unless f refused result)) (place (unless f refused result)) (short (unless f refused result)))
unfolding unless
unless_gives number place short ts f refused result a b c x y z h = go (eqb f.number 0) refl
  where
    go : (t : Bool) → eqb f.number 0 ≡ t → Gives ts (told (number (cond t result (refused f))) (place (cond t result (refused f))) (short (cond t result (refused f))))
    go true e = rw (x, y, z) (subst (Gives ts) (gives_none ts f h (eqb-true f.number 0 e)) h)
    go false e = rw (a, b, c) h

-- and of one that has no third number, none of its tests saying one
pub silent_gives : {A : Type 0} (number place : A → ℕ) (ts : List Test) (f : Fault) (refused : Fault → A) (result : A)
    → number (refused f) ≡ f.number → place (refused f) ≡ f.place → number result ≡ 0 → place result ≡ 0 → Silent ts → Gives ts f
    → Gives ts (fault (number (unless f refused result)) (place (unless f refused result)))
silent_gives number place ts f refused result a b x y h g =
    unless_gives number place (λ r. 0) ts f refused result a b (sym (silent_short ts f h g)) x y refl g
