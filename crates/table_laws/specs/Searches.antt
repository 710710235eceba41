-- A search of the numbers below n that answers the first one that passes a test, where there is one: against the one scan
-- of the rules, and what std's `find` over a range gives. Assumes nothing.
use Rattle.std.specs.Prelude.{ℕ, zero, suc, ◌+◌, ◌≤◌, ◌<◌, ◌≡◌, ⊤, Bool, true, false, cond, ◌||◌, ltb, List, Option, None, Some, unwrap_or, is_some, MatchOption}
use Rattle.std.specs.declared.ops.Range.{Range}
use Rattle.std.specs.Fn.{CalledAt, Called}
use Rattle.std.specs.Iterator.{YieldsThen}
use Rattle.std.specs.List.{FoldsTo, list_any, range_with_len}
use Rattle.std.proofs.iter.Yields.{nat_range_steps}
use Prim.Native.Nat.compare
use denote.Ref.{Bor}
use denote.Param.Members.{Mut}
use Rattle.std.proofs.Common.{refl, sym, ap, ◌∙◌, arith, add-zero, lt-ltb}
use Rattle.std.proofs.Math.Decide.{dec_lt}
use Rattle.std.proofs.lemmas.Iterator.{first_from_Range, YieldsList-from_range}
use Rattle.std.proofs.lemmas.Iterator.Search.{any_from_yields_List}
use Rattle.rules.specs.Scan.{first, found}
use Rattle.table_laws.specs.Firsts.{FirstIs}
use Rattle.table_laws.specs.Scans.{first_none, first_at, found_at, found_none, found_same}

pub first_of : (test : ℕ → Bool) (n : ℕ) (r : Option ℕ) → FirstIs test n r → first test n ≡ unwrap_or r n
first_of test n None h = first_none test n h
first_of test n (Some i) h = first_at test n i h.2 h.1 h.0

pub found_of : (test : ℕ → Bool) (n : ℕ) (r : Option ℕ) → FirstIs test n r → found test n ≡ is_some r
found_of test n None h = found_none test n h
found_of test n (Some i) h = found_at test n i h.0 h.1

-- what `(start..end).find(asked)` answers, where nothing below the start passes and what is asked from there on is the test
pub find_from : {F : Type 0} {g : Mut F (Bor ℕ × Unit {0}) Bool} (s u : Range ℕ) (f : F) (r : Option ℕ) (test asked : ℕ → Bool)
    → (xs : List ℕ) × (j : F) × YieldsThen nat_range_steps s xs r u × FoldsTo (λ p x q. CalledAt g p x false q) f xs j × MatchOption r ⊤ (λ x. (h : F) × CalledAt g j x true h)
    → ((x : ℕ) (b : Bool) (q : F) → CalledAt g f x b q → (q ≡ f) × (b ≡ asked x))
    → ((k : ℕ) → k < s.start → test k ≡ false) → ((k : ℕ) → s.start ≤ k → k < s.end → test k ≡ asked k)
    → FirstIs test s.end r
find_from s u f r test asked ran computes below same =
    go r (first_from_Range s u f r (λ k. asked k ≡ true) (λ k. asked k ≡ false) ran (λ x q h. sym (computes x true q h).1) (λ x q h. ((computes x false q h).0, sym (computes x false q h).1)))
  where
    either : (m : ℕ) → m ≤ s.end → ((k : ℕ) → s.start ≤ k → k < m → asked k ≡ false) → (k : ℕ) → k < m → test k ≡ false
    either m few h k l = elim (dec_lt k s.start) [ yes a ↦ below k a | no a ↦ same k (omega arith) (omega arith) ∙ h k (omega arith) l ]

    go : (o : Option ℕ) → MatchOption o ((k : ℕ) → s.start ≤ k → k < s.end → asked k ≡ false) (λ i. (s.start ≤ i) × (i < s.end) × (asked i ≡ true) × ((k : ℕ) → s.start ≤ k → k < i → asked k ≡ false)) → FirstIs test s.end o
    go None h = either s.end (omega arith) h
    go (Some i) h = (h.1, same i h.0 h.1 ∙ h.2, either i (omega arith) h.3)

-- the same from 0 on
pub find_first : {F : Type 0} {g : Mut F (Bor ℕ × Unit {0}) Bool} (n : ℕ) (u : Range ℕ) (f : F) (r : Option ℕ) (test : ℕ → Bool)
    → (xs : List ℕ) × (j : F) × YieldsThen nat_range_steps (record { start = 0; end = n }) xs r u × FoldsTo (λ p x q. CalledAt g p x false q) f xs j × MatchOption r ⊤ (λ x. (h : F) × CalledAt g j x true h)
    → ((x : ℕ) (b : Bool) (q : F) → CalledAt g f x b q → (q ≡ f) × (b ≡ test x))
    → FirstIs test n r
find_first n u f r test ran computes =
    find_from (record { start = 0; end = n }) u f r test test ran computes (λ k l. absurd (omega arith)) (λ k a b. refl)

-- some number from a on passes, by the list of them
list_found : (test : ℕ → Bool) (a n : ℕ) → list_any test (range_with_len a n) ≡ found (λ k. test (a + k)) n
unfolding found first
list_found test a zero = refl
list_found test a (suc n) = go (list_found test (a + 1) n) (test a) refl
  where
    moved : found (λ k. test (a + 1 + k)) n ≡ found (λ k. test (a + suc k)) n
    moved = found_same (λ k. test (a + 1 + k)) (λ k. test (a + suc k)) n (λ k l. ap test (omega arith))

    go : list_any test (range_with_len (a + 1) n) ≡ found (λ k. test (a + 1 + k)) n → (b : Bool) → test a ≡ b
        → (b || list_any test (range_with_len (a + 1) n)) ≡ ltb (cond (test (a + 0)) zero (suc (first (λ k. test (a + suc k)) n))) (suc n)
    go h true e = rw (add-zero a, e) (sym (lt-ltb 0 (suc n) (omega arith)))
    go h false e = rw (add-zero a, e, compare.suc-suc) (h ∙ moved)

-- what `(0..n).any(test)` answers
pub any_found : {F : Type 0} {g : Mut F (ℕ × Unit {0}) Bool} (n : ℕ) (u : Range ℕ) (f : F) (r : Bool) (test : ℕ → Bool)
    → (xs : List ℕ) × (o : Option ℕ) × (j : F) × YieldsThen nat_range_steps (record { start = 0; end = n }) xs o u × FoldsTo (λ p x q. Called g p (x, tt) false q) f xs j × MatchOption o (r ≡ false) (λ x. (r ≡ true) × ((h : F) × Called g j (x, tt) true h))
    → ((x : ℕ) (b : Bool) (q : F) → Called g f (x, tt) b q → (q ≡ f) × (b ≡ test x))
    → r ≡ found test n
any_found n u f r test ran computes =
    any_from_yields_List test u f r ran (YieldsList-from_range 0 n n refl (omega arith)) computes
    ∙ list_found test 0 n
    ∙ found_same (λ k. test (0 + k)) test n (λ k l. ap test (omega arith))
