-- The longest sheet (RULES 13): none that is written has more than 45,489 bytes, so a text of that size is
-- always enough. Assumes nothing.
use Prim.Native.Nat.{ℕ, zero, suc, ◌+◌, ◌*◌, ◌/◌, ◌≤◌, ◌<◌}
use Rattle.std.specs.Prelude.{◌≡◌, ◌⊎◌, Bool, true, false, length}
use Rattle.std.proofs.Math.Path.{refl}
use Rattle.std.proofs.Common.{sym, ap, ◌∙◌, inl, inr, eq-eqb, zero-add}
use Rattle.std.proofs.Math.Bool.{cond}
use mathlib.Core.List.{List, [], ◌++◌}
use Rattle.std.proofs.Math.ListN.{length-append}
use Rattle.std.proofs.Math.Decide.{dec_lt}
use native.Mathlib.Omega.{arith}
use Rattle.rules.specs.Tables.{at, cell, Lent}
use Rattle.rules.specs.Scan.{sum}
use Rattle.rules.specs.Text.{paths_word, guards_word, starts_word, numeral}
use Rattle.rules.specs.Writing.{is_pair, pairs, has_plan, join_from, count_text, path_text, guard_text, paths_text, guards_text, starts_text, sheet_text}
use Rattle.rules.specs.Numbers.{write_fault}
use Rattle.rules.specs.Calls.{unless, writing}
use Rattle.table_laws.specs.Scans.{sum_from, sum_from_lem}
use Rattle.sheet_laws.specs.Writes.{label_short, digits_one, digits_more, digits_few, count_length, path_length, pair_length, guard_none, guard_some, pair_order}
use Rattle.demands.specs.Writable.{Writable, writing_writable, writable_writing, clear_write}
use Rattle.table_laws.specs.Scans.{sum_from, sum_from_lem}

-- digits of small numbers
pub two_digits : (v : ℕ) → v < 100 → length (numeral v) ≤ 2
two_digits v b = go (dec_lt v 10)
  where
    go : Dec (v < 10) → length (numeral v) ≤ 2
    go (yes l) = omega (arith, digits_one v l)
    go (no l) = omega (arith, digits_more v (omega arith) (omega arith), digits_one (v / 10) (omega arith))

pub three_digits : (v : ℕ) → v < 1000 → length (numeral v) ≤ 3
three_digits v b = go (dec_lt v 10)
  where
    go : Dec (v < 10) → length (numeral v) ≤ 3
    go (yes l) = omega (arith, digits_one v l)
    go (no l) = omega (arith, digits_more v (omega arith) (omega arith), two_digits (v / 10) (omega arith))

pub four_digits : (v : ℕ) → v < 10000 → length (numeral v) ≤ 4
four_digits v b = go (dec_lt v 10)
  where
    go : Dec (v < 10) → length (numeral v) ≤ 4
    go (yes l) = omega (arith, digits_one v l)
    go (no l) = omega (arith, digits_more v (omega arith) (omega arith), three_digits (v / 10) (omega arith))

-- lines of at most b bytes each; texts of at most b bytes for each mark
pub join_most : (b m k : ℕ) (f : ℕ → List ℕ) → ((i : ℕ) → i < k + m → length (f i) ≤ b) → length (join_from m k f) ≤ m * b
unfolding join_from
join_most b zero k f h = omega arith
join_most b (suc m) k f h = omega (arith, length-append (f k) (join_from m (suc k) f), h k (omega arith), join_most b m (suc k) f (λ i l. h i (omega arith)))

join_marks : (b r j : ℕ) (f : ℕ → List ℕ) (g : ℕ → ℕ) → ((i : ℕ) → i < j + r → length (f i) ≤ b * g i) → length (join_from r j f) ≤ b * sum_from r j g
unfolding join_from sum_from
join_marks b zero j f g h = omega arith
join_marks b (suc r) j f g h = omega (arith, length-append (f j) (join_from r (suc j) f), h j (omega arith), join_marks b r (suc j) f g (λ i l. h i (omega arith)))

marks_sum : (b n : ℕ) (f : ℕ → List ℕ) (g : ℕ → ℕ) → ((i : ℕ) → i < n → length (f i) ≤ b * g i) → length (join_from n 0 f) ≤ b * sum g n
unfolding sum
marks_sum b n f g h =
    let e : sum g n ≡ sum_from n 0 g = ap (sum g) (sym (zero-add n)) ∙ sum_from_lem g n 0 ∙ zero-add (sum_from n 0 g) in
    omega (arith, ap (λ (x : ℕ). b * x) e, join_marks b n 0 f g (λ i l. h i (omega arith)))

module _ (n : ℕ) (labels : List ℕ) (lent : Lent) (starts : List ℕ) (ok : Writable n labels lent starts) where
  guard_most : (i j : ℕ) → i < n → j < n → length (guard_text labels lent.guards i j) ≤ 21 * cond (is_pair lent.guards i j) 1 0
  guard_most i j x y = go (is_pair lent.guards i j) refl (ok.network.guard i j x y)
    where
      go : (b : Bool) → is_pair lent.guards i j ≡ b → (at lent.guards (cell i j) ≤ 32) ⊎ (at lent.guards (cell i j) ≡ 255) → length (guard_text labels lent.guards i j) ≤ 21 * cond b 1 0
      go false e k = omega (arith, ap length (guard_none labels lent.guards i j e))
      go true e (inr k) = absurd (omega (arith, (pair_order lent.guards i j e).1))
      go true e (inl k) =
          omega (arith, ap length (guard_some labels lent.guards i j e), pair_length labels lent.guards i j, label_short labels i, label_short labels j, two_digits (at lent.guards (cell i j)) (omega arith))

  guards_most : length (join_from n 0 (λ i. join_from n 0 (guard_text labels lent.guards i))) ≤ 21 * pairs n lent.guards
  unfolding pairs
  guards_most =
      marks_sum 21 n (λ i. join_from n 0 (guard_text labels lent.guards i)) (λ i. sum (λ j. cond (is_pair lent.guards i j) 1 0) n)
      (λ i x. marks_sum 21 n (guard_text labels lent.guards i) (λ j. cond (is_pair lent.guards i j) 1 0) (λ j y. guard_most i j x y))

  paths_most : length (join_from n 0 (path_text labels lent.widths)) ≤ n * 12
  paths_most =
      join_most 12 n 0 (path_text labels lent.widths)
      (λ k l. let x : k < n = omega arith in omega (arith, path_length labels lent.widths k, label_short labels k, two_digits (at lent.widths k) (omega (arith, (ok.network.width k x).1))))

  starts_most : length (starts_text n labels starts) ≤ n * 15 + 11
  unfolding starts_text
  starts_most = go (has_plan n starts) refl
    where
      J : List ℕ
      J = join_from n 0 (path_text labels starts)

      go : (b : Bool) → has_plan n starts ≡ b → length (cond b (count_text starts_word n ++ J) []) ≤ n * 15 + 11
      go false e = omega arith
      go true e =
          let few = ok.network.few in
          let most = join_most 15 n 0 (path_text labels starts) (λ k l. let x : k < n = omega arith in omega (arith, path_length labels starts k, label_short labels k, digits_few (at starts k) (omega (arith, (ok.planned e k x).1)))) in
          omega (arith, length-append (count_text starts_word n) J, count_length starts_word n, three_digits n (omega arith))

  pub sheet_most : length (sheet_text n labels lent starts) ≤ 45489
  unfolding sheet_text paths_text guards_text
  sheet_most =
      let few = ok.network.few in
      let many = ok.not_many in
      let P = join_from n 0 (path_text labels lent.widths) in
      let G = join_from n 0 (λ i. join_from n 0 (guard_text labels lent.guards i)) in
      let S = starts_text n labels starts in
      let A = count_text paths_word n in
      let D = count_text guards_word (pairs n lent.guards) in
      omega (
        arith,
        length-append (A ++ P) ((D ++ G) ++ S),
        length-append A P,
        length-append (D ++ G) S,
        length-append D G,
        count_length paths_word n,
        three_digits n (omega arith),
        count_length guards_word (pairs n lent.guards),
        four_digits (pairs n lent.guards) (omega arith),
        paths_most,
        guards_most,
        starts_most,
      )

-- the two calls: no written sheet is longer, and a text of 45,489 bytes has room for every sheet that some
-- text has room for
pub written_most : (n : ℕ) (labels : List ℕ) (lent : Lent) (starts text : List ℕ) → (writing n labels lent starts text).answer.number ≡ 0 → (writing n labels lent starts text).answer.length ≤ 45489
unfolding writing unless
written_most n labels lent starts text z =
    let w = writing_writable n labels lent starts text z in
    rw (eq-eqb (write_fault n labels lent starts text).number 0 (clear_write n labels lent starts text w.0 w.1)) (sheet_most n labels lent starts w.0)

-- a text of that size is always enough
pub room_enough : (n : ℕ) (labels : List ℕ) (lent : Lent) (starts text : List ℕ) → Writable n labels lent starts → 45489 ≤ length text → (writing n labels lent starts text).answer.number ≡ 0
room_enough n labels lent starts text w room = writable_writing n labels lent starts text w (omega (arith, sheet_most n labels lent starts w))
