-- How long a number, a line and several lines are at the most. Assumes nothing.
use Prim.Native.Nat.{ℕ, zero, suc, ◌+◌, ◌/◌, ◌%◌, ◌≤◌}
use Rattle.std.specs.Prelude.{◌≡◌, refl, length, Bool, true, false, cond, ltb, ℤ, pos, negsuc}
use Rattle.std.proofs.Common.{length-append}
use mathlib.Core.List.{List, [], ◌∷◌, ◌++◌}
use native.Mathlib.Omega.{arith}
use Rattle.rules.specs.Tables.{at, cell}
use Rattle.rules.specs.Text.{hyphen, spell, numeral, signed_numeral}
use Rattle.rules.specs.Writing.{is_pair, path_text, guard_text}
use Rattle.sheet_laws.specs.Writes.{label_short, path_length, pair_length, guard_none, guard_some}

spell_short : (k v : ℕ) → length (spell k v) ≤ k
unfolding spell
spell_short zero v = omega arith
spell_short (suc k) v = go (ltb v 10) (spell_short k (v / 10))
  where
    go : (b : Bool) → length (spell k (v / 10)) ≤ k → length (cond b ((48 + v) ∷ []) (spell k (v / 10) ++ ((48 + v % 10) ∷ []))) ≤ suc k
    go true h = omega arith
    go false h = omega (arith, length-append (spell k (v / 10)) ((48 + v % 10) ∷ []))

pub numeral_short : (v : ℕ) → length (numeral v) ≤ 5
unfolding numeral
numeral_short v = spell_short 5 v

pub signed_short : (z : ℤ) → length (signed_numeral z) ≤ 6
unfolding signed_numeral
signed_short (pos v) = omega (arith, numeral_short v)
signed_short (negsuc v) = omega (arith, length-append hyphen (numeral (suc v)), numeral_short (suc v))

pub path_short : (labels table : List ℕ) (k : ℕ) → length (path_text labels table k) ≤ 15
path_short labels table k = omega (arith, path_length labels table k, label_short labels k, numeral_short (at table k))

pub guard_short : (labels guards : List ℕ) (i j : ℕ) → length (guard_text labels guards i j) ≤ 24
guard_short labels guards i j = go (is_pair guards i j) refl
  where
    go : (b : Bool) → is_pair guards i j ≡ b → length (guard_text labels guards i j) ≤ 24
    go true e =
        let few = numeral_short (at guards (cell i j)) in
        rw (guard_some labels guards i j e) (omega (arith, pair_length labels guards i j, label_short labels i, label_short labels j, few))
    go false e = rw (guard_none labels guards i j e) (omega arith)
