-- What one test of a cell says. Assumes nothing.
use Prim.Native.Nat.{ℕ, ◌+◌, ◌≤◌, ◌<◌}
use mathlib.Core.Path.{◌≡◌, refl, ◌∙◌}
use mathlib.Core.Logic.{◌≢◌}
use mathlib.Core.Bool.{true, false}
use mathlib.Core.List.{List}
use native.Mathlib.Omega.{arith}
use lib.ListN.{length, set, length-set}
use borrow.Author.Tests.{lt-ltb, le-ltb, lt-leb, le-leb}
use borrow.Author.Count.{below_none, below_more}
use Rattle.rules.specs.Tables.{at}
use Rattle.rules.specs.Numbers.{outside, bad_entry}
use Rattle.table_laws.specs.Marks.{Marked, marked_none, marked_more, marked_yes, marked_no}

pub outside_low : (least most x : ℕ) → x < least → outside least most x ≡ true
outside_low least most x h = rw (lt-ltb x least h)

pub outside_high : (least most x : ℕ) → least ≤ x → most < x → outside least most x ≡ true
outside_high least most x h g = rw (le-ltb x least h, lt-ltb most x g)

-- 6: the scan of an order, with the table of the paths seen
pub record Met (n : ℕ) (order seen : List ℕ) (p : ℕ) : Type 0 where
  pub here : p ≤ n
  pub long : length seen ≡ 128
  pub marks : Marked n (at order) p seen
  pub right : (k : ℕ) → k < p → bad_entry n order k ≡ false

module _ (n : ℕ) (order seen : List ℕ) where
  pub met_none : length seen ≡ 128 → ((k : ℕ) → k < n → at seen k ≡ 0) → Met n order seen 0
  met_none e h = record { here = omega arith; long = e; marks = marked_none n (at order) seen h; right = below_none _ }

  pub entry_over : (p : ℕ) → n ≤ at order p → bad_entry n order p ≡ true
  entry_over p l = rw (le-leb n (at order p) l)

  pub entry_seen : (p : ℕ) → Met n order seen p → at order p < n → at seen (at order p) ≢ 0 → bad_entry n order p ≡ true
  entry_seen p m l e = rw (lt-leb n (at order p) l, marked_yes n (at order) p seen m.marks (at order p) l e)

  pub met_more : (p : ℕ) → n ≤ 128 → p < n → Met n order seen p → at order p < n → at seen (at order p) ≡ 0 → Met n order (set seen (at order p) 1) (p + 1)
  met_more p few here m l e = record {
    here = omega arith;
    long = length-set seen (at order p) 1 ∙ m.long;
    marks = marked_more n (at order) p seen (at order p) refl (omega (arith, m.long)) m.marks;
    right = below_more _ _ m.right (rw (lt-leb n (at order p) l, marked_no n (at order) p seen m.marks (at order p) l e));
  }
