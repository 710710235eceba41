-- RULES 11, the better of two orders: the first n entries of the one that packs lower, of equal ones the
-- first, where they stand in the lent table; none where one of the two cannot be packed. Assumes nothing.
use Rattle.std.specs.Prelude.{ℕ, ◌≡◌, cond, ◌||◌, not, List, ltb, eqb, take}
use Rattle.std.specs.Borrow.{Bor}
use Rattle.rules.specs.Tables.{cleared, Lent}
use Rattle.rules.specs.declared.Packed.{Packed}
use Rattle.rules.specs.Calls.{packing}

-- what packing an order answers, given room for its starts
unfoldable pub packed_answer : ℕ → Lent → List ℕ → Packed
packed_answer n lent order = (packing n lent order (cleared 128 0)).answer

-- 0 for neither, 1 for the first, 2 for the second
unfoldable pub comparing : ℕ → Lent → List ℕ → List ℕ → ℕ
comparing n lent first second =
    let a = packed_answer n lent first in
    let b = packed_answer n lent second in
    cond (not (eqb a.number 0) || not (eqb b.number 0)) 0 (cond (ltb b.highest a.highest) 2 1)

-- a reference is the first k cells of another, in place: the same pointer, and those cells
pub record Part (whole : Bor (List ℕ)) (k : ℕ) (part : Bor (List ℕ)) : Type 0 where
  pub place : part.ref_ptr ≡ whole.ref_ptr
  pub cells : part.now ≡ take k whole.now

-- better(n, widths, guards, first, second): the part handed back. The empty part is one of the first order
unfoldable pub Bettered : ℕ → Lent → Bor (List ℕ) → Bor (List ℕ) → Bor (List ℕ) → Type 0
Bettered n lent first second part =
    let c = comparing n lent first.now second.now in
    Part (cond (eqb c 2) second first) (cond (eqb c 0) 0 n) part
