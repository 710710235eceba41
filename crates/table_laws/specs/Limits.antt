-- The tests and the limits: each chain of tests finds no fault exactly where the limits of RULES 3 hold.
-- Assumes nothing.
use Rattle.std.specs.Prelude.{ℕ, ◌≤◌, ◌<◌, ◌≡◌, refl, ◌⊎◌, Bool, true, false, not, ◌||◌, ◌&&◌, List, length, ltb, leb, eqb}
use Rattle.std.proofs.Common.{sym, ap, subst, inl, inr, true≢false, arith, ltb-false, leb-false, lt-ltb, le-ltb, eq-eqb, ne_eqb, eqb-true}
use Rattle.std.proofs.Math.Decide.{dec_lt}
use Rattle.std.proofs.lemmas.Bool.{lt-leb}
use Rattle.rules.specs.declared.Fault.{Fault}
use Rattle.rules.specs.Tables.{at, cell, Lent}
use Rattle.rules.specs.Limits.{Network, Starts}
use Rattle.rules.specs.Packing.{placed, Order, Once}
use Rattle.rules.specs.Numbers.{nowhere_short, no_fault, outside, count_fault, bad_width, bad_guard, bad_mirror, bad_entry, order_fault, bad_start, start_fault, network_fault, network_sizes}
use Rattle.table_laws.specs.Faults.{refuse_not, refuse_clear, or_clear, or_none, scan_none, scan_clear, square_none, square_clear, size_good, size_clear}
use Rattle.table_laws.specs.Orders.{placed_none, placed_not, place, spot, spot_holds, spots}

-- what a clear fault says of a fault that equals it
pub clear_of : {f : Fault} → f ≡ no_fault → f.number ≡ 0
clear_of e = ap (λ (x : Fault). x.number) e

-- a value is outside a range, or within it
pub outside_not : (lo hi x : ℕ) → outside lo hi x ≡ false → (lo ≤ x) × (x ≤ hi)
outside_not lo hi x = go (ltb x lo) refl
  where
    go : (a : Bool) → ltb x lo ≡ a → (a || ltb hi x) ≡ false → (lo ≤ x) × (x ≤ hi)
    go true e z = absurd (true≢false z)
    go false e z = (ltb-false x lo e, ltb-false hi x z)

pub outside_none : (lo hi x : ℕ) → lo ≤ x → x ≤ hi → outside lo hi x ≡ false
outside_none lo hi x l h = rw (le-ltb x lo l, le-ltb hi x h)

-- 4: the test of a cell, and of the diagonal
guard_cell_lem : (guards : List ℕ) (i j : ℕ) → bad_guard guards i j ≡ false → (at guards (cell i j) ≤ 32) ⊎ (at guards (cell i j) ≡ 255)
guard_cell_lem guards i j = go (eqb (at guards (cell i j)) 255) refl (eqb i j) refl
  where
    go : (a : Bool) → eqb (at guards (cell i j)) 255 ≡ a → (b : Bool) → eqb i j ≡ b → (not a && (b || ltb 32 (at guards (cell i j)))) ≡ false
        → (at guards (cell i j) ≤ 32) ⊎ (at guards (cell i j) ≡ 255)
    go true e b f z = inr (eqb-true _ _ e)
    go false e true f z = absurd (true≢false z)
    go false e false f z = inl (ltb-false 32 (at guards (cell i j)) z)

guard_diagonal : (guards : List ℕ) (k : ℕ) → bad_guard guards k k ≡ false → at guards (cell k k) ≡ 255
guard_diagonal guards k z = go (eqb (at guards (cell k k)) 255) refl (rw (eq-eqb k k refl) at z)
  where
    go : (a : Bool) → eqb (at guards (cell k k)) 255 ≡ a → (not a && true) ≡ false → at guards (cell k k) ≡ 255
    go true e z = eqb-true _ _ e
    go false e z = absurd (true≢false z)

guard_fits : (guards : List ℕ) (i j : ℕ) → (at guards (cell i j) ≤ 32) ⊎ (at guards (cell i j) ≡ 255) → (i ≡ j → at guards (cell i j) ≡ 255) → bad_guard guards i j ≡ false
guard_fits guards i j (inr e) d = rw (eq-eqb (at guards (cell i j)) 255 e)
guard_fits guards i j (inl l) d = rw (ne_eqb i j (λ e. omega (arith, d e)), le-ltb 32 (at guards (cell i j)) l) (go (eqb (at guards (cell i j)) 255))
  where
    go : (a : Bool) → (not a && (false || false)) ≡ false
    go true = refl
    go false = refl

-- 5: the test of a pair, and both ways round
mirror_pair : (guards : List ℕ) (i j : ℕ) → i < j → bad_mirror guards i j ≡ false → at guards (cell i j) ≡ at guards (cell j i)
mirror_pair guards i j l z = go (eqb (at guards (cell i j)) (at guards (cell j i))) refl (rw (lt-ltb i j l) at z)
  where
    go : (a : Bool) → eqb (at guards (cell i j)) (at guards (cell j i)) ≡ a → (true && not a) ≡ false → at guards (cell i j) ≡ at guards (cell j i)
    go true e z = eqb-true _ _ e
    go false e z = absurd (true≢false z)

mirror_fits : (guards : List ℕ) (i j : ℕ) → at guards (cell i j) ≡ at guards (cell j i) → bad_mirror guards i j ≡ false
mirror_fits guards i j e = rw (eq-eqb (at guards (cell i j)) (at guards (cell j i)) e) (go (ltb i j))
  where
    go : (a : Bool) → (a && false) ≡ false
    go true = refl
    go false = refl

mirror_all : (guards : List ℕ) (n : ℕ) → ((i j : ℕ) → i < n → j < n → bad_mirror guards i j ≡ false) → (i j : ℕ) → i < n → j < n → at guards (cell i j) ≡ at guards (cell j i)
mirror_all guards n h i j l g = go (dec_lt i j) (dec_lt j i)
  where
    go : Dec (i < j) → Dec (j < i) → at guards (cell i j) ≡ at guards (cell j i)
    go (yes x) d = mirror_pair guards i j x (h i j l g)
    go (no x) (yes y) = sym (mirror_pair guards j i y (h j i g l))
    go (no x) (no y) = let e : i ≡ j = omega arith in rw e

-- 2, 1, 3, 4 and 5 find no fault exactly where the network is within the limits
pub network_within : (n : ℕ) (lent : Lent) → (network_sizes lent).number ≡ 0 → (network_fault n lent).number ≡ 0 → Network n lent
unfolding network_sizes network_fault count_fault
network_within n lent y z =
    let a = or_clear _ _ y in
    let b = or_clear _ _ z in
    let c = or_clear _ _ b.1 in
    let d = or_clear _ _ c.1 in
    let count = outside_not 1 128 n (refuse_clear (outside 1 128 n) 1 0 (omega arith) b.0) in
    record {
      some = count.0;
      few = count.1;
      widths_size = size_clear lent.widths 128 a.0;
      guards_size = size_clear lent.guards 16384 a.1;
      width = λ k l. outside_not 1 64 (at lent.widths k) (scan_clear 3 (bad_width lent.widths) n (omega arith) c.0 k l);
      guard = λ i j l g. guard_cell_lem lent.guards i j (square_clear 4 (bad_guard lent.guards) nowhere_short n (omega arith) d.0 i j l g);
      diagonal = λ k l. guard_diagonal lent.guards k (square_clear 4 (bad_guard lent.guards) nowhere_short n (omega arith) d.0 k k l l);
      mirrored = mirror_all lent.guards n (square_clear 5 (bad_mirror lent.guards) nowhere_short n (omega arith) d.1);
    }

pub within_network : (n : ℕ) (lent : Lent) → Network n lent → ((network_sizes lent).number ≡ 0) × ((network_fault n lent).number ≡ 0)
unfolding network_sizes network_fault count_fault
within_network n lent w = (
  or_none _ _ (clear_of (sym (size_good lent.widths 128 w.widths_size))) (clear_of (sym (size_good lent.guards 16384 w.guards_size))),
  or_none _ _ (clear_of (refuse_not (outside 1 128 n) 1 0 (outside_none 1 128 n w.some w.few)))
      (or_none _ _ (clear_of (scan_none 3 (bad_width lent.widths) n (λ k l. outside_none 1 64 (at lent.widths k) (w.width k l).0 (w.width k l).1)))
      (or_none _ _ (clear_of (square_none 4 (bad_guard lent.guards) nowhere_short n (λ i j l g. guard_fits lent.guards i j (w.guard i j l g) (λ e. subst (λ x. at lent.guards (cell i x) ≡ 255) e (w.diagonal i l)))))
      (clear_of (square_none 5 (bad_mirror lent.guards) nowhere_short n (λ i j l g. mirror_fits lent.guards i j (w.mirrored i j l g)))))),
)

-- 6 finds no fault exactly where the first n hold each of 0 to n-1 once
entry_good : (n : ℕ) (order : List ℕ) (k : ℕ) → bad_entry n order k ≡ false → (at order k < n) × (placed (at order) k (at order k) ≡ false)
entry_good n order k = go (leb n (at order k)) refl
  where
    go : (a : Bool) → leb n (at order k) ≡ a → (a || placed (at order) k (at order k)) ≡ false → (at order k < n) × (placed (at order) k (at order k) ≡ false)
    go true e z = absurd (true≢false z)
    go false e z = (leb-false n (at order k) e, z)

pub order_whole : (n : ℕ) (order : List ℕ) → (order_fault n order).number ≡ 0 → Order (at order) n n
unfolding order_fault
order_whole n order z = record { inside = λ k l. (good k l).0; fresh = λ i j h l. placed_not (at order) j (at order j) (good j l).1 i h }
  where
    good : (k : ℕ) → k < n → (at order k < n) × (placed (at order) k (at order k) ≡ false)
    good k l = entry_good n order k (scan_clear 6 (bad_entry n order) n (omega arith) z k l)

pub whole_order : (n : ℕ) (order : List ℕ) → Order (at order) n n → (order_fault n order).number ≡ 0
unfolding order_fault
whole_order n order o =
    clear_of (scan_none 6 (bad_entry n order) n (λ k l. rw (lt-leb n (at order k) (o.inside k l), placed_none (at order) k (at order k) (λ i h. o.fresh i k h l))))

pub order_once : (o : ℕ → ℕ) (n : ℕ) → Order o n n → Once o n
order_once o n ord = record { holds = place o n ord; once = λ i j l g h e. same i j l g e (dec_lt i j) (dec_lt j i) }
  where
    same : (i j : ℕ) → i < n → j < n → o i ≡ o j → Dec (i < j) → Dec (j < i) → i ≡ j
    same i j l g e (yes x) d = absurd (ord.fresh i j x g e)
    same i j l g e (no x) (yes y) = absurd (ord.fresh j i y l (sym e))
    same i j l g e (no x) (no y) = omega arith

-- where each of 0 to n-1 stands once no other entry has room: the places are an order themselves
pub once_order : (o : ℕ → ℕ) (n : ℕ) → Once o n → Order o n n
once_order o n h = record { inside = λ i l. inside i l; fresh = λ i j g l e. omega (arith, h.once i j (omega arith) l (inside i (omega arith)) e) }
  where
    inside : (i : ℕ) → i < n → o i < n
    inside i l = let k = place (spot o n) n (spots o n h.holds) i l in omega (arith, (spot_holds o n h.holds k.0 k.1).1, ap o k.2)

-- 7
pub starts_within : (n : ℕ) (starts : List ℕ) → length starts ≡ 128 → (start_fault n starts).number ≡ 0 → Starts n starts
unfolding start_fault
starts_within n starts e z = record { size = e; start = λ k l. outside_not 1 16384 (at starts k) (scan_clear 7 (bad_start starts) n (omega arith) z k l) }

pub within_starts : (n : ℕ) (starts : List ℕ) → Starts n starts → (start_fault n starts).number ≡ 0
unfolding start_fault
within_starts n starts s = clear_of (scan_none 7 (bad_start starts) n (λ k l. outside_none 1 16384 (at starts k) (s.start k l).0 (s.start k l).1))
