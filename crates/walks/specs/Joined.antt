-- The shortest walk through the positions up to the last, out of the least walks through sets of those before
-- it: every walk passes the last position somewhere, and is two walks away from there. Assumes nothing.
use Prim.Native.Nat.{ℕ, suc, ◌+◌, ◌-◌, ◌/◌, ◌≤◌, ◌<◌}
use Rattle.std.specs.Prelude.{◌≡◌, ◌≢◌, ◌⊎◌, Bool, true, false, cond, List, eqb}
use Rattle.std.proofs.Math.Path.{refl}
use Rattle.std.proofs.Common.{sym, ap, ◌∙◌, add-one, inl, inr, true≢false, eqb-true}
use native.Mathlib.Omega.{arith}
use Rattle.std.proofs.Math.Decide.{dec_lt}
use Rattle.std.proofs.lemmas.Bool.{eqb-false}
use Rattle.rules.specs.Tables.{at}
use Rattle.rules.specs.Scan.{least, sum}
use Rattle.rules.specs.Packing.{Order}
use Rattle.rules.specs.Floor.{walk_length, shortest}
use Rattle.table_laws.specs.Scans.{least_le, least_at}
use Rattle.table_laws.specs.Orders.{place, own_order}
use Rattle.std.proofs.Math.Nat.{pow-suc}
use Rattle.std.proofs.lemmas.Nat.{pow_pos}
use Rattle.walks.specs.Sets.{alone, has, members, alone_le, has_added, has_other, has_past, has_rest, members_all}
use Rattle.walks.specs.Square.{row_at, Walkable}
use Rattle.walks.specs.Walked.{steps, Through, Least, through_at, through_own, least_alone, least_onward, through_shortest}
use Rattle.walks.specs.Filled.{onward, onward_row, Filled}
use Rattle.walks.specs.Around.{sum_cut, back, on, around, members_around, back_order, on_order, steps_around, around_members, around_steps, around_order}

-- the way on from the last position, which has these guards, through a set of those before it: none where the set is empty
unfoldable pub away : List ℕ → List (List ℕ) → ℕ → ℕ
away guards walks s = cond (eqb s 0) 0 (onward guards (row_at walks s))

-- the least of the walks that pass the last position, through one of the first m of the `half` sets and
-- through the rest
unfoldable pub least_joined : List ℕ → List (List ℕ) → ℕ → ℕ → ℕ
least_joined guards walks half m = least 255 (λ s. away guards walks s + away guards walks (half - 1 - s)) m

-- a walk through a set of the first k positions is one where there is one position more, and the other way
module _ (guard : ℕ → ℕ → ℕ) (k s j : ℕ) (o : ℕ → ℕ) (m : ℕ) where
  wider : Through guard k s j o m → Through guard (suc k) s j o m
  wider t = record { order = record { inside = λ i l. omega (arith, t.order.inside i l); fresh = t.order.fresh }; begins = t.begins; all = t.all }

  narrower : s < alone k → Through guard (suc k) s j o m → Through guard k s j o m
  narrower small t = record { order = record { inside = λ i l. inside i l (dec_lt (o i) k); fresh = t.order.fresh }; begins = t.begins; all = t.all }
    where
      inside : (i : ℕ) → i < suc m → Dec (o i < k) → o i < k
      inside i l (yes h) = h
      inside i l (no h) =
          let e : o i ≡ k = omega (arith, t.order.inside i l) in
          absurd (omega (arith, alone_le s (o i) (through_at guard (suc k) s j o m t i l), ap (λ x. alone x) e))

least_wider : (guard : ℕ → ℕ → ℕ) (k s j v : ℕ) → s < alone k → Least guard k s j v → Least guard (suc k) s j v
least_wider guard k s j v small h = record {
  low = λ o m t. h.low o m (narrower guard k s j o m small t);
  some = λ l. let x = h.some l in (x.0, x.1, wider guard k s j x.0 x.1 x.2, x.3);
}

module _ (guard : ℕ → ℕ → ℕ) (last : ℕ) (good : Walkable guard (suc last)) (few : last < 8) (walks : List (List ℕ))
    (filled : (t i : ℕ) → t < alone last → i < 8 → Least guard last t i (at (row_at walks t) i)) (guards : List ℕ) (row : (i : ℕ) → i < 8 → at guards i ≡ guard last i) where
  -- the sets of the positions before the last: half of all, as those are once without it and once with it
  abbrev half : ℕ
  half = alone last

  twice : alone (suc last) ≡ half + half
  twice = omega (arith, pow-suc 2 last)

  -- the way on is the least walk from the last position through it and the set
  away_least : (s : ℕ) → s < half → Least guard (suc last) (s + half) last (away guards walks s)
  unfolding away
  away_least s l = go (eqb s 0) refl
    where
      less : s + half - half ≡ s
      less = omega arith

      go : (b : Bool) → eqb s 0 ≡ b → Least guard (suc last) (s + half) last (cond b 0 (onward guards (row_at walks s)))
      go true e = let z : s + half ≡ half = omega (arith, eqb-true s 0 e) in rw z (least_alone guard (suc last) last (omega arith))
      go false e =
          let ne = eqb-false s 0 e in
          least_onward guard (suc last) (s + half) last (onward guards (row_at walks s)) (at (row_at walks s)) (has_added s last (has_past s last last l (omega arith))) (omega arith)
          (λ i h. rw less (least_wider guard last s i _ l (filled s i l h))) (omega arith) (omega arith)
          (onward_row guards (row_at walks s) (guard last) row)

  abbrev both : ℕ → ℕ
  both s = away guards walks s + away guards walks (half - 1 - s)

  -- an order with the last position at m: away from there it has one set before, and the rest of them after
  module _ (o : ℕ → ℕ) (ord : Order o (suc last) (suc last)) (m : ℕ) (l : m < suc last) (here : o m ≡ last) where
    split : m + (last - m) ≡ last
    split = omega arith

    whole : Order o (suc last) (suc (m + (last - m)))
    whole = rw split ord

    before : Through guard (suc last) (members (back o m) (suc m)) last (back o m) m
    before = record { order = back_order o (suc last) m (last - m) whole; begins = ap o (omega arith) ∙ here; all = refl }

    after : Through guard (suc last) (members (on o m) (suc (last - m))) last (on o m) (last - m)
    after = record { order = on_order o (suc last) m (last - m) whole; begins = ap o (omega arith) ∙ here; all = refl }

    cost : steps guard (suc last) o last ≡ steps guard (suc last) (back o m) m + steps guard (suc last) (on o m) (last - m)
    cost = ap (steps guard (suc last) o) (sym split) ∙ steps_around guard (suc last) good.mirror o m (last - m) whole

    -- the two sets, each with the last position, and without it
    abbrev one : ℕ
    one = members (back o m) (suc m) - half

    abbrev other : ℕ
    other = members (on o m) (suc (last - m)) - half

    own_one : one + half ≡ members (back o m) (suc m)
    own_one = omega (arith, alone_le (members (back o m) (suc m)) last (through_own guard (suc last) _ last (back o m) m before))

    own_other : other + half ≡ members (on o m) (suc (last - m))
    own_other = omega (arith, alone_le (members (on o m) (suc (last - m))) last (through_own guard (suc last) _ last (on o m) (last - m) after))

    rest : one + other ≡ half - 1
    rest = omega (arith, own_one, own_other, members_around o m (last - m), ap (λ x. members o (suc x)) split, members_all o (suc last) ord, twice, ap (λ x. alone x) here, pow_pos last)

    low : (r : ℕ) → r ≡ least_joined guards walks half ((half + 1) / 2) → r ≤ steps guard (suc last) o last
    unfolding least_joined
    low r e = go (dec_lt one ((half + 1) / 2))
      where
        away_le : away guards walks one + away guards walks other ≤ steps guard (suc last) o last
        away_le =
            omega (
              arith,
              cost,
              (rw own_one at (away_least one (omega (arith, rest, pow_pos last)))).low (back o m) m before,
              (rw own_other at (away_least other (omega (arith, rest, pow_pos last)))).low (on o m) (last - m) after,
            )

        go : Dec (one < (half + 1) / 2) → r ≤ steps guard (suc last) o last
        go (yes h) = let q : half - 1 - one ≡ other = omega (arith, rest) in omega (arith, away_le, ap (away guards walks) q, least_le 255 both ((half + 1) / 2) one h)
        go (no h) =
            let q : half - 1 - other ≡ one = omega (arith, rest) in
            omega (arith, away_le, ap (away guards walks) q, least_le 255 both ((half + 1) / 2) other (omega (arith, rest, pow_pos last)))

  -- a position of a set with the last one, and not that one, is in the set without it
  without : (s : ℕ) → s < half → (i : ℕ) → i ≢ last → has (s + half) i ≡ true → has s i ≡ true
  without s l i ne e = sym (has_other s last i (has_past s last last l (omega arith)) ne) ∙ e

  -- walks away from the last position through a set and through its rest, joined there, go through all
  module _ (s : ℕ) (l : s < half) (a b : ℕ → ℕ) (m n : ℕ) (t : Through guard (suc last) (s + half) last a m)
      (u : Through guard (suc last) (half - 1 - s + half) last b n) where
    apart : (i j : ℕ) → i < m → j < suc n → a (suc i) ≢ b j
    apart i j h g e =
        let ne : a (suc i) ≢ last = λ z. t.order.fresh 0 (suc i) (omega arith) (omega arith) (t.begins ∙ sym z) in
        let in_one = without s l (a (suc i)) ne (through_at guard (suc last) (s + half) last a m t (suc i) (omega arith)) in
        let other = through_at guard (suc last) (half - 1 - s + half) last b n u j g in
        let in-other = without (half - 1 - s) (omega (arith, pow_pos last)) (a (suc i)) ne (ap (has (half - 1 - s + half)) e ∙ other) in
        true≢false (sym in-other ∙ has_rest last s (a (suc i)) l (omega (arith, t.order.inside (suc i) (omega arith))) in_one)

    meet : a 0 ≡ b 0
    meet = t.begins ∙ sym u.begins

    order : Order (around a m b) (suc last) (suc (m + n))
    order = around_order a b m (suc last) n t.order u.order apart

    through : Through guard (suc last) (alone (suc last) - 1) (around a m b 0) (around a m b) (m + n)
    through = record { order = order; begins = refl; all = omega (arith, around_members a b m meet n, t.all, u.all, ap (λ x. alone x) u.begins, twice) }

    joined : (r : ℕ) → r ≡ steps guard (suc last) a m + steps guard (suc last) b n → r ≡ steps guard (suc last) (around a m b) (m + n)
    joined r e = e ∙ sym (around_steps a b m guard (suc last) n good.mirror meet order)

  -- the least of the joined walks is the shortest
  pub joined_shortest : (r : ℕ) → r ≡ least_joined guards walks half ((half + 1) / 2) → r ≡ shortest guard (suc last)
  unfolding least_joined walk_length
  joined_shortest r e = go (least_at 255 both ((half + 1) / 2))
    where
      below : (o : ℕ → ℕ) → Order o (suc last) (suc last) → r ≤ steps guard (suc last) o (suc last - 1)
      below o ord =
          let q : suc last - 1 ≡ last = omega arith in
          let x = place o (suc last) ord last (omega arith) in
          rw q (low o ord x.0 x.1 x.2 r (unfold least_joined in e))

      go : (least 255 both ((half + 1) / 2) ≡ 255) ⊎ ((s : ℕ) × (s < (half + 1) / 2) × (least 255 both ((half + 1) / 2) ≡ both s)) → r ≡ shortest guard (suc last)
      go (inl z) = absurd (omega (arith, good.small, below (λ i. i) (own_order (suc last))))
      go (inr (s, h, z)) =
          let cap = below (λ i. i) (own_order (suc last)) in
          let small = good.small in
          let p = pow_pos last in
          let l : s < half = omega arith in
          let x = (away_least s l).some (omega arith) in
          let y = (away_least (half - 1 - s) (omega arith)).some (omega arith) in
          through_shortest guard (suc last) (around x.0 x.1 y.0 0) r (around x.0 x.1 y.0) (x.1 + y.1) (through s l x.0 y.0 x.1 y.1 x.2 y.2)
          (joined s l x.0 y.0 x.1 y.1 x.2 y.2 r (omega (arith, x.3, y.3))) below

-- where positions can be walked, the first of them can
walkable_first : (guard : ℕ → ℕ → ℕ) (last k : ℕ) → last < k → Walkable guard k → Walkable guard (suc last)
unfolding walk_length
walkable_first guard last k l good =
    let f : ℕ → ℕ = λ i. guard i (suc i) in
    let e : last + (k - 1 - last) ≡ k - 1 = omega arith in
    let q : suc last - 1 ≡ last = omega arith in
    record {
      mirror = λ i j h g. good.mirror i j (omega arith) (omega arith);
      small = rw q (omega (arith, good.small, ap (sum f) e, sum_cut f last (k - 1 - last)));
    }

-- for the code, which has more positions, and all sets filled
pub shortest_joined : (guard : ℕ → ℕ → ℕ) (guards : List ℕ) (walks : List (List ℕ)) (last k s sets r : ℕ) → Walkable guard k → last < k → last < 8 → Filled guard last s walks
    → ((i : ℕ) → i < 8 → at guards i ≡ guard last i) → sets ≤ s → sets ≡ alone last → r ≡ least_joined guards walks sets ((sets + 1) / 2) → r ≡ shortest guard (last + 1)
shortest_joined guard guards walks last k s sets r good inside few filled row l e h =
    rw add-one (joined_shortest guard last (walkable_first guard last k inside good) few walks (λ t i g b. filled.done t i (omega arith) b) guards row r (rw e at h))
