-- What the loop that makes the greedy order keeps: the order so far, and the start that each path left would
-- get next, which is its key. Assumes nothing.
use Rattle.std.specs.Prelude.{ℕ, suc, ◌+◌, ◌*◌, ◌≤◌, ◌<◌, max, ◌≡◌, Bool, true, false, cond, length, set}
use Rattle.std.proofs.Math.Path.{refl, sym, ap}
use Rattle.std.proofs.Common.{◌∙◌, arith}
use mathlib.Core.List.{List}
use Rattle.rules.specs.Tables.{at, cell, Lent}
use Rattle.rules.specs.Plan.{Net, net_of}
use Rattle.rules.specs.Packing.{Order, placed, lowest, packed}
use Rattle.rules.specs.Pressing.{choose}
use Rattle.rules.specs.Planning.{start_next, greedy}
use Rattle.rules.specs.Limits.{Network}
use Rattle.table_laws.specs.Tables.{at_same}
use Rattle.plan_laws.specs.Pack.{packed_length, packed_next}
use Rattle.plan_laws.specs.Lowest.{lowest_local}
use Rattle.plan_laws.specs.Arranged.{arranged_order, arranged_begins}
use Rattle.plan_laws.specs.Arranging.{Arranging, arranging_first, arranging_next, arranging_below, arranging_own, arranging_more, arranging_last}
use Rattle.plan_laws.specs.Engine.{Raised, asks, asks_most, low_bound, raised_low}
use Rattle.plan_laws.specs.Greedy.{same_start}

-- the key by which the greedy order is arranged
abbrev pub greedy_key : Lent → List ℕ → List ℕ → ℕ → ℕ → ℕ
greedy_key lent table = start_next (lowest (net_of lent)) table

abbrev pub Growing : ℕ → Lent → List ℕ → List ℕ → List ℕ → List ℕ → ℕ → Type 0
Growing n lent before table order need m = Arranging (greedy_key lent table) n before order need m

module _ (n : ℕ) (lent : Lent) (before table : List ℕ) (w : Network n lent) (full : length before ≡ 128) (space : length table ≡ 128) where
  abbrev net : Net
  net = net_of lent

  abbrev key : List ℕ → ℕ → ℕ → ℕ
  key = greedy_key lent table

  -- the whole order, of which the order so far is the beginning, and the starts of its first m
  o : ℕ → ℕ
  o = at (greedy (lowest net) n table before n)

  starts : ℕ → List ℕ
  starts m = packed (lowest net) o table m

  room : n ≤ length before
  room = omega (arith, w.few)

  ord : Order o n n
  unfolding o
  ord = arranged_order key n before room n (omega arith)

  starts_long : (m : ℕ) → length (starts m) ≡ 128
  unfolding starts
  starts_long m = packed_length (lowest net) (lowest_local net) o table m ∙ space

  -- the keys are the lowest starts after the first m of the whole order
  key_is : (order need : List ℕ) (m k : ℕ) → Growing n lent before table order need m → key order m k ≡ lowest net (at (starts m)) o m k
  unfolding starts o
  key_is order need m k g = ap (λ (s : List ℕ). key s m k) g.made ∙ same_start n lent before table w full m k g.here

  key_bound : (order need : List ℕ) (m k : ℕ) → Growing n lent before table order need m → k < n → key order m k ≤ 1 + 96 * m
  unfolding starts
  key_bound order need m k g l = omega (arith, key_is order need m k g, low_bound n lent w o ord table space m k g.here l)

  pub growing_first : (need : List ℕ) → ((k : ℕ) → k < n → at need k ≡ 1) → Growing n lent before table before need 0
  unfolding packed lowest
  growing_first need h = arranging_first key n before room need h

  module _ (order need : List ℕ) (m : ℕ) (g : Growing n lent before table order need m) (l : m < n) (c : ℕ) (e : c ≡ choose (at need) (λ k. false) n n) where
    low : (k : ℕ) → k < n → key order m k < 65535
    low k h = omega (arith, key_bound order need m k g h, w.few)

    pub growing_below : c < n
    growing_below = arranging_below key n before room order need m g l low c e

    pub growing_bound : at need c ≤ 1 + 96 * m
    growing_bound = omega (arith, arranging_own key n before room order need m g l low c e, key_bound order need m c g growing_below)

    -- it is the next path of the whole order, and goes to its lowest start
    next : set order m c ≡ greedy (lowest net) n table before (suc m)
    next = arranging_next key n before room order need m g l low c e

    is_next : c ≡ o m
    unfolding o
    is_next =
        sym (at_same order m c (omega (arith, g.long, room)))
        ∙ ap (λ (t : List ℕ). at t m) next
        ∙ arranged_begins key n before room n (suc m) m (omega arith) l (omega arith)

    own : at need c ≡ lowest net (at (starts m)) o m c
    own = arranging_own key n before room order need m g l low c e ∙ key_is order need m c g

    starts_next : set (starts m) c (at need c) ≡ starts (suc m)
    unfolding starts
    starts_next = packed_next (lowest net) o table m (packed (lowest net) o table m) c (at need c) refl is_next own

    key_next : (k : ℕ) → key (set order m c) (suc m) k ≡ lowest net (at (starts (suc m))) o (suc m) k
    unfolding starts o
    key_next k = ap (λ (t : List ℕ). key t (suc m) k) next ∙ same_start n lent before table w full (suc m) k l

    -- the others are raised
    pub growing_more : (more : List ℕ) (v : ℕ) → v ≡ at lent.widths c → n ≤ length need → Raised n lent.guards c (at need c + v) need more
        → Growing n lent before table (set order m c) (set more c 65535) (m + 1)
    growing_more more v ev wide u = arranging_more key n before room order need m g l low c e more u.long wide (λ k h. u.done k h ∙ go k h (placed (at order) m k) refl)
      where
        go : (k : ℕ) → k < n → (b : Bool) → placed (at order) m k ≡ b
            → max (at need k) (asks (at need c + v) (at lent.guards (cell c k))) ≡ cond b 65535 (key (set order m c) (suc m) k)
        go k h true q =
            let x = g.keyed k h ∙ ap (λ (b : Bool). cond b 65535 (key order m k)) q in
            let y = asks_most (at need c + v) (at lent.guards (cell c k)) 65535 (omega (arith, growing_bound, ev, w.width c growing_below, w.few)) in
            omega arith
        go k h false q =
            raised_low n lent w o ord (starts m) (starts_long m) m l c (at need c) is_next v k (at need k) ev
            (g.keyed k h ∙ ap (λ (b : Bool). cond b 65535 (key order m k)) q ∙ key_is order need m k g)
            ∙ ap (λ (t : List ℕ). lowest net (at t) o (suc m) k) starts_next
            ∙ sym (key_next k)

  pub growing_last : (order need : List ℕ) (m : ℕ) → Growing n lent before table order need m → n ≤ m → order ≡ greedy (lowest net) n table before n
  growing_last order need m g l = arranging_last key n before room order need m g l
