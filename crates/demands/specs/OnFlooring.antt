-- The floor, as the call answers: what it is, by the orders of the list; that no valid plan's highest slot is
-- below it; and that it is not below the coarse floor. Assumes nothing.
use Rattle.std.specs.Prelude.{ℕ, suc, ◌+◌, ◌-◌, ◌*◌, ◌≤◌, ◌<◌, ◌≡◌, ◌⊎◌, List, length}
use Rattle.std.proofs.Math.Path.{refl, ap}
use Rattle.std.proofs.Common.{sym, ◌∙◌, inl, inr}
use native.Mathlib.Omega.{arith}
use Rattle.rules.specs.Tables.{at, Lent}
use Rattle.rules.specs.Scan.{least, sum}
use Rattle.rules.specs.Plan.{Net, net_of, Conflict, highest, Valid}
use Rattle.rules.specs.Packing.{Order, Once}
use Rattle.rules.specs.Floor.{walk_length, floor, least_guard, coarse_floor}
use Rattle.rules.specs.Calls.{flooring}
use Rattle.table_laws.specs.Scans.{least_le, least_at, sum_same}
use Rattle.table_laws.specs.Orders.{sum_order}
use Rattle.table_laws.specs.Limits.{order_once, once_order}
use Rattle.demands.specs.OnAccepting.{flooring_exact}
use Rattle.demands.specs.Floor.{both, floor_holds, floor_finer}
use Rattle.demands.specs.Met.{Between, stack, stack_valid, stack_highest}
use Rattle.plan_laws.specs.Good.{Good}
use Rattle.plan_laws.specs.Fits.{network_good}
use Rattle.plan_laws.specs.Answers.{Floorable, flooring_floorable, flooring_floor}
use Rattle.plan_laws.specs.Walks.{shortest_le, shortest_at, shortest_same, turned_order, shortest_turned}

-- the slots of a list's paths, one above another in an order of its positions with their guards between
abbrev pub stacked : Net → List ℕ → (ℕ → ℕ) → ℕ
stacked net list order = sum (λ i. net.width (at list i)) (length list) + sum (λ i. net.guard (at list (order i)) (at list (order (suc i)))) (length list - 1)

module _ (n : ℕ) (lent : Lent) (list : List ℕ) (zero-answer : (flooring n lent list).number ≡ 0) where
  abbrev net : Net
  net = net_of lent

  abbrev k : ℕ
  k = length list

  f : Floorable n lent list
  f = flooring_floorable n lent list zero-answer

  pub flooring_holds : (plan : ℕ → ℕ) → Valid net n plan → (flooring n lent list).floor ≤ highest net plan n
  flooring_holds plan v = rw (flooring_floor n lent list zero-answer) (floor_holds net n (network_good n lent f.network) (at list) k f.clique plan v f.some)

  -- so a plan that meets it is a best one
  pub flooring_best : (plan : ℕ → ℕ) → highest net plan n ≡ (flooring n lent list).floor → (other : ℕ → ℕ) → Valid net n other → highest net plan n ≤ highest net other n
  flooring_best plan e other v = rw e (flooring_holds other v)

  -- the least over all orders of the list: none takes less, and one takes it
  pub flooring_least : (order : ℕ → ℕ) → Once order k → (flooring n lent list).floor ≤ stacked net list order
  unfolding floor walk_length
  flooring_least order once =
      rw (flooring_floor n lent list zero-answer)
      (omega (arith, shortest_le (λ i j. net.guard (at list i) (at list j)) k order (once_order order k once)))

  pub flooring_reached : (order : ℕ → ℕ) × Once order k × ((flooring n lent list).floor ≡ stacked net list order)
  unfolding floor walk_length
  flooring_reached =
      let s = shortest_at (λ i j. net.guard (at list i) (at list j)) k in
      (s.0, order_once s.0 k s.1, rw (flooring_floor n lent list zero-answer) (omega (arith, s.2)))

  -- the same list in another order: accepted too, with the same floor
  module _ (other : List ℕ) (turn : ℕ → ℕ) (once : Once turn k) (long : length other ≡ k) (same : (i : ℕ) → i < k → at other i ≡ at list (turn i)) where
    ord : Order turn k k
    ord = once_order turn k once

    joined : (i j : ℕ) → i < j → j < k → Conflict net (at other i) (at other j)
    joined i j h l = rw (same i (omega arith), same j l) (both net n (network_good n lent f.network) (at list) k f.clique (turn i) (turn j) (ord.inside i (omega arith)) (ord.inside j l) (ord.fresh i j h l)).0

    turned_floorable : Floorable n lent other
    turned_floorable = record {
      network = f.network;
      some = omega (arith, f.some);
      few = omega (arith, f.few);
      clique = record { inside = λ i l. rw (same i (omega arith)) (f.clique.inside (turn i) (ord.inside i (omega arith))); all = λ i j h l. joined i j h (omega arith) };
    }

    floors : floor net (at other) (length other) ≡ floor net (at list) k
    unfolding floor
    floors = rw long (omega (
      arith,
      sum_same (λ i. net.width (at other i)) (λ i. net.width (at list (turn i))) k (λ i l. ap net.width (same i l)),
      sum_order (λ i. net.width (at list i)) turn k ord,
      shortest_same (λ i j. net.guard (at other i) (at other j)) (λ i j. net.guard (at list (turn i)) (at list (turn j))) k (λ i j h l. rw (same i h, same j l)),
      shortest_turned (λ i j. net.guard (at list i) (at list j)) k turn ord,
    ))

    pub flooring_turned : ((flooring n lent other).number ≡ 0) × ((flooring n lent other).floor ≡ (flooring n lent list).floor)
    flooring_turned =
        let z = (flooring_exact n lent other).1 turned_floorable in
        (z, flooring_floor n lent other z ∙ floors ∙ sym (flooring_floor n lent list zero-answer))

  -- where the list has all paths of the network, and no guard reaches past a path in between, some valid plan
  -- meets it
  pub flooring_met : length list ≡ n → Between net n → (plan : ℕ → ℕ) × Valid net n plan × (highest net plan n ≡ (flooring n lent list).floor)
  flooring_met whole rule = (stack net n good (λ j l. refl) rule o ord, valid, omega (arith, top, flooring_holds (stack net n good (λ j l. refl) rule o ord) valid))
    where
      good : Good net n
      good = network_good n lent f.network

      -- the listed paths are an order of the network's, and so they are in the order of the shortest walk
      listed : Order (at list) n n
      listed = record {
        inside = λ i l. f.clique.inside i (omega arith);
        fresh = λ i j h l e. omega (arith, f.clique.all i j h (omega arith), good.alone (at list j) (f.clique.inside j (omega arith)), ap (λ x. net.guard x (at list j)) e);
      }

      r : ℕ → ℕ
      r = flooring_reached.0

      walked : Order r n n
      walked = rw whole at (once_order flooring_reached.0 k flooring_reached.1)

      o : ℕ → ℕ
      o i = at list (r i)

      ord : Order o n n
      ord = turned_order (at list) r n listed walked

      valid : Valid net n (stack net n good (λ j l. refl) rule o ord)
      valid = stack_valid net n good (λ j l. refl) rule o ord

      top : highest net (stack net n good (λ j l. refl) rule o ord) n ≤ (flooring n lent list).floor
      top = omega (
        arith,
        stack_highest net n good (λ j l. refl) rule o ord (omega (arith, f.some)),
        sum_order (λ i. net.width (at list i)) r n walked,
        rw whole at flooring_reached.2,
      )

  -- never below the coarse floor
  pub flooring_finer : coarse_floor net (at list) k ≤ (flooring n lent list).floor
  flooring_finer = rw (flooring_floor n lent list zero-answer) (floor_finer net n (network_good n lent f.network) (at list) k f.clique)

  -- which is the widths and, for each path after the first, the least guard of the list: no guard of two of
  -- its paths is below that, and where there are two, one of them is it
  pub coarse_is : coarse_floor net (at list) k ≡ sum (λ i. net.width (at list i)) k + (k - 1) * least_guard net (at list) k
  unfolding coarse_floor
  coarse_is = refl

  pub coarse_least : (i j : ℕ) → i < j → j < k → least_guard net (at list) k ≤ net.guard (at list i) (at list j)
  unfolding least_guard
  coarse_least i j h l =
      omega (arith, least_le 255 (λ j. least 255 (λ i. net.guard (at list i) (at list j)) j) k j l, least_le 255 (λ i. net.guard (at list i) (at list j)) j i h)

  pub coarse_reached : 2 ≤ k → (i : ℕ) × (j : ℕ) × (i < j) × (j < k) × (least_guard net (at list) k ≡ net.guard (at list i) (at list j))
  unfolding least_guard
  coarse_reached two = outer (least_at 255 (λ j. least 255 (λ i. net.guard (at list i) (at list j)) j) k)
    where
      -- a guard of two of its paths is below 255
      below : least_guard net (at list) k < 255
      below = let c = f.clique.all 0 1 (omega arith) (omega arith) in omega (arith, coarse_least 0 1 (omega arith) (omega arith))

      inner : (j : ℕ) → j < k → least_guard net (at list) k ≡ least 255 (λ i. net.guard (at list i) (at list j)) j
          → (least 255 (λ i. net.guard (at list i) (at list j)) j ≡ 255) ⊎ ((i : ℕ) × (i < j) × (least 255 (λ i. net.guard (at list i) (at list j)) j ≡ net.guard (at list i) (at list j)))
          → (i : ℕ) × (j : ℕ) × (i < j) × (j < k) × (least_guard net (at list) k ≡ net.guard (at list i) (at list j))
      inner j l e (inl z) = absurd (omega (arith, below))
      inner j l e (inr (i, h, q)) = (i, j, h, l, e ∙ q)

      outer : (least_guard net (at list) k ≡ 255) ⊎ ((j : ℕ) × (j < k) × (least_guard net (at list) k ≡ least 255 (λ i. net.guard (at list i) (at list j)) j))
          → (i : ℕ) × (j : ℕ) × (i < j) × (j < k) × (least_guard net (at list) k ≡ net.guard (at list i) (at list j))
      outer (inl z) = absurd (omega (arith, below))
      outer (inr (j, l, e)) = inner j l e (least_at 255 (λ i. net.guard (at list i) (at list j)) j)
