-- Demand 2 (RULES 21): judging, and 6, as the calls answer. Assumes nothing.
use Rattle.std.specs.Prelude.{ℕ, ◌≡◌, ◌↔◌, List}
use Rattle.rules.specs.Tables.{at, Lent}
use Rattle.rules.specs.Limits.{Network, Starts}
use Rattle.rules.specs.Plan.{net_of, Published}
use Rattle.rules.specs.Packing.{Once}
use Rattle.rules.specs.Numbers.{order_fault}
use Rattle.rules.specs.Calls.{judging}
use Rattle.plan_laws.specs.Judge.{valid_published, published_valid}
use Rattle.plan_laws.specs.Fits.{network_good}
use Rattle.table_laws.specs.Limits.{order_whole, whole_order, order_once, once_order}
use Rattle.plan_laws.specs.Answers.{judging_judgeable, judgeable_judging}

-- Judging answers 0 exactly when the tables are within the limits and the published rule holds: 001's
-- equations (2) and (3)
pub judging_exact : (n : ℕ) (lent : Lent) (starts : List ℕ)
    → ((judging n lent starts).number ≡ 0) ↔ (Network n lent × Starts n starts × Published (net_of lent) n (at starts))
judging_exact n lent starts = (
  λ z.
      let j = judging_judgeable n lent starts z in
      let g = network_good n lent j.network in
      (j.network, j.legal, valid_published (net_of lent) (at starts) n g.wide g.mirrored j.valid),
  λ h.
      let g = network_good n lent h.0 in
      judgeable_judging n lent starts
      (record { network = h.0; legal = h.1; valid = published_valid (net_of lent) (at starts) n g.wide g.mirrored h.2 }),
)

-- 6 refuses exactly the orders of which the first n do not hold each of 0 to n-1 once
pub order_exact : (n : ℕ) (order : List ℕ) → ((order_fault n order).number ≡ 0) ↔ Once (at order) n
order_exact n order = (λ z. order_once (at order) n (order_whole n order z), λ h. whole_order n order (once_order (at order) n h))
