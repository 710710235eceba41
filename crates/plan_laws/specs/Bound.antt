-- How high a packing comes. Assumes nothing.
use Rattle.std.specs.Prelude.{ℕ, zero, suc, ◌+◌, ◌-◌, ◌*◌, ◌≤◌, ◌<◌, List, length}
use Rattle.std.proofs.Common.{arith}
use Rattle.rules.specs.Tables.{at}
use Rattle.rules.specs.Plan.{Net, Conflict, end, highest}
use Rattle.rules.specs.Packing.{lowest, packed, Rule, Order}
use Rattle.table_laws.specs.Count.{each_suc}
use Rattle.plan_laws.specs.Pack.{Local, Packs, packed_packs}
use Rattle.plan_laws.specs.Lowest.{lowest_le}
use Rattle.plan_laws.specs.Plans.{everywhere, packs}
use Rattle.plan_laws.specs.Heights.{highest_le}

-- the limits (RULES 3), and a bound on the lowest starts
pub record Within (net : Net) (n : ℕ) (bottom : ℕ) : Type 0 where
  pub narrow : (k : ℕ) → k < n → net.width k ≤ 64
  pub near : (i j : ℕ) → i < n → j < n → Conflict net i j → net.guard i j ≤ 32
  pub low : (k : ℕ) → k < n → net.low k ≤ bottom

module _ (net : Net) (n : ℕ) (bottom : ℕ) (w : Within net n bottom) (o : ℕ → ℕ) (ord : Order o n n) where
  -- a rule climbs no faster than a width and a guard for each path placed
  abbrev pub Climbs : Rule → Type 0
  Climbs f = (p : ℕ → ℕ) (m k : ℕ) → m ≤ n → k < n → ((i : ℕ) → i < m → p (o i) ≤ bottom + 96 * i) → f p o m k ≤ bottom + 96 * m

  pub lowest_climbs : Climbs (lowest net)
  lowest_climbs p m k l b h =
      lowest_le net p o m k (bottom + 96 * m) (omega (arith, w.low k b))
      (λ i g c. omega (arith, h i g, w.narrow (o i) (ord.inside i (omega arith)), w.near (o i) k (ord.inside i (omega arith)) b c))

  climbs : (f : Rule) → Climbs f → (p : ℕ → ℕ) (m : ℕ) → m ≤ n → Packs f o p m → (i : ℕ) → i < m → p (o i) ≤ bottom + 96 * i
  climbs f c p zero l a = λ i h. absurd (omega arith)
  climbs f c p (suc m) l a =
      let ih = climbs f c p m (omega arith) (λ i h. a i (omega arith)) in
      each_suc (λ i. p (o i) ≤ bottom + 96 * i) m ih (omega (arith, a m (omega arith), c p m (o m) (omega arith) (ord.inside m l) ih))

  -- 12,256 where bottom is 1 and n is 128; 16,351 where bottom is 4,096
  pub packed_bound : (f : Rule) → Local f → Climbs f → (t : List ℕ) → n ≤ length t → 1 ≤ n
      → highest net (at (packed f o t n)) n ≤ bottom + 96 * (n - 1) + 63
  packed_bound f loc c t room pos =
      highest_le net _ n _ (everywhere net n o ord (λ k. end net k (at (packed f o t n) k) ≤ bottom + 96 * (n - 1) + 63)
      (λ i l. omega (arith, climbs f c _ n (omega arith) (packs net n o ord t room f loc) i l, w.narrow (o i) (ord.inside i l))))

  -- the start that a path would get next
  pub next_bound : (f : Rule) → Local f → Climbs f → (t : List ℕ) → n ≤ length t → (m k : ℕ) → m ≤ n → k < n → f (at (packed f o t m)) o m k ≤ bottom + 96 * m
  next_bound f loc c t room m k l b =
      c _ m k l b (climbs f c _ m l (packed_packs f loc o t m (record { inside = λ i h. omega (arith, ord.inside i (omega arith)); fresh = λ i j h g. ord.fresh i j h (omega arith) })))
