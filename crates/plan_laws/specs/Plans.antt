-- The packed plan is valid, and the least on its sides. Assumes nothing.
use Rattle.std.specs.Prelude.{ℕ, ◌≤◌, ◌<◌, ◌≡◌, ◌≢◌, ◌⊎◌, List, length}
use Rattle.std.proofs.Common.{subst, subst₂, ap, inl, inr, arith}
use Rattle.std.proofs.Math.Decide.{dec_lt}
use Rattle.rules.specs.Tables.{at}
use Rattle.rules.specs.Plan.{Net, Conflict, Clear, Valid}
use Rattle.plan_laws.specs.Good.{Good}
use Rattle.rules.specs.Packing.{lowest, packed, Rule, Order}
use Rattle.plan_laws.specs.Pack.{Local, Packs, Respects, packed_packs, least}
use Rattle.table_laws.specs.Orders.{place}
use Rattle.plan_laws.specs.Lowest.{lowest_mono, lowest_local, lowest_low, lowest_past, lowest_le}

-- a plan keeps the sides of an order: of two conflicting paths the earlier is below
abbrev pub Keeps : Net → ℕ → (ℕ → ℕ) → (ℕ → ℕ) → Type 0
Keeps net n o q = (i j : ℕ) → i < j → j < n → Conflict net (o i) (o j) → Clear net q (o i) (o j)

module _ (net : Net) (n : ℕ) (o : ℕ → ℕ) (ord : Order o n n) where
  -- what holds at each place of the order holds of each path
  pub everywhere : (P : ℕ → Type 0) → ((i : ℕ) → i < n → P (o i)) → (k : ℕ) → k < n → P k
  everywhere P h k l = let r = place o n ord k l in subst P r.2 (h r.0 r.1)

  -- a plan at or above the lows that keeps the sides of an order is valid, and respects the rule; and back
  pub keeps_valid : Good net n → (q : ℕ → ℕ) → ((k : ℕ) → k < n → net.low k ≤ q k) → Keeps net n o q → Valid net n q
  keeps_valid good q lows keeps = record { lows = lows; apart = λ i j h l c. both i j (omega arith) l (λ e. omega arith) c }
    where
      at_places : (a b : ℕ) → a < n → b < n → o a ≢ o b → Conflict net (o a) (o b) → Clear net q (o a) (o b) ⊎ Clear net q (o b) (o a)
      at_places a b h l ne c = go (dec_lt a b) (dec_lt b a)
        where
          go : Dec (a < b) → Dec (b < a) → Clear net q (o a) (o b) ⊎ Clear net q (o b) (o a)
          go (yes x) d = inl (keeps a b x l c)
          go (no x) (yes y) = inr (keeps b a y h (omega (arith, good.mirrored (o a) (o b) (ord.inside a h) (ord.inside b l))))
          go (no x) (no y) = let e : a ≡ b = omega arith in absurd (ne (ap o e))

      both : (i j : ℕ) → i < n → j < n → i ≢ j → Conflict net i j → Clear net q i j ⊎ Clear net q j i
      both i j h l =
          let a = place o n ord i h in
          let b = place o n ord j l in
          subst₂ (λ x y. x ≢ y → Conflict net x y → Clear net q x y ⊎ Clear net q y x) a.2 b.2 (at_places a.0 b.0 a.1 b.1)

  pub keeps_respects : (q : ℕ → ℕ) → ((k : ℕ) → k < n → net.low k ≤ q k) → Keeps net n o q → Respects (lowest net) o q n
  keeps_respects q lows keeps i l = lowest_le net q o i (o i) (q (o i)) (lows (o i) (ord.inside i l)) (λ j h c. omega (arith, keeps j i h l c))

  pub respects_keeps : (q : ℕ → ℕ) → Respects (lowest net) o q n → Keeps net n o q
  respects_keeps q r i j h l c = omega (arith, r j l, lowest_past net q o j (o j) i h c)

  pub respects_lows : (q : ℕ → ℕ) → Respects (lowest net) o q n → (k : ℕ) → k < n → net.low k ≤ q k
  respects_lows q r = everywhere (λ k. net.low k ≤ q k) (λ i l. omega (arith, r i l, lowest_low net q o i (o i)))

  module _ (t : List ℕ) (room : n ≤ length t) where
    -- the packed table is packed, by any rule
    pub packs : (f : Rule) → Local f → Packs f o (at (packed f o t n)) n
    packs f loc = packed_packs f loc o t n (record { inside = λ i l. omega (arith, ord.inside i l); fresh = ord.fresh })

    pub respected : Respects (lowest net) o (at (packed (lowest net) o t n)) n
    respected i l = omega (arith, packs (lowest net) (lowest_local net) i l)

    -- T1: packing an order gives a valid plan
    pub packed_valid : Good net n → Valid net n (at (packed (lowest net) o t n))
    packed_valid good = keeps_valid good _ (respects_lows _ respected) (respects_keeps _ respected)

    -- T2: no plan at or above the lows that keeps the order's sides puts any path lower
    pub packed_least : (q : ℕ → ℕ) → ((k : ℕ) → k < n → net.low k ≤ q k) → Keeps net n o q → (k : ℕ) → k < n → at (packed (lowest net) o t n) k ≤ q k
    packed_least q lows keeps =
        everywhere (λ k. at (packed (lowest net) o t n) k ≤ q k)
        (least (lowest net) (lowest_mono net) o _ q n (packs (lowest net) (lowest_local net)) (keeps_respects q lows keeps))
