-- What the loop that packs an order keeps. It pushes: a table holds each path's lowest start, and each path
-- that is placed raises the others along its row of the guards, which is one step of `lowest` for all of
-- them. Assumes nothing.
use Prim.Native.Nat.{ℕ, suc, ◌+◌, ◌-◌, ◌*◌, ◌≤◌, ◌<◌, max}
use Rattle.std.specs.Prelude.{◌≡◌, refl, Bool, true, false, cond, List, length, set, ltb}
use Rattle.std.proofs.Math.Path.{sym, ap}
use Rattle.std.proofs.Common.{subst, ◌∙◌, arith, add-one, length-set, ext_get_or, lt-ltb, le-ltb, ltb-true}
use Rattle.std.proofs.Math.Decide.{dec_lt}
use Rattle.rules.specs.Tables.{at, cell, Lent}
use Rattle.rules.specs.Scan.{largest}
use Rattle.rules.specs.Plan.{Net, net_of, end, highest}
use Rattle.rules.specs.Packing.{Order, reach, lowest, packed, height}
use Rattle.rules.specs.Limits.{Network, KeptFrom}
use Rattle.table_laws.specs.Tables.{at_same, at_other}
use Rattle.table_laws.specs.Scans.{largest_same}
use Rattle.plan_laws.specs.Pack.{least, packed_length, packed_other, packed_next}
use Rattle.plan_laws.specs.Lowest.{lowest_mono, lowest_local}
use Rattle.plan_laws.specs.Plans.{everywhere, packs}
use Rattle.plan_laws.specs.Heights.{highest_same, largest_order}
use Rattle.plan_laws.specs.Bound.{lowest_climbs, next_bound}
use Rattle.plan_laws.specs.Fits.{network_bounds}
use Rattle.table_laws.specs.Updates.{Updated}

-- what a placed path asks of another, base being the slot after its end and g their guard: end + guard + 1;
-- 0 where there is no conflict
unfoldable pub asks : ℕ → ℕ → ℕ
asks base g = cond (ltb g 255) (base + g) 0

pub asks_conflict : (base g r : ℕ) → g < 255 → r ≡ base + g → r ≡ asks base g
unfolding asks
asks_conflict base g r l e = rw (lt-ltb g 255 l) e

pub asks_free : (base g : ℕ) → 255 ≤ g → 0 ≡ asks base g
unfolding asks
asks_free base g l = rw (le-ltb g 255 l)

pub asks_most : (base g x : ℕ) → base + 255 ≤ x → asks base g ≤ x
unfolding asks
asks_most base g x l = go (ltb g 255) refl
  where
    go : (b : Bool) → ltb g 255 ≡ b → cond b (base + g) 0 ≤ x
    go true e = omega (arith, ltb-true g 255 e)
    go false e = omega arith

pub asks_reach : (net : Net) (i j s base : ℕ) → 1 ≤ net.width i → base ≡ s + net.width i → asks base (net.guard i j) ≡ reach net i j s
unfolding asks reach
asks_reach net i j s base pos e = ap (λ (x : ℕ). cond (ltb (net.guard i j) 255) x 0) (omega arith)

-- path i is placed, base being the slot after its end: the lowest starts, raised
abbrev pub Raised : ℕ → List ℕ → ℕ → ℕ → List ℕ → List ℕ → Type 0
Raised n guards i base before after = Updated (λ k x. max x (asks base (at guards (cell i k)))) before after n

-- where the loop stands before position p of the order: starts is the table so far, need the lowest starts,
-- top the highest slot
pub record Stands (net : Net) (n : ℕ) (o : ℕ → ℕ) (table starts need : List ℕ) (top p : ℕ) : Type 0 where
  pub here : p ≤ n
  pub long : length starts ≡ 128
  pub wide : length need ≡ 128
  pub needs : (j : ℕ) → j < n → at need j ≡ lowest net (at starts) o p j
  pub tops : top ≡ largest (λ i. end net (o i) (at starts (o i))) p
  pub written : starts ≡ packed (lowest net) o table p

pub stands_first : (net : Net) (n : ℕ) (o : ℕ → ℕ) (table need : List ℕ) → length table ≡ 128 → length need ≡ 128 → ((j : ℕ) → j < n → at need j ≡ net.low j)
    → Stands net n o table table need 0 0
unfolding lowest packed largest
stands_first net n o table need l m h = record { here = omega arith; long = l; wide = m; needs = h; tops = refl; written = refl }

module _ (n : ℕ) (lent : Lent) (limits : Network n lent) (o : ℕ → ℕ) (ord : Order o n n) where
  abbrev net : Net
  net = net_of lent

  -- the lowest starts are low, so that the sums of a turn fit in 16 bits
  pub low_bound : (table : List ℕ) → length table ≡ 128 → (p j : ℕ) → p ≤ n → j < n → lowest net (at (packed (lowest net) o table p)) o p j ≤ 1 + 96 * p
  low_bound table room p j l b =
      let w = network_bounds n lent limits in
      next_bound net n 1 w o ord (lowest net) (lowest_local net) (lowest_climbs net n 1 w o ord) table (omega (arith, limits.few)) p j l b

  -- path i, the next of the order, goes to s
  module _ (starts : List ℕ) (long : length starts ≡ 128) (p : ℕ) (l : p < n) (i s : ℕ) (ei : i ≡ o p) where
    inside : i < n
    inside = subst (λ x. x < n) (sym ei) (ord.inside p l)

    abbrev after : List ℕ
    after = set starts i s

    at_new : at after i ≡ s
    at_new = at_same starts i s (omega (arith, long, inside, limits.few))

    at_old : (k : ℕ) → k < p → at after (o k) ≡ at starts (o k)
    at_old k g = at_other starts i s (o k) (λ e. ord.fresh k p g l (e ∙ ei))

    -- what it asks of the others raises their lowest starts
    pub raised_low : (w j x : ℕ) → w ≡ at lent.widths i → x ≡ lowest net (at starts) o p j → max x (asks (s + w) (at lent.guards (cell i j))) ≡ lowest net (at after) o (suc p) j
    unfolding lowest
    raised_low w j x ew ex =
        rw (ex, asks_reach net i j s (s + w) (limits.width i inside).0 (ap (λ y. s + y) ew), sym old) (ap (λ y. max (lowest net (at after) o p j) y) (sym mine))
      where
        old : lowest net (at after) o p j ≡ lowest net (at starts) o p j
        old = lowest_local net (at after) (at starts) o o p j (λ k g. refl) at_old

        mine : reach net (o p) j (at after (o p)) ≡ reach net i j s
        mine = rw (← ei, at_new) refl

    raised_top : (w top : ℕ) → w ≡ at lent.widths i → top ≡ largest (λ k. end net (o k) (at starts (o k))) p → max top (s + w - 1) ≡ largest (λ k. end net (o k) (at after (o k))) (suc p)
    unfolding largest
    raised_top w top ew et =
        rw (et, largest_same (λ k. end net (o k) (at starts (o k))) (λ k. end net (o k) (at after (o k))) p (λ k g. ap (λ x. end net (o k) x) (sym (at_old k g))))
        (ap (λ x. max (largest (λ k. end net (o k) (at after (o k))) p) x) (rw (← ei, at_new, ew) refl))

  module _ (table starts need : List ℕ) (top p : ℕ) where
    -- one path more: it goes to its lowest start s, and the others are raised
    pub stands_more : (t : Stands net n o table starts need top p) → p < n → (more : List ℕ) (top' i s w : ℕ) → i ≡ o p → s ≡ at need i → w ≡ at lent.widths i
        → Raised n lent.guards i (s + w) need more → top' ≡ max top (s + w - 1) → Stands net n o table (set starts i s) more top' (p + 1)
    stands_more t l more top' i s w ei es ew u et =
        rw add-one record {
          here = l;
          long = length-set starts i s ∙ t.long;
          wide = u.long ∙ t.wide;
          needs = λ j g. u.done j g ∙ raised_low starts t.long p l i s ei w j (at need j) ew (t.needs j g);
          tops = et ∙ raised_top starts t.long p l i s ei w top ew t.tops;
          written = packed_next (lowest net) o table p starts i s t.written ei (es ∙ t.needs i (inside starts t.long p l i s ei));
        }

    -- the same where the starts themselves are not written down
    pub stands_on : (t : Stands net n o table starts need top p) → p < n → (more : List ℕ) (top' i s w : ℕ) → i ≡ o p → s ≡ at need i → w ≡ at lent.widths i
        → Raised n lent.guards i (s + w) need more → top' ≡ max top (s + w - 1) → Stands net n o table (packed (lowest net) o table (p + 1)) more top' (p + 1)
    stands_on t l more top' i s w ei es ew u et =
        let x = stands_more t l more top' i s w ei es ew u et in
        subst (λ (y : List ℕ). Stands net n o table y more top' (p + 1)) x.written x

    pub need_bound : length table ≡ 128 → Stands net n o table starts need top p → p < n → at need (o p) ≤ 1 + 96 * p
    need_bound room t l =
        omega (
          arith,
          t.needs (o p) (ord.inside p l),
          ap (λ (x : List ℕ). lowest net (at x) o p (o p)) t.written,
          low_bound table room p (o p) (omega arith) (ord.inside p l),
        )

    pub stands_last : Stands net n o table starts need top p → n ≤ p → (top ≡ highest net (at starts) n) × (starts ≡ packed (lowest net) o table n)
    unfolding highest
    stands_last t l =
        let e : p ≡ n = omega (arith, t.here) in
        (t.tops ∙ rw e (largest_order (λ k. end net k (at starts k)) o n ord), t.written ∙ ap (packed (lowest net) o table) e)

-- the starts of an order do not go by the table that it is packed into
module _ (w : Net) (n : ℕ) (o : ℕ → ℕ) (ord : Order o n n) where
  packed_low : (t u : List ℕ) → n ≤ length t → n ≤ length u → (i : ℕ) → i < n → at (packed (lowest w) o t n) (o i) ≤ at (packed (lowest w) o u n) (o i)
  packed_low t u a b =
      least (lowest w) (lowest_mono w) o (at (packed (lowest w) o t n)) (at (packed (lowest w) o u n)) n (packs w n o ord t a (lowest w) (lowest_local w))
      (λ i l. omega (arith, packs w n o ord u b (lowest w) (lowest_local w) i l))

  packed_same : (t u : List ℕ) → n ≤ length t → n ≤ length u → (k : ℕ) → k < n → at (packed (lowest w) o t n) k ≡ at (packed (lowest w) o u n) k
  packed_same t u a b =
      everywhere w n o ord (λ k. at (packed (lowest w) o t n) k ≡ at (packed (lowest w) o u n) k) (λ i l. omega (arith, packed_low t u a b i l, packed_low u t b a i l))

  -- nor does the packed table go by what stood below n
  pub packed_over : (t u : List ℕ) → n ≤ length t → KeptFrom n t u → packed (lowest w) o u n ≡ packed (lowest w) o t n
  packed_over t u room s =
      ext_get_or 0 (packed (lowest w) o u n) (packed (lowest w) o t n)
      (packed_length (lowest w) (lowest_local w) o u n ∙ s.size ∙ sym (packed_length (lowest w) (lowest_local w) o t n)) (λ k l. go k (dec_lt k n))
    where
      alone : (x : List ℕ) (k : ℕ) → n ≤ k → at (packed (lowest w) o x n) k ≡ at x k
      alone x k l = packed_other (lowest w) (lowest_local w) o x n k (λ i h e. omega (arith, ord.inside i h))

      go : (k : ℕ) → Dec (k < n) → at (packed (lowest w) o u n) k ≡ at (packed (lowest w) o t n) k
      go k (yes l) = packed_same u t (omega (arith, s.size)) room k l
      go k (no l) = alone u k (omega arith) ∙ s.cells k (omega arith) ∙ sym (alone t k (omega arith))

  -- nor its height
  height_any : (t u : List ℕ) → n ≤ length t → n ≤ length u → highest w (at (packed (lowest w) o t n)) n ≡ highest w (at (packed (lowest w) o u n)) n
  height_any t u a b = highest_same w (at (packed (lowest w) o t n)) (at (packed (lowest w) o u n)) n (packed_same t u a b)

pub height_told : (w : Net) (n : ℕ) (order t starts : List ℕ) (r : ℕ) → Order (at order) n n → n ≤ length t → r ≡ highest w (at starts) n → starts ≡ packed (lowest w) (at order) t n
    → (u : List ℕ) → n ≤ length u → r ≡ height w n (lowest w) u order
unfolding height
height_told w n order t starts r ord a e f u b = e ∙ ap (λ (x : List ℕ). highest w (at x) n) f ∙ height_any w n (at order) ord t u a b
