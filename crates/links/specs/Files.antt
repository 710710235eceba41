-- The paths filed by the slot after their end, 32 slots to a file and every 128th file in one. A path stands in
-- its own file and in the next, so that all paths that may hold up another are in one file: that of its start,
-- since a guard is at most 32. Assumes nothing.
use Rattle.std.specs.Prelude.{ℕ, ◌+◌, ◌-◌, ◌/◌, ◌%◌, ◌≤◌, ◌<◌, ◌≡◌, refl, ◌≢◌, ◌⊎◌, Bool, cond, ◌&&◌, List, length, set, ltb, eqb, Option, Some, None}
use Rattle.std.proofs.Common.{sym, ap, subst, ◌∙◌, inl, inr, arith, length-set, eq-eqb, ne_eqb, lt-ltb, le-ltb}
use Rattle.std.proofs.Math.Bool.{true, false}
use Rattle.std.proofs.Math.Nat.{ℕ_set}
use Rattle.std.proofs.Props as std_props
use Rattle.std.proofs.Math.Decide.{dec_lt, ℕ_discrete}
use Rattle.std.proofs.lemmas.Bool.Decides.{nat_tests}
use Rattle.rules.specs.Tables.{at, cell, cleared, Lent}
use Rattle.rules.specs.Limits.{Network}
use Rattle.rules.specs.Scan.{first, found}
use Rattle.rules.specs.Plan.{Net, net_of}
use Rattle.rules.specs.Reason.{is_below, holds_up, link, HoldsUp}
use Rattle.network.specs.declared.Plan.{Plan}
use Rattle.network.specs.Lent.{lent}
use Rattle.table_laws.specs.Scans.{first_none, first_at, found_at, found_none}
use Rattle.table_laws.specs.Tables.{at_same, at_other, cleared_at, cleared_length}
use Rattle.plan_laws.specs.Fits.{network_bounds}
use Rattle.plan_laws.specs.Reason.{holds_parts}

-- the file of a slot, and the next one
abbrev pub file_at : ℕ → ℕ
file_at s = s / 32 % 128

abbrev pub above : ℕ → ℕ
above b = (b + 1) % 128

-- the file of path j
abbrev pub file_of : List ℕ → List ℕ → ℕ → ℕ
file_of widths starts j = file_at (at starts j + at widths j)

-- a path of file f is in file b
abbrev pub Stands : ℕ → ℕ → Type 0
Stands f b = (f ≡ b) ⊎ (above f ≡ b)

-- it is in its own or in the next, and never in one as both
pub stands_prop : {f b : ℕ} → IsProp ((f ≡ b) ⊎ ((f + 1) % 128 ≡ b))
stands_prop (inl p) (inl q) = ap inl (ℕ_set _ _ p q)
stands_prop (inr p) (inr q) = ap inr (ℕ_set _ _ p q)
stands_prop (inl p) (inr q) = absurd (omega arith)
stands_prop (inr p) (inl q) = absurd (omega arith)

pub ruleset props = (stands_prop, std_props.props)

-- r is the first path from x on that is in file b; any number of n or more where there is none
pub record Next (file : ℕ → ℕ) (n b x r : ℕ) : Type 0 where
  pub up : x ≤ r
  pub skip : (i : ℕ) → x ≤ i → i < r → i < n → Stands (file i) b → ⊥
  pub hit : r < n → Stands (file r) b

-- the paths from i on are filed: the first of each file, and after each path the next of its own file and the
-- next of the file above
pub record Filed (file : ℕ → ℕ) (n i : ℕ) (heads owns ups : List ℕ) : Type 0 where
  pub heads_size : length heads ≡ 128
  pub owns_size : length owns ≡ 128
  pub ups_size : length ups ≡ 128
  pub begins : (b : ℕ) → b < 128 → Next file n b i (at heads b)
  pub own : (j : ℕ) → i ≤ j → j < n → Next file n (file j) (j + 1) (at owns j)
  pub over : (j : ℕ) → i ≤ j → j < n → Next file n (above (file j)) (j + 1) (at ups j)

-- at first no file has a path
pub filed_none : (file : ℕ → ℕ) (n : ℕ) (owns ups : List ℕ) → n ≤ 128 → length owns ≡ 128 → length ups ≡ 128 → Filed file n n (cleared 128 128) owns ups
filed_none file n owns ups few l m = record {
  heads_size = cleared_length 128 128;
  owns_size = l;
  ups_size = m;
  begins = λ b g. record {
    up = omega (arith, cleared_at 128 128 b g);
    skip = λ i h g m. absurd (omega arith);
    hit = λ h. absurd (omega (arith, cleared_at 128 128 b g));
  };
  own = λ j h g. absurd (omega arith);
  over = λ j h g. absurd (omega arith);
}

-- one path more, j of file f: in its own file, and then in the one above
module _ (file : ℕ → ℕ) (n i f : ℕ) (heads owns ups : List ℕ) (some : 0 < i) (most : i ≤ n) (few : n ≤ 128) (is : f ≡ file (i - 1)) (inside : f < 128)
    (old : Filed file n i heads owns ups) where
  abbrev j : ℕ
  j = i - 1

  abbrev heads' : List ℕ
  heads' = set heads f j

  apart : above f ≢ f
  apart e = omega (arith, e)

  above_in : above f < 128
  above_in = omega arith

  -- what stands in the heads: where the path was put, and elsewhere
  placed : (b : ℕ) → Stands f b → at (set heads' (above f) j) b ≡ j
  placed b (inl q) =
      ap (at (set heads' (above f) j)) (sym q) ∙ at_other heads' (above f) j f (λ e. apart (sym e)) ∙ at_same heads f j (omega (arith, old.heads_size))
  placed b (inr q) = ap (at (set heads' (above f) j)) (sym q) ∙ at_same heads' (above f) j (omega (arith, length-set heads f j, old.heads_size))

  elsewhere : (b : ℕ) → f ≢ b → above f ≢ b → at (set heads' (above f) j) b ≡ at heads b
  elsewhere b p q = at_other heads' (above f) j b (λ e. q (sym e)) ∙ at_other heads f j b (λ e. p (sym e))

  -- from i on, and from j on
  back : i ≡ j + 1
  back = omega arith

  later : (b r : ℕ) → Next file n b i r → Next file n b (j + 1) r
  later b r h = subst (λ x. Next file n b x r) back h

  earlier : (b r : ℕ) → (Stands f b → ⊥) → Next file n b i r → Next file n b j r
  earlier b r no-b h = record { up = omega (arith, h.up); skip = λ k p q m. skip k p q m (ℕ_discrete k j); hit = h.hit }
    where
      skip : (k : ℕ) → j ≤ k → k < r → k < n → Dec (k ≡ j) → Stands (file k) b → ⊥
      skip k p q m (yes e) s = no-b (subst (λ x. Stands x b) (ap file e ∙ sym is) s)
      skip k p q m (no e) s = h.skip k (omega arith) q m s

  begins : (b : ℕ) → b < 128 → Next file n b j (at (set heads' (above f) j) b)
  begins b g = go (ℕ_discrete f b) (ℕ_discrete (above f) b)
    where
      here : Stands f b → Next file n b j (at (set heads' (above f) j) b)
      here s = rw (placed b s) (record { up = omega arith; skip = λ k p q m. absurd (omega arith); hit = λ h. subst (λ x. Stands x b) is s })

      go : Dec (f ≡ b) → Dec (above f ≡ b) → Next file n b j (at (set heads' (above f) j) b)
      go (yes p) d = here (inl p)
      go (no p) (yes q) = here (inr q)
      go (no p) (no q) = rw (elsewhere b p q) (earlier b (at heads b) (λ s. none s) (old.begins b g))
        where
          none : Stands f b → ⊥
          none (inl x) = p x
          none (inr x) = q x

  follows : (t : List ℕ) (to : ℕ → ℕ) (v : ℕ) → length t ≡ 128 → v ≡ at heads (to f) → to f < 128 → ((k : ℕ) → i ≤ k → k < n → Next file n (to (file k)) (k + 1) (at t k))
      → (k : ℕ) → j ≤ k → k < n → Next file n (to (file k)) (k + 1) (at (set t j v) k)
  follows t to v size e room h k p m = go (ℕ_discrete k j)
    where
      go : Dec (k ≡ j) → Next file n (to (file k)) (k + 1) (at (set t j v) k)
      go (yes q) =
          let x : at (set t j v) j ≡ at heads (to f) = at_same t j v (omega (arith, size)) ∙ e in
          subst (λ z. Next file n (to (file z)) (z + 1) (at (set t j v) z)) (sym q)
          (rw (x, ← is) (later (to f) (at heads (to f)) (old.begins (to f) room)))
      go (no q) = rw (at_other t j v k q) (h k (omega arith) m)

  pub filed_more : Filed file n j (set heads' (above f) j) (set owns j (at heads f)) (set ups j (at heads' (above f)))
  filed_more = record {
    heads_size = length-set heads' (above f) j ∙ length-set heads f j ∙ old.heads_size;
    owns_size = length-set owns j (at heads f) ∙ old.owns_size;
    ups_size = length-set ups j (at heads' (above f)) ∙ old.ups_size;
    begins = begins;
    own = follows owns (λ b. b) (at heads f) old.owns_size refl inside old.own;
    over = follows ups above (at heads' (above f)) old.ups_size (at_other heads f j (above f) apart) above_in old.over;
  }

-- a search of file b for the first path that holds path k up, on the way at path j, and at its end
pub record Searching (holds : ℕ → Bool) (file : ℕ → ℕ) (n b j : ℕ) : Type 0 where
  pub before : (i : ℕ) → i < j → i < n → Stands (file i) b → holds i ≡ false
  pub here : j < n → Stands (file j) b

pub record Searched (holds : ℕ → Bool) (file : ℕ → ℕ) (n b r : ℕ) : Type 0 where
  pub within : r ≤ n
  pub before : (i : ℕ) → i < r → Stands (file i) b → holds i ≡ false
  pub found : r < n → holds r ≡ true

module _ (holds : ℕ → Bool) (file : ℕ → ℕ) (n b j : ℕ) where
  pub search_first : Next file n b 0 j → Searching holds file n b j
  search_first f = record { before = λ i g h e. absurd (f.skip i (omega arith) g h e); here = f.hit }

  search_more : (r : ℕ) → Searching holds file n b j → holds j ≡ false → Next file n b (j + 1) r → Searching holds file n b r
  search_more r s e f = record { before = λ i g h q. go i g h q (dec_lt i j) (ℕ_discrete i j); here = f.hit }
    where
      go : (i : ℕ) → i < r → i < n → Stands (file i) b → Dec (i < j) → Dec (i ≡ j) → holds i ≡ false
      go i g h q (yes x) d = s.before i x h q
      go i g h q (no x) (yes y) = subst (λ z. holds z ≡ false) (sym y) e
      go i g h q (no x) (no y) = absurd (f.skip i (omega arith) g h q)

  -- the next path is looked up by the file that path j has
  pub search_step : (heads owns ups : List ℕ) (r : ℕ) → Filed file n 0 heads owns ups → Searching holds file n b j → j < n → holds j ≡ false
      → r ≡ cond (eqb (file j) b) (at owns j) (at ups j) → Searching holds file n b r × (j < r)
  search_step heads owns ups r f s l e q = go (ℕ_discrete (file j) b)
    where
      moved : (x : ℕ) → x ≡ b → Next file n x (j + 1) r → Searching holds file n b r × (j < r)
      moved x y h = (search_more r s e (subst (λ z. Next file n z (j + 1) r) y h), omega (arith, h.up))

      other : file j ≢ b → Stands (file j) b → above (file j) ≡ b
      other ne (inl x) = absurd (ne x)
      other ne (inr x) = x

      go : Dec (file j ≡ b) → Searching holds file n b r × (j < r)
      go (yes y) = let is : r ≡ at owns j = q ∙ rw (eq-eqb (file j) b y) in moved (file j) y (rw is (f.own j (omega arith) l))
      go (no y) = let is : r ≡ at ups j = q ∙ rw (ne_eqb (file j) b y) in moved (above (file j)) (other y (s.here l)) (rw is (f.over j (omega arith) l))

  pub search_found : j < n → Searching holds file n b j → holds j ≡ true → Searched holds file n b j
  search_found l s e = record { within = omega arith; before = λ i g q. s.before i g (omega arith) q; found = λ h. e }

  pub search_none : n ≤ j → Searching holds file n b j → Searched holds file n b n
  search_none l s = record { within = omega arith; before = λ i g q. s.before i (omega arith) (omega arith) q; found = λ h. absurd (omega arith) }

-- a path that ends just below slot s with a guard of at most 32 is in the file of s
ends_near : (s t g : ℕ) → t + g ≡ s → g ≤ 32 → Stands (file_at t) (file_at s)
ends_near s t g e l = go (ℕ_discrete (t / 32) (s / 32))
  where
    go : Dec (t / 32 ≡ s / 32) → Stands (file_at t) (file_at s)
    go (yes q) = inl (ap (λ (x : ℕ). x % 128) q)
    go (no q) = inr (let d : t / 32 + 1 ≡ s / 32 = omega arith in let m : (t / 32 % 128 + 1) % 128 ≡ (t / 32 + 1) % 128 = omega arith in m ∙ ap (λ (x : ℕ). x % 128) d)

-- the test of a pair: end + guard + 1 is the start, and then the path starts lower
pub meets_holds : (net : Net) (plan : ℕ → ℕ) (k j : ℕ) → net.guard k j ≡ net.guard j k → 1 ≤ net.width j
    → (ltb (net.guard k j) 255 && eqb (plan j + net.width j + net.guard k j) (plan k)) ≡ holds_up net plan k j
unfolding holds_up is_below
meets_holds net plan k j e w = grind (arith, nat_tests)

-- path k of a network, and the paths that hold it up
module _ (n : ℕ) (tables : Lent) (starts : List ℕ) (k : ℕ) (w : Network n tables) (l : k < n) where
  abbrev net : Net
  net = net_of tables

  abbrev file : ℕ → ℕ
  file = file_of tables.widths starts

  abbrev holds : ℕ → Bool
  holds = holds_up net (at starts) k

  held_file : (i : ℕ) → HoldsUp net (at starts) n k i → Stands (file i) (file_at (at starts k))
  held_file i h =
      ends_near (at starts k) (at starts i + at tables.widths i) (at tables.guards (cell i k)) (omega (arith, h.meets, (w.width i h.path).0))
      ((network_bounds n tables w).near i k h.path l h.conflict)

  -- the search of the file of k's start gives its link
  pub link_found : (r : ℕ) → Searched holds file n (file_at (at starts k)) r → r ≡ link net (at starts) n k
  unfolding link
  link_found r f = go (dec_lt r n)
    where
      not_held : (i : ℕ) → i < r → (b : Bool) → holds i ≡ b → holds i ≡ false
      not_held i g false e = e
      not_held i g true e = f.before i g (held_file i (holds_parts net (at starts) k i n (omega (arith, f.within)) e))

      go : Dec (r < n) → r ≡ first holds n
      go (yes x) = sym (first_at holds n r (λ i g. not_held i g (holds i) refl) (f.found x) x)
      go (no x) =
          let q : r ≡ n = omega (arith, f.within) in
          q ∙ sym (first_none holds n (λ i g. not_held i (omega arith) (holds i) refl))

  not_held : (r : ℕ) → Searching holds file n (file_at (at starts k)) r → (i : ℕ) → i < r → i < n → holds i ≡ false
  not_held r s i g x = go (holds i) refl
    where
      go : (b : Bool) → holds i ≡ b → holds i ≡ false
      go false e = e
      go true e = s.before i g x (held_file i (holds_parts net (at starts) k i n x e))

  -- and it tells whether there is one
  pub link_some : (r : ℕ) → Searching holds file n (file_at (at starts k)) r → r < n → holds r ≡ true
      → Some r ≡ cond (found holds n) (Some (link net (at starts) n k)) None
  unfolding link
  link_some r s x e = rw (found_at holds n r x e, first_at holds n r (λ i g. not_held r s i g (omega arith)) e x) refl

  pub link_none : (r : ℕ) → Searching holds file n (file_at (at starts k)) r → n ≤ r
      → None ≡ cond (found holds n) (Some (link net (at starts) n k)) None
  link_none r s x = rw (found_none holds n (λ i g. not_held r s i (omega arith) g)) refl

-- the two ways out of the test of a pair
pub meets_free : (g x t : ℕ) → 255 ≤ g → false ≡ (ltb g 255 && eqb x t)
meets_free g x t l = rw (le-ltb g 255 l)

pub meets_told : (g x t : ℕ) → g < 255 → eqb x t ≡ (ltb g 255 && eqb x t)
meets_told g x t l = rw (lt-ltb g 255 l)

-- the two ways out of the look-up
pub own_told : (file b x y f : ℕ) → f ≡ file → f ≡ b → x ≡ cond (eqb file b) x y
own_told file b x y f e q = rw (eq-eqb file b (sym e ∙ q))

pub up_told : (file b x y f : ℕ) → f ≡ file → f ≢ b → y ≡ cond (eqb file b) x y
up_told file b x y f e q = rw (ne_eqb file b (λ z. q (e ∙ z)))

-- the same of a plan's paths, for the code
module _ (p : Plan) (k : ℕ) (l : k < p.net.n) where
  abbrev plan_holds : ℕ → Bool
  plan_holds = holds_up (net_of (lent p.net)) (at p.starts.now) k

  abbrev plan_search : ℕ → Type 0
  plan_search = Searching plan_holds (file_of p.net.widths.now p.starts.now) p.net.n (file_at (at p.starts.now k))

  abbrev plan_link : Option ℕ
  plan_link = cond (found plan_holds p.net.n) (Some (link (net_of (lent p.net)) (at p.starts.now) p.net.n k)) None

  pub pair_holds : (j : ℕ) → j < p.net.n
      → plan_holds j ≡ (ltb (at p.net.guards.now (cell k j)) 255 && eqb (at p.starts.now j + at p.net.widths.now j + at p.net.guards.now (cell k j)) (at p.starts.now k))
  pair_holds j m =
      sym (meets_holds (net_of (lent p.net)) (at p.starts.now) k j (p.net.within.mirrored k j l m) (p.net.within.width j m).0)

  pub plan_some : (r : ℕ) → plan_search r → r < p.net.n → plan_holds r ≡ true → Some r ≡ plan_link
  plan_some = link_some p.net.n (lent p.net) p.starts.now k p.net.within l

  pub plan_none : (r : ℕ) → plan_search r → p.net.n ≤ r → None ≡ plan_link
  plan_none = link_none p.net.n (lent p.net) p.starts.now k p.net.within l

pub ruleset pairs = (pair_holds, nat_tests)

pub ruleset searches = (search_step, plan_some, plan_none)
