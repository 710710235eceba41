-- How many slots short a pair is (RULES 4), of any two paths and as judging, pressing and why answer. Assumes
-- nothing.
use Prim.Native.Nat.{ℕ, ◌+◌, ◌-◌, ◌≤◌, ◌<◌}
use Rattle.std.proofs.Math.Path.{◌≡◌, refl, sym, ap}
use Rattle.std.proofs.Common.{◌∙◌}
use Rattle.std.specs.Prelude.{◌≢◌, ◌⊎◌, ◌↔◌, Bool, List, [], ◌∷◌, set, eqb}
use Rattle.std.proofs.Math.Logic.{inl, inr}
use Rattle.std.proofs.Math.Bool.{true, false, cond, not}
use native.Mathlib.Omega.{arith}
use Rattle.std.proofs.Math.Decide.{dec_lt}
use Rattle.std.proofs.Math.ListN.{length}
use borrow.Author.Tests.{lt-ltb, le-ltb}
use Rattle.rules.specs.declared.Fault.{Fault}
use Rattle.rules.specs.declared.Why.{Why}
use Rattle.rules.specs.Tables.{at, cell, Lent}
use Rattle.rules.specs.Limits.{Network, Starts}
use Rattle.rules.specs.Plan.{Net, net_of, Conflict, end, past, Clear, is_lower, short, too_close, set_distance}
use Rattle.rules.specs.Numbers.{no_fault, ◌or_else◌, scan, size_fault, start_fault, clash_fault, path_fault, lent_fault, plan_sizes, judge_fault, why_fault}
use Rattle.rules.specs.Calls.{Left, judging, pressing, refused_why, done_why, explaining}
use Rattle.rules.specs.Refusing.{Nowhere, Refusal, Gives, size_test, start_test, clash_test, path_test, lent_tests, judge_tests, why_tests}
use Rattle.table_laws.specs.Tables.{at_same, at_other}
use Rattle.table_laws.specs.Faults.{or_first, or_second, or_clear, or_assoc, or_past, never_or, never_refuse, never_size, never_lent, size_clear, size_good}
use Rattle.table_laws.specs.Limits.{clear_of, starts_within}
use Rattle.table_laws.specs.Chains.{lent_clear, plan_sizes_lem}
use Rattle.plan_laws.specs.Fits.{network_bounds}
use Rattle.plan_laws.specs.Short.{lower_below, lower_above, short_below, short_above, zero_clear, clear_zero}
use Rattle.plan_laws.specs.Answers.{unless_refused, unless_number, judging_judgeable}
use Rattle.plan_laws.specs.Clash.{close_parts}
use Rattle.plan_laws.specs.Judge.{clear_distance, distance_clear, distance_below, distance_above}
use Rattle.demands.specs.Tests.{told, Squared, all_right, first_bad, squared, gives_one, silent_rest}
use Rattle.demands.specs.OnRefusing.{unsaid, lent_unsaid, judging_gives, pressing_gives, explaining_gives}
use Rattle.table_laws.specs.Scans.{and_false}

-- of two paths the lower and the upper
unfoldable pub lower : (ℕ → ℕ) → ℕ → ℕ → ℕ
lower plan i j = cond (is_lower plan i j) i j

unfoldable pub upper : (ℕ → ℕ) → ℕ → ℕ → ℕ
upper plan i j = cond (is_lower plan i j) j i

lower_upper : (p : ℕ → ℕ) (i j : ℕ) → i < j → lower p i j ≢ upper p i j
lower_upper p i j l = unfold lower upper in (go (is_lower p i j))
  where
    go : (b : Bool) → cond b i j ≢ cond b j i
    go true e = omega arith
    go false e = omega arith

-- what the number means, of any two paths of a network within the limits
module _ (net : Net) (p : ℕ → ℕ) (i j : ℕ) (l : i < j) (wi : 1 ≤ net.width i) (wj : 1 ≤ net.width j) where
  -- it is 0 exactly where the pair is clear, by RULES 4 and by 001's set distance
  pub short_clear : (short net p i j ≡ 0) ↔ (Clear net p i j ⊎ Clear net p j i)
  short_clear = (zero_clear net p i j l, clear_zero net p i j l wi wj)

  pub short_distance : net.guard i j ≡ net.guard j i → (short net p i j ≡ 0) ↔ (net.guard i j < set_distance net p i j)
  short_distance e = (
    λ z. clear_distance net p i j wi wj (sym e) (zero_clear net p i j l z),
    λ d. clear_zero net p i j l wi wj (distance_clear net p i j wi wj (sym e) d),
  )

  -- where the two blocks lie apart, it is what their distance lacks to the guard. The set distance stands here
  -- with 1 added (rules/specs/Plan), so the guard does too
  pub short_gap : net.guard i j ≡ net.guard j i → (end net i (p i) < p j) ⊎ (end net j (p j) < p i)
      → short net p i j ≡ net.guard i j + 1 - set_distance net p i j
  short_gap e (inl x) = omega (arith, short_below net p i j l (omega arith), distance_below net p i j wi wj x)
  short_gap e (inr x) = omega (arith, short_above net p i j (omega arith), distance_above net p i j wi wj x)

  -- the two moved apart, the upper up by a slots and the lower down by b, are clear exactly where these are so
  -- many or more in all. A plan q has them there
  pub moved_apart : (q : ℕ → ℕ) (a b : ℕ) → q (upper p i j) ≡ p (upper p i j) + a → q (lower p i j) + b ≡ p (lower p i j)
      → (Clear net q i j ⊎ Clear net q j i) ↔ (short net p i j ≤ a + b)
  moved_apart q a b up down = go (dec_lt (p j) (p i))
    where
      one : {A B C : Type 0} → (A → C) → (B → C) → A ⊎ B → C
      one f g (inl x) = f x
      one f g (inr x) = g x

      go : Dec (p j < p i) → (Clear net q i j ⊎ Clear net q j i) ↔ (short net p i j ≤ a + b)
      go (yes x) =
          let s = short_above net p i j x in
          let t : q i ≡ p i + a = unfold upper in (rw (lower_above p i j x) at up) in
          let u : q j + b ≡ p j = unfold lower in (rw (lower_above p i j x) at down) in
          (one (λ c. absurd (omega arith)) (λ c. omega arith), λ h. inr (omega arith))
      go (no x) =
          let s = short_below net p i j l (omega arith) in
          let t : q j ≡ p j + a = unfold upper in (rw (lower_below p i j l (omega arith)) at up) in
          let u : q i + b ≡ p i = unfold lower in (rw (lower_below p i j l (omega arith)) at down) in
          (one (λ c. omega arith) (λ c. absurd (omega arith)), λ h. inl (omega arith))

  -- the upper alone
  pub moved_up : (q : ℕ → ℕ) (m : ℕ) → q (upper p i j) ≡ p (upper p i j) + m → q (lower p i j) ≡ p (lower p i j)
      → (Clear net q i j ⊎ Clear net q j i) ↔ (short net p i j ≤ m)
  moved_up q m up stays =
      let r = moved_apart q m 0 up (omega (arith, stays)) in
      (λ c. omega (arith, r.0 c), λ h. r.1 (omega arith))

-- and the order in which the two are named makes no difference
pub short_either : (net : Net) (p : ℕ → ℕ) (i j : ℕ) → i < j → short net p i j ≡ short net p j i
short_either net p i j l = unfold short in (rw other (go (is_lower p i j)))
  where
    other : is_lower p j i ≡ not (is_lower p i j)
    other = side (dec_lt (p j) (p i))
      where
        side : Dec (p j < p i) → is_lower p j i ≡ not (is_lower p i j)
        side (yes x) = rw (lower_above p i j x) (unfold is_lower in (rw (lt-ltb (p j) (p i) x)))
        side (no x) =
            rw (lower_below p i j l (omega arith))
            (unfold is_lower in (rw (le-ltb (p j) (p i) (omega arith), le-ltb j i (omega arith)) (and_false (eqb (p j) (p i)))))

    go : (b : Bool) → cond b (past net i j (p i) - p j) (past net j i (p j) - p i) ≡ cond (not b) (past net j i (p j) - p i) (past net i j (p i) - p j)
    go true = refl
    go false = refl

-- it is never more than the widest path and the largest guard together
pub short_most : (net : Net) (p : ℕ → ℕ) (i j : ℕ) → i < j → net.width i ≤ 64 → net.width j ≤ 64 → net.guard i j ≤ 32 → net.guard i j ≡ net.guard j i
    → short net p i j ≤ 96
short_most net p i j l wi wj g e = go (dec_lt (p j) (p i))
  where
    go : Dec (p j < p i) → short net p i j ≤ 96
    go (yes x) = omega (arith, short_above net p i j x)
    go (no x) = omega (arith, short_below net p i j l (omega arith))

-- A table of starts in which the upper of two paths stands m slots higher
unfoldable pub raised : List ℕ → ℕ → ℕ → ℕ → List ℕ
raised starts i j m = let k = upper (at starts) i j in set starts k (at starts k + m)

-- what an answer of 8 says: all is within the limits but for two conflicting paths, with their cell, and by how
-- many slots they are short: the upper one is clear of the other where it stands so many slots higher, or more,
-- and with fewer it is not
pub record Says (n : ℕ) (lent : Lent) (starts : List ℕ) (f : Fault) : Type 0 where
  pub network : Network n lent
  pub legal : Starts n starts
  pub i : ℕ
  pub j : ℕ
  pub below : i < j
  pub inside : j < n
  pub conflict : Conflict (net_of lent) i j
  pub place : f.place ≡ cell i j
  pub short : f.short ≡ short (net_of lent) (at starts) i j
  pub some : 0 < f.short
  pub most : f.short ≤ 96
  pub clears : (m : ℕ)
      → (Clear (net_of lent) (at (raised starts i j m)) i j ⊎ Clear (net_of lent) (at (raised starts i j m)) j i) ↔ (f.short ≤ m)

module _ (n : ℕ) (lent : Lent) (starts : List ℕ) where
  abbrev net : Net
  net = net_of lent

  says : Network n lent → Starts n starts → Squared 8 (too_close net (at starts)) (short net (at starts)) n
      → (clash_fault n net starts).number ≡ 8 → Says n lent starts (clash_fault n net starts)
  unfolding clash_fault
  says w s (all_right h e) z = absurd (omega (arith, ap (λ (f : Fault). f.number) e))
  says w s (first_bad i j l g b rows row e) z =
      let c = close_parts net (at starts) i j b in
      rw e (record {
        network = w;
        legal = s;
        i = i;
        j = j;
        below = c.0;
        inside = g;
        conflict = c.1;
        place = refl;
        short = refl;
        some = omega (arith, c.2);
        most = short_most net (at starts) i j c.0 (w.width i l).1 (w.width j g).1 ((network_bounds n lent w).near i j l g c.1) (w.mirrored i j l g);
        clears = λ m. unfold raised in
            (moved_up net (at starts) i j c.0 (w.width i l).0 (w.width j g).0 (at (set starts (top i j) (at starts (top i j) + m))) m
            (at_same starts (top i j) (at starts (top i j) + m) (room i j l g))
            (at_other starts (top i j) (at starts (top i j) + m) (lower (at starts) i j) (lower_upper (at starts) i j c.0)));
      })
    where
      top : ℕ → ℕ → ℕ
      top i j = upper (at starts) i j

      room : (i j : ℕ) → i < n → j < n → upper (at starts) i j < length starts
      room i j l g = unfold upper in (go (is_lower (at starts) i j))
        where
          go : (b : Bool) → cond b j i < length starts
          go true = omega (arith, w.few, s.size)
          go false = omega (arith, w.few, s.size)

  -- in an answer of 8 it is the number of that very cell, and above 0; beside every other number it is 0
  pub judging_short : (judging n lent starts).number ≡ 8 → Says n lent starts (judging n lent starts)
  unfolding judging judge_fault
  judging_short z =
      let a = or_past _ _ 8 (never_lent n lent (size_fault starts 128) 8 (never_size starts 128 8 (λ e. omega arith)) (inr (omega arith))) z in
      let b = or_past _ _ 8 not_start a.1 in
      let w = lent_clear n lent (size_fault starts 128) a.0 in
      let s = starts_within n starts (size_clear starts 128 w.1) b.0 in
      rw (or_second (lent_fault n lent (size_fault starts 128)) (start_fault n starts or_else clash_fault n net starts) a.0, or_second (start_fault n starts) (clash_fault n net starts) b.0)
      (says w.0 s (squared 8 (too_close net (at starts)) (short net (at starts)) n) b.1)
    where
      not_start : (start_fault n starts).number ≡ 8 → ◌≡◌ {A = ℕ} 8 0
      not_start e = unfold start_fault scan in (never_refuse _ 7 _ 8 (λ q. omega arith) e)

  pub judging_silent : (judging n lent starts).number ≢ 8 → (judging n lent starts).short ≡ 0
  unfolding Gives judge_tests
  judging_silent h =
      go (silent_rest (lent_tests n lent (size_test starts 128 ∷ [])) (start_test n starts ∷ clash_test n net starts ∷ []) (judging n lent starts)
      (lent_unsaid n lent (size_test starts 128 ∷ []) (unsaid, tt)) (judging_gives n lent starts))
    where
      go : ((judging n lent starts).short ≡ 0) ⊎ (Refusal (start_test n starts) (judging n lent starts)
          ⊎ (Nowhere (start_test n starts) × (Refusal (clash_test n net starts) (judging n lent starts) ⊎ (Nowhere (clash_test n net starts) × (judging n lent starts ≡ no_fault)))))
          → (judging n lent starts).short ≡ 0
      go (inl e) = e
      go (inr (inl r)) = r.short
      go (inr (inr (x, inl r))) = absurd (h r.number)
      go (inr (inr (x, inr (y, e)))) = ap (λ (a : Fault). a.short) e

  -- pressing refuses as judging does: the same number, the same place, as many slots short
  pub pressing_judges : told (pressing n lent starts).answer.number (pressing n lent starts).answer.place (pressing n lent starts).answer.short ≡ judging n lent starts
  pressing_judges = gives_one (judge_tests n lent starts) _ _ (pressing_gives n lent starts) (judging_gives n lent starts)

  pub pressing_short : (pressing n lent starts).answer.number ≡ 8
      → Says n lent starts (told (pressing n lent starts).answer.number (pressing n lent starts).answer.place (pressing n lent starts).answer.short)
  pressing_short z = rw pressing_judges (judging_short (sym (ap (λ (f : Fault). f.number) pressing_judges) ∙ z))

  pub pressing_silent : (pressing n lent starts).answer.number ≢ 8 → (pressing n lent starts).answer.short ≡ 0
  pressing_silent h =
      ap (λ (f : Fault). f.short) pressing_judges ∙ judging_silent (λ z. h (ap (λ (f : Fault). f.number) pressing_judges ∙ z))

  -- and so does why, where the chain's table is of its size
  module _ (path : ℕ) (table : List ℕ) where
    abbrev why : Fault
    why = told (explaining n lent starts path table).answer.number (explaining n lent starts path table).answer.place (explaining n lent starts path table).answer.short

    pub explaining_judges : length table ≡ 128 → (judging n lent starts).number ≢ 0 → why ≡ judging n lent starts
    unfolding judging judge_fault why_fault plan_sizes explaining refused_why
    explaining_judges size h =
        let tests = or_assoc (lent_fault n lent (size_fault starts 128)) (start_fault n starts or_else clash_fault n net starts) (path_fault n path) in
        let both = or_assoc (start_fault n starts) (clash_fault n net starts) (path_fault n path) in
        let first = or_first (judge_fault n lent starts) (path_fault n path) h in
        let is : why_fault n lent starts path table ≡ judge_fault n lent starts
        = ap (λ (x : Fault). lent_fault n lent x or_else (start_fault n starts or_else (clash_fault n net starts or_else path_fault n path))) (or_second (size_fault table 128) (size_fault starts 128) (clear_of (sym (size_good table 128 size))))
        ∙ ap (λ (x : Fault). lent_fault n lent (size_fault starts 128) or_else x) (sym both) ∙ sym tests ∙ first in
        let r = unless_refused (why_fault n lent starts path table) (refused_why table) (done_why net (at starts) n path table) (λ z. h (sym (ap (λ (x : Fault). x.number) is) ∙ z)) in
        ap (λ (l : Left Why (List ℕ)). told l.answer.number l.answer.place l.answer.short) r ∙ is

    pub explaining_short : why.number ≡ 8 → Says n lent starts why
    unfolding judging judge_fault why_fault explaining refused_why done_why
    explaining_short z =
        let f : (why_fault n lent starts path table).number ≡ 8
        = sym (unless_number (λ (l : Left Why (List ℕ)). l.answer.number) (why_fault n lent starts path table) (refused_why table) _ refl refl) ∙ z in
        let a = or_past _ _ 8 (never_lent n lent (plan_sizes table starts) 8 (sizes 8 (λ e. omega arith)) (inr (omega arith))) f in
        let b = or_past _ _ 8 not_start a.1 in
        let size = (plan_sizes_lem table starts (lent_clear n lent (plan_sizes table starts) a.0).1).0 in
        let e = explaining_judges size (λ q. clashes b.1 (or_clear _ _ (or_clear _ _ q).1).1) in
        rw e (judging_short (sym (ap (λ (x : Fault). x.number) e) ∙ z))
      where
        sizes : (x : ℕ) → x ≢ 2 → (plan_sizes table starts).number ≡ x → x ≡ 0
        sizes x ne = unfold plan_sizes in (never_or _ _ x (never_size table 128 x ne) (never_size starts 128 x ne))

        not_start : (start_fault n starts).number ≡ 8 → ◌≡◌ {A = ℕ} 8 0
        not_start e = unfold start_fault scan in (never_refuse _ 7 _ 8 (λ q. omega arith) e)

        clashes : (clash_fault n net starts or_else path_fault n path).number ≡ 8 → (clash_fault n net starts).number ≡ 0 → ⊥
        clashes h q = unfold path_fault in
            (absurd (omega (arith, never_refuse _ 6 _ 8 (λ e. omega arith) (sym (ap (λ (x : Fault). x.number) (or_second (clash_fault n net starts) (path_fault n path) q)) ∙ h))))

    pub explaining_silent : why.number ≢ 8 → why.short ≡ 0
    unfolding Gives why_tests
    explaining_silent h =
        go (silent_rest (lent_tests n lent (size_test table 128 ∷ size_test starts 128 ∷ [])) (start_test n starts ∷ clash_test n net starts ∷ path_test n path ∷ []) why
        (lent_unsaid n lent (size_test table 128 ∷ size_test starts 128 ∷ []) (unsaid, (unsaid, tt))) (explaining_gives n lent starts path table))
      where
        go : (why.short ≡ 0) ⊎ (Refusal (start_test n starts) why
            ⊎ (Nowhere (start_test n starts) × (Refusal (clash_test n net starts) why ⊎ (Nowhere (clash_test n net starts) × (Refusal (path_test n path) why ⊎ (Nowhere (path_test n path) × (why ≡ no_fault)))))))
            → why.short ≡ 0
        go (inl e) = e
        go (inr (inl r)) = r.short
        go (inr (inr (x, inl r))) = absurd (h r.number)
        go (inr (inr (x, inr (y, inl r)))) = r.short
        go (inr (inr (x, inr (y, inr (w, e))))) = ap (λ (a : Fault). a.short) e

-- so the table with the upper path so many slots higher, judged, is not refused at that cell again; with fewer
-- it is refused still
module _ (n : ℕ) (lent : Lent) (starts : List ℕ) (old : Says n lent starts (judging n lent starts)) (m : ℕ) where
  abbrev moved : List ℕ
  moved = raised starts old.i old.j m

  pub raised_clears : (judging n lent starts).short ≤ m → (judging n lent moved).number ≡ 8 → (judging n lent moved).place ≢ (judging n lent starts).place
  raised_clears h again e = absurd (omega (arith, now.some, now.short, here, zero))
    where
      now : Says n lent moved (judging n lent moved)
      now = judging_short n lent moved again

      row : now.i ≡ old.i
      row = omega (arith, now.place, old.place, now.inside, old.inside, old.network.few, e)

      column : now.j ≡ old.j
      column = omega (arith, now.place, old.place, now.inside, old.inside, old.network.few, e)

      here : short (net_of lent) (at moved) now.i now.j ≡ short (net_of lent) (at moved) old.i old.j
      here = rw (row, column)

      zero : short (net_of lent) (at moved) old.i old.j ≡ 0
      zero =
          clear_zero (net_of lent) (at moved) old.i old.j old.below (old.network.width old.i (omega (arith, old.below, old.inside))).0
          (old.network.width old.j old.inside).0 ((old.clears m).1 h)

  pub raised_short : m < (judging n lent starts).short → (judging n lent moved).number ≢ 0
  raised_short h z =
      let valid = (judging_judgeable n lent moved z).valid in
      omega (arith, (old.clears m).0 (valid.apart old.i old.j old.below old.inside old.conflict))
