-- The better of two orders, as the reference handed back. Assumes nothing.
use Rattle.std.specs.Prelude.{ℕ, ◌≤◌, ◌<◌, ◌≡◌, ◌≢◌, ◌⊎◌, ◌↔◌, Bool, cond, ◌||◌, not, List, [], take, ltb, eqb}
use Rattle.std.proofs.Common.{sym, ◌∙◌, inl, inr, arith}
use Rattle.std.proofs.Math.Path.{ap}
use Rattle.std.proofs.Math.Bool.{true, false}
use Rattle.std.proofs.Math.Decide.{ℕ_discrete, dec_lt}
use Rattle.std.proofs.Math.ListN.{length, length-take}
use borrow.Author.Tests.{eq-eqb, ne_eqb, lt-ltb, le-ltb}
use Rattle.std.specs.Borrow.{Bor}
use Rattle.rules.specs.declared.Packed.{Packed}
use Rattle.rules.specs.Tables.{at, cleared, Lent}
use Rattle.rules.specs.Plan.{net_of}
use Rattle.rules.specs.Packing.{Order, lowest, packed}
use Rattle.rules.specs.Numbers.{size_fault, plan_sizes, pack_fault}
use Rattle.rules.specs.Calls.{refused_packed, done_packed, packing}
use Rattle.rules.specs.Better.{packed_answer, comparing, Part, Bettered}
use Rattle.table_laws.specs.Tables.{cleared_length}
use Rattle.plan_laws.specs.Plans.{respects_lows, respects_keeps, respected, packed_least}
use Rattle.plan_laws.specs.Heights.{highest_same}
use Rattle.plan_laws.specs.Answers.{unless_refused, Packable, pack_clear, packing_packable, packable_packing}

-- What packing answers, and the starts that it leaves, do not depend on what stands in the starts that it
-- is lent
module _ (n : ℕ) (lent : Lent) (order starts others : List ℕ) (same : length starts ≡ length others) where
  fault_same : pack_fault n lent order starts ≡ pack_fault n lent order others
  unfolding pack_fault plan_sizes size_fault
  fault_same = rw same

  no_higher : (t u : List ℕ) → n ≤ length t → n ≤ length u → Order (at order) n n
      → (k : ℕ) → k < n → at (packed (lowest (net_of lent)) (at order) t n) k ≤ at (packed (lowest (net_of lent)) (at order) u n) k
  no_higher t u room space ord =
      let r = respected (net_of lent) n (at order) ord u space in
      packed_least (net_of lent) n (at order) ord t room _ (respects_lows (net_of lent) n (at order) ord _ r) (respects_keeps (net_of lent) n (at order) ord _ r)

  agree : Packable n lent order starts → (k : ℕ) → k < n
      → at (packed (lowest (net_of lent)) (at order) starts n) k ≡ at (packed (lowest (net_of lent)) (at order) others n) k
  agree p k l =
      let room : n ≤ length starts = omega (arith, p.starts_size, p.network.few) in
      let space : n ≤ length others = omega (arith, p.starts_size, p.network.few) in
      omega (arith, no_higher starts others room space p.whole k l, no_higher others starts space room p.whole k l)

  other : Packable n lent order starts → Packable n lent order others
  other p = record { network = p.network; order_size = p.order_size; starts_size = sym same ∙ p.starts_size; whole = p.whole }

  pub packing_same : (packing n lent order starts).answer ≡ (packing n lent order others).answer
  packing_same = go (ℕ_discrete (pack_fault n lent order starts).number 0)
    where
      go : Dec ((pack_fault n lent order starts).number ≡ 0) → (packing n lent order starts).answer ≡ (packing n lent order others).answer
      go (yes z) =
          let p = pack_clear n lent order starts z in unfold done_packed in
          (rw (
            packable_packing n lent order starts p,
            packable_packing n lent order others (other p),
            highest_same (net_of lent) _ _ n (agree p),
          ))
      go (no z) = unfold packing refused_packed in
          (rw (
            unless_refused (pack_fault n lent order starts) (refused_packed starts) _ z,
            ← fault_same,
            unless_refused (pack_fault n lent order starts) (refused_packed others) _ z,
          ))

-- so what `better` goes by is what packing answers for each of the two, whatever table of starts it is lent
pub packed_answer_lem : (n : ℕ) (lent : Lent) (order starts : List ℕ) → length starts ≡ 128 → (packing n lent order starts).answer ≡ packed_answer n lent order
unfolding packed_answer
packed_answer_lem n lent order starts e = packing_same n lent order starts (cleared 128 0) (e ∙ sym (cleared_length 128 0))

module _ (n : ℕ) (lent : Lent) (first second part : Bor (List ℕ)) (better : Bettered n lent first second part) where
  abbrev one : Packed
  one = packed_answer n lent first.now

  abbrev two : Packed
  two = packed_answer n lent second.now

  -- where both can be packed: the first n entries of the order of the lower highest slot, and on equality
  -- of the first
  pub better_first : one.number ≡ 0 → two.number ≡ 0 → one.highest ≤ two.highest → Part first n part
  unfolding Bettered comparing
  better_first y z l = rw (eq-eqb one.number 0 y, eq-eqb two.number 0 z, le-ltb two.highest one.highest l) at better

  pub better_second : one.number ≡ 0 → two.number ≡ 0 → two.highest < one.highest → Part second n part
  unfolding Bettered comparing
  better_second y z l = rw (eq-eqb one.number 0 y, eq-eqb two.number 0 z, lt-ltb two.highest one.highest l) at better

  -- where a packing of either is refused: an empty part of the first
  refused_part : (one.number ≢ 0) ⊎ (two.number ≢ 0) → Part first 0 part
  unfolding Bettered comparing
  refused_part (inl y) = rw (ne_eqb one.number 0 y) at better
  refused_part (inr z) = go (eqb one.number 0) (rw (ne_eqb two.number 0 z) at better)
    where
      go : (b : Bool)
          → Part (cond (eqb (cond {A = ℕ} (not b || true) 0 (cond (ltb two.highest one.highest) 2 1)) 2) second first)
          (cond (eqb (cond {A = ℕ} (not b || true) 0 (cond (ltb two.highest one.highest) 2 1)) 0) 0 n) part
          → Part first 0 part
      go true h = h
      go false h = h

  pub better_nothing : (one.number ≢ 0) ⊎ (two.number ≢ 0) → (part.ref_ptr ≡ first.ref_ptr) × (part.now ≡ [])
  better_nothing h = let p = refused_part h in (p.place, p.cells)

  -- and the part is empty there alone
  some_cells : (order : List ℕ) → (packed_answer n lent order).number ≡ 0 → part.now ≡ take n order → part.now ≡ [] → ⊥
  unfolding packed_answer
  some_cells order z e empty =
      let p = packing_packable n lent order (cleared 128 0) z in
      omega (arith, ap length e, ap length empty, length-take n order, p.network.some, p.network.few, p.order_size)

  pub better_empty : (part.now ≡ []) ↔ ((one.number ≢ 0) ⊎ (two.number ≢ 0))
  better_empty = (λ e. go e (ℕ_discrete one.number 0) (ℕ_discrete two.number 0) (dec_lt two.highest one.highest), λ h. (better_nothing h).1)
    where
      go : part.now ≡ [] → Dec (one.number ≡ 0) → Dec (two.number ≡ 0) → Dec (two.highest < one.highest) → (one.number ≢ 0) ⊎ (two.number ≢ 0)
      go e (no y) d c = inl y
      go e (yes y) (no z) c = inr z
      go e (yes y) (yes z) (yes l) = absurd (some_cells second.now z (better_second y z l).cells e)
      go e (yes y) (yes z) (no l) = absurd (some_cells first.now y (better_first y z (omega arith)).cells e)
