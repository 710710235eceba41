-- The reverse-order law, where every lowest start is 1. Assumes nothing.
use Rattle.std.specs.Prelude.{ℕ, ◌+◌, ◌-◌, ◌≤◌, ◌<◌, ◌≡◌, List, length}
use Rattle.std.proofs.Common.{sym, ap, ◌∙◌, arith}
use Rattle.rules.specs.Tables.{at}
use Rattle.rules.specs.Plan.{Net, Valid, end, highest}
use Rattle.plan_laws.specs.Good.{Good}
use Rattle.rules.specs.Packing.{lowest, packed, Order, Reversed}
use Rattle.plan_laws.specs.Plans.{Keeps, packed_least, packed_valid, respects_keeps, respected}
use Rattle.plan_laws.specs.Heights.{highest_ge, highest_le}

reversed_sym : (o r : ℕ → ℕ) (n : ℕ) → Reversed o r n → Reversed r o n
reversed_sym o r n h i l = let e : i ≡ n - 1 - (n - 1 - i) = omega arith in ap o e ∙ sym (h (n - 1 - i) (omega arith))

-- the mirror of a plan: each path starts as far above slot 1 as its end was below the highest slot
abbrev pub mirror : Net → ℕ → (ℕ → ℕ) → ℕ → ℕ
mirror net n p k = highest net p n - end net k (p k) + 1

module _ (net : Net) (n : ℕ) (good : Good net n) (ones : (k : ℕ) → k < n → net.low k ≡ 1) where
  module _ (o r : ℕ → ℕ) (ord : Order o n n) (rord : Order r n n) (rev : Reversed o r n) where
    mirror_keeps : (p : ℕ → ℕ) → Keeps net n o p → Keeps net n r (mirror net n p)
    mirror_keeps p keeps i j h l =
        let a = n - 1 - i in
        let b = n - 1 - j in
        let ha : a < n = omega arith in
        let hb : b < n = omega arith in
        rw (rev i (omega arith), rev j l) (λ c. omega (
          arith,
          good.mirrored (o a) (o b) (ord.inside a ha) (ord.inside b hb),
          good.wide (o a) (ord.inside a ha),
          highest_ge net p n (o a) (ord.inside a ha),
          highest_ge net p n (o b) (ord.inside b hb),
          keeps b a (omega arith) ha (omega (arith, good.mirrored (o a) (o b) (ord.inside a ha) (ord.inside b hb))),
        ))

    half : (t u : List ℕ) → n ≤ length t → n ≤ length u
        → highest net (at (packed (lowest net) r u n)) n ≤ highest net (at (packed (lowest net) o t n)) n
    half t u room space =
        highest_le net _ n _ (λ k l. omega (arith, packed_least net n r rord u space (mirror net n p) (λ k l. omega (arith, ones k l)) (mirror_keeps p keeps) k l, good.wide k l, highest_ge net p n k l, valid.lows k l, ones k l))
      where
        p : ℕ → ℕ
        p = at (packed (lowest net) o t n)

        valid : Valid net n p
        valid = packed_valid net n o ord t room good

        keeps : Keeps net n o p
        keeps = respects_keeps net n o ord p (respected net n o ord t room)

  -- T4: an order and its reverse pack to the same highest slot
  pub reverse_law : (o r : ℕ → ℕ) → Order o n n → Order r n n → Reversed o r n → (t u : List ℕ) → n ≤ length t → n ≤ length u
      → highest net (at (packed (lowest net) o t n)) n ≡ highest net (at (packed (lowest net) r u n)) n
  reverse_law o r ord rord rev t u a b = omega (arith, half o r ord rord rev t u a b, half r o rord ord (reversed_sym o r n rev) u t b a)
