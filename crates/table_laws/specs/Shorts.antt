-- No test but that of the slots says how many slots are short: 0 beside every number that these tests answer. Assumes
-- nothing.
use Rattle.std.specs.Prelude.{ℕ, ◌≡◌, refl, Bool, true, false, cond, Option, None, Some, List, length, eqb, not, ltb, Result, Ok, Err, IfErr, IsErrAnd}
use Rattle.std.specs.Option.{ok_or}
use Rattle.std.proofs.Common.{ap, ◌∙◌}
use Rattle.rules.specs.declared.Fault.{Fault}
use Rattle.rules.specs.declared.Refusal.{Refusal}
use Rattle.rules.specs.Tables.{Lent}
use Rattle.rules.specs.Scan.{first, found, found_pair}
use Rattle.rules.specs.Plan.{Net}
use Rattle.rules.specs.Numbers.{no_fault, ◌or_else◌, refuse_if, scan, square, nowhere_short, outside, count_fault, size_fault, bad_width, bad_guard, bad_mirror, bad_entry, bad_member, order_fault, rounds_fault, list_fault, network_sizes, network_fault, lent_fault, plan_sizes, pack_fault}
use Rattle.rules.specs.Told.{refused}

-- a test, two in their order, a scan, and one of the square
pub refuse_short : (bad : Bool) (m k : ℕ) → (refuse_if bad m k).short ≡ 0
unfolding refuse_if
refuse_short true m k = refl
refuse_short false m k = refl

pub or_short : (a b : Fault) → a.short ≡ 0 → b.short ≡ 0 → (a or_else b).short ≡ 0
unfolding ◌or_else◌
or_short a b e f = go (eqb a.number 0)
  where
    go : (t : Bool) → (cond t b a).short ≡ 0
    go true = f
    go false = e

pub scan_short : (m : ℕ) (bad : ℕ → Bool) (n : ℕ) → (scan m bad n).short ≡ 0
unfolding scan
scan_short m bad n = refuse_short (found bad n) m (first bad n)

pub square_short : (m : ℕ) (bad : ℕ → ℕ → Bool) (n : ℕ) → (square m bad nowhere_short n).short ≡ 0
unfolding square
square_short m bad n = go (found_pair bad n) _ refl
  where
    go : (t : Bool) (f : Fault) → f.short ≡ 0 → (cond t f no_fault).short ≡ 0
    go true f e = e
    go false f e = refl

-- the tests of the tables that are lent
pub size_short : (table : List ℕ) (size : ℕ) → (size_fault table size).short ≡ 0
unfolding size_fault
size_short table size = refuse_short (not (eqb (length table) size)) 2 0

pub plan_sizes_short : (order starts : List ℕ) → (plan_sizes order starts).short ≡ 0
unfolding plan_sizes
plan_sizes_short order starts = or_short _ _ (size_short order 128) (size_short starts 128)

network_short : (n : ℕ) (lent : Lent) → (network_fault n lent).short ≡ 0
unfolding network_fault count_fault
network_short n lent =
    or_short _ _ (refuse_short (outside 1 128 n) 1 0)
    (or_short _ _ (scan_short 3 (bad_width lent.widths) n)
    (or_short _ _ (square_short 4 (bad_guard lent.guards) n) (square_short 5 (bad_mirror lent.guards) n)))

pub lent_short : (n : ℕ) (lent : Lent) (sizes : Fault) → sizes.short ≡ 0 → (lent_fault n lent sizes).short ≡ 0
unfolding lent_fault network_sizes
lent_short n lent sizes e =
    or_short _ _ (or_short _ _ (size_short lent.widths 128) (size_short lent.guards 16384)) (or_short _ _ e (network_short n lent))

-- and those of packing, of the rounds and of a list
pub pack_short : (n : ℕ) (lent : Lent) (order starts : List ℕ) → (pack_fault n lent order starts).short ≡ 0
unfolding pack_fault order_fault
pack_short n lent order starts =
    or_short _ _ (lent_short n lent (plan_sizes order starts) (plan_sizes_short order starts)) (scan_short 6 (bad_entry n order) n)

pub rounds_short : (rounds : ℕ) → (rounds_fault rounds).short ≡ 0
unfolding rounds_fault
rounds_short rounds = refuse_short (ltb 10000 rounds) 10 0

pub list_short : (n : ℕ) (net : Net) (list : List ℕ) → (list_fault n net list).short ≡ 0
unfolding list_fault
list_short n net list =
    or_short _ _ (refuse_short (outside 1 8 (length list)) 15 0) (scan_short 15 (bad_member n net list) (length list))

-- so a call that hands on by `?` what such a test refuses answers 0 too, as one does that refuses so by `ok_or`
pub err_short : {a : Fault} → a.short ≡ 0 → (x : Refusal) → refused x ≡ a → {T : Type 0} (result : Result T Refusal) → IsErrAnd result (λ r. r ≡ x) → IfErr result (λ r. r.short ≡ 0)
err_short z x e (Ok done) h = absurd h
err_short z x e (Err r) h = ap (λ (y : Refusal). y.short) h ∙ ap (λ (f : Fault). f.short) e ∙ z

pub ok_or_short : {T : Type 0} (found : Option T) (x : Refusal) → x.short ≡ 0 → IfErr (ok_or found x) (λ r. r.short ≡ 0)
ok_or_short None x e = e
ok_or_short (Some done) x e = tt
