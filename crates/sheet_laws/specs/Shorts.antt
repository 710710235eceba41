-- No refusal of a sheet or an order sheet says that slots are short: their tests do not, and `?` hands a refusal on as it
-- is. Assumes nothing.
use Rattle.std.specs.Prelude.{ℕ, ◌≡◌, refl, Bool, true, false, cond, List, eqb, ℤ, Result, Ok, Err, IfErr, IsErrAnd}
use Rattle.std.proofs.Common.{ap, ◌∙◌}
use Rattle.rules.specs.declared.Fault.{Fault}
use Rattle.rules.specs.declared.Refusal.{Refusal}
use Rattle.rules.specs.Scan.{first, found, found_pair}
use Rattle.rules.specs.Tables.{Lent}
use Rattle.rules.specs.Numbers.{fault, no_fault, refuse_if, ◌or_else◌, scan, square, nowhere_short, count_fault, size_fault, network_fault, network_sizes, lent_fault, start_fault, label_sizes, sheet_sizes, anchor_fault, order_read_fault}
use Rattle.rules.specs.Told.{refused}

either_short : (t : Bool) (f g : Fault) → f.short ≡ 0 → g.short ≡ 0 → (cond t f g).short ≡ 0
either_short true f g e h = e
either_short false f g e h = h

-- one test, and two in their order
pub refuse_short : (bad : Bool) (m k : ℕ) → (refuse_if bad m k).short ≡ 0
unfolding refuse_if
refuse_short bad m k = either_short bad (fault m k) no_fault refl refl

pub or_short : (a b : Fault) → a.short ≡ 0 → b.short ≡ 0 → (a or_else b).short ≡ 0
unfolding ◌or_else◌
or_short a b e h = either_short (eqb a.number 0) b a h e

pub scan_short : (m : ℕ) (bad : ℕ → Bool) (n : ℕ) → (scan m bad n).short ≡ 0
unfolding scan
scan_short m bad n = refuse_short (found bad n) m (first bad n)

square_short : (m : ℕ) (bad : ℕ → ℕ → Bool) (n : ℕ) → (square m bad nowhere_short n).short ≡ 0
unfolding square
square_short m bad n = either_short (found_pair bad n) _ no_fault refl refl

-- the tests of sizes, and those of a network
size_short : (table : List ℕ) (size : ℕ) → (size_fault table size).short ≡ 0
unfolding size_fault
size_short table size = refuse_short _ 2 0

network_short : (lent : Lent) → (network_sizes lent).short ≡ 0
unfolding network_sizes
network_short lent = or_short _ _ (size_short lent.widths 128) (size_short lent.guards 16384)

pub label_short : (labels starts : List ℕ) → (label_sizes labels starts).short ≡ 0
unfolding label_sizes
label_short labels starts = or_short _ _ (size_short labels 1024) (size_short starts 128)

pub sheet_short : (labels : List ℕ) (lent : Lent) (starts : List ℕ) → (sheet_sizes labels lent starts).short ≡ 0
unfolding sheet_sizes
sheet_short labels lent starts = or_short _ _ (network_short lent) (label_short labels starts)

pub lent_short : (n : ℕ) (lent : Lent) (sizes : Fault) → sizes.short ≡ 0 → (lent_fault n lent sizes).short ≡ 0
unfolding lent_fault network_fault count_fault
lent_short n lent sizes e =
    or_short _ _ (network_short lent)
    (or_short _ _ e (or_short _ _ (refuse_short _ 1 0) (or_short _ _ (scan_short 3 _ n) (or_short _ _ (square_short 4 _ n) (square_short 5 _ n)))))

pub start_short : (n : ℕ) (starts : List ℕ) → (start_fault n starts).short ≡ 0
unfolding start_fault
start_short n starts = scan_short 7 _ n

pub order_short : (anchor : ℤ) (n : ℕ) (labels : List ℕ) (lent : Lent) (starts : List ℕ) → (order_read_fault anchor n labels lent starts).short ≡ 0
unfolding order_read_fault anchor_fault
order_short anchor n labels lent starts = lent_short n lent _ (or_short _ _ (label_short labels starts) (refuse_short _ 17 0))

-- a refusal that a test answers, and one that is handed on
pub refused_short : {f : Fault} (r : Refusal) → refused r ≡ f → f.short ≡ 0 → r.short ≡ 0
refused_short r e z = ap (λ (x : Fault). x.short) e ∙ z

pub handed_short : {T : Type 0} (r : Result T Refusal) (x : Refusal) → IsErrAnd r (λ e. e ≡ x) → x.short ≡ 0 → IfErr r (λ e. e.short ≡ 0)
handed_short (Ok d) x h z = absurd h
handed_short (Err y) x h z = ap (λ (r : Refusal). r.short) h ∙ z
