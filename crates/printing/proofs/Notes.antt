-- The line that `--verbose` adds, against what planning answers. Assumes nothing.
use Prim.Native.Nat.{ℕ}
use mathlib.Core.Path.{◌≡◌, ap, ◌∙◌}
use mathlib.Core.List.{List}
use lib.Dec.{eqb}
use Rattle.rules.specs.declared.Planned.{Planned}
use Rattle.rules.specs.Tables.{cleared, Lent}
use Rattle.rules.specs.Writing.{pairs}
use Rattle.rules.specs.Calls.{Left, left, planning, siding}
use Rattle.notes.specs.Note.{note_text}
use Rattle.printing.specs.Made.{note_of}

pub note_of_lem : (n : ℕ) (labels : List ℕ) (lent : Lent) (starts order order' starts' : List ℕ) (p : Planned) → order ≡ cleared 128 0
    → ◌≡◌ {A = Left Planned (List ℕ × List ℕ)} (left p (order', starts')) (planning n lent order starts 1 1000)
    → note_text n (pairs n lent.guards) p.highest (eqb (siding n lent (cleared 128 0)).answer.number 0) p.kept ≡ note_of n labels lent starts
unfolding note_of
note_of_lem n labels lent starts order order' starts' p z e =
    let q : p ≡ (planning n lent (cleared 128 0) starts 1 1000).answer
    = ap (λ (x : Left Planned (List ℕ × List ℕ)). x.answer) e ∙ ap (λ (o : List ℕ). (planning n lent o starts 1 1000).answer) z in
    ap (λ (x : Planned). note_text n (pairs n lent.guards) x.highest (eqb (siding n lent (cleared 128 0)).answer.number 0) x.kept) q
