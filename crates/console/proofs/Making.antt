-- What comes after the first bytes of an input changes nothing that is made on a sheet. Assumes nothing.
use Prim.Native.Nat.{ℕ, ◌≤◌}
use mathlib.Core.Path.{◌≡◌, refl, sym, ap, ◌∙◌, subst}
use mathlib.Core.List.{List, [], ◌++◌}
use native.Mathlib.Omega.{arith}
use lib.ListN.{length, take, drop, take-append-drop}
use lib.Seq.{take-append_seam, length-take-le}
use Rattle.rules.specs.Tables.{cleared, Lent, lend}
use Rattle.rules.specs.Program.{on_sheet}
use Rattle.sheet_laws.specs.FirstBytes.{first_bytes_from}
use Rattle.std.proofs.Common.{Option, Some, None, inl, inr}
use Rattle.std.proofs.lemmas.Bool.{cases_lt}
use Rattle.std.proofs.lemmas.List.{take_all}
use Rattle.std.specs.Io.KnownBytes.{Appends, IsAtEnd}
use Rattle.std.proofs.KnownBytes.{Consumes-whole}
use Rattle.console.specs.Kept.{Took}
use Rattle.console.specs.Made.{Made, WroteFrom, WroteOf}

pub sheet_front : (refused : ℕ → ℕ → List ℕ) (made : ℕ → List ℕ → Lent → List ℕ → List ℕ) (l z : List ℕ) → 65536 ≤ length l
    → on_sheet refused made l ≡ on_sheet refused made (l ++ z)
unfolding on_sheet
sheet_front refused made l z h =
    rw (first_bytes_from (length l) (l ++ z) (cleared 1024 0) (lend (cleared 128 0) (cleared 16384 0)) (cleared 128 0) (omega arith), take-append_seam l z)

-- what is made of an input
pub made_front : (text : List ℕ → List ℕ) (input out : List ℕ) (r : ℕ) → r ≤ length out → take r out ≡ text input
    → ((rest : List ℕ) → 65536 ≤ length input → text input ≡ text (input ++ rest)) → Made text input r out
made_front text input out r l e f = record {
  within = l;
  front = sym (length-take-le r out l);
  made = e;
  whole = λ rest h. e ∙ f rest h;
}

-- what is printed of it: the first bytes of an input are all that it has, or more follow them
first_bytes : (text : List ℕ → List ℕ) (first input out : List ℕ) (r : ℕ) → Made text first r out → first ≡ take 65536 input → take r out ≡ text input
first_bytes text first input out r m e =
    elim (cases_lt 65536 (length input)) [
      | inl more ↦ m.whole (drop 65536 input) (omega (arith, ap length e, length-take-le 65536 input)) ∙ ap text (ap (λ (l : List ℕ). l ++ drop 65536 input) e ∙ take-append-drop 65536 input)
      | inr few ↦ m.made ∙ ap text (e ∙ take_all 65536 input few)
    ]

pub wrote_from : (text : List ℕ → List ℕ) (first out : List ℕ) (r : ℕ) (held held' : Option (List ℕ)) → Made text first r out → Appends held held' (take r out) → WroteFrom text first held held'
wrote_from text first out r held held' m a input e = subst (Appends held held') (first_bytes text first input out r m e) a

-- what was read to its end
pub wrote_of : (text : List ℕ → List ℕ) (left left' held held' : Option (List ℕ)) (have : ℕ) (kept : List ℕ) → Took left left' have kept → IsAtEnd left' → length kept ≡ 65536
    → WroteFrom text (take have kept) held held' → WroteOf text left held held'
wrote_of text left left' held held' have kept t end l w =
    Consumes-whole left left' t.given (λ (input : List ℕ). Appends held held' (text input)) t.taken end (w t.given (t.front ∙ ap (λ (n : ℕ). take n t.given) l))

-- what is the same of every input
pub wrote_same : (text : List ℕ → List ℕ) (left held held' : Option (List ℕ)) → ((input other : List ℕ) → text input ≡ text other) → WroteFrom text [] held held' → WroteOf text left held held'
wrote_same text None held held' same w = tt
wrote_same text (Some input) held held' same w = subst (Appends held held') (same [] input) (w [] refl)
