-- What a pen puts into its text. Assumes nothing.
use Prim.Native.Nat.{ℕ, ◌+◌, ◌-◌}
use Rattle.std.specs.Prelude.{◌≡◌, refl, List, [], ◌++◌, length}
use Rattle.std.proofs.Common.{◌∙◌, sym, ap, add-zero}
use Rattle.std.proofs.Math.Seq.{length-sets}
use native.Mathlib.Omega.{arith}
use Rattle.sheet_laws.specs.Writes.{both_pieces}
use Rattle.spelling.specs.Says.{Wrote}
use Rattle.spelling.specs.Sinks.{IsSink}
use Rattle.spelling.specs.declared.pen.Pen.{Pen}

-- its text has so many bytes behind its place
abbrev pub left : Pen → ℕ
left p = length p.text.now - p.place

-- it holds the same text as before, and stands behind the piece that it put there
pub record Puts (p : Pen) (w : List ℕ) (q : Pen) : Type 0 where
  pub same_text : q.text.ghost_name ≡ p.text.ghost_name
  pub wrote : Wrote p.text.now p.place w q.place q.text.now

pub pen_laws : IsSink left Puts
pen_laws = record { none = no_piece; both = two_pieces; left = its_left }
  where
    no_piece : (p : Pen) → Puts p [] p
    no_piece p = record { same_text = refl; wrote = (sym (add-zero p.place), refl) }

    two_pieces : {p q r : Pen} {v w : List ℕ} → Puts p v q → Puts q w r → Puts p (v ++ w) r
    two_pieces {p} {q} {r} {v} {w} h k =
        record { same_text = k.same_text ∙ h.same_text; wrote = both_pieces p.text.now q.text.now r.text.now p.place q.place r.place v w h.wrote k.wrote }

    its_left : {p q : Pen} {w : List ℕ} → Puts p w q → left q + length w ≡ left p
    its_left {p} {q} {w} h =
        let e : length q.text.now ≡ length p.text.now = ap length h.wrote.1 ∙ length-sets p.text.now p.place w in
        omega (arith, e, h.wrote.0, q.inside)
