use Prim.Native.Nat.{ℕ, ◌+◌}
use mathlib.Core.Path.{refl, sym, ap, ◌∙◌}
use mathlib.Core.List.{List}
use native.Mathlib.Omega.{arith}
use lib.ListN.{drop, set}
use lib.Seq.{sets}
use Rattle.rules.specs.Tables.{at}
use Rattle.sheet_laws.specs.Texts.{here, past}
use Rattle.sheet_laws.specs.Writes.{byte}
use Rattle.spelling.proofs.pen.put_bytes.Goals as goal

pub loop-j-preserved : goal.loop-j-preserved
loop-j-preserved c =
    let text = c.loop-j.text in
    let w = c.args.w.now in
    let j = c.loop-j.j in
    let p = c.args.place in
    (byte text (set text (p + j) (at w j)) (p + j) (p + (j + 1)) (at w j) (drop (j + 1) w) (omega arith) refl).0
    ∙ sym (ap (λ (v : List ℕ). sets text (p + j) v) (here w j (omega arith))) ∙ c.loop-j.invariant

pub returns : goal.returns
returns c =
    sym (ap (λ (v : List ℕ). sets c.loop-j.text (c.args.place + c.loop-j.j) v) (past c.args.w.now c.loop-j.j (omega arith))) ∙ c.loop-j.invariant
