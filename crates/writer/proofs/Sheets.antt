-- The sheet from its parts. Assumes nothing.
use Prim.Native.Nat.{ℕ, ◌+◌, ◌*◌, ◌≤◌}
use mathlib.Core.Path.{◌≡◌, refl, ap, ◌∙◌}
use mathlib.Core.Bool.{Bool, true, false}
use mathlib.Core.List.{List, [], ◌++◌}
use lib.ListN.{length, length-append}
use native.Mathlib.Omega.{arith}
use Rattle.rules.specs.Tables.{lend}
use Rattle.rules.specs.Text.{paths_word, guards_word, starts_word}
use Rattle.rules.specs.Writing.{pairs, has_plan, join_from, count_text, path_text, guard_text, paths_text, guards_text, starts_text, sheet_text}
use Rattle.sheet_laws.specs.Writes.{count_length, join_bound}
use Rattle.spelling.specs.Short.{numeral_short, path_short, guard_short}
use Rattle.writer.specs.Written.{guard_lines}

-- the starts section, where there is a plan and where there is none
module _ (n : ℕ) (labels starts : List ℕ) where
  pub starts_with : has_plan n starts ≡ true → starts_text n labels starts ≡ count_text starts_word n ++ join_from n 0 (path_text labels starts)
  unfolding starts_text
  starts_with e = rw e

  pub starts_without : has_plan n starts ≡ false → starts_text n labels starts ≡ []
  unfolding starts_text
  starts_without e = rw e

  pub starts_length : has_plan n starts ≡ true → length (starts_text n labels starts) ≡ length (count_text starts_word n) + length (join_from n 0 (path_text labels starts))
  starts_length e = ap length (starts_with e) ∙ length-append (count_text starts_word n) (join_from n 0 (path_text labels starts))

-- the whole sheet
pub sheet_length : (n : ℕ) (labels widths guards starts : List ℕ) → length (sheet_text n labels (lend widths guards) starts)
    ≡ length (count_text paths_word n) + length (join_from n 0 (path_text labels widths)) + (length (count_text guards_word (pairs n guards)) + length (guard_lines n labels guards)) + length (starts_text n labels starts)
unfolding sheet_text paths_text guards_text
sheet_length n labels widths guards starts =
    let a = count_text paths_word n in
    let b = join_from n 0 (path_text labels widths) in
    let d = count_text guards_word (pairs n guards) in
    let e = guard_lines n labels guards in
    let f = starts_text n labels starts in
    omega (arith, length-append (a ++ b) ((d ++ e) ++ f), length-append a b, length-append (d ++ e) f, length-append d e)

pub sheet_pieces : (n : ℕ) (labels widths guards starts : List ℕ) → sheet_text n labels (lend widths guards) starts
    ≡ (count_text paths_word n ++ join_from n 0 (path_text labels widths)) ++ ((count_text guards_word (pairs n guards) ++ guard_lines n labels guards) ++ starts_text n labels starts)
unfolding sheet_text paths_text guards_text
sheet_pieces n labels widths guards starts = refl

-- and how long it is at the most
count_short : (w : List ℕ) (m : ℕ) → length (count_text w m) ≤ length w + 7
count_short w m = omega (arith, count_length w m, numeral_short m)

starts_short : (n : ℕ) (labels starts : List ℕ) → length (starts_text n labels starts) ≤ 13 + n * 15
starts_short n labels starts = go (has_plan n starts) refl
  where
    go : (b : Bool) → has_plan n starts ≡ b → length (starts_text n labels starts) ≤ 13 + n * 15
    go true e = omega (arith, starts_length n labels starts e, count_short starts_word n, join_bound n 0 15 (path_text labels starts) (path_short labels starts))
    go false e = rw (starts_without n labels starts e) (omega arith)

pub sheet_short : (n : ℕ) (labels widths guards starts : List ℕ) → n ≤ 128 → length (sheet_text n labels (lend widths guards) starts) ≤ 400000
sheet_short n labels widths guards starts h =
    let row = λ (i : ℕ). join_bound n 0 24 (guard_text labels guards i) (guard_short labels guards i) in
    let rows = join_bound n 0 3072 (λ (i : ℕ). join_from n 0 (guard_text labels guards i)) (λ i. omega (arith, row i)) in
    let paths = join_bound n 0 15 (path_text labels widths) (path_short labels widths) in
    omega (arith, sheet_length n labels widths guards starts, rows, paths, count_short paths_word n, count_short guards_word (pairs n guards), starts_short n labels starts)
