-- RULES 13 and 14, the sheet as it is read: its lines, its sections, and the first line at fault. Assumes
-- nothing.
use Rattle.std.specs.Prelude.{ℕ, zero, suc, ◌+◌, ◌*◌, Bool, cond, not, ◌&&◌, List, [], ◌∷◌, set, leb, ltb, eqb}
use Rattle.std.proofs.lemmas.List.Edits.{sets}
use Rattle.rules.specs.Tables.{at, cell, Lent, lend, label_byte}
use Rattle.rules.specs.Scan.{first, found}
use Rattle.rules.specs.Text.{Parsed, none, some, then, word, space, line_feed, paths_word, guards_word, starts_word, label, number}

-- labels are compared as bytes: path k's eight are those of w, and zeros after them
unfoldable pub is_row : List ℕ → List ℕ → ℕ → Bool
is_row labels w k = not (found (λ j. not (eqb (label_byte labels k j) (at w j))) 8)

-- the path among the first n whose label is w, or n
unfoldable pub find : List ℕ → ℕ → List ℕ → ℕ
find labels n w = first (is_row labels w) n

-- the first m of the eight bytes of a label's cell, and w put down as path k's label
unfoldable pub bytes_from : ℕ → ℕ → List ℕ → List ℕ
bytes_from zero j w = []
bytes_from (suc m) j w = at w j ∷ bytes_from m (suc j) w

unfoldable pub put_row : List ℕ → ℕ → List ℕ → List ℕ
put_row labels k w = sets labels (8 * k) (bytes_from 8 0 w)

-- what a line comes to: the number of its refusal, or the tables and the text after it
pub data Line (T : Type 0) : Type 0 where
  wrong : ℕ → Line T
  right : T → List ℕ → Line T

-- what a section comes to: a refusal's number and line, or the tables and the text after it
pub data Section (T : Type 0) : Type 0 where
  halt : ℕ → ℕ → Section T
  done : T → List ℕ → Section T

unfoldable pub follow : {T : Type 0} → Line T → ℕ → (T → List ℕ → Section T) → Section T
follow (wrong number) line go = halt number line
follow (right t l) line go = go t l

-- m lines, of the indices from k on; the line of index 0 is the line `top`
unfoldable pub lines : {T : Type 0} → (ℕ → T → List ℕ → Line T) → ℕ → ℕ → ℕ → T → List ℕ → Section T
lines step top zero k t l = done t l
lines step top (suc m) k t l = follow (step k t l) (top + k) (λ t' l'. lines step top m (suc k) t' l')

-- The forms of the lines. Each ends in a number: one space, the number, one line feed
unfoldable pub last_field : List ℕ → Parsed ℕ
last_field l = then (word space l) (λ _ l₁. then (number l₁) (λ v l₂. then (word line_feed l₂) (λ _ l₃. some v l₃)))

-- a count's: a section's word, and a number
unfoldable pub count_line : List ℕ → List ℕ → Parsed ℕ
count_line w l = then (word w l) (λ _ l₁. last_field l₁)

-- `label width`, and `label start`
unfoldable pub path_line : List ℕ → Parsed (List ℕ × ℕ)
path_line l = then (label l) (λ w l₁. then (last_field l₁) (λ v l₂. some (w, v) l₂))

-- `label label guard`: a label, and then a line like a path's
unfoldable pub guard_line : List ℕ → Parsed (List ℕ × (List ℕ × ℕ))
guard_line l = then (label l) (λ a l₁. then (word space l₁) (λ _ l₂. then (path_line l₂) (λ b l₃. some (a, b) l₃)))

-- What the lines mean (RULES 14): the form first, then the fields in turn. Path k's: 11, 12 label again, 3
-- width
unfoldable pub path_means : ℕ → List ℕ → List ℕ → Parsed (List ℕ × ℕ) → Line (List ℕ × List ℕ)
path_means k labels widths none = wrong 11
path_means k labels widths (some (w, v) l) =
    cond (ltb (find labels k w) k) (wrong 12) (cond (leb 1 v && leb v 64) (right (put_row labels k w, set widths k v) l) (wrong 3))

unfoldable pub path_step : ℕ → List ℕ × List ℕ → List ℕ → Line (List ℕ × List ℕ)
path_step k t l = path_means k t.0 t.1 (path_line l)

-- A guard's line: 11, 13 no path's label or one label twice, 14 the pair again, 4 guard over 32. Both cells
-- are set
unfoldable pub guard_cell : ℕ → ℕ → ℕ → ℕ → List ℕ → List ℕ → Line (List ℕ)
guard_cell n i j g guards l =
    cond (ltb i n && ltb j n && not (eqb i j))
    (cond (eqb (at guards (cell i j)) 255)
    (cond (leb g 32) (right (set (set guards (cell i j) g) (cell j i) g) l) (wrong 4))
    (wrong 14))
    (wrong 13)

unfoldable pub guard_means : ℕ → List ℕ → List ℕ → Parsed (List ℕ × (List ℕ × ℕ)) → Line (List ℕ)
guard_means n labels guards none = wrong 11
guard_means n labels guards (some t l) = guard_cell n (find labels n t.0) (find labels n t.1.0) t.1.1 guards l

unfoldable pub guard_step : ℕ → List ℕ → ℕ → List ℕ → List ℕ → Line (List ℕ)
guard_step n labels k guards l = guard_means n labels guards (guard_line l)

-- Path k's start: 11, 13 not its label, 7 start outside 1 to 16,384
unfoldable pub start_means : List ℕ → ℕ → List ℕ → Parsed (List ℕ × ℕ) → Line (List ℕ)
start_means labels k starts none = wrong 11
start_means labels k starts (some t l) =
    cond (is_row labels t.0 k) (cond (leb 1 t.1 && leb t.1 16384) (right (set starts k t.1) l) (wrong 7)) (wrong 13)

unfoldable pub start_step : List ℕ → ℕ → List ℕ → List ℕ → Line (List ℕ)
start_step labels k starts l = start_means labels k starts (path_line l)

-- The sections, each headed by its count: one of wrong form is 11 at its line, one that is not right is 1
unfoldable pub counted : {T : Type 0} → Parsed ℕ → (ℕ → Bool) → ℕ → (ℕ → List ℕ → Section T) → Section T
counted none isRight line go = halt 11 line
counted (some n l) isRight line go = cond (isRight n) (go n l) (halt 1 line)

unfoldable pub after : {T U : Type 0} → Section T → (T → List ℕ → Section U) → Section U
after (halt number line) go = halt number line
after (done t l) go = go t l

-- text that is left over is 11 at the line that it begins
unfoldable pub ended : {T : Type 0} → ℕ → T → List ℕ → Section T
ended line t [] = done t []
ended line t (x ∷ l) = halt 11 line

-- the last section of a text, of which the count stands in the line given: it has to be n, and nothing may
-- come after its n lines
unfoldable pub last_part : {T : Type 0} → List ℕ → (ℕ → T → List ℕ → Line T) → ℕ → ℕ → T → List ℕ → Section T
last_part w step n line t l =
    counted (count_line w l) (λ m. eqb m n) line (λ m l₁.
    after (lines step (line + 1) n 0 t l₁) (λ t' l₂. ended (line + 1 + n) t' l₂))

-- the plan, where the text goes on: the count of the starts stands in the line given
unfoldable pub starts_part : ℕ → ℕ → List ℕ → List ℕ → List ℕ → Section (List ℕ)
starts_part n line labels starts [] = done starts []
starts_part n line labels starts (x ∷ l) = last_part starts_word (start_step labels) n line starts (x ∷ l)

-- the guards, at most 2,000 lines, and what follows them
unfoldable pub guards_part : ℕ → List ℕ → List ℕ → List ℕ → List ℕ → Section (List ℕ × List ℕ)
guards_part n labels guards starts l =
    counted (count_line guards_word l) (λ m. leb m 2000) (n + 2) (λ m l₁.
    after (lines (guard_step n labels) (n + 3) m 0 guards l₁) (λ t l₂.
    after (starts_part n (n + m + 3) labels starts l₂) (λ u l₃. done (t, u) l₃)))

-- a whole sheet, read over its tables: the number of paths and the tables afterwards
unfoldable pub sheet_from : List ℕ → Lent → List ℕ → List ℕ → Section (ℕ × List ℕ × Lent × List ℕ)
sheet_from labels lent starts l =
    counted (count_line paths_word l) (λ n. leb 1 n && leb n 128) 1 (λ n l₁.
    after (lines path_step 2 n 0 (labels, lent.widths) l₁) (λ t l₂.
    after (guards_part n t.0 lent.guards starts l₂) (λ u l₃. done (n, t.0, lend t.1 u.0, u.1) [])))
