-- RULES 26, the ask program: from its arguments and the bytes of its input, a sheet with a plan, to the bytes
-- that it prints, in lines that can be read aloud. Assumes nothing.
use Rattle.std.specs.Prelude.{ℕ, ◌+◌, ◌-◌, ◌/◌, ◌%◌, Bool, true, false, cond, ◌&&◌, List, [], ◌∷◌, ◌++◌, length, take, eqb, ℤ}
use Rattle.rules.specs.Tables.{at, cleared, Lent}
use Rattle.rules.specs.Plan.{Net, net_of, end, highest}
use Rattle.rules.specs.Reason.{last}
use Rattle.rules.specs.Text.{Parsed, none, some, bytes, word, order_word, label, numeral, signed}
use Rattle.rules.specs.Sheet.{find}
use Rattle.rules.specs.Writing.{label_of, join_from}
use Rattle.rules.specs.Numbers.{anchor_fault}
use Rattle.rules.specs.Calls.{judging, explaining, order_writing}
use Rattle.rules.specs.Program.{refusal_text, on_sheet}

-- so many slots
unfoldable pub slots_text : ℕ → List ℕ
slots_text d = numeral d ++ cond (eqb d 1) (bytes " slot") (bytes " slots")

-- a path has the slots s to e
unfoldable pub block_text : ℕ → ℕ → List ℕ
block_text s e = cond (eqb s e) (bytes " has slot " ++ numeral s) (bytes " has slots " ++ (numeral s ++ (bytes " to " ++ numeral e)))

-- where path k stands
unfoldable pub stands_text : List ℕ → Net → (ℕ → ℕ) → ℕ → List ℕ
stands_text labels net plan k = label_of labels k ++ block_text (plan k) (end net k (plan k))

-- a link of a chain: path j, which holds path k up, and the guard of the two
unfoldable pub link_text : List ℕ → Net → (ℕ → ℕ) → ℕ → ℕ → List ℕ
link_text labels net plan k j =
    bytes "Below it " ++ (stands_text labels net plan j ++ (bytes ", and the guard is " ++ (numeral (net.guard j k) ++ bytes ".\n")))

-- where a chain c ends: its last path can come down by d slots, or stands in slot 1
unfoldable pub end_text : List ℕ → List ℕ → ℕ → List ℕ
end_text labels c d =
    label_of labels (last c)
    ++ cond (eqb d 0)
    (cond (eqb (length c) 1) (bytes " is in slot 1 and cannot come down.\n")
    (bytes " is in slot 1, so " ++ (label_of labels (at c 0) ++ bytes " cannot come down in this order.\n")))
    (bytes " can come down " ++ (slots_text d ++ bytes ".\n"))

-- the whole reason: where the first path of the chain stands, each link, and the end
unfoldable pub reason_text : List ℕ → Net → (ℕ → ℕ) → List ℕ → ℕ → List ℕ
reason_text labels net plan c d =
    stands_text labels net plan (at c 0)
    ++ (bytes ".\n" ++ (join_from (length c - 1) 0 (λ i. link_text labels net plan (at c i) (at c (i + 1))) ++ end_text labels c d))

-- a valid plan; and the two paths of a cell, which clash, and how many slots short they are
unfoldable pub valid_text : ℕ → List ℕ
valid_text top = bytes "The plan is valid. Its highest slot is " ++ (numeral top ++ bytes ".\n")

unfoldable pub clash_text : List ℕ → ℕ → ℕ → List ℕ
clash_text labels place short =
    label_of labels (place / 128)
    ++ (bytes " and " ++ (label_of labels (place % 128) ++ (bytes " clash: " ++ (slots_text short ++ bytes " short.\n"))))

unfoldable pub no_plan_text : List ℕ
no_plan_text = bytes "The sheet has no plan.\n"

unfoldable pub unknown_text : List ℕ → List ℕ
unknown_text name = bytes "No path is called " ++ (name ++ bytes ".\n")

-- what is said of a refusal: 6, no path has the label; 8, two paths clash; and else the sheet, which was read
-- without a fault, has no starts
unfoldable pub refused_text : List ℕ → List ℕ → ℕ → ℕ → ℕ → List ℕ
refused_text labels name number place short =
    cond (eqb number 6) (unknown_text name) (cond (eqb number 8) (clash_text labels place short) no_plan_text)

-- The answers, on a sheet that was read: why the path of a label stands where it stands; whether the plan is
-- valid; and the order sheet of a valid plan (RULES 27), in room for the longest one
unfoldable pub why_text : List ℕ → ℕ → List ℕ → Lent → List ℕ → List ℕ
why_text name n labels lent starts =
    let r = explaining n lent starts (find labels n name) (cleared 128 0) in
    let a = r.answer in
    cond (eqb a.number 0)
    (reason_text labels (net_of lent) (at starts) (take a.length r.tables) a.down)
    (refused_text labels name a.number a.place a.short)

unfoldable pub judge_text : ℕ → List ℕ → Lent → List ℕ → List ℕ
judge_text n labels lent starts =
    let f = judging n lent starts in
    cond (eqb f.number 0) (valid_text (highest (net_of lent) (at starts) n)) (refused_text labels [] f.number f.place f.short)

unfoldable pub ordered_text : ℤ → ℕ → List ℕ → Lent → List ℕ → List ℕ
ordered_text anchor n labels lent starts =
    let f = judging n lent starts in
    let written = order_writing anchor n labels lent starts (cleared 2314 0) in
    cond (eqb f.number 0) (take written.answer.length written.tables) (refused_text labels [] f.number f.place f.short)

-- nothing is left after a field
unfoldable pub is_whole : {A : Type 0} → Parsed A → Bool
is_whole (some a []) = true
is_whole (some a (x ∷ l)) = false
is_whole none = false

abbrev pub why_word : List ℕ
why_word = bytes "why"

abbrev pub judge_word : List ℕ
judge_word = bytes "judge"

-- What is said where nothing can be asked of a sheet: no label or anchor is given, what is given is none, or the
-- word is unknown
unfoldable pub no_label_text : List ℕ
no_label_text = bytes "Say which path: why LABEL.\n"

unfoldable pub bad_label_text : List ℕ
bad_label_text = bytes "A label has 1 to 8 capitals, digits or hyphens.\n"

unfoldable pub no_anchor_text : List ℕ
no_anchor_text = bytes "Say the anchor: order ANCHOR.\n"

unfoldable pub bad_anchor_text : List ℕ
bad_anchor_text = bytes "An anchor is a whole number, -1024 to 1024.\n"

unfoldable pub words_text : List ℕ
words_text = bytes "The words are why, judge and order.\n"

-- the order sheet from an anchor, which is all of an argument and is not refused 17
unfoldable pub order_asked : Parsed ℤ → List ℕ → List ℕ
order_asked (some anchor []) input = cond (eqb (anchor_fault anchor).number 0) (on_sheet refusal_text (ordered_text anchor) input) bad_anchor_text
order_asked (some anchor (x ∷ l)) input = bad_anchor_text
order_asked none input = bad_anchor_text

-- a word that takes one argument more: so many are given
unfoldable pub with_one : ℕ → List ℕ → List ℕ → List ℕ
with_one count missing answer = cond (eqb count 1) missing (cond (eqb count 2) answer words_text)

-- from the arguments, how many there are and the first two of them, and the input to what is printed
unfoldable pub asked : ℕ → List ℕ → List ℕ → List ℕ → List ℕ
asked count first second input =
    cond (is_whole (word why_word first))
    (with_one count no_label_text (cond (is_whole (label second)) (on_sheet refusal_text (why_text second) input) bad_label_text))
    (cond (is_whole (word order_word first)) (with_one count no_anchor_text (order_asked (signed second) input))
    (cond (is_whole (word judge_word first) && eqb count 1) (on_sheet refusal_text judge_text input) words_text))
