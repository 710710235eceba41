-- RULES 13 and 27, the fields of a sheet. A text is a list of bytes, and a field is taken off its front. Assumes
-- nothing.
use Rattle.std.specs.Prelude.{ℕ, zero, suc, ◌+◌, ◌-◌, ◌*◌, ◌/◌, ◌%◌, Bool, cond, not, ◌&&◌, ◌||◌, List, [], ◌∷◌, ◌++◌, length, get_or, drop, leb, ltb, eqb, ℤ, pos, negsuc}
use Prim.Native.Char.{code}
use Prim.Native.String.{String, [] as endOfString, ◌∷◌ as ◌before◌}

-- a field with the text after it, or nothing: the text does not begin with such a field
pub data Parsed (A : Type 0) : Type 0 where
  none : Parsed A
  some : A → List ℕ → Parsed A

-- one field, and then what follows from it and the text after it
unfoldable pub then : {A B : Type 0} → Parsed A → (A → List ℕ → Parsed B) → Parsed B
then none k = none
then (some a l) k = k a l

-- fixed bytes, each compared
unfoldable pub word : List ℕ → List ℕ → Parsed Unit
word [] l = some tt l
word (x ∷ w) [] = none
word (x ∷ w) (y ∷ l) = cond (eqb x y) (word w l) none

-- the bytes of a text in quotes
abbrev pub bytes : String → List ℕ
bytes endOfString = []
bytes (◌before◌ c s) = code c ∷ bytes s

-- what parts two fields, and what ends a line
abbrev pub space : List ℕ
space = bytes " "

abbrev pub line_feed : List ℕ
line_feed = bytes "\n"

-- the section words
abbrev pub paths_word : List ℕ
paths_word = bytes "paths"

abbrev pub guards_word : List ℕ
guards_word = bytes "guards"

abbrev pub starts_word : List ℕ
starts_word = bytes "starts"

abbrev pub order_word : List ℕ
order_word = bytes "order"

-- what stands before a number below 0
abbrev pub hyphen : List ℕ
hyphen = bytes "-"

-- the bytes of a number; and those of a label, with capitals and the hyphen
unfoldable pub is_digit : ℕ → Bool
is_digit x = leb 48 x && leb x 57

unfoldable pub is_label_byte : ℕ → Bool
is_label_byte x = is_digit x || (leb 65 x && leb x 90) || eqb x 45

-- the longest front part of bytes that pass a test
unfoldable pub run : (ℕ → Bool) → List ℕ → List ℕ
run test [] = []
run test (x ∷ l) = cond (test x) (x ∷ run test l) []

-- a label: all label bytes that stand in front, 1 to 8 of them
unfoldable pub label : List ℕ → Parsed (List ℕ)
label l =
    let w = run is_label_byte l in
    cond (ltb 0 (length w) && leb (length w) 8) (some w (drop (length w) l)) none

-- the digits of a number: 1 to 5, and no zero in front of others
unfoldable pub is_plain : List ℕ → Bool
is_plain w = ltb 0 (length w) && leb (length w) 5 && (leb (length w) 1 || not (eqb (get_or w 0 0) 48))

-- the number that digits spell, after those that spelled v
unfoldable pub value_from : ℕ → List ℕ → ℕ
value_from v [] = v
value_from v (x ∷ w) = value_from (10 * v + (x - 48)) w

unfoldable pub number : List ℕ → Parsed ℕ
number l =
    let w = run is_digit l in
    cond (is_plain w) (some (value_from 0 w) (drop (length w) l)) none

-- a number as the writer spells it: in at most k digits, here 5
unfoldable pub spell : ℕ → ℕ → List ℕ
spell zero v = []
spell (suc k) v = cond (ltb v 10) ((48 + v) ∷ []) (spell k (v / 10) ++ ((48 + v % 10) ∷ []))

unfoldable pub numeral : ℕ → List ℕ
numeral v = spell 5 v

-- a number that may lie below 0: then a hyphen stands before it. 0 has none
unfoldable pub below_zero : Parsed ℕ → Parsed ℤ
below_zero none = none
below_zero (some zero l) = none
below_zero (some (suc v) l) = some (negsuc v) l

unfoldable pub signed : List ℕ → Parsed ℤ
signed [] = none
signed (x ∷ l) = cond (eqb x 45) (below_zero (number l)) (then (number (x ∷ l)) (λ v l₁. some (pos v) l₁))

-- and as the writer spells it
unfoldable pub signed_numeral : ℤ → List ℕ
signed_numeral (pos v) = numeral v
signed_numeral (negsuc v) = hyphen ++ numeral (suc v)
