-- The forms of a sheet's lines, exactly: a field is found where its bytes stand, and nowhere else. A number
-- stands in a text in one way alone, that of the writer. Assumes nothing.
use Rattle.std.specs.Prelude.{ℕ, zero, suc, ◌+◌, ◌-◌, ◌*◌, ◌/◌, ◌%◌, ◌^◌, ◌≤◌, ◌<◌, ◌≡◌, refl, ◌⊎◌, Bool, true, false, cond, not, ◌&&◌, ◌||◌, List, [], ◌∷◌, ◌++◌, length, drop, ltb, leb, eqb}
use Rattle.std.proofs.Common.{sym, ap, subst, ◌∙◌, inl, inr, append_assoc, append-nil, add-zero, lt_of_lt_of_le, take-append-drop, lit<, ltb-true, leb-true, eqb-true, le-leb, eq-eqb}
use Rattle.std.proofs.lemmas.Bool.{false≢true, eqb-false}
use native.Mathlib.Omega.{arith}
use Rattle.std.proofs.Math.Decide.{dec_lt}
use Rattle.std.proofs.Math.Nat.{pow-le-pow_right}
use Rattle.rules.specs.Tables.{at}
use Rattle.rules.specs.Text.{Parsed, none, some, then, word, space, line_feed, is_digit, is_label_byte, run, label, is_plain, value_from, number, spell, numeral}
use Rattle.rules.specs.Sheet.{last_field, count_line, path_line, guard_line}
use Rattle.rules.specs.Writing.{count_text}
use Rattle.sheet_laws.specs.Texts.{All, run_take, digit_bounds, spell_small, spell_big, spell_more}
use Rattle.demands.specs.RoundTrip.{run_all, count_trip, line_trip, guard_trip}
use Rattle.table_laws.specs.Scans.{and_both}

-- a byte of a label: a digit, a capital, or a hyphen
abbrev pub LabelByte : ℕ → Type 0
LabelByte x = ((48 ≤ x) × (x ≤ 57)) ⊎ ((65 ≤ x) × (x ≤ 90)) ⊎ (x ≡ 45)

pub label_byte_lem : (x : ℕ) → is_label_byte x ≡ true → LabelByte x
unfolding is_label_byte is_digit
label_byte_lem x = go (leb 48 x) refl (leb x 57) refl (leb 65 x) refl (leb x 90) refl (eqb x 45) refl
  where
    go : (a : Bool) → leb 48 x ≡ a → (b : Bool) → leb x 57 ≡ b → (c : Bool) → leb 65 x ≡ c → (d : Bool) → leb x 90 ≡ d → (f : Bool) → eqb x 45 ≡ f
        → (a && b || (c && d) || f) ≡ true → LabelByte x
    go true p true q c r d s f t e = inl (leb-true 48 x p, leb-true x 57 q)
    go true p false q true r true s f t e = inr (inl (leb-true 65 x r, leb-true x 90 s))
    go true p false q true r false s true t e = inr (inr (eqb-true x 45 t))
    go true p false q true r false s false t e = absurd (false≢true e)
    go true p false q false r d s true t e = inr (inr (eqb-true x 45 t))
    go true p false q false r d s false t e = absurd (false≢true e)
    go false p b q true r true s f t e = inr (inl (leb-true 65 x r, leb-true x 90 s))
    go false p b q true r false s true t e = inr (inr (eqb-true x 45 t))
    go false p b q true r false s false t e = absurd (false≢true e)
    go false p b q false r d s true t e = inr (inr (eqb-true x 45 t))
    go false p b q false r d s false t e = absurd (false≢true e)

or_true : (t : Bool) → (t || true) ≡ true
or_true true = refl
or_true false = refl

pub byte_label : (x : ℕ) → LabelByte x → is_label_byte x ≡ true
unfolding is_label_byte is_digit
byte_label x (inl h) = rw (le-leb 48 x h.0, le-leb x 57 h.1)
byte_label x (inr (inl h)) = rw (le-leb 65 x h.0, le-leb x 90 h.1, or_true)
byte_label x (inr (inr e)) = rw (eq-eqb x 45 e, or_true)

-- fields, taken off the front of a text
pub then_some : {A B : Type 0} (p : Parsed A) (k : A → List ℕ → Parsed B) (b : B) (l : List ℕ) → then p k ≡ some b l → (a : A) × (l₁ : List ℕ) × (p ≡ some a l₁) × (k a l₁ ≡ some b l)
unfolding then
then_some none k b l e = let z : ◌≡◌ {A = ℕ} 0 1 = cc in absurd (omega arith)
then_some (some a l₁) k b l e = (a, l₁, refl, e)

pub word_is : (w l : List ℕ) (u : Unit {0}) (r : List ℕ) → word w l ≡ some u r → l ≡ w ++ r
unfolding word
word_is [] l u r e = cc
word_is (x ∷ w) [] u r e = let z : ◌≡◌ {A = ℕ} 0 1 = cc in absurd (omega arith)
word_is (x ∷ w) (y ∷ l) u r e = go (eqb x y) refl (λ f. word_is w l u r f) e
  where
    go : (b : Bool) → eqb x y ≡ b → (word w l ≡ some u r → l ≡ w ++ r) → cond b (word w l) none ≡ some u r → y ∷ l ≡ x ∷ (w ++ r)
    go true p ih f = let q = eqb-true x y p in let h = ih f in cc
    go false p ih f = let z : ◌≡◌ {A = ℕ} 0 1 = cc in absurd (omega arith)

-- "A label is 1 to 8 of digits, capitals and hyphen"
pub record Label (w : List ℕ) : Type 0 where
  pub some : 1 ≤ length w
  pub few : length w ≤ 8
  pub bytes : (j : ℕ) → j < length w → LabelByte (at w j)

pub all_bytes : (w : List ℕ) → All is_label_byte w → (j : ℕ) → j < length w → LabelByte (at w j)
all_bytes [] a j l = absurd (omega arith)
all_bytes (x ∷ w) a zero l = label_byte_lem x a.0
all_bytes (x ∷ w) a (suc j) l = all_bytes w a.1 j (omega arith)

pub bytes_all : (w : List ℕ) → ((j : ℕ) → j < length w → LabelByte (at w j)) → All is_label_byte w
bytes_all [] h = tt
bytes_all (x ∷ w) h = (byte_label x (h 0 (omega arith)), bytes_all w (λ j l. h (suc j) (omega arith)))

pub label_field : (l w r : List ℕ) → label l ≡ some w r → Label w × (l ≡ w ++ r)
unfolding label
label_field l w r = go (ltb 0 (length (run is_label_byte l)) && leb (length (run is_label_byte l)) 8) refl
  where
    W : List ℕ
    W = run is_label_byte l

    go : (b : Bool) → (ltb 0 (length W) && leb (length W) 8) ≡ b → cond b (some W (drop (length W) l)) none ≡ some w r → Label w × (l ≡ w ++ r)
    go true f e =
        let q : W ≡ w = cc in
        let d : drop (length W) l ≡ r = cc in
        let h = and_both _ _ f in
        subst (λ (v : List ℕ). Label v × (l ≡ v ++ r)) q (
          record { some = ltb-true 0 (length W) h.0; few = leb-true (length W) 8 h.1; bytes = all_bytes W (run_all is_label_byte l) },
          sym (take-append-drop (length W) l) ∙ ap (λ (v : List ℕ). v ++ drop (length W) l) (sym (run_take is_label_byte l)) ∙ ap (λ (v : List ℕ). W ++ v) d,
        )
    go false f e = let z : ◌≡◌ {A = ℕ} 0 1 = cc in absurd (omega arith)

-- digits after the digits of v, v not 0: they are spelled as they stand
spell_on : (w : List ℕ) (j v : ℕ) → All is_digit w → 1 ≤ v → v < 10 ^ suc j → spell (suc j + length w) (value_from v w) ≡ spell (suc j) v ++ w
unfolding value_from
spell_on [] j v a p b = rw (add-zero (suc j)) (sym (append-nil (spell (suc j) v)))
spell_on (x ∷ w) j v a p b =
    let d = digit_bounds x a.0 in
    let u = 10 * v + (x - 48) in
    let e : suc j + suc (length w) ≡ suc (suc j) + length w = omega arith in
    let t : u / 10 ≡ v = omega arith in
    let m : 48 + u % 10 ≡ x = omega arith in
    let big : 10 ≤ u = omega arith in
    rw e
    (spell_on w (suc j) u a.1 (omega arith) (omega arith)
    ∙ ap (λ (s : List ℕ). s ++ w) (tail_is u big t m)
    ∙ append_assoc (spell (suc j) v) (x ∷ []) w)
  where
    tail_is : (u : ℕ) → 10 ≤ u → u / 10 ≡ v → 48 + u % 10 ≡ x → spell (suc (suc j)) u ≡ spell (suc j) v ++ (x ∷ [])
    tail_is u big t m = spell_big (suc j) u big ∙ rw (t, m)

-- more room for digits than there are
spell_room : (j k n : ℕ) → n < 10 ^ suc k → spell (suc k + j) n ≡ spell (suc k) n
spell_room zero k n b = rw (add-zero (suc k))
spell_room (suc j) k n b =
    let e : suc k + suc j ≡ suc (suc k) + j = omega arith in
    rw e (spell_room j (suc k) n (omega arith) ∙ spell_more k n b)

value_below : (w : List ℕ) (j v : ℕ) → All is_digit w → v < 10 ^ j → value_from v w < 10 ^ (j + length w)
unfolding value_from
value_below [] j v a b = rw (add-zero j) b
value_below (x ∷ w) j v a b =
    let d = digit_bounds x a.0 in
    let e : j + suc (length w) ≡ suc j + length w = omega arith in
    rw e (value_below w (suc j) (10 * v + (x - 48)) a.1 (omega arith))

-- digits that are no 0 in front of others are the writer's spelling of their value
front_spelled : (x : ℕ) (w : List ℕ) → All is_digit (x ∷ w) → (w ≡ []) ⊎ (x ≡ 48 → ⊥) → spell (suc (length w)) (value_from (x - 48) w) ≡ x ∷ w
unfolding value_from
front_spelled x [] a led =
    let d = digit_bounds x a.0 in
    let e : 48 + (x - 48) ≡ x = omega arith in
    spell_small 0 (x - 48) (omega arith) ∙ ap (λ (n : ℕ). n ∷ []) e
front_spelled x (y ∷ w) a (inl e) = let z : ◌≡◌ {A = ℕ} 0 1 = cc in absurd (omega arith)
front_spelled x (y ∷ w) a (inr ne) =
    let d = digit_bounds x a.0 in
    let e : 48 + (x - 48) ≡ x = omega arith in
    let k : suc (suc (length w)) ≡ suc 0 + suc (length w) = omega arith in
    rw k (spell_on (y ∷ w) 0 (x - 48) a.1 (let h : x ≡ 48 → ⊥ = ne in positive d h) (omega arith) ∙ ap (λ (s : List ℕ). s ++ (y ∷ w)) (spell_small 0 (x - 48) (omega arith) ∙ ap (λ (n : ℕ). n ∷ []) e))
  where
    positive : (48 ≤ x) × (x ≤ 57) → (x ≡ 48 → ⊥) → 1 ≤ x - 48
    positive d h = go (dec_lt 48 x)
      where
        go : Dec (48 < x) → 1 ≤ x - 48
        go (yes l) = omega arith
        go (no l) = absurd (h (omega arith))

five_digits : (v : ℕ) → spell 5 v ≡ numeral v
unfolding numeral
five_digits v = refl

spelled_is : (w : List ℕ) → All is_digit w → 1 ≤ length w → length w ≤ 5 → (length w ≤ 1) ⊎ (at w 0 ≡ 48 → ⊥) → (value_from 0 w ≤ 99999) × (w ≡ numeral (value_from 0 w))
spelled_is [] a one few led = absurd (omega arith)
spelled_is (x ∷ w) a one few led = (omega (arith, below), spelled)
  where
    v : ℕ
    v = x - 48

    first : value_from 0 (x ∷ w) ≡ value_from v w
    first = unfold value_from in (let e : 10 * 0 + (x - 48) ≡ x - 48 = omega arith in rw e)

    small : value_from v w < 10 ^ suc (length w)
    small = let d = digit_bounds x a.0 in let e : suc (length w) ≡ 1 + length w = omega arith in rw e (value_below w 1 v a.1 (omega arith))

    below : value_from 0 (x ∷ w) < 100000
    below = rw first (lt_of_lt_of_le small (pow-le-pow_right {n = 10} (lit< tt) {i = suc (length w)} {j = 5} few))

    alone : (length (x ∷ w) ≤ 1) ⊎ (x ≡ 48 → ⊥) → (w ≡ []) ⊎ (x ≡ 48 → ⊥)
    alone (inl h) = inl (nothing w h)
      where
        nothing : (u : List ℕ) → length (x ∷ u) ≤ 1 → u ≡ []
        nothing [] h = refl
        nothing (y ∷ u) h = absurd (let k : suc (suc (length u)) ≤ 1 = h in omega arith)
    alone (inr h) = inr h

    spelled : x ∷ w ≡ numeral (value_from 0 (x ∷ w))
    spelled =
        let five : suc (length w) + (5 - suc (length w)) ≡ 5 = omega arith in
        sym (front_spelled x w a (alone led)) ∙ sym (spell_room (5 - suc (length w)) (length w) (value_from v w) small)
        ∙ ap (λ (k : ℕ). spell k (value_from v w)) five ∙ five_digits (value_from v w) ∙ ap numeral (sym first)

-- "A number has 1 to 5 digits and no leading zero, save 0 itself": the writer's spelling of a number up to
-- 99,999
pub number_field : (l : List ℕ) (v : ℕ) (r : List ℕ) → number l ≡ some v r → (v ≤ 99999) × (l ≡ numeral v ++ r)
unfolding number is_plain
number_field l v r = go (ltb 0 (length W)) refl (leb (length W) 5) refl (leb (length W) 1) refl (eqb (at W 0) 48) refl
  where
    W : List ℕ
    W = run is_digit l

    found : 1 ≤ length W → length W ≤ 5 → (length W ≤ 1) ⊎ (at W 0 ≡ 48 → ⊥) → some (value_from 0 W) (drop (length W) l) ≡ some v r → (v ≤ 99999) × (l ≡ numeral v ++ r)
    found p q s e =
        let f : value_from 0 W ≡ v = cc in
        let d : drop (length W) l ≡ r = cc in
        let h = spelled_is W (run_all is_digit l) p q s in (
          omega (arith, h.0),
          sym (take-append-drop (length W) l) ∙ ap (λ (u : List ℕ). u ++ drop (length W) l) (sym (run_take is_digit l) ∙ h.1 ∙ ap numeral f) ∙ ap (λ (u : List ℕ). numeral v ++ u) d,
        )

    go : (a : Bool) → ltb 0 (length W) ≡ a → (b : Bool) → leb (length W) 5 ≡ b → (c : Bool) → leb (length W) 1 ≡ c → (d : Bool) → eqb (at W 0) 48 ≡ d
        → cond (a && b && (c || not d)) (some (value_from 0 W) (drop (length W) l)) none ≡ some v r → (v ≤ 99999) × (l ≡ numeral v ++ r)
    go true p true q true s d t e = found (ltb-true 0 (length W) p) (leb-true (length W) 5 q) (inl (leb-true (length W) 1 s)) e
    go true p true q false s false t e = found (ltb-true 0 (length W) p) (leb-true (length W) 5 q) (inr (eqb-false (at W 0) 48 t)) e
    go true p true q false s true t e = let z : ◌≡◌ {A = ℕ} 0 1 = cc in absurd (omega arith)
    go true p false q c s d t e = let z : ◌≡◌ {A = ℕ} 0 1 = cc in absurd (omega arith)
    go false p b q c s d t e = let z : ◌≡◌ {A = ℕ} 0 1 = cc in absurd (omega arith)

-- The lines. A path's and a start's, and a guard's
abbrev pub line_text : List ℕ → ℕ → List ℕ
line_text w v = w ++ (space ++ (numeral v ++ line_feed))

abbrev pub pair_line : List ℕ → List ℕ → ℕ → List ℕ
pair_line a b g = a ++ (space ++ line_text b g)

-- the text begins with a line of the form, and r comes after it
pub record CountForm (w : List ℕ) (l : List ℕ) (m : ℕ) (r : List ℕ) : Type 0 where
  pub number : m ≤ 99999
  pub text : l ≡ count_text w m ++ r

pub record PathForm (l w : List ℕ) (v : ℕ) (r : List ℕ) : Type 0 where
  pub label : Label w
  pub number : v ≤ 99999
  pub text : l ≡ line_text w v ++ r

pub record GuardForm (l a b : List ℕ) (g : ℕ) (r : List ℕ) : Type 0 where
  pub first : Label a
  pub second : Label b
  pub number : g ≤ 99999
  pub text : l ≡ pair_line a b g ++ r

pub last_is : (l : List ℕ) (v : ℕ) (r : List ℕ) → last_field l ≡ some v r → (v ≤ 99999) × (l ≡ space ++ (numeral v ++ line_feed) ++ r)
unfolding last_field
last_is l v r e =
    let a = then_some (word space l) _ v r e in
    let b = then_some (number a.1) _ v r a.3 in
    let c = then_some (word line_feed b.1) _ v r b.3 in
    let f : b.0 ≡ v = cc in
    let d : c.1 ≡ r = cc in
    let n = number_field a.1 b.0 b.1 b.2 in (
      omega (arith, n.0),
      word_is space l a.0 a.1 a.2
          ∙ ap (λ (u : List ℕ). 32 ∷ u) (n.1 ∙ ap (λ (x : ℕ). numeral x ++ b.1) f ∙ ap (λ (u : List ℕ). numeral v ++ u) (word_is line_feed b.1 c.0 c.1 c.2 ∙ ap (λ (u : List ℕ). 10 ∷ u) d)
          ∙ sym (append_assoc (numeral v) line_feed r)),
    )

pub count_form : (w l : List ℕ) (m : ℕ) (r : List ℕ) → count_line w l ≡ some m r → CountForm w l m r
unfolding count_line count_text
count_form w l m r e =
    let a = then_some (word w l) _ m r e in
    let n = last_is a.1 m r a.3 in
    record { number = n.0; text = word_is w l a.0 a.1 a.2 ∙ ap (λ (u : List ℕ). w ++ u) n.1 ∙ sym (append_assoc w (space ++ (numeral m ++ line_feed)) r) }

pub form_count : (w l : List ℕ) (m : ℕ) (r : List ℕ) → CountForm w l m r → count_line w l ≡ some m r
form_count w l m r f = ap (count_line w) f.text ∙ count_trip w m r (omega (arith, f.number))

pub path_form : (l w : List ℕ) (v : ℕ) (r : List ℕ) → path_line l ≡ some (w, v) r → PathForm l w v r
unfolding path_line
path_form l w v r e =
    let a = then_some (label l) _ (w, v) r e in
    let b = then_some (last_field a.1) _ (w, v) r a.3 in
    let p = label_field l a.0 a.1 a.2 in
    let n = last_is a.1 b.0 b.1 b.2 in
    let x : a.0 ≡ w = ap (λ (y : Parsed (List ℕ × ℕ)). (fields y).0) b.3 in
    let y : b.0 ≡ v = ap (λ (y : Parsed (List ℕ × ℕ)). (fields y).1) b.3 in
    let z : b.1 ≡ r = ap rest b.3 in
    record {
      label = subst Label x p.0;
      number = omega (arith, n.0);
      text = p.1 ∙ (λ i. x i ++ a.1) ∙ ap (λ (u : List ℕ). w ++ u) (n.1 ∙ (λ i. space ++ (numeral (y i) ++ line_feed) ++ z i)) ∙ sym (append_assoc w (space ++ (numeral v ++ line_feed)) r);
    }
  where
    fields : Parsed (List ℕ × ℕ) → List ℕ × ℕ
    fields none = ([], 0)
    fields (some t u) = t

    rest : Parsed (List ℕ × ℕ) → List ℕ
    rest none = []
    rest (some t u) = u

pub form_path : (l w : List ℕ) (v : ℕ) (r : List ℕ) → PathForm l w v r → path_line l ≡ some (w, v) r
form_path l w v r f =
    ap path_line (f.text ∙ flat)
    ∙ line_trip w v r (bytes_all w f.label.bytes) (omega (arith, f.label.some)) f.label.few (omega (arith, f.number))
  where
    flat : line_text w v ++ r ≡ w ++ 32 ∷ (numeral v ++ 10 ∷ r)
    flat = append_assoc w (space ++ (numeral v ++ line_feed)) r ∙ ap (λ (u : List ℕ). w ++ 32 ∷ u) (append_assoc (numeral v) line_feed r)

pub guard_form : (l a b : List ℕ) (g : ℕ) (r : List ℕ) → guard_line l ≡ some (a, (b, g)) r → GuardForm l a b g r
unfolding guard_line
guard_form l a b g r e =
    let p = then_some (label l) _ (a, (b, g)) r e in
    let q = then_some (word space p.1) _ (a, (b, g)) r p.3 in
    let s = then_some (path_line q.1) _ (a, (b, g)) r q.3 in
    let t = label_field l p.0 p.1 p.2 in
    let f = path_form q.1 s.0.0 s.0.1 s.1 s.2 in
    let x : p.0 ≡ a = ap (λ (y : Parsed (List ℕ × (List ℕ × ℕ))). (fields y).0) s.3 in
    let y : s.0 ≡ (b, g) = ap (λ (y : Parsed (List ℕ × (List ℕ × ℕ))). (fields y).1) s.3 in
    let z : s.1 ≡ r = ap rest s.3 in
    let h = subst (λ (u : List ℕ). PathForm q.1 b g u) z (subst (λ (u : List ℕ × ℕ). PathForm q.1 u.0 u.1 s.1) y f) in
    record {
      first = subst Label x t.0;
      second = h.label;
      number = h.number;
      text = t.1 ∙ (λ i. x i ++ p.1) ∙ ap (λ (u : List ℕ). a ++ u) (word_is space p.1 q.0 q.1 q.2 ∙ ap (λ (u : List ℕ). space ++ u) h.text) ∙ sym (append_assoc a (space ++ line_text b g) r);
    }
  where
    fields : Parsed (List ℕ × (List ℕ × ℕ)) → List ℕ × (List ℕ × ℕ)
    fields none = ([], ([], 0))
    fields (some t u) = t

    rest : Parsed (List ℕ × (List ℕ × ℕ)) → List ℕ
    rest none = []
    rest (some t u) = u

pub form_guard : (l a b : List ℕ) (g : ℕ) (r : List ℕ) → GuardForm l a b g r → guard_line l ≡ some (a, (b, g)) r
form_guard l a b g r f =
    ap guard_line (f.text ∙ flat)
    ∙ guard_trip a b g r (bytes_all a f.first.bytes) (omega (arith, f.first.some)) f.first.few (bytes_all b f.second.bytes) (omega (arith, f.second.some)) f.second.few (omega (arith, f.number))
  where
    flat : pair_line a b g ++ r ≡ a ++ 32 ∷ (b ++ 32 ∷ (numeral g ++ 10 ∷ r))
    flat =
        append_assoc a (space ++ line_text b g) r
        ∙ ap (λ (u : List ℕ). a ++ 32 ∷ u) (append_assoc b (space ++ (numeral g ++ line_feed)) r ∙ ap (λ (u : List ℕ). b ++ 32 ∷ u) (append_assoc (numeral g) line_feed r))
