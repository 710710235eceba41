-- The answer to a text does not depend on more than its first 45,490 bytes: the longest sheet, and one byte
-- that shows whether the text ends there. Each field looks at few bytes, and a line that is followed by
-- another has passed its tests and is short. Assumes nothing.
use Rattle.std.specs.Prelude.{ℕ, zero, suc, ◌+◌, ◌-◌, ◌*◌, ◌^◌, ◌≤◌, ◌<◌, ◌≡◌, refl, Bool, true, false, cond, not, ◌&&◌, ◌||◌, List, [], ◌∷◌, length, get_or, set, take, drop, leb, ltb, eqb}
use Rattle.std.proofs.Common.{sym, ap, true≢false, take_all, length-take-le, lit<, leb-true, eqb-true, lt-ltb, add-zero, arith}
use Rattle.std.proofs.Math.Seq.{take-nil}
use Rattle.std.proofs.lemmas.Bool.{eqb-false, not-true, lt-leb}
use Rattle.std.proofs.Math.Decide.{dec_lt}
use Rattle.std.proofs.Math.Nat.{sub-zero, zero-sub, suc-sub-suc, pow-le-pow_right}
use Rattle.rules.specs.Tables.{at, cell, cleared, Lent, lend, cleared_network}
use Rattle.rules.specs.Text.{Parsed, none, some, then, word, space, line_feed, paths_word, guards_word, starts_word, is_digit, is_label_byte, run, label, is_plain, value_from, number}
use Rattle.rules.specs.Sheet.{is_row, find, put_row, Line, wrong, right, Section, halt, done, follow, lines, last_field, count_line, path_line, guard_line, path_means, path_step, guard_cell, guard_means, guard_step, start_means, start_step, counted, after, ended, last_part, starts_part, guards_part, sheet_from}
use Rattle.rules.specs.Calls.{read_outcome, reading}
use Rattle.sheet_laws.specs.Texts.{digit_bounds, run_more, run_head}

-- l' is the first bytes of l, at least b of them where l has so many
pub record Front (b : ℕ) (l l' : List ℕ) : Type 0 where
  pub kept : ℕ
  pub enough : b ≤ kept
  pub same : l' ≡ take kept l

pub less : (a b : ℕ) (l l' : List ℕ) → a ≤ b → Front b l l' → Front a l l'
less a b l l' h f = record { kept = f.kept; enough = omega (arith, f.enough); same = f.same }

-- two texts read alike: neither begins with the field, or both with the same one, and R holds of it and the
-- texts after it
pub data Alike {A : Type 0} (R : A → List ℕ → List ℕ → Type 0) : Parsed A → Parsed A → Type 0 where
  neither : Alike R none none
  both : (a : A) (r r' : List ℕ) → R a r r' → Alike R (some a r) (some a r')

pub then_alike : {A B : Type 0} (R : A → List ℕ → List ℕ → Type 0) (S : B → List ℕ → List ℕ → Type 0) (p p' : Parsed A) (k : A → List ℕ → Parsed B)
    → Alike R p p' → ((a : A) (r r' : List ℕ) → R a r r' → Alike S (k a r) (k a r')) → Alike S (then p k) (then p' k)
unfolding then
then_alike R S p p' k neither h = neither
then_alike R S p p' k (both a r r' f) h = h a r r' f

-- what holds of both branches
pub either : {A : Type 0} (P : A → A → Type 0) (t : Bool) (x x' y y' : A) → (t ≡ true → P x x') → P y y' → P (cond t x y) (cond t x' y')
either P true x x' y y' h k = h refl
either P false x x' y y' h k = k

drop_take : (k q : ℕ) (l : List ℕ) → drop k (take q l) ≡ take (q - k) (drop k l)
drop_take zero q l = rw (sub-zero q) refl
drop_take (suc k) zero l = rw (zero-sub (suc k)) refl
drop_take (suc k) (suc q) [] = sym (take-nil (suc q - suc k))
drop_take (suc k) (suc q) (x ∷ l) = rw (suc-sub-suc q k) (drop_take k q l)

run_front : (p : ℕ → Bool) (q : ℕ) (l : List ℕ) → run p (take q l) ≡ take q (run p l)
unfolding run
run_front p zero l = refl
run_front p (suc q) [] = refl
run_front p (suc q) (x ∷ l) = go (p x) (run_front p q l)
  where
    go : (t : Bool) → run p (take q l) ≡ take q (run p l) → cond t (x ∷ run p (take q l)) [] ≡ take (suc q) (cond t (x ∷ run p l) [])
    go true h = ap (λ (w : List ℕ). x ∷ w) h
    go false h = refl

-- fixed bytes
word_front : (w l : List ℕ) (e q : ℕ) → length w + e ≤ q → Alike (λ _ r r'. Front e r r') (word w l) (word w (take q l))
unfolding word
word_front [] l e q h = both tt l (take q l) (record { kept = q; enough = omega arith; same = refl })
word_front (x ∷ w) [] e q h = rw (take-nil {A = ℕ} q) neither
word_front (x ∷ w) (y ∷ l) e zero h = absurd (omega arith)
word_front (x ∷ w) (y ∷ l) e (suc q) h =
    either (Alike (λ _ r r'. Front e r r')) (eqb x y) (word w l) (word w (take q l)) none none (λ _. word_front w l e q (omega arith)) neither

pub word_alike : (w l l' : List ℕ) (e : ℕ) → Front (length w + e) l l' → Alike (λ _ r r'. Front e r r') (word w l) (word w l')
word_alike w l l' e f = rw f.same (word_front w l e f.kept f.enough)

and_right : (a b : Bool) → a && b ≡ true → b ≡ true
and_right true b e = e
and_right false b e = absurd (true≢false (sym e))

and_left : (a b : Bool) → a && b ≡ true → a ≡ true
and_left true b e = refl
and_left false b e = absurd (true≢false (sym e))

-- a label: at most 8 bytes, and the ninth shows that it ends
label_front : (l : List ℕ) (e q : ℕ) → 1 ≤ e → 8 + e ≤ q → Alike (λ _ r r'. Front e r r') (label l) (label (take q l))
unfolding label
label_front l e q o h = rw (run_front is_label_byte q l) (go (dec_lt q (length W)))
  where
    W : List ℕ
    W = run is_label_byte l

    ok : List ℕ → Bool
    ok w = ltb 0 (length w) && leb (length w) 8

    go : Dec (q < length W)
        → Alike (λ _ r r'. Front e r r') (cond (ok W) (some W (drop (length W) l)) none) (cond (ok (take q W)) (some (take q W) (drop (length (take q W)) (take q l))) none)
    go (yes m) =
        rw (length-take-le q W (omega arith), lt-leb q 8 (omega arith), lt-leb (length W) 8 (omega arith), lt-ltb 0 q (omega arith), lt-ltb 0 (length W) (omega arith)) neither
    go (no m) =
        rw (take_all q W (omega arith))
        (either (Alike (λ _ r r'. Front e r r')) (ok W) (some W (drop (length W) l)) (some W (drop (length W) (take q l))) none none
        (λ t.
        let b = leb-true (length W) 8 (and_right (ltb 0 (length W)) (leb (length W) 8) t) in
        both W (drop (length W) l) (drop (length W) (take q l)) (record { kept = q - length W; enough = omega arith; same = drop_take (length W) q l }))
        neither)

pub label_alike : (l l' : List ℕ) (e : ℕ) → 1 ≤ e → Front (8 + e) l l' → Alike (λ _ r r'. Front e r r') (label l) (label l')
label_alike l l' e o f = rw f.same (label_front l e f.kept o f.enough)

-- digits that do not begin with 0: a number below 10 ^ k has at most k of them
value_grows : (j v : ℕ) (w : List ℕ) → 10 ^ j ≤ v → 10 ^ (j + length w) ≤ value_from v w
unfolding value_from
value_grows j v [] h = rw (add-zero j) h
value_grows j v (x ∷ w) h =
    let e : j + suc (length w) ≡ suc j + length w = omega arith in
    rw e (value_grows (suc j) (10 * v + (x - 48)) w (omega arith))

or_right : (a b : Bool) → a ≡ false → a || b ≡ true → b ≡ true
or_right true b e h = absurd (true≢false e)
or_right false b e h = h

digit_first : (l : List ℕ) → 0 < length (run is_digit l) → 48 ≤ get_or (run is_digit l) 0 0
digit_first l h = rw (run_head is_digit l 0 h) (digit_bounds (get_or l 0 0) (run_more is_digit l 0 h).1).0

plain_few : (w : List ℕ) → is_plain w ≡ true → length w ≤ 5
unfolding is_plain
plain_few w e =
    leb-true (length w) 5 (and_right (ltb 0 (length w)) (leb (length w) 5) (and_left (ltb 0 (length w) && leb (length w) 5) (leb (length w) 1 || not (eqb (get_or w 0 0) 48)) e))

plain_led : (w : List ℕ) → is_plain w ≡ true → 1 < length w → get_or w 0 0 ≡ 48 → ⊥
unfolding is_plain
plain_led w e h =
    let f = and_right (ltb 0 (length w) && leb (length w) 5) (leb (length w) 1 || not (eqb (get_or w 0 0) 48)) e in
    eqb-false (get_or w 0 0) 48 (not-true (eqb (get_or w 0 0) 48) (or_right (leb (length w) 1) (not (eqb (get_or w 0 0) 48)) (lt-leb (length w) 1 h) f))

plain_tight : (w : List ℕ) (k : ℕ) → (0 < length w → 48 ≤ get_or w 0 0) → (1 < length w → get_or w 0 0 ≡ 48 → ⊥) → 1 ≤ k → value_from 0 w < 10 ^ k → length w ≤ k
unfolding value_from
plain_tight [] k low led o b = omega arith
plain_tight (x ∷ w) k low led o b = go (dec_lt k (suc (length w)))
  where
    go : Dec (k < suc (length w)) → suc (length w) ≤ k
    go (no m) = omega arith
    go (yes m) =
        absurd (
        let a : 48 ≤ x = low (omega arith) in
        let d : x ≡ 48 → ⊥ = led (omega arith) in
        let g = value_grows 0 (10 * 0 + (x - 48)) w (omega (arith, d)) in
        let p : 10 ^ k ≤ 10 ^ (0 + length w) = pow-le-pow_right (lit< tt) (omega arith) in
        omega arith)

-- after a number v, read where b bytes are known: how many digits it has, and the bytes still known
pub record Behind (b v : ℕ) (r r' : List ℕ) : Type 0 where
  pub used : ℕ
  pub few : used ≤ 5
  pub tight : (k : ℕ) → 1 ≤ k → v < 10 ^ k → used ≤ k
  pub front : Front (b - used) r r'

-- a number: at most 5 digits, and the sixth byte shows that it ends
number_front : (l : List ℕ) (b q : ℕ) → 6 ≤ b → b ≤ q → Alike (Behind b) (number l) (number (take q l))
unfolding number is_plain
number_front l b q o h = rw (run_front is_digit q l) (go (dec_lt q (length W)))
  where
    W : List ℕ
    W = run is_digit l

    go : Dec (q < length W)
        → Alike (Behind b) (cond (is_plain W) (some (value_from 0 W) (drop (length W) l)) none)
        (cond (is_plain (take q W)) (some (value_from 0 (take q W)) (drop (length (take q W)) (take q l))) none)
    go (yes m) =
        rw (length-take-le q W (omega arith), lt-leb q 5 (omega arith), lt-leb (length W) 5 (omega arith), lt-ltb 0 q (omega arith), lt-ltb 0 (length W) (omega arith)) neither
    go (no m) =
        rw (take_all q W (omega arith))
        (either (Alike (Behind b)) (is_plain W) (some (value_from 0 W) (drop (length W) l)) (some (value_from 0 W) (drop (length W) (take q l))) none none
        (λ t.
        both (value_from 0 W) (drop (length W) l) (drop (length W) (take q l))
        (record {
          used = length W;
          few = plain_few W t;
          tight = λ k. plain_tight W k (digit_first l) (plain_led W t);
          front = record { kept = q - length W; enough = omega arith; same = drop_take (length W) q l };
        }))
        neither)

pub number_alike : (l l' : List ℕ) (b : ℕ) → 6 ≤ b → Front b l l' → Alike (Behind b) (number l) (number l')
number_alike l l' b o f = rw f.same (number_front l b f.kept o f.enough)

-- a line's last number and its line feed: where the number is below 10 ^ k, at most k + 1 bytes
abbrev pub Rest : ℕ → ℕ → List ℕ → List ℕ → Type 0
Rest b v r r' = (k : ℕ) → 1 ≤ k → v < 10 ^ k → Front (b - (k + 1)) r r'

pub last_alike : (b : ℕ) (l l' : List ℕ) → 6 ≤ b → Front (1 + b) l l' → Alike (Rest b) (last_field l) (last_field l')
unfolding last_field
last_alike b l l' o f =
    then_alike (λ _ r r'. Front b r r') (Rest b) (word space l) (word space l') _ (word_alike space l l' b f)
    (λ _ m m' h.
    then_alike (Behind b) (Rest b) (number m) (number m') (λ v l₁. then (word line_feed l₁) (λ _ l₂. some v l₂)) (number_alike m m' b o h)
    (λ v r r' u.
    then_alike (λ _ s s'. Front (b - (u.used + 1)) s s') (Rest b) (word line_feed r) (word line_feed r') (λ _ l₂. some v l₂)
    (word_alike line_feed r r' (b - (u.used + 1)) (less (length line_feed + (b - (u.used + 1))) (b - u.used) r r' (omega (arith, u.few)) u.front))
    (λ _ s s' d. both v s s' (λ k p q. less (b - (k + 1)) (b - (u.used + 1)) s s' (omega (arith, u.tight k p q)) d))))

-- the forms of the lines
count_alike : (w l l' : List ℕ) (b : ℕ) → 6 ≤ b → Front (length w + (1 + b)) l l' → Alike (Rest b) (count_line w l) (count_line w l')
unfolding count_line
count_alike w l l' b o f =
    then_alike (λ _ r r'. Front (1 + b) r r') (Rest b) (word w l) (word w l') _ (word_alike w l l' (1 + b) f) (λ _ r r' g. last_alike b r r' o g)

path_alike : (l l' : List ℕ) (b : ℕ) → 6 ≤ b → Front (8 + (1 + b)) l l' → Alike (λ t. Rest b t.1) (path_line l) (path_line l')
unfolding path_line
path_alike l l' b o f =
    then_alike (λ _ r r'. Front (1 + b) r r') (λ t. Rest b t.1) (label l) (label l') _ (label_alike l l' (1 + b) (omega arith) f)
    (λ w r r' g. then_alike (Rest b) (λ t. Rest b t.1) (last_field r) (last_field r') _ (last_alike b r r' o g) (λ v s s' h. both (w, v) s s' h))

guard_alike : (l l' : List ℕ) (b : ℕ) → 6 ≤ b → Front (8 + (1 + (8 + (1 + b)))) l l' → Alike (λ t. Rest b t.1.1) (guard_line l) (guard_line l')
unfolding guard_line
guard_alike l l' b o f =
    then_alike (λ _ r r'. Front (1 + (8 + (1 + b))) r r') (λ t. Rest b t.1.1) (label l) (label l') _ (label_alike l l' (1 + (8 + (1 + b))) (omega arith) f)
    (λ w r r' g.
    then_alike (λ _ s s'. Front (8 + (1 + b)) s s') (λ t. Rest b t.1.1) (word space r) (word space r') _ (word_alike space r r' (8 + (1 + b)) g)
    (λ _ s s' h. then_alike (λ t. Rest b t.1) (λ t. Rest b t.1.1) (path_line s) (path_line s') _ (path_alike s s' b o h) (λ t u u' i. both (w, t) u u' i)))

-- lines that come to the same, with e bytes known after them; and sections
pub data AlikeLine {T : Type 0} (e : ℕ) : Line T → Line T → Type 0 where
  wrongs : (x : ℕ) → AlikeLine e (wrong x) (wrong x)
  rights : (t : T) (r r' : List ℕ) → Front e r r' → AlikeLine e (right t r) (right t r')

pub data AlikeSection {T : Type 0} (e : ℕ) : Section T → Section T → Type 0 where
  halts : (x line : ℕ) → AlikeSection e (halt x line) (halt x line)
  ends : (t : T) (r r' : List ℕ) → Front e r r' → AlikeSection e (done t r) (done t r')

path_means_lem : (k : ℕ) (labels widths : List ℕ) (e : ℕ) (p p' : Parsed (List ℕ × ℕ)) → Alike (λ t. Rest (3 + e) t.1) p p'
    → AlikeLine e (path_means k labels widths p) (path_means k labels widths p')
unfolding path_means
path_means_lem k labels widths e p p' neither = wrongs 11
path_means_lem k labels widths e p p' (both (w, v) r r' f) =
    either (AlikeLine e) (ltb (find labels k w) k) (wrong 12) (wrong 12) (cond (leb 1 v && leb v 64) (right (put_row labels k w, set widths k v) r) (wrong 3))
    (cond (leb 1 v && leb v 64) (right (put_row labels k w, set widths k v) r') (wrong 3)) (λ _. wrongs 12)
    (either (AlikeLine e) (leb 1 v && leb v 64) (right (put_row labels k w, set widths k v) r) (right (put_row labels k w, set widths k v) r') (wrong 3) (wrong 3)
    (λ t. let b = leb-true v 64 (and_right (leb 1 v) (leb v 64) t) in rights (put_row labels k w, set widths k v) r r' (less e (3 + e - 3) r r' (omega arith) (f 2 (omega arith) (omega arith))))
    (wrongs 3))

path_step_lem : (k : ℕ) (t : List ℕ × List ℕ) (l l' : List ℕ) (e : ℕ) → 3 ≤ e → Front (12 + e) l l' → AlikeLine e (path_step k t l) (path_step k t l')
unfolding path_step
path_step_lem k t l l' e o f = path_means_lem k t.0 t.1 e (path_line l) (path_line l') (path_alike l l' (3 + e) (omega arith) (less (8 + (1 + (3 + e))) (12 + e) l l' (omega arith) f))

guard_means_lem : (n : ℕ) (labels guards : List ℕ) (e : ℕ) (p p' : Parsed (List ℕ × (List ℕ × ℕ))) → Alike (λ t. Rest (3 + e) t.1.1) p p'
    → AlikeLine e (guard_means n labels guards p) (guard_means n labels guards p')
unfolding guard_means guard_cell
guard_means_lem n labels guards e p p' neither = wrongs 11
guard_means_lem n labels guards e p p' (both t r r' f) =
    either (AlikeLine e) (ltb i n && ltb j n && not (eqb i j)) (inner r) (inner r') (wrong 13) (wrong 13)
    (λ _.
    either (AlikeLine e) (eqb (at guards (cell i j)) 255) (last r) (last r') (wrong 14) (wrong 14)
    (λ _.
    either (AlikeLine e) (leb g 32) (right G r) (right G r') (wrong 4) (wrong 4)
    (λ q. let b = leb-true g 32 q in rights G r r' (less e (3 + e - 3) r r' (omega arith) (f 2 (omega arith) (omega arith)))) (wrongs 4))
    (wrongs 14))
    (wrongs 13)
  where
    i : ℕ
    i = find labels n t.0

    j : ℕ
    j = find labels n t.1.0

    g : ℕ
    g = t.1.1

    G : List ℕ
    G = set (set guards (cell i j) g) (cell j i) g

    last : List ℕ → Line (List ℕ)
    last l = cond (leb g 32) (right G l) (wrong 4)

    inner : List ℕ → Line (List ℕ)
    inner l = cond (eqb (at guards (cell i j)) 255) (last l) (wrong 14)

guard_step_lem : (n : ℕ) (labels : List ℕ) (k : ℕ) (t l l' : List ℕ) (e : ℕ) → 3 ≤ e → Front (21 + e) l l' → AlikeLine e (guard_step n labels k t l) (guard_step n labels k t l')
unfolding guard_step
guard_step_lem n labels k t l l' e o f =
    guard_means_lem n labels t e (guard_line l) (guard_line l') (guard_alike l l' (3 + e) (omega arith) (less (8 + (1 + (8 + (1 + (3 + e))))) (21 + e) l l' (omega arith) f))

start_means_lem : (labels : List ℕ) (k : ℕ) (starts : List ℕ) (e : ℕ) (p p' : Parsed (List ℕ × ℕ)) → Alike (λ t. Rest (6 + e) t.1) p p'
    → AlikeLine e (start_means labels k starts p) (start_means labels k starts p')
unfolding start_means
start_means_lem labels k starts e p p' neither = wrongs 11
start_means_lem labels k starts e p p' (both t r r' f) =
    either (AlikeLine e) (is_row labels t.0 k) (last r) (last r') (wrong 13) (wrong 13)
    (λ _.
    either (AlikeLine e) (leb 1 t.1 && leb t.1 16384) (right (set starts k t.1) r) (right (set starts k t.1) r') (wrong 7) (wrong 7)
    (λ q.
    let b = leb-true t.1 16384 (and_right (leb 1 t.1) (leb t.1 16384) q) in
    rights (set starts k t.1) r r' (less e (6 + e - 6) r r' (omega arith) (f 5 (omega arith) (omega arith))))
    (wrongs 7))
    (wrongs 13)
  where
    last : List ℕ → Line (List ℕ)
    last l = cond (leb 1 t.1 && leb t.1 16384) (right (set starts k t.1) l) (wrong 7)

start_step_lem : (labels : List ℕ) (k : ℕ) (t l l' : List ℕ) (e : ℕ) → Front (15 + e) l l' → AlikeLine e (start_step labels k t l) (start_step labels k t l')
unfolding start_step
start_step_lem labels k t l l' e f = start_means_lem labels k t e (path_line l) (path_line l') (path_alike l l' (6 + e) (omega arith) (less (8 + (1 + (6 + e))) (15 + e) l l' (omega arith) f))

-- m lines of at most c bytes each, of indices below n; each is read alike where e bytes more than those are known
follow_alike : {T : Type 0} (a e : ℕ) (s s' : Line T) (line : ℕ) (go : T → List ℕ → Section T) → AlikeLine a s s'
    → ((t : T) (r r' : List ℕ) → Front a r r' → AlikeSection e (go t r) (go t r')) → AlikeSection e (follow s line go) (follow s' line go)
unfolding follow
follow_alike a e s s' line go (wrongs x) h = halts x line
follow_alike a e s s' line go (rights t r r' f) h = h t r r' f

lines_alike : {T : Type 0} (step : ℕ → T → List ℕ → Line T) (top c e n : ℕ)
    → ((k : ℕ) → k < n → (t : T) (l l' : List ℕ) (d : ℕ) → e ≤ d → Front (c + d) l l' → AlikeLine d (step k t l) (step k t l')) → (m k : ℕ) → k + m ≤ n → (t : T) (l l' : List ℕ)
    → Front (m * c + e) l l' → AlikeSection e (lines step top m k t l) (lines step top m k t l')
unfolding lines
lines_alike step top c e n h zero k i t l l' f = ends t l l' (less e (0 * c + e) l l' (omega arith) f)
lines_alike step top c e n h (suc m) k i t l l' f =
    follow_alike (m * c + e) e (step k t l) (step k t l') (top + k) (λ t' r. lines step top m (suc k) t' r)
    (h k (omega arith) t l l' (m * c + e) (omega arith) (less (c + (m * c + e)) (suc m * c + e) l l' (omega arith) f))
    (λ t' r r' g. lines_alike step top c e n h m (suc k) (omega arith) t' r r' g)

-- the sections
counted_alike : {T : Type 0} (R : ℕ → List ℕ → List ℕ → Type 0) (e : ℕ) (p p' : Parsed ℕ) (isRight : ℕ → Bool) (line : ℕ) (go : ℕ → List ℕ → Section T)
    → Alike R p p' → ((n : ℕ) (r r' : List ℕ) → isRight n ≡ true → R n r r' → AlikeSection e (go n r) (go n r'))
    → AlikeSection e (counted p isRight line go) (counted p' isRight line go)
unfolding counted
counted_alike R e p p' isRight line go neither h = halts 11 line
counted_alike R e p p' isRight line go (both n r r' f) h =
    either (AlikeSection e) (isRight n) (go n r) (go n r') (halt 1 line) (halt 1 line) (λ t. h n r r' t f) (halts 1 line)

after_alike : {T U : Type 0} (a e : ℕ) (s s' : Section T) (go : T → List ℕ → Section U) → AlikeSection a s s'
    → ((t : T) (r r' : List ℕ) → Front a r r' → AlikeSection e (go t r) (go t r')) → AlikeSection e (after s go) (after s' go)
unfolding after
after_alike a e s s' go (halts x line) h = halts x line
after_alike a e s s' go (ends t r r' f) h = h t r r' f

-- one byte shows whether the text ends
ended_front : {T : Type 0} (line : ℕ) (t : T) (l : List ℕ) (q : ℕ) → 1 ≤ q → AlikeSection 0 (ended line t l) (ended line t (take q l))
unfolding ended
ended_front line t l zero o = absurd (omega arith)
ended_front line t [] (suc q) o = ends t [] [] (record { kept = 0; enough = omega arith; same = refl })
ended_front line t (x ∷ l) (suc q) o = halts 11 line

ended_alike : {T : Type 0} (line : ℕ) (t : T) (l l' : List ℕ) → Front 1 l l' → AlikeSection 0 (ended line t l) (ended line t l')
ended_alike line t l l' f = rw f.same (ended_front line t l f.kept f.enough)

nothing : Front 0 [] []
nothing = record { kept = 0; enough = omega arith; same = refl }

-- the last section: its word, and n lines of at most c bytes each, which are read alike where e bytes more are known
pub last_alike_part : {T : Type 0} (word : List ℕ) (step : ℕ → T → List ℕ → Line T) (c e n : ℕ)
    → ((k : ℕ) → k < n → (t : T) (l l' : List ℕ) (d : ℕ) → e ≤ d → Front (c + d) l l' → AlikeLine d (step k t l) (step k t l')) → (line : ℕ) (t : T) (l l' : List ℕ)
    → 1 ≤ n → 1 ≤ c → 1 ≤ e → n ≤ 128 → Front (length word + (n * c + (e + 5))) l l' → AlikeSection 0 (last_part word step n line t l) (last_part word step n line t l')
unfolding last_part
last_alike_part word step c e n h line t l l' low wide more high f =
    let some : 1 ≤ n * c = product n c low wide in
    let b = n * c + (e + 4) in
    counted_alike (Rest b) 0 (count_line word l) (count_line word l') (λ m. eqb m n) line _
    (count_alike word l l' b (omega arith) (less (length word + (1 + b)) (length word + (n * c + (e + 5))) l l' (omega arith) f))
    (λ m r r' q g.
    let same = eqb-true m n q in
    after_alike e 0 (lines step (line + 1) n 0 t r) (lines step (line + 1) n 0 t r') _
    (lines_alike step (line + 1) c e n h n 0 (omega arith) t r r' (less (n * c + e) (b - (3 + 1)) r r' (omega arith) (g 3 (omega arith) (omega arith))))
    (λ u s s' i. ended_alike (line + 1 + n) u s s' (less 1 e s s' more i)))
  where
    product : (n c : ℕ) → 1 ≤ n → 1 ≤ c → 1 ≤ n * c
    product zero c p q = absurd (omega arith)
    product (suc n) c p q = omega arith

starts_front : (n line : ℕ) (labels starts l : List ℕ) (q : ℕ) → 1 ≤ n → n ≤ 128 → n * 15 + 12 ≤ q
    → AlikeSection 0 (starts_part n line labels starts l) (starts_part n line labels starts (take q l))
unfolding starts_part
starts_front n line labels starts l zero low high h = absurd (omega arith)
starts_front n line labels starts [] (suc q) low high h = ends starts [] [] nothing
starts_front n line labels starts (x ∷ l) (suc q) low high h =
    last_alike_part starts_word (start_step labels) 15 1 n (λ k _ u s s' d _ g. start_step_lem labels k u s s' d g) line starts (x ∷ l) (x ∷ take q l) low (omega arith) (omega arith) high
    (record { kept = suc q; enough = omega arith; same = refl })

starts_alike : (n line : ℕ) (labels starts l l' : List ℕ) → 1 ≤ n → n ≤ 128 → Front (n * 15 + 12) l l'
    → AlikeSection 0 (starts_part n line labels starts l) (starts_part n line labels starts l')
starts_alike n line labels starts l l' low high f = rw f.same (starts_front n line labels starts l f.kept low high f.enough)

guards_alike : (n : ℕ) (labels guards starts l l' : List ℕ) → 1 ≤ n → n ≤ 128 → Front (n * 15 + 42024) l l'
    → AlikeSection 0 (guards_part n labels guards starts l) (guards_part n labels guards starts l')
unfolding guards_part
guards_alike n labels guards starts l l' low high f =
    counted_alike (Rest (n * 15 + 42017)) 0 (count_line guards_word l) (count_line guards_word l') (λ m. leb m 2000) (n + 2) _
    (count_alike guards_word l l' (n * 15 + 42017) (omega arith) (less (length guards_word + (1 + (n * 15 + 42017))) (n * 15 + 42024) l l' (omega arith) f))
    (λ m r r' t g.
    let b = leb-true m 2000 t in
    after_alike (n * 15 + 12) 0 (lines (guard_step n labels) (n + 3) m 0 guards r) (lines (guard_step n labels) (n + 3) m 0 guards r') _
    (lines_alike (guard_step n labels) (n + 3) 21 (n * 15 + 12) m (λ k _ u s s' d o h. guard_step_lem n labels k u s s' d (omega arith) h) m 0 (omega arith) guards r r'
    (less (m * 21 + (n * 15 + 12)) (n * 15 + 42017 - (4 + 1)) r r' (omega arith) (g 4 (omega arith) (omega arith))))
    (λ u s s' h.
    after_alike 0 0 (starts_part n (n + m + 3) labels starts s) (starts_part n (n + m + 3) labels starts s') _
    (starts_alike n (n + m + 3) labels starts s s' low high h) (λ v z z' i. ends (u, v) z z' i)))

sheet_alike : (labels : List ℕ) (lent : Lent) (starts l l' : List ℕ) → Front 45490 l l'
    → AlikeSection 0 (sheet_from labels lent starts l) (sheet_from labels lent starts l')
unfolding sheet_from
sheet_alike labels lent starts l l' f =
    counted_alike (Rest 45484) 0 (count_line paths_word l) (count_line paths_word l') (λ n. leb 1 n && leb n 128) 1 _
    (count_alike paths_word l l' 45484 (omega arith) (less (length paths_word + (1 + 45484)) 45490 l l' (omega arith) f))
    (λ n r r' t g.
    let low = leb-true 1 n (and_left (leb 1 n) (leb n 128) t) in
    let high = leb-true n 128 (and_right (leb 1 n) (leb n 128) t) in
    after_alike (n * 15 + 42024) 0 (lines path_step 2 n 0 (labels, lent.widths) r) (lines path_step 2 n 0 (labels, lent.widths) r') _
    (lines_alike path_step 2 12 (n * 15 + 42024) n (λ k _ u s s' d o h. path_step_lem k u s s' d (omega arith) h) n 0 (omega arith) (labels, lent.widths) r r'
    (less (n * 12 + (n * 15 + 42024)) (45484 - (3 + 1)) r r' (omega arith) (g 3 (omega arith) (omega arith))))
    (λ u s s' h.
    after_alike 0 0 (guards_part n u.0 lent.guards starts s) (guards_part n u.0 lent.guards starts s') _
    (guards_alike n u.0 lent.guards starts s s' low high h) (λ v z z' i. ends (n, u.0, lend u.1 v.0, v.1) [] [] nothing)))

-- the call: its answer and the tables are those of the first q bytes, for every q from 45,490 on
outcome_same : (s s' : Section (ℕ × List ℕ × Lent × List ℕ)) → AlikeSection 0 s s' → read_outcome s ≡ read_outcome s'
unfolding read_outcome
outcome_same s s' (halts x line) = refl
outcome_same s s' (ends t r r' f) = refl

pub first_bytes_from : (q : ℕ) (text labels : List ℕ) (lent : Lent) (starts : List ℕ) → 45490 ≤ q
    → reading text labels lent starts ≡ reading (take q text) labels lent starts
unfolding reading
first_bytes_from q text labels lent starts h =
    rw (outcome_same (sheet_from (cleared 1024 0) cleared_network (cleared 128 0) text)
    (sheet_from (cleared 1024 0) cleared_network (cleared 128 0) (take q text))
    (sheet_alike (cleared 1024 0) cleared_network (cleared 128 0) text (take q text) (record { kept = q; enough = h; same = refl }))) refl

pub first_bytes : (text labels : List ℕ) (lent : Lent) (starts : List ℕ) → reading text labels lent starts ≡ reading (take 45490 text) labels lent starts
first_bytes text labels lent starts = first_bytes_from 45490 text labels lent starts (omega arith)
