-- Bytes that came, put after those that a text has, as far as there is room. Assumes nothing.
use Prim.Native.Nat.{ℕ, ◌+◌, ◌-◌, ◌≤◌}
use mathlib.Core.Path.{◌≡◌, refl, sym, ap, ◌∙◌}
use mathlib.Core.List.{List, [], ◌++◌}
use borrow.Rule.Slice.PartMut.{put_mid}
use lib.ListN.{length, take, drop, length-take}
use lib.Seq.{sets, sets-eq, length-sets, take-append_seam}
use native.Mathlib.Omega.{arith}
use Rattle.std.proofs.Common.{Option}
use Rattle.std.proofs.Common.{inl, inr, append-nil, append_assoc}
use Rattle.std.proofs.lemmas.Grind.{common_steps}
use Rattle.std.proofs.lemmas.Bool.{cases_lt}
use Rattle.std.proofs.lemmas.List.{take_all, take_min, take-append-le}
use Rattle.std.proofs.Math.Seq.{take-append-add}
use Rattle.std.proofs.KnownBytes.{Consumes-trans, Consumes-kept}
use Rattle.std.specs.Io.KnownBytes.{Consumes, Keeps}
use Rattle.sheet_laws.specs.Writes.{both_pieces}
use Rattle.console.specs.Kept.{room, Kept, Came, Took}

-- a part that was copied into a text
copied : (w l : List ℕ) (i k : ℕ) → k ≡ length w → i + length w ≤ length l → put_mid i k l w ≡ sets l i w
copied w l i k e h = grind (arith, common_steps, sets-eq w l i h, append_assoc)

-- as many of the bytes that came as there is room for
pub kept : (text came : List ℕ) (have n : ℕ) → have ≤ length text → n ≡ length (room text have came)
    → Kept text have came (have + n) (put_mid have (have + n - have) text (take n came))
kept text came have n h e =
    let l = length-take (length text - have) came in
    let t : take n came ≡ room text have came = rw (e, l) (take_min (length text - have) came) in
    let s : put_mid have (have + n - have) text (take n came) ≡ sets text have (room text have came)
    = rw t (copied (room text have came) text have (have + n - have) (omega arith) (omega arith)) in
    record { within = omega (arith, ap length s, length-sets text have (room text have came)); place = rw e refl; bytes = s }

-- what was written into a text at its front
pub front : (out after w : List ℕ) (r : ℕ) → (r ≡ 0 + length w) × (after ≡ sets out 0 w) → length w ≤ length out → take r after ≡ w
front out after w r h l =
    let e : r ≡ length w = omega (arith, h.0) in
    let v : after ≡ w ++ drop (length w) out = h.1 ∙ sets-eq w out 0 (omega arith) ∙ ap (λ (k : ℕ). w ++ drop k out) (let g : 0 + length w ≡ length w = omega arith in g) in
    rw (e, v) (take-append_seam w (drop (length w) out))

-- none came; more came
pub none_came : (text : List ℕ) → Came text 0 text
none_came text = record { within = omega arith; front = refl; rest = refl }

-- what a text has once more came: that which it had, and then what there was room for
front_more : (text₀ text text' came : List ℕ) (have r : ℕ) → Came text₀ have text → Kept text have came r text' → length text' ≡ length text₀
    → (r ≡ 0 + length (take have text ++ room text have came)) × (text' ≡ sets text₀ 0 (take have text ++ room text have came)) × (take r text' ≡ take have text ++ room text have came)
front_more text₀ text text' came have r h k l =
    let w = room text have came in
    let v = take have text ++ w in
    let p : have ≡ 0 + length (take have text) = omega (arith, h.front) in
    let b = both_pieces text₀ text text' 0 have r (take have text) w (p, h.rest) (k.place, k.bytes) in
    (b.0, b.1, front text₀ text' v r b (omega (arith, b.0, k.within)))

pub more_came : (text₀ text text' came : List ℕ) (have r : ℕ) → Came text₀ have text → Kept text have came r text' → length text' ≡ length text₀ → Came text₀ r text'
more_came text₀ text text' came have r h k l =
    let b = front_more text₀ text text' came have r h k l in
    record {
      within = k.within;
      front = omega (arith, b.0, ap length b.2);
      rest = b.1 ∙ ap (λ (x : List ℕ). sets text₀ 0 x) (sym b.2);
    }

-- the first of two lists after each other: with room for more than the first of them, and without
room_left : (given came : List ℕ) (l have : ℕ) → have ≡ length (take l given) → length given ≤ l → take l (given ++ came) ≡ take l given ++ take (l - have) came
room_left given came l have h f =
    let all : take l given ≡ given = take_all l given f in
    let e : have ≡ length given = h ∙ ap length all in
    let n : l ≡ length given + (l - have) = omega arith in
    let a : take (length given + (l - have)) (given ++ came) ≡ given ++ take (l - have) came = take-append-add given came (l - have) in
    ap (λ (k : ℕ). take k (given ++ came)) n ∙ a ∙ ap (λ (x : List ℕ). x ++ take (l - have) came) (sym all)

no_room : (given came : List ℕ) (l have : ℕ) → have ≡ length (take l given) → l ≤ length given → take l (given ++ came) ≡ take l given ++ take (l - have) came
no_room given came l have h f =
    let e : l - have ≡ 0 = omega (arith, h, length-take l given) in
    let none : take (l - have) came ≡ [] = ap (λ (k : ℕ). take k came) e in
    take-append-le l given came f ∙ sym (ap (λ (x : List ℕ). take l given ++ x) none ∙ append-nil (take l given))

first_of_both : (given came : List ℕ) (l have : ℕ) → have ≡ length (take l given) → take l (given ++ came) ≡ take l given ++ take (l - have) came
first_of_both given came l have h =
    elim (cases_lt l (length given)) [ inl f ↦ no_room given came l have h (omega arith) | inr f ↦ room_left given came l have h f ]

pub same_took : (left left' left″ : Option (List ℕ)) (r : ℕ) (text : List ℕ) → Took left left' r text → Keeps left' left″ → Took left left″ r text
same_took left left' left″ r text t k = record { given = t.given; taken = Consumes-kept left left' left″ t.given t.taken k; front = t.front }

pub more_took : (left left' left″ : Option (List ℕ)) (text₀ text text' came : List ℕ) (have r : ℕ) → Came text₀ have text → Kept text have came r text' → length text' ≡ length text₀ → length text ≡ length text₀
    → Took left left' have text → Consumes left' left″ came → Took left left″ r text'
more_took left left' left″ text₀ text text' came have r h k l l' t c =
    let b = front_more text₀ text text' came have r h k l in
    let e : length text' ≡ length text = l ∙ sym l' in
    let f = first_of_both t.given came (length text) have (h.front ∙ ap length t.front) in
    record {
      given = t.given ++ came;
      taken = Consumes-trans left left' left″ t.given came t.taken c;
      front = b.2 ∙ ap (λ (x : List ℕ). x ++ room text have came) t.front ∙ sym f ∙ ap (λ (n : ℕ). take n (t.given ++ came)) (sym e);
    }
