-- Each test of the definitions is true exactly where its words hold. Assumes nothing.
use Rattle.std.specs.Prelude.{ℕ, zero, suc, ◌*◌, ◌≤◌, ◌<◌, ◌≡◌, refl, ◌≢◌, ◌⊎◌, Bool, true, false, not, ◌&&◌, ◌||◌, List, [], ◌∷◌, length, take, drop, ltb, leb, eqb}
use Rattle.std.proofs.Common.{sym, ◌∙◌, inl, inr, true≢false, arith, get_or-take, get_or-drop, ltb-true, ltb-false, leb-true, leb-false, eqb-true}
use Rattle.std.proofs.lemmas.Bool.{eqb-false, not-true, not-false}
use Rattle.rules.specs.Tables.{at, cell, label_byte}
use Rattle.rules.specs.Scan.{first, found}
use Rattle.rules.specs.Plan.{Net, Conflict, in_conflict, short, too_close}
use Rattle.rules.specs.Packing.{placed}
use Rattle.rules.specs.Text.{is_digit, is_label_byte, run}
use Rattle.rules.specs.Sheet.{is_row}
use Rattle.rules.specs.Writing.{label_of, bad_label, label_twice, has_plan}
use Rattle.rules.specs.Numbers.{outside, bad_guard, bad_mirror, bad_entry, bad_start, bad_member}
use Rattle.rules.specs.Refusing.{Outside, Clash, Lacks, LabelByte, Labelled}
use Rattle.table_laws.specs.Scans.{found_first, found_not}
use Rattle.plan_laws.specs.Short.{short_lacks, lacks_short}
use Rattle.plan_laws.specs.Clash.{close_parts}
use Rattle.plan_laws.specs.Judge.{quiet_clear, clear_quiet}
use Rattle.sheet_laws.specs.Rows.{row_same, row_bytes}
use Rattle.sheet_laws.specs.Texts.{All}
use Rattle.sheet_laws.specs.Writes.{label_short, label_in, label_past, bad_not, good_label}
use Rattle.demands.specs.RoundTrip.{label_all}
use Rattle.demands.specs.Tests.{Tells}

-- comparisons, and what is made of them
pub tells_lt : (x y : ℕ) → Tells (x < y) (ltb x y)
tells_lt x y = record { holds = ltb-true x y; fails = λ e l. omega (arith, ltb-false x y e) }

pub tells_le : (x y : ℕ) → Tells (x ≤ y) (leb x y)
tells_le x y = record { holds = leb-true x y; fails = λ e l. omega (arith, leb-false x y e) }

pub tells_eq : (x y : ℕ) → Tells (x ≡ y) (eqb x y)
tells_eq x y = record { holds = eqb-true x y; fails = eqb-false x y }

pub tells_not : {P : Type 0} {a : Bool} → Tells P a → Tells (P → ⊥) (not a)
tells_not {P} {a} t = record { holds = λ e. t.fails (not-true a e); fails = λ e n. n (t.holds (not-false a e)) }

pub tells_or : {P Q : Type 0} {a b : Bool} → Tells P a → Tells Q b → Tells (P ⊎ Q) (a || b)
tells_or {P} {Q} {a} {b} t u = go a t
  where
    neither : Tells P false → b ≡ false → P ⊎ Q → ⊥
    neither t e (inl p) = t.fails refl p
    neither t e (inr q) = u.fails e q

    go : (a : Bool) → Tells P a → Tells (P ⊎ Q) (a || b)
    go true t = record { holds = λ e. inl (t.holds refl); fails = λ e. absurd (true≢false e) }
    go false t = record { holds = λ e. inr (u.holds e); fails = neither t }

pub tells_and : {P Q : Type 0} {a b : Bool} → Tells P a → Tells Q b → Tells (P × Q) (a && b)
tells_and {P} {Q} {a} {b} t u = go a t
  where
    go : (a : Bool) → Tells P a → Tells (P × Q) (a && b)
    go true t = record { holds = λ e. (t.holds refl, u.holds e); fails = λ e h. u.fails e h.1 }
    go false t = record { holds = λ e. absurd (true≢false (sym e)); fails = λ e h. t.fails refl h.0 }

pub tells_found : (P : ℕ → Type 0) (test : ℕ → Bool) (n : ℕ) → ((i : ℕ) → i < n → Tells (P i) (test i)) → Tells ((i : ℕ) × (i < n) × P i) (found test n)
tells_found P test n t = record {
  holds = λ e. let x = found_first test n e in (first test n, x.0, (t (first test n) x.0).holds x.1);
  fails = λ e h. (t h.0 h.1).fails (found_not test n e h.0 h.1) h.2;
}

-- the tests of tables
pub tells_outside : (least most x : ℕ) → Tells (Outside least most x) (outside least most x)
tells_outside least most x = tells_or (tells_lt x least) (tells_lt most x)

pub tells_guard : (guards : List ℕ) (i j : ℕ)
    → Tells ((at guards (cell i j) ≢ 255) × ((i ≡ j) ⊎ (32 < at guards (cell i j)))) (bad_guard guards i j)
tells_guard guards i j =
    tells_and (tells_not (tells_eq (at guards (cell i j)) 255)) (tells_or (tells_eq i j) (tells_lt 32 (at guards (cell i j))))

pub tells_mirror : (guards : List ℕ) (i j : ℕ) → Tells ((i < j) × (at guards (cell i j) ≢ at guards (cell j i))) (bad_mirror guards i j)
tells_mirror guards i j = tells_and (tells_lt i j) (tells_not (tells_eq (at guards (cell i j)) (at guards (cell j i))))

pub tells_entry : (n : ℕ) (order : List ℕ) (k : ℕ)
    → Tells ((n ≤ at order k) ⊎ ((i : ℕ) × (i < k) × (at order i ≡ at order k))) (bad_entry n order k)
unfolding placed
tells_entry n order k =
    tells_or (tells_le n (at order k))
    (tells_found (λ i. at order i ≡ at order k) (λ i. eqb (at order i) (at order k)) k (λ i l. tells_eq (at order i) (at order k)))

pub tells_clash : (net : Net) (plan : ℕ → ℕ) (i j : ℕ) → 1 ≤ net.width i → 1 ≤ net.width j → Tells (Clash net plan i j) (too_close net plan i j)
tells_clash net plan i j wi wj = record {
  holds = λ e. let c = close_parts net plan i j e in (c.0, (c.1, λ clear. true≢false (sym e ∙ clear_quiet net plan i j wi wj (λ l k. clear))));
  fails = λ e c. c.1.1 (quiet_clear net plan i j c.0 c.1.0 e);
}

-- and how many slots short it is, in a cell that is 8's
pub tells_short : (net : Net) (plan : ℕ → ℕ) (i j : ℕ) → j < 128 → too_close net plan i j ≡ true
    → ((r : ℕ) × (c : ℕ) × (c < 128) × (cell i j ≡ cell r c) × Lacks net plan r c (short net plan i j))
    × ((s : ℕ) → (r : ℕ) × (c : ℕ) × (c < 128) × (cell i j ≡ cell r c) × Lacks net plan r c s → s ≡ short net plan i j)
tells_short net plan i j l e =
    let x = close_parts net plan i j e in
    ((i, j, l, refl, short_lacks net plan i j x.0 (omega (arith, x.2))), λ s h. only x.0 s h.0 h.1 h.2 h.3 h.4)
  where
    only : i < j → (s r c : ℕ) → c < 128 → cell i j ≡ cell r c → Lacks net plan r c s → s ≡ short net plan i j
    only lt s r c g f h =
        let a : i ≡ r = omega arith in
        let b : j ≡ c = omega arith in
        lacks_short net plan i j lt s (rw (a, b) h)

pub tells_member : (n : ℕ) (net : Net) (list : List ℕ) (k : ℕ)
    → Tells ((n ≤ at list k) ⊎ ((i : ℕ) × (i < k) × ((at list i ≡ at list k) ⊎ (Conflict net (at list i) (at list k) → ⊥)))) (bad_member n net list k)
tells_member n net list k =
    tells_or (tells_le n (at list k))
    (tells_found (λ i. (at list i ≡ at list k) ⊎ (Conflict net (at list i) (at list k) → ⊥))
    (λ i. eqb (at list i) (at list k) || not (in_conflict net (at list i) (at list k))) k
    (λ i l. tells_or (tells_eq (at list i) (at list k)) (tells_not (tells_lt _ 255))))

-- the writer's starts
pub tells_plan : (n : ℕ) (starts : List ℕ) → Tells ((i : ℕ) × (i < n) × (at starts i ≢ 0)) (has_plan n starts)
unfolding has_plan
tells_plan n starts = tells_found (λ i. at starts i ≢ 0) (λ i. not (eqb (at starts i) 0)) n (λ i l. tells_not (tells_eq (at starts i) 0))

pub tells_start : (n : ℕ) (starts : List ℕ) (k : ℕ)
    → Tells (((i : ℕ) × (i < n) × (at starts i ≢ 0)) × Outside 1 16384 (at starts k)) (has_plan n starts && bad_start starts k)
tells_start n starts k = tells_and (tells_plan n starts) (tells_outside 1 16384 (at starts k))

-- the writer's labels: their bytes
tells_byte : (x : ℕ) → Tells (LabelByte x) (is_label_byte x)
unfolding is_label_byte is_digit
tells_byte x =
    tells_or (tells_or (tells_and (tells_le 48 x) (tells_le x 57)) (tells_and (tells_le 65 x) (tells_le x 90))) (tells_eq x 45)

told : {P : Type 0} (a : Bool) → Tells P a → P → a ≡ true
told true t p = refl
told false t p = absurd (t.fails refl p)

-- a row that begins with m bytes that pass has at least m in its run
run_passes : (p : ℕ → Bool) → p 0 ≡ false → (l : List ℕ) (m : ℕ) → ((j : ℕ) → j < m → p (at l j) ≡ true) → m ≤ length (run p l)
unfolding run
run_passes p z l zero h = omega arith
run_passes p z [] (suc m) h = absurd (true≢false (sym (h 0 (omega arith)) ∙ z))
run_passes p z (x ∷ l) (suc m) h = rw (h 0 (omega arith)) (omega (arith, run_passes p z l m (λ j g. h (suc j) (omega arith))))

all_at : (p : ℕ → Bool) (w : List ℕ) → All p w → (j : ℕ) → j < length w → p (at w j) ≡ true
all_at p [] h j l = absurd (omega arith)
all_at p (x ∷ w) h zero l = h.0
all_at p (x ∷ w) h (suc j) l = all_at p w h.1 j (omega arith)

row_at : (labels : List ℕ) (k j : ℕ) → j < 8 → at (take 8 (drop (8 * k) labels)) j ≡ label_byte labels k j
row_at labels k j l = get_or-take 8 (drop (8 * k) labels) j 0 l ∙ get_or-drop (8 * k) labels j 0

pub tells_label : (labels : List ℕ) (k : ℕ) → Tells (Labelled labels k → ⊥) (bad_label labels k)
tells_label labels k = record { holds = λ e l. true≢false (sym e ∙ fine l); fails = λ e n. n (labelled e) }
  where
    long : (l : Labelled labels k) → l.size ≤ length (label_of labels k)
    long l = unfold label_of in
        (run_passes is_label_byte (unfold is_label_byte is_digit in refl) (take 8 (drop (8 * k) labels)) l.size
        (λ j g. rw (row_at labels k j (omega (arith, l.few))) (told _ (tells_byte (label_byte labels k j)) (l.bytes j g))))

    fine : Labelled labels k → bad_label labels k ≡ false
    fine l = bad_not labels k (λ e. omega (arith, l.some, long l)) (λ j g h. l.rest j (omega (arith, long l)) h)

    labelled : bad_label labels k ≡ false → Labelled labels k
    labelled e =
        let g = good_label labels k e in
        record {
          size = length (label_of labels k);
          some = g.0;
          few = label_short labels k;
          bytes = λ j l. (tells_byte (label_byte labels k j)).holds (rw (label_in labels k j l) (all_at is_label_byte (label_of labels k) (label_all labels k) j l));
          rest = λ j l h. row_bytes labels (label_of labels k) k g.1 j h ∙ label_past labels k j l;
        }

-- a label of right form stands in an earlier row where the rows are equal
pub tells_twice : (labels : List ℕ) (k : ℕ) → bad_label labels k ≡ false
    → Tells ((i : ℕ) × (i < k) × ((j : ℕ) → j < 8 → label_byte labels i j ≡ label_byte labels k j)) (label_twice labels k)
unfolding label_twice
tells_twice labels k fine =
    tells_found (λ i. (j : ℕ) → j < 8 → label_byte labels i j ≡ label_byte labels k j) (is_row labels (label_of labels k)) k (λ i l. record {
      holds = λ e j g. row_bytes labels (label_of labels k) i e j g ∙ sym (own j g);
      fails = λ e h. true≢false (sym (row_same labels (label_of labels k) i (λ j g. h j g ∙ own j g)) ∙ e);
    })
  where
    own : (j : ℕ) → j < 8 → label_byte labels k j ≡ at (label_of labels k) j
    own j g = row_bytes labels (label_of labels k) k (good_label labels k fine).1 j g
