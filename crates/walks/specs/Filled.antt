-- The table of walks: row s has the least walk through the set s from each position. The sets are filled in the order of
-- their numbers, so that each comes after all its parts. Assumes nothing.
use Rattle.std.specs.Prelude.{ℕ, ◌+◌, ◌-◌, ◌≤◌, ◌<◌, min, ◌≡◌, refl, ◌≢◌, Bool, true, false, cond, List, [], length, set, replicate, eqb}
use Rattle.std.proofs.Common.{◌∙◌, arith, add-one, length-set, eqb-true, get_or-set_same, get_or-set_other}
use Rattle.std.proofs.Math.Decide.{dec_lt}
use Rattle.std.proofs.lemmas.Bool.{eqb-false}
use Rattle.std.proofs.lemmas.List.{length-replicate, get_or-replicate}
use Rattle.std.proofs.lemmas.Nat.{pow_pos}
use Rattle.rules.specs.Tables.{at}
use Rattle.rules.specs.Scan.{least}
use Rattle.table_laws.specs.Count.{each_suc}
use Rattle.table_laws.specs.Scans.{least_start, least_same}
use Rattle.table_laws.specs.Updates.{Updated, update_more}
use Rattle.walks.specs.Sets.{alone, has, alone_le, has_none}
use Rattle.walks.specs.Square.{row_at, guard_in}
use Rattle.walks.specs.Walked.{Least, least_outside, least_past, least_alone, least_onward}

-- the least way on from a position with these guards, through a set with these least walks: one guard, and the walk from
-- there
abbrev pub onward : List ℕ → List ℕ → ℕ
onward guards walks = least 255 (λ i. at guards i + at walks i) 8

pub onward_row : (guards walks : List ℕ) (guard : ℕ → ℕ) → ((i : ℕ) → i < 8 → at guards i ≡ guard i) → onward guards walks ≡ least 255 (λ i. guard i + at walks i) 8
onward_row guards walks guard row = least_same 255 (λ i. at guards i + at walks i) (λ i. guard i + at walks i) 8 (λ i h. rw (row i h))

-- for the code: one step of a least, of numbers that stop at 255
pub least_none : (f : ℕ → ℕ) → least 255 f 0 ≡ 255
unfolding least
least_none f = refl

pub least_more : (f : ℕ → ℕ) (i : ℕ) → least 255 f (i + 1) ≡ min (least 255 f i) (min (f i) 255)
unfolding least
least_more f i = rw add-one (omega (arith, least_start 255 f i))

pub ruleset least_steps = (least_none, least_more)

-- the least walk through the set s from position j; 255 where it is not in s
unfoldable pub least_from : List (List ℕ) → List (List ℕ) → ℕ → ℕ → ℕ
least_from square walks s j = cond (has s j) (cond (eqb (s - alone j) 0) 0 (onward (row_at square j) (row_at walks (s - alone j)))) 255

-- the rows from s on are blank
pub record Blank (s : ℕ) (walks : List (List ℕ)) : Type 0 where
  pub rows : (t : ℕ) → s ≤ t → t < length walks → row_at walks t ≡ replicate 8 255

pub blank_table : (size : ℕ) → Blank 0 (replicate size (replicate {A = ℕ} 8 255))
blank_table size = record { rows = λ t h l. get_or-replicate size t (replicate {A = ℕ} 8 255) [] (omega (arith, length-replicate size (replicate {A = ℕ} 8 255))) }

-- row s alone is being filled, and is at its first j positions
pub record Filling (square : List (List ℕ)) (s j : ℕ) (before after : List (List ℕ)) : Type 0 where
  pub long : length after ≡ length before
  pub others : (t : ℕ) → t ≢ s → row_at after t ≡ row_at before t
  pub row : Updated (λ i v. least_from square before s i) (replicate 8 255) (row_at after s) j

module _ (square : List (List ℕ)) (s : ℕ) where
  -- it is not read while it is filled
  same_walks : (before walks : List (List ℕ)) (j : ℕ) → ((t : ℕ) → t ≢ s → row_at walks t ≡ row_at before t) → least_from square walks s j ≡ least_from square before s j
  unfolding least_from
  same_walks before walks j others = go (has s j) refl
    where
      go : (b : Bool) → has s j ≡ b
          → cond b (cond (eqb (s - alone j) 0) 0 (onward (row_at square j) (row_at walks (s - alone j)))) 255
          ≡ cond b (cond (eqb (s - alone j) 0) 0 (onward (row_at square j) (row_at before (s - alone j)))) 255
      go false e = refl
      go true e = rw (others (s - alone j) (λ z. omega (arith, alone_le s j e, pow_pos j)))

  pub filling_more : (before walks : List (List ℕ)) (j v : ℕ) → Filling square s j before walks → j < 8 → s < length walks → v ≡ least_from square walks s j
      → Filling square s (j + 1) before (set walks s (set (row_at walks s) j v))
  filling_more before walks j v f l room e = record {
    long = length-set walks s (set (row_at walks s) j v) ∙ f.long;
    others = λ t ne. get_or-set_other walks s t (set (row_at walks s) j v) [] ne ∙ f.others t ne;
    row = rw (get_or-set_same walks s (set (row_at walks s) j v) [] room) (update_more _ _ _ j v f.row (omega (arith, length-replicate {A = ℕ} 8 255)) (e ∙ same_walks before walks j f.others));
  }

module _ (guard : ℕ → ℕ → ℕ) (k : ℕ) where
  -- the sets below s are filled, and no other
  pub record Filled (s : ℕ) (walks : List (List ℕ)) : Type 0 where
    pub done : (t i : ℕ) → t < s → i < 8 → Least guard k t i (at (row_at walks t) i)
    pub left : Blank s walks

  -- at first there is the empty set alone, which has no walk
  pub filled_none : (walks : List (List ℕ)) → Blank 0 walks → 0 < length walks → Filled 1 walks
  filled_none walks b room = record {
    done = λ t i h g. let z : t ≡ 0 = omega arith in rw (z, b.rows 0 (omega arith) room, get_or-replicate {A = ℕ} 8 i 255 0 g) (least_outside guard k 0 i (has_none i));
    left = record { rows = λ t h l. b.rows t (omega arith) l };
  }

  -- one set more, by a square that has the guards of the first k positions
  pub filled_more : (s : ℕ) (square before walks : List (List ℕ)) → ((j i : ℕ) → j < k → i < 8 → guard_in square j i ≡ guard j i) → Filled s before → k ≤ 8 → Filling square s k before walks
      → Filled (s + 1) walks
  filled_more s square before walks same f few u = rw add-one record {
    done = λ t i h g. each_suc (λ t. Least guard k t i (at (row_at walks t) i)) s
        (λ t h. rw (u.others t (λ z. omega arith)) (f.done t i h g))
        (own i g (dec_lt i k)) t h;
    left = record { rows = λ t h l. u.others t (λ z. omega arith) ∙ f.left.rows t (omega arith) (omega (arith, u.long)) };
  }
    where
      rest : ℕ → ℕ
      rest j = s - alone j

      inside : (j : ℕ) → j < k → (a : Bool) → has s j ≡ a → (b : Bool) → eqb (rest j) 0 ≡ b
          → Least guard k s j (cond a (cond b 0 (onward (row_at square j) (row_at before (rest j)))) 255)
      inside j l false e b z = least_outside guard k s j e
      inside j l true e true z = let own : s ≡ alone j = omega (arith, alone_le s j e, eqb-true (rest j) 0 z) in rw own (least_alone guard k j l)
      inside j l true e false z =
          let pos = pow_pos j in
          let ne = eqb-false (rest j) 0 z in
          least_onward guard k s j (onward (row_at square j) (row_at before (rest j))) (at (row_at before (rest j))) e (omega arith) (λ i h. f.done (rest j) i (omega arith) h) few l
          (onward_row (row_at square j) (row_at before (rest j)) (guard j) (λ i h. same j i l h))

      own : (i : ℕ) → i < 8 → Dec (i < k) → Least guard k s i (at (row_at walks s) i)
      own i g (yes l) = rw (u.row.done i l) (unfold least_from in inside i l (has s i) refl (eqb (rest i) 0) refl)
      own i g (no l) = rw (u.row.left i (omega arith), get_or-replicate {A = ℕ} 8 i 255 0 g) (least_past guard k s i (omega arith))
