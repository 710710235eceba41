-- Why a path stands where it stands (RULES 25), as the call answers. Assumes nothing.
use Rattle.std.specs.Prelude.{ℕ, suc, ◌+◌, ◌-◌, ◌≤◌, ◌<◌, ◌≡◌, ◌⊎◌, ◌↔◌, set, take, drop}
use Rattle.std.proofs.Math.Path.{sym, ap}
use Rattle.std.proofs.Common.{subst, ◌∙◌, inl, inr, arith, length-set}
use mathlib.Core.List.{List}
use Rattle.std.proofs.Math.Decide.{ℕ_discrete}
use Rattle.std.proofs.Math.ListN.{length}
use Rattle.std.proofs.Math.Seq.{take-append_seam}
use Rattle.rules.specs.declared.Why.{Why}
use Rattle.rules.specs.Tables.{at, cleared, Lent}
use Rattle.rules.specs.Plan.{Net, net_of, Conflict, past, Valid}
use Rattle.rules.specs.Packing.{lowest, packed}
use Rattle.rules.specs.Pressing.{SameSides, by_start, pressed}
use Rattle.rules.specs.Reason.{chain, down, HoldsUp, last, Chain, CanStand, along}
use Rattle.rules.specs.Calls.{Left, judging, done_packed, packing, done_pressed, pressing, done_why, explaining}
use Rattle.table_laws.specs.Tables.{at_same, at_other, cleared_length}
use Rattle.plan_laws.specs.Good.{Good}
use Rattle.plan_laws.specs.Arranged.{arranged_order}
use Rattle.plan_laws.specs.Fits.{network_good}
use Rattle.plan_laws.specs.Reason.{chain_is, chain_few, chain_inside, chain_only}
use Rattle.plan_laws.specs.Answers.{Explainable, explaining_explainable, explainable_explaining, Judgeable, judgeable_judging, pressing_judgeable, judgeable_pressing, Packable, packing_packable, packable_packing}
use Rattle.demands.specs.Reason.{chain_sum, chain_reason, sides_reason, down_stands, down_meets, down_valid, down_none, down_some, packed_ends}
use Rattle.demands.specs.OnPacking.{packing_valid, packing_starts}
use Rattle.demands.specs.OnPressing.{pressed_judgeable}

-- the paths that an answer names: the first cells of the table
abbrev pub named : Left Why (List ℕ) → List ℕ
named r = take r.answer.length r.tables

module _ (n : ℕ) (lent : Lent) (starts : List ℕ) (path : ℕ) (table : List ℕ) (zero-answer : (explaining n lent starts path table).answer.number ≡ 0) where
  abbrev net : Net
  net = net_of lent

  abbrev why : Left Why (List ℕ)
  why = explaining n lent starts path table

  e : Explainable n lent starts path table
  e = explaining_explainable n lent starts path table zero-answer

  good : Good net n
  good = network_good n lent e.network

  is : why ≡ done_why net (at starts) n path table
  is = explainable_explaining n lent starts path table e

  named_is : named why ≡ chain net (at starts) n path
  unfolding done_why
  named_is = ap named is ∙ take-append_seam (chain net (at starts) n path) (drop (length (chain net (at starts) n path)) table)

  -- Each step is the link of the lowest number, and the last path stands in slot 1 or has none; and no other
  -- list of paths is such a chain
  pub explaining_chain : Chain net (at starts) n path (named why)
  explaining_chain = subst (Chain net (at starts) n path) (sym named_is) (chain_is net (at starts) n path e.inside)

  pub explaining_only : (c : List ℕ) → Chain net (at starts) n path c → c ≡ named why
  explaining_only c h = chain_only net (at starts) n path c e.inside h ∙ sym named_is

  -- it has at most n paths, as many as the answer says, and their starts fall
  pub explaining_length : (why.answer.length ≡ length (named why)) × (why.answer.length ≤ n)
  unfolding done_why
  explaining_length =
      let l : why.answer.length ≡ length (chain net (at starts) n path) = ap (λ (r : Left Why (List ℕ)). r.answer.length) is in
      (l ∙ sym (ap length named_is), omega (arith, l, chain_few net (at starts) n path))

  pub explaining_falls : (i : ℕ) → suc i < length (named why) → at starts (at (named why) (suc i)) < at starts (at (named why) i)
  explaining_falls i l = (explaining_chain.links i l).lower

  pub explaining_paths : (i : ℕ) → i < length (named why) → at (named why) i < n
  explaining_paths i l = chain_inside net (at starts) n path (named why) e.inside explaining_chain i l

  last_path : last (named why) < n
  last_path = explaining_paths (length (named why) - 1) (omega (arith, explaining_chain.some))

  -- The true reason. Where the chain ends in slot 1 its widths and guards add up to the start, and no valid
  -- plan in which its paths keep their order puts the first one lower; so none of the same sides does
  pub explaining_sum : at starts path ≡ at starts (last (named why)) + along net (named why)
  explaining_sum = chain_sum net n good (at starts) path (named why) explaining_chain

  pub explaining_order : at starts (last (named why)) ≡ 1 → (plan : ℕ → ℕ) → Valid net n plan
      → ((i : ℕ) → suc i < length (named why) → plan (at (named why) (suc i)) < plan (at (named why) i)) → at starts path ≤ plan path
  explaining_order z plan v keeps = chain_reason net n good (at starts) path (named why) explaining_chain e.inside plan v keeps z

  pub explaining_reason : at starts (last (named why)) ≡ 1 → (plan : ℕ → ℕ) → Valid net n plan → SameSides net n (at starts) plan → at starts path ≤ plan path
  explaining_reason z plan v same = sides_reason net n good (at starts) path (named why) explaining_chain e.inside plan v same z

  -- How far the last path can come down: it can stand in each slot down to there and in none below, and there
  -- it is in slot 1 or just past a path below it and their guard
  down_is : why.answer.down ≡ down net (at starts) n (last (named why))
  unfolding done_why
  down_is = ap (λ (r : Left Why (List ℕ)). r.answer.down) is ∙ ap (λ (c : List ℕ). down net (at starts) n (last c)) (sym named_is)

  pub explaining_down : (s : ℕ) → s ≤ at starts (last (named why)) → CanStand net (at starts) n (last (named why)) s ↔ (at starts (last (named why)) ≤ s + why.answer.down)
  explaining_down s l = rw down_is (down_stands net n good (at starts) e.valid (last (named why)) last_path s l)

  pub explaining_meets : (s : ℕ) → s + why.answer.down ≡ at starts (last (named why))
      → (s ≡ 1) ⊎ ((j : ℕ) × (j < n) × Conflict net j (last (named why)) × (at starts j < s) × (past net j (last (named why)) (at starts j) ≡ s))
  explaining_meets s q = down_meets net n good (at starts) e.valid (last (named why)) last_path s (ap (λ (d : ℕ). s + d) (sym down_is) ∙ q)

  -- so the table with the last path so far down, or less, is judged valid
  pub explaining_moves : (s : ℕ) → 1 ≤ s → s ≤ at starts (last (named why)) → at starts (last (named why)) ≤ s + why.answer.down
      → (judging n lent (set starts (last (named why)) s)).number ≡ 0
  explaining_moves s some l h =
      judgeable_judging n lent (set starts k s) (record {
        network = e.network;
        legal = record { size = length-set starts k s ∙ e.legal.size; start = λ i m. legal i m (ℕ_discrete i k) };
        valid = down_valid net n good (at starts) e.valid k last_path s l (rw down_is at h) (at (set starts k s)) (at_same starts k s room) (λ i ne. at_other starts k s i ne);
      })
    where
      k : ℕ
      k = last (named why)

      room : k < length starts
      room = omega (arith, last_path, e.network.few, e.legal.size)

      legal : (i : ℕ) → i < n → Dec (i ≡ k) → (1 ≤ at (set starts k s) i) × (at (set starts k s) i ≤ 16384)
      legal i m (yes q) = rw (q, at_same starts k s room) (some, omega (arith, l, (e.legal.start k last_path).1))
      legal i m (no q) = rw (at_other starts k s i q) (e.legal.start i m)

  -- it cannot at all exactly where it stands in slot 1
  pub explaining_ends : (why.answer.down ≡ 0) ↔ (at starts (last (named why)) ≡ 1)
  explaining_ends = (λ z. go z explaining_chain.ends (ℕ_discrete (at starts (last (named why))) 1), λ q. down_is ∙ down_none net n good (at starts) e.valid (last (named why)) last_path q)
    where
      go : why.answer.down ≡ 0 → (at starts (last (named why)) ≡ 1) ⊎ ((j : ℕ) → HoldsUp net (at starts) n (last (named why)) j → ⊥)
          → Dec (at starts (last (named why)) ≡ 1) → at starts (last (named why)) ≡ 1
      go z h (yes q) = q
      go z (inl q) (no ne) = q
      go z (inr free) (no ne) = absurd (omega (arith, z, down_is, down_some net n good (at starts) e.valid (last (named why)) last_path ne free))

-- a plan that was packed: each chain of it ends in slot 1
module _ (n : ℕ) (lent : Lent) (order starts : List ℕ) (zero-answer : (packing n lent order starts).answer.number ≡ 0) (path : ℕ) (table : List ℕ) (inside : path < n) (size : length table ≡ 128) where
  abbrev plan : List ℕ
  plan = (packing n lent order starts).tables

  p : Packable n lent order starts
  p = packing_packable n lent order starts zero-answer

  pub packing_explained : (explaining n lent plan path table).answer.number ≡ 0
  unfolding done_why
  packing_explained = ap (λ (r : Left Why (List ℕ)). r.answer.number)
      (explainable_explaining n lent plan path table (record {
        network = p.network;
        legal = packing_starts n lent order starts zero-answer;
        valid = packing_valid n lent order starts zero-answer;
        inside = inside;
        table_size = size;
      }))

  plan_is : plan ≡ packed (lowest (net_of lent)) (at order) starts n
  unfolding done_packed
  plan_is = ap (λ r. r.tables) (packable_packing n lent order starts p)

  pub packing_ends : at plan (last (named (explaining n lent plan path table))) ≡ 1
  packing_ends =
      packed_last plan plan_is (named (explaining n lent plan path table)) (explaining_chain n lent plan path table packing_explained)
    where
      packed_last : (t : List ℕ) → t ≡ packed (lowest (net_of lent)) (at order) starts n → (c : List ℕ) → Chain (net_of lent) (at t) n path c → at t (last c) ≡ 1
      packed_last t q c h =
          ap (λ (s : List ℕ). at s (last c)) q
          ∙ packed_ends (net_of lent) n (network_good n lent p.network) (at order) p.whole starts (omega (arith, p.starts_size, p.network.few)) path c inside
          (subst (λ (s : List ℕ). Chain (net_of lent) (at s) n path c) q h)

-- and a plan that was pressed
module _ (n : ℕ) (lent : Lent) (starts : List ℕ) (zero-answer : (pressing n lent starts).answer.number ≡ 0) (path : ℕ) (table : List ℕ) (inside : path < n) (size : length table ≡ 128) where
  abbrev plan' : List ℕ
  plan' = (pressing n lent starts).tables

  j : Judgeable n lent plan'
  j = pressed_judgeable n lent starts zero-answer

  pub pressing_explained : (explaining n lent plan' path table).answer.number ≡ 0
  unfolding done_why
  pressing_explained = ap (λ (r : Left Why (List ℕ)). r.answer.number)
      (explainable_explaining n lent plan' path table (record { network = j.network; legal = j.legal; valid = j.valid; inside = inside; table_size = size }))

  pub pressing_ends : at plan' (last (named (explaining n lent plan' path table))) ≡ 1
  pressing_ends = pressed_last plan' plan_is' (named (explaining n lent plan' path table)) (explaining_chain n lent plan' path table pressing_explained)
    where
      plan_is' : plan' ≡ pressed (net_of lent) n starts
      plan_is' = unfold done_pressed in (ap (λ r. r.tables) (judgeable_pressing n lent starts (pressing_judgeable n lent starts zero-answer)))

      pressed_last : (t : List ℕ) → t ≡ pressed (net_of lent) n starts → (c : List ℕ) → Chain (net_of lent) (at t) n path c → at t (last c) ≡ 1
      pressed_last t q c h = unfold pressed in
          (ap (λ (s : List ℕ). at s (last c)) q
          ∙ packed_ends (net_of lent) n (network_good n lent j.network) (at (by_start n (at starts) (cleared 128 0) n))
          (arranged_order (λ s i k. at starts k) n (cleared 128 0) (omega (arith, cleared_length 128 0, j.network.few)) n (omega arith))
          starts (omega (arith, (pressing_judgeable n lent starts zero-answer).legal.size, j.network.few)) path c inside
          (subst (λ (s : List ℕ). Chain (net_of lent) (at s) n path c) q h))
