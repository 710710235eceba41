-- Demand 3 (RULES 21), over demand 2's valid plans and packing, as the calls answer. Assumes nothing.
use Rattle.std.specs.Prelude.{ℕ, ◌-◌, ◌≤◌, ◌<◌, ◌≡◌, List, length}
use Rattle.std.proofs.Math.Path.{refl}
use Rattle.std.proofs.Common.{sym, ◌∙◌, arith}
use Rattle.rules.specs.declared.Pressed.{Pressed}
use Rattle.rules.specs.Tables.{at, Lent}
use Rattle.rules.specs.Plan.{Net, net_of, highest, Valid}
use Rattle.rules.specs.Packing.{Reversed}
use Rattle.rules.specs.Pressing.{pressed, SameSides}
use Rattle.rules.specs.Calls.{Left, done_packed, packing, done_pressed, pressing}
use Rattle.plan_laws.specs.Good.{Good}
use Rattle.demands.specs.Press.{press_valid, press_sides, press_least, press_length, press_agree, press_again}
use Rattle.demands.specs.Mirror.{reverse_law}
use Rattle.plan_laws.specs.Heights.{highest_ge, highest_le, highest_same}
use Rattle.plan_laws.specs.Fits.{network_good}
use Rattle.plan_laws.specs.Answers.{Judgeable, pressing_judgeable, judgeable_pressing, Packable, packing_packable, packable_packing}

-- Pressing gives the least plan of the same sides, once and for all
module _ (n : ℕ) (lent : Lent) (starts : List ℕ) (zero-answer : (pressing n lent starts).answer.number ≡ 0) where
  abbrev net : Net
  net = net_of lent

  abbrev press : Left Pressed (List ℕ)
  press = pressing n lent starts

  judgeable : Judgeable n lent starts
  judgeable = pressing_judgeable n lent starts zero-answer

  good : Good net n
  good = network_good n lent judgeable.network

  few : n ≤ 128
  few = judgeable.network.few

  room : n ≤ length starts
  room = omega (arith, judgeable.legal.size, judgeable.network.few)

  press_is : press ≡ done_pressed net n (pressed net n starts)
  press_is = judgeable_pressing n lent starts judgeable

  -- a valid plan that keeps for each conflicting pair which is lower
  pub pressing_valid : Valid net n (at press.tables)
  unfolding done_pressed
  pressing_valid = rw press_is (press_valid net n good few starts room judgeable.valid)

  pub pressing_sides : SameSides net n (at starts) (at press.tables)
  unfolding done_pressed
  pressing_sides = rw press_is (press_sides net n good few starts room judgeable.valid)

  -- no valid plan of those sides puts any path lower
  pub pressing_least : (plan : ℕ → ℕ) → Valid net n plan → SameSides net n (at starts) plan → (k : ℕ) → k < n → at press.tables k ≤ plan k
  unfolding done_pressed
  pressing_least plan v s = rw press_is (press_least net n good few starts room judgeable.valid plan v s)

  pub pressing_highest : press.answer.highest ≡ highest net (at press.tables) n
  unfolding done_pressed
  pressing_highest = rw press_is

  -- so its highest slot is the least too
  pub pressing_lowest : (plan : ℕ → ℕ) → Valid net n plan → SameSides net n (at starts) plan → press.answer.highest ≤ highest net plan n
  pressing_lowest plan v s =
      rw pressing_highest
      (highest_le net (at press.tables) n (highest net plan n) (λ k l. omega (arith, pressing_least plan v s k l, highest_ge net plan n k l)))

  -- what is pressed can be pressed: it answers 0 again, and changes nothing
  pub pressed_judgeable : Judgeable n lent press.tables
  pressed_judgeable = record {
    network = judgeable.network;
    legal = record {
      size = size;
      start = λ k l. (
        pressing_valid.lows k l,
        omega (arith, pressing_least (at starts) judgeable.valid (λ i j a b c lt. lt) k l, (judgeable.legal.start k l).1),
      );
    };
    valid = pressing_valid;
  }
    where
      size : length press.tables ≡ 128
      size = unfold done_pressed in (rw press_is (press_length net n good few starts room judgeable.valid ∙ judgeable.legal.size))

  pub pressing_again : pressing n lent press.tables ≡ press
  pressing_again = judgeable_pressing n lent press.tables pressed_judgeable ∙ same
    where
      same : done_pressed net n (pressed net n press.tables) ≡ press
      same = unfold done_pressed in (rw (press_is, press_again net n good few starts room judgeable.valid))

-- two valid plans with the same sides press to the same plan, of the same highest slot
pub pressing_same : (n : ℕ) (lent : Lent) (starts others : List ℕ) → (pressing n lent starts).answer.number ≡ 0 → (pressing n lent others).answer.number ≡ 0
    → SameSides (net_of lent) n (at starts) (at others)
    → ((k : ℕ) → k < n → at (pressing n lent starts).tables k ≡ at (pressing n lent others).tables k)
    × ((pressing n lent starts).answer.highest ≡ (pressing n lent others).answer.highest)
pressing_same n lent starts others y z s = (agree, tops)
  where
    a : Judgeable n lent starts
    a = pressing_judgeable n lent starts y

    b : Judgeable n lent others
    b = pressing_judgeable n lent others z

    agree : (k : ℕ) → k < n → at (pressing n lent starts).tables k ≡ at (pressing n lent others).tables k
    agree k l = unfold done_pressed in
        (rw (judgeable_pressing n lent starts a, judgeable_pressing n lent others b)
        (press_agree (net_of lent) n (network_good n lent a.network) a.network.few starts others
        (omega (arith, a.legal.size, a.network.few)) (omega (arith, b.legal.size, b.network.few)) a.valid b.valid s k l))

    tops : (pressing n lent starts).answer.highest ≡ (pressing n lent others).answer.highest
    tops =
        rw (pressing_highest n lent starts y, pressing_highest n lent others z)
        (highest_same (net_of lent) (at (pressing n lent starts).tables) (at (pressing n lent others).tables) n agree)

-- The reverse of an order that is packed is packed too, to the same highest slot
module _ (n : ℕ) (lent : Lent) (order reverse starts others : List ℕ) (zero-answer : (packing n lent order starts).answer.number ≡ 0)
    (size : length reverse ≡ 128) (room : length others ≡ 128) (rev : Reversed (at order) (at reverse) n) where
  packable : Packable n lent order starts
  packable = packing_packable n lent order starts zero-answer

  reverse_packable : Packable n lent reverse others
  reverse_packable = record {
    network = packable.network;
    order_size = size;
    starts_size = room;
    whole = record {
      inside = λ i l. omega (arith, rev i l, packable.whole.inside (n - 1 - i) (omega arith));
      fresh = λ i j h l e. packable.whole.fresh (n - 1 - j) (n - 1 - i) (omega arith) (omega arith) (sym (rev j l) ∙ sym e ∙ rev i (omega arith));
    };
  }

  pub packing_reverse : ((packing n lent reverse others).answer.number ≡ 0)
      × ((packing n lent order starts).answer.highest ≡ (packing n lent reverse others).answer.highest)
  unfolding done_packed
  packing_reverse =
      rw (packable_packing n lent order starts packable, packable_packing n lent reverse others reverse_packable) (
        refl,
        reverse_law (net_of lent) n (network_good n lent packable.network) (λ k l. refl) (at order) (at reverse) packable.whole
            reverse_packable.whole rev starts others (omega (arith, packable.starts_size, packable.network.few)) (omega (arith, packable.network.few)),
      )
