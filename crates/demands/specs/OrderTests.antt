-- Which number and place the calls of the grid answer (RULES 27): what the tests of rules/specs/Refusing give in
-- their order is the answer of the centre and of `order_write`; and of `order_read`, before it looks at the lines.
-- Assumes nothing.
use Rattle.std.specs.Prelude.{ℕ, ◌≤◌, ◌≡◌, ◌↔◌, Bool, List, [], ◌∷◌, eqb, ℤ, pos, ◌+ℤ◌}
use Rattle.std.proofs.Math.Path.{refl, subst}
use Rattle.std.proofs.Common.{sym, ap, ◌∙◌, true≢false, arith}
use Rattle.std.proofs.Math.Bool.{true, false, cond}
use Rattle.rules.specs.declared.Fault.{Fault}
use Rattle.rules.specs.declared.SheetWritten.{SheetWritten}
use Rattle.rules.specs.declared.OrderRead.{OrderRead}
use Rattle.rules.specs.Tables.{Lent}
use Rattle.rules.specs.Grid.{order_text}
use Rattle.rules.specs.Numbers.{fault, no_fault, refuse_if, ◌or_else◌, outside, start_fault, label_sizes, anchor_fault, centre_fault, order_read_fault, order_write_fault}
use Rattle.rules.specs.Calls.{Left, left, centre_number, order_writing, order_reading}
use Rattle.rules.specs.Refusing.{Gives, Outside, once, size_test, start_test, anchor_test, centre_tests, order_read_tests, order_write_tests}
use Rattle.demands.specs.Tests.{Tells, refuse_gives, gives_append, gives_one, gives_none, Silent, silent_append, silent_short, silent_gives}
use Rattle.demands.specs.Words.{tells_outside}
use Rattle.demands.specs.OnRefusing.{then, unsaid, lent_unsaid, lent_gives, start_gives, label_sizes_give, labels_give, room_gives}
use Rattle.demands.specs.Grid.{anchor_out, anchor_tells}
use Rattle.demands.specs.Orderable.{OrderTables, tables_clear, clear_tables}
use Rattle.demands.specs.OnOrdering.{ordering_tables}

-- 17
tells_anchor : (anchor : ℤ) → Tells ((k : ℕ) → k ≤ 2048 → anchor +ℤ pos 1024 ≡ pos k → ⊥) (anchor_out anchor)
tells_anchor anchor = record {
  holds = λ e k few is. true≢false (sym e ∙ (anchor_tells anchor).1 (record { steps = k; few = few; is = is }));
  fails = λ e none. let a = (anchor_tells anchor).0 e in none a.steps a.few a.is;
}

anchor_gives : (anchor : ℤ) → Gives (anchor_test anchor ∷ []) (anchor_fault anchor)
unfolding anchor_fault
anchor_gives anchor = refuse_gives 17 _ (anchor_out anchor) (omega arith) (tells_anchor anchor)

-- the centre, whose call answers its number alone: the place is 0
module _ (anchor : ℤ) (start width : ℕ) where
  fault_gives : Gives (centre_tests anchor start width) (centre_fault anchor start width)
  unfolding centre_tests centre_fault
  fault_gives =
      then (anchor_test anchor) _ (anchor_fault anchor) _ (anchor_gives anchor) (λ _.
      then (once 3 (Outside 1 64 width)) _ (refuse_if (outside 1 64 width) 3 0) _ (refuse_gives 3 _ (outside 1 64 width) (omega arith) (tells_outside 1 64 width)) (λ _.
      refuse_gives 7 _ (outside 1 16384 start) (omega arith) (tells_outside 1 16384 start)))

  pub centre_gives : Gives (centre_tests anchor start width) (fault (centre_number anchor start width) 0)
  unfolding centre_number
  centre_gives = subst (Gives (centre_tests anchor start width)) whole fault_gives
    where
      refuse_whole : (b : Bool) (m : ℕ) → refuse_if b m 0 ≡ fault (refuse_if b m 0).number 0
      refuse_whole true m = unfold refuse_if in refl
      refuse_whole false m = unfold refuse_if in refl

      or_whole : (f g : Fault) → f ≡ fault f.number 0 → g ≡ fault g.number 0 → (f or_else g) ≡ fault (f or_else g).number 0
      or_whole f g p q = unfold ◌or_else◌ in (go (eqb f.number 0))
        where
          go : (b : Bool) → cond b g f ≡ fault (cond b g f).number 0
          go true = q
          go false = p

      whole : centre_fault anchor start width ≡ fault (centre_fault anchor start width).number 0
      whole = unfold centre_fault anchor_fault in
          (or_whole _ _ (refuse_whole (anchor_out anchor) 17) (or_whole _ _ (refuse_whole (outside 1 64 width) 3) (refuse_whole (outside 1 16384 start) 7)))

-- the order sheet
module _ (anchor : ℤ) (n : ℕ) (labels : List ℕ) (lent : Lent) (starts : List ℕ) where
  -- 2 of the labels and the starts, and 17
  beside_give : Gives (size_test labels 1024 ∷ size_test starts 128 ∷ anchor_test anchor ∷ []) (label_sizes labels starts or_else anchor_fault anchor)
  beside_give =
      gives_append (size_test labels 1024 ∷ size_test starts 128 ∷ []) _ (label_sizes labels starts) _ (label_sizes_give labels starts) (λ _. anchor_gives anchor)

  tables_give : Gives (order_read_tests anchor n labels lent starts) (order_read_fault anchor n labels lent starts)
  unfolding order_read_tests order_read_fault
  tables_give = lent_gives n lent _ _ beside_give

  tables_silent : Silent (order_read_tests anchor n labels lent starts)
  unfolding order_read_tests
  tables_silent = lent_unsaid n lent _ (unsaid, (unsaid, (unsaid, tt)))

  module _ (text : List ℕ) where
    write_gives : Gives (order_write_tests anchor n labels lent starts text) (order_write_fault anchor n labels lent starts text)
    unfolding order_write_tests order_write_fault
    write_gives =
        gives_append (order_read_tests anchor n labels lent starts) _ (order_read_fault anchor n labels lent starts) _ tables_give (λ _.
        labels_give n labels _ _ (then (start_test n starts) _ (start_fault n starts) _ (start_gives n lent starts) (λ _. room_gives (order_text anchor n labels lent.widths starts) text)))

    abbrev written : SheetWritten
    written = (order_writing anchor n labels lent starts text).answer

    pub order_writing_gives : Gives (order_write_tests anchor n labels lent starts text) (fault written.number written.place)
    unfolding order_writing order_write_tests
    order_writing_gives =
        silent_gives (λ (r : Left SheetWritten (List ℕ)). r.answer.number) (λ (r : Left SheetWritten (List ℕ)). r.answer.place)
        (order_write_tests anchor n labels lent starts text) (order_write_fault anchor n labels lent starts text) _ _ refl refl refl refl
        (silent_append (order_read_tests anchor n labels lent starts) _ tables_silent (unsaid, (unsaid, (unsaid, (unsaid, tt))))) write_gives

    -- what the tests of the tables find is what the reading answers; where they find nothing it answers the first
    -- line at fault (`ordering-halt`, `ordering-done`)
    abbrev read : OrderRead
    read = (order_reading anchor text n labels lent starts).answer

    pub order_reading_gives : (OrderTables anchor n labels lent starts → ⊥) → Gives (order_read_tests anchor n labels lent starts) (fault read.number read.place)
    order_reading_gives h = subst (Gives (order_read_tests anchor n labels lent starts)) same tables_give
      where
        f : Fault
        f = order_read_fault anchor n labels lent starts

        answer : order_reading anchor text n labels lent starts ≡ left (record { number = f.number; place = f.place }) starts
        answer = ordering_tables anchor text n labels lent starts h

        same : f ≡ fault read.number read.place
        same =
            ap (λ (s : ℕ). record { number = f.number; place = f.place; short = s }) (silent_short (order_read_tests anchor n labels lent starts) f tables_silent tables_give)
            ∙ sym (λ i. fault (answer i).answer.number (answer i).answer.place)

  -- and they find nothing exactly where the tables and the anchor are within their limits
  pub order_tables_exact : Gives (order_read_tests anchor n labels lent starts) no_fault ↔ OrderTables anchor n labels lent starts
  order_tables_exact = (
    λ g. tables_clear anchor n labels lent starts (ap (λ (x : Fault). x.number) (gives_one (order_read_tests anchor n labels lent starts) _ no_fault tables_give g)),
    λ s. subst (Gives (order_read_tests anchor n labels lent starts)) (gives_none (order_read_tests anchor n labels lent starts) _ tables_give (clear_tables anchor n labels lent starts s)) tables_give,
  )
