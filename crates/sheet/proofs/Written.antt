-- The writer's tests in their order, and what it leaves. Assumes nothing.
use Prim.Native.Nat.{ℕ, ◌≤◌}
use mathlib.Core.Path.{◌≡◌, sym, ap, ◌∙◌}
use mathlib.Core.Bool.{◌&&◌}
use mathlib.Core.List.{List}
use lib.Dec.{ltb}
use Rattle.rules.specs.declared.Fault.{Fault}
use Rattle.rules.specs.Tables.{Lent, lend}
use Rattle.rules.specs.Writing.{bad_label, label_twice, pairs, has_plan, sheet_text}
use Rattle.rules.specs.Numbers.{no_fault, refuse_if, ◌or_else◌, scan, bad_start, label_sizes, lent_fault, room_fault, write_fault}
use Rattle.rules.specs.Calls.{unless, refused_written, done_written, writing}
use Rattle.table_laws.specs.Faults.{or_clear, or_assoc}
use Rattle.table_laws.specs.Chains.{lent_clear}
use Rattle.table_laws.specs.Results.{clear_none}
use Rattle.sheet_laws.specs.Sizes.{Sized, labels_clear}
use Rattle.sheet_laws.specs.Shorts.{refuse_short, or_short, scan_short, label_short, lent_short}
use Rattle.sheet_tables.specs.Tests.{plan_fault, table_fault}

module _ (n : ℕ) (labels : List ℕ) (lent : Lent) (starts text : List ℕ) where
  abbrev room : Fault
  room = room_fault (sheet_text n labels lent starts) text

  in_order : write_fault n labels lent starts text ≡ (table_fault n labels lent starts or_else room)
  unfolding write_fault table_fault plan_fault
  in_order =
      let w = lent_fault n lent (label_sizes labels starts) in
      let l = scan 11 (bad_label labels) n in
      let t = scan 12 (label_twice labels) n in
      let p = refuse_if (ltb 2000 (pairs n lent.guards)) 1 0 in
      let q = scan 7 (λ k. has_plan n starts && bad_start starts k) n in
      sym
      (or_assoc w (l or_else t or_else p or_else q) room
      ∙ ap (λ (x : Fault). w or_else x) (or_assoc l (t or_else p or_else q) room)
      ∙ ap (λ (x : Fault). w or_else l or_else x) (or_assoc t (p or_else q) room)
      ∙ ap (λ (x : Fault). w or_else l or_else t or_else x) (or_assoc p q room))

  -- so the laws of all writers apply
  pub writing_is : unless (table_fault n labels lent starts or_else room) (refused_written text) (done_written (sheet_text n labels lent starts) text) ≡ writing n labels lent starts text
  unfolding writing
  writing_is = ap (λ (x : Fault). unless x (refused_written text) (done_written (sheet_text n labels lent starts) text)) (sym in_order)

-- none of them says that slots are short
pub table_short : (n : ℕ) (labels : List ℕ) (lent : Lent) (starts : List ℕ) → (table_fault n labels lent starts).short ≡ 0
unfolding table_fault plan_fault
table_short n labels lent starts =
    or_short _ _ (lent_short n lent _ (label_short labels starts))
    (or_short _ _ (scan_short 11 _ n) (or_short _ _ (scan_short 12 _ n) (or_short _ _ (refuse_short _ 1 0) (scan_short 7 _ n))))

-- what tables that are not refused say
pub table_clear : (n : ℕ) (labels widths guards starts : List ℕ) → no_fault ≡ table_fault n labels (lend widths guards) starts → (n ≤ 128) × Sized labels widths guards starts
unfolding table_fault
table_clear n labels widths guards starts e =
    let a = or_clear _ _ (clear_none e) in
    let b = lent_clear n (lend widths guards) (label_sizes labels starts) a.0 in
    let d = labels_clear labels starts b.1 in
    (b.0.few, record { labels_size_lem = d.0; widths_size_lem = b.0.widths_size; guards_size_lem = b.0.guards_size; starts_size_lem = d.1 })
