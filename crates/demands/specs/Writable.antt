-- What the writer accepts: its tests find no fault exactly where these hold and the lent text has room.
-- Assumes nothing.
use Rattle.std.specs.Prelude.{ℕ, ◌≤◌, ◌<◌, ◌≡◌, Bool, true, false, ◌&&◌, ltb}
use Rattle.std.proofs.Math.Path.{refl, ap}
use Rattle.std.proofs.Common.{sym, ◌∙◌, arith}
use mathlib.Core.List.{List}
use Rattle.std.proofs.Math.ListN.{length}
use borrow.Author.Tests.{ltb-false, le-ltb}
use Rattle.rules.specs.declared.SheetWritten.{SheetWritten}
use Rattle.rules.specs.Tables.{at, Lent}
use Rattle.rules.specs.Limits.{Network}
use Rattle.rules.specs.Writing.{bad_label, label_twice, pairs, has_plan, sheet_text}
use Rattle.rules.specs.Numbers.{refuse_if, scan, bad_start, size_fault, lent_fault, label_sizes, write_fault}
use Rattle.rules.specs.Calls.{Left, writing}
use Rattle.table_laws.specs.Faults.{refuse_not, refuse_clear, or_clear, or_none, scan_none, scan_clear, size_good, size_clear}
use Rattle.table_laws.specs.Limits.{clear_of, outside_not, outside_none}
use Rattle.table_laws.specs.Chains.{lent_clear, clear_lent}
use Rattle.plan_laws.specs.Answers.{unless_done, unless_clear}

pub record Writable (n : ℕ) (labels : List ℕ) (lent : Lent) (starts : List ℕ) : Type 0 where
  pub network : Network n lent
  pub labels_size : length labels ≡ 1024
  pub starts_size : length starts ≡ 128
  pub formed : (k : ℕ) → k < n → bad_label labels k ≡ false
  pub once : (k : ℕ) → k < n → label_twice labels k ≡ false
  pub not_many : pairs n lent.guards ≤ 2000
  pub planned : has_plan n starts ≡ true → (k : ℕ) → k < n → (1 ≤ at starts k) × (at starts k ≤ 16384)

module _ (n : ℕ) (labels : List ℕ) (lent : Lent) (starts text : List ℕ) where
  abbrev sheet : List ℕ
  sheet = sheet_text n labels lent starts

  pub write_clear : (write_fault n labels lent starts text).number ≡ 0 → Writable n labels lent starts × (length sheet ≤ length text)
  unfolding write_fault label_sizes
  write_clear z =
      let a = or_clear (lent_fault n lent (label_sizes labels starts)) _ z in
      let l = or_clear (scan 11 (bad_label labels) n) _ a.1 in
      let t = or_clear (scan 12 (label_twice labels) n) _ l.1 in
      let p = or_clear (refuse_if (ltb 2000 (pairs n lent.guards)) 1 0) _ t.1 in
      let s = or_clear (scan 7 (λ k. has_plan n starts && bad_start starts k) n) _ p.1 in
      let w = lent_clear n lent (label_sizes labels starts) a.0 in
      let sizes = or_clear _ _ w.1 in (
        record {
          network = w.0;
          labels_size = size_clear labels 1024 sizes.0;
          starts_size = size_clear starts 128 sizes.1;
          formed = scan_clear 11 (bad_label labels) n (omega arith) l.0;
          once = scan_clear 12 (label_twice labels) n (omega arith) t.0;
          not_many = ltb-false 2000 (pairs n lent.guards) (refuse_clear (ltb 2000 (pairs n lent.guards)) 1 0 (omega arith) p.0);
          planned = λ e k x. outside_not 1 16384 (at starts k) (sym (ap (λ (b : Bool). b && bad_start starts k) e) ∙ scan_clear 7 (λ k. has_plan n starts && bad_start starts k) n (omega arith) s.0 k x);
        },
        ltb-false (length text) (length sheet) (refuse_clear (ltb (length text) (length sheet)) 16 0 (omega arith) s.1),
      )

  pub clear_write : Writable n labels lent starts → length sheet ≤ length text → (write_fault n labels lent starts text).number ≡ 0
  unfolding write_fault label_sizes
  clear_write w room =
      or_none _ _ (clear_lent n lent (label_sizes labels starts) w.network (or_none _ _ (sized labels 1024 w.labels_size) (sized starts 128 w.starts_size)))
      (or_none _ _ (clear_of (scan_none 11 (bad_label labels) n w.formed))
      (or_none _ _ (clear_of (scan_none 12 (label_twice labels) n w.once))
      (or_none _ _ (clear_of (refuse_not (ltb 2000 (pairs n lent.guards)) 1 0 (le-ltb 2000 (pairs n lent.guards) w.not_many)))
      (or_none _ _ (clear_of (scan_none 7 (λ k. has_plan n starts && bad_start starts k) n (λ k l. start_test k l (has_plan n starts) refl)))
      (clear_of (refuse_not (ltb (length text) (length sheet)) 16 0 (le-ltb (length text) (length sheet) room)))))))
    where
      sized : (table : List ℕ) (size : ℕ) → length table ≡ size → (size_fault table size).number ≡ 0
      sized table size e = clear_of (sym (size_good table size e))

      start_test : (k : ℕ) → k < n → (b : Bool) → has_plan n starts ≡ b → (b && bad_start starts k) ≡ false
      start_test k l true e = let s = w.planned e k l in outside_none 1 16384 (at starts k) s.0 s.1
      start_test k l false e = refl

  -- the call answers 0 exactly there
  pub writing_writable : (writing n labels lent starts text).answer.number ≡ 0 → Writable n labels lent starts × (length sheet ≤ length text)
  unfolding writing
  writing_writable z = write_clear (unless_clear (λ (r : Left SheetWritten (List ℕ)). r.answer.number) (write_fault n labels lent starts text) _ _ refl z)

  pub writable_writing : Writable n labels lent starts → length sheet ≤ length text → (writing n labels lent starts text).answer.number ≡ 0
  unfolding writing
  writable_writing w room = ap (λ (r : Left SheetWritten (List ℕ)). r.answer.number) (unless_done (write_fault n labels lent starts text) _ _ (clear_write w room))
