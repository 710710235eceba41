-- What a count counts. Assumes nothing.
use Prim.Native.Nat.{ℕ, ◌+◌, ◌-◌, ◌^◌}
use Rattle.std.specs.Prelude.{◌≡◌, List, length}
use Rattle.std.proofs.Common.{length-append}
use native.Mathlib.Omega.{arith}
use Rattle.spelling.specs.Sinks.{IsSink}
use Rattle.spelling.specs.declared.count.Count.{Count}

-- it counts so many bytes more, as far as a number goes
abbrev pub left : Count → ℕ
left c = 2 ^ 64 - 1 - c.bytes

pub record Counts (c : Count) (w : List ℕ) (d : Count) : Type 0 where
  pub more : d.bytes ≡ c.bytes + length w
  pub less : left d + length w ≡ left c

pub count_laws : IsSink left Counts
count_laws =
    record {
      none = λ c. record { more = omega arith; less = omega arith };
      both = λ {s} {t} {u} {v} {w} h k. record { more = omega (arith, length-append v w); less = omega (arith, length-append v w) };
      left = λ h. h.less;
    }
