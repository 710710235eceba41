-- RULES 17, what a call answers in Rattle: what is done, or the refusal that its tests find; and how RULES and C say the
-- same, in numbers. Assumes nothing.
use Rattle.std.specs.Prelude.{ℕ, Result, Ok, Err}
use Rattle.rules.specs.declared.Cause.{Cause}
use Rattle.rules.specs.declared.Cause.TheVariants.{Count, Size, Width, Guard, Mirror, Entry, Start, Clash, NoSides, Rounds, Form, LabelTwice, LabelUnknown, PairTwice, List, Room, Anchor}
use Rattle.rules.specs.declared.Refusal.{Refusal}
use Rattle.rules.specs.declared.Fault.{Fault}
use Rattle.rules.specs.declared.Explained.{Explained}
use Rattle.rules.specs.declared.Arranged.{Arranged}
use Rattle.rules.specs.declared.Packed.{Packed}
use Rattle.rules.specs.declared.Pressed.{Pressed}
use Rattle.rules.specs.declared.Why.{Why}
use Rattle.rules.specs.declared.Sided.{Sided}
use Rattle.rules.specs.declared.Planned.{Planned}
use Rattle.rules.specs.declared.Floored.{Floored}
use Rattle.rules.specs.declared.SheetRead.{SheetRead}
use Rattle.rules.specs.declared.SheetWritten.{SheetWritten}
use Rattle.rules.specs.declared.OrderRead.{OrderRead}
use Rattle.rules.specs.Numbers.{no_fault}

-- the number of each cause
abbrev pub number_of : Cause → ℕ
number_of Count = 1
number_of Size = 2
number_of Width = 3
number_of Guard = 4
number_of Mirror = 5
number_of Entry = 6
number_of Start = 7
number_of Clash = 8
number_of NoSides = 9
number_of Rounds = 10
number_of Form = 11
number_of LabelTwice = 12
number_of LabelUnknown = 13
number_of PairTwice = 14
number_of List = 15
number_of Room = 16
number_of Anchor = 17

-- a refusal in numbers
abbrev pub refused : Refusal → Fault
refused r = record { number = number_of r.cause; place = r.place; short = r.short }

-- what tests answer, in numbers: 0 where none finds a fault
abbrev pub told : {A : Type 0} → Result A Refusal → Fault
told (Ok done) = no_fault
told (Err r) = refused r

-- the answers of the other calls, as C has them: beside a refusal nothing is done, which stands as 0
abbrev pub packed_of : Result ℕ Refusal → Packed
packed_of (Ok d) = record { number = 0; place = 0; highest = d }
packed_of (Err r) = record { number = number_of r.cause; place = r.place; highest = 0 }

abbrev pub pressed_of : Result ℕ Refusal → Pressed
pressed_of (Ok d) = record { number = 0; place = 0; short = 0; highest = d }
pressed_of (Err r) = record { number = number_of r.cause; place = r.place; short = r.short; highest = 0 }

abbrev pub sided_of : Result ℕ Refusal → Sided
sided_of (Ok d) = record { number = 0; place = 0; low = d }
sided_of (Err r) = record { number = number_of r.cause; place = r.place; low = 0 }

abbrev pub floored_of : Result ℕ Refusal → Floored
floored_of (Ok d) = record { number = 0; place = 0; floor = d }
floored_of (Err r) = record { number = number_of r.cause; place = r.place; floor = 0 }

abbrev pub read_of : Result ℕ Refusal → SheetRead
read_of (Ok d) = record { number = 0; place = 0; n = d }
read_of (Err r) = record { number = number_of r.cause; place = r.place; n = 0 }

abbrev pub written_of : Result ℕ Refusal → SheetWritten
written_of (Ok d) = record { number = 0; place = 0; length = d }
written_of (Err r) = record { number = number_of r.cause; place = r.place; length = 0 }

abbrev pub why_of : Result Explained Refusal → Why
why_of (Ok d) = record { number = 0; place = 0; short = 0; length = d.length; down = d.down }
why_of (Err r) = record { number = number_of r.cause; place = r.place; short = r.short; length = 0; down = 0 }

abbrev pub planned_of : Result Arranged Refusal → Planned
planned_of (Ok d) = record { number = 0; place = 0; highest = d.highest; kept = d.kept }
planned_of (Err r) = record { number = number_of r.cause; place = r.place; highest = 0; kept = 0 }

abbrev pub order_read_of : Result Unit Refusal → OrderRead
order_read_of (Ok _) = record { number = 0; place = 0 }
order_read_of (Err r) = record { number = number_of r.cause; place = r.place }
