-- What the lines of a section answer, as the rules say it. Assumes nothing.
use Rattle.std.specs.Prelude.{ℕ, List, [], Result, Ok, Err}
use Rattle.std.specs.Borrow.{Bor}
use Rattle.rules.specs.declared.Refusal.{Refusal}
use Rattle.rules.specs.Sheet.{Section, halt, done}
use Rattle.rules.specs.Told.{number_of}

-- what is done, read as the tables afterwards and the text after it, or the refusal, whose place is its line
abbrev pub section_by : {A T : Type 0} → (A → T) → (A → List ℕ) → Result A Refusal → Section T
section_by tables rest (Ok a) = done (tables a) (rest a)
section_by tables rest (Err r) = halt (number_of r.cause) r.place

-- a section's answer, over tables of which t is what stands in them afterwards: the text after it. A refused one leaves
-- them anyhow
abbrev pub section_of : {T : Type 0} → T → Result (Bor (List ℕ)) Refusal → Section T
section_of t r = section_by (λ rest. t) (λ rest. rest.now) r

-- the same where no text is left
abbrev pub ended_of : {T : Type 0} → T → Result (Unit {0}) Refusal → Section T
ended_of t r = section_by (λ done. t) (λ done. []) r
