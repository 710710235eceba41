-- What a program makes of its input. Assumes nothing.
use Rattle.std.specs.Prelude.{ℕ, ◌≤◌, ◌≡◌, List, ◌++◌, length, take, Option, IfSome}
use Rattle.std.specs.Io.KnownBytes.{Appends}

-- r bytes of a lent text are the text that the program makes of an input. Where the input has 65,536 bytes or
-- more, whatever comes after them changes nothing
pub record Made (text : List ℕ → List ℕ) (input : List ℕ) (r : ℕ) (out : List ℕ) : Type 0 where
  pub within : r ≤ length out
  pub front : r ≡ length (take r out)
  pub made : take r out ≡ text input
  pub whole : (rest : List ℕ) → 65536 ≤ length input → take r out ≡ text (input ++ rest)

-- a writer, of which it may be known what it holds, took the text that the program makes of an input; of that the
-- first 65,536 bytes are given, whatever follows them
abbrev pub WroteFrom : (List ℕ → List ℕ) → List ℕ → Option (List ℕ) → Option (List ℕ) → Type 0
WroteFrom text first held held' = (input : List ℕ) → first ≡ take 65536 input → Appends held held' (text input)

-- a writer took the text that the program makes of what a reader had left to give, where that is known
abbrev pub WroteOf : (List ℕ → List ℕ) → Option (List ℕ) → Option (List ℕ) → Option (List ℕ) → Type 0
WroteOf text left held held' = IfSome left (λ input. Appends held held' (text input))
