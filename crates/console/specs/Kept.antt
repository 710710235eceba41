-- What came of an input, and where it stands in the text that keeps it. Assumes nothing.
use Rattle.std.specs.Prelude.{ℕ, ◌+◌, ◌-◌, ◌≤◌, ◌≡◌, List, length, take, Option}
use Rattle.std.specs.Io.KnownBytes.{Consumes}
use Rattle.std.proofs.lemmas.List.Edits.{sets}

-- what there is room for
abbrev pub room : List ℕ → ℕ → List ℕ → List ℕ
room text have came = take (length text - have) came

-- the bytes that came stand after those that the text had, as far as there is room; it has r of them then,
-- and all else is as it was
pub record Kept (text₀ : List ℕ) (have : ℕ) (came : List ℕ) (r : ℕ) (text : List ℕ) : Type 0 where
  pub within : r ≤ length text
  pub place : r ≡ have + length (room text₀ have came)
  pub bytes : text ≡ sets text₀ have (room text₀ have came)

-- the first r bytes are what came; all else is as it was
pub record Came (text₀ : List ℕ) (r : ℕ) (text : List ℕ) : Type 0 where
  pub within : r ≤ length text
  pub front : r ≡ length (take r text)
  pub rest : text ≡ sets text₀ 0 (take r text)

-- a reader, of which it may be known what it has left to give, gave bytes; the text has r of them, from the first
-- on, as many as there is room for
pub record Took (left left' : Option (List ℕ)) (r : ℕ) (text : List ℕ) : Type 0 where
  pub given : List ℕ
  pub taken : Consumes left left' given
  pub front : take r text ≡ take (length text) given
