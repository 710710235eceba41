-- Eight bytes as one number, so that one test compares two labels byte for byte. Assumes nothing.
use Rattle.std.specs.Prelude.{ℕ, ◌<◌, List}
use Rattle.std.specs.Int.{from_le_bytes, w64}
use Rattle.rules.specs.Tables.{at}
use Rattle.rules.specs.Sheet.{bytes_from}

-- a text is of bytes
abbrev pub Bytes : List ℕ → Type 0
Bytes w = (j : ℕ) → at w j < 256

-- the key of a label
unfoldable pub key_of : List ℕ → ℕ
key_of w = from_le_bytes w64 (bytes_from 8 0 w)
