-- Bytes laid into a lent buffer.
use Rattle.std.specs.Prelude.{ℕ, ◌+◌, List, ◌++◌, length, take, drop}

-- bytes m over the front of a part
abbrev pub over : List ℕ → List ℕ → List ℕ
over m part = m ++ drop (length m) part

-- bytes m laid into a buffer from a place on: no other byte is different
abbrev pub laid : List ℕ → ℕ → List ℕ → List ℕ
laid m place buf = take place buf ++ (m ++ drop (place + length m) buf)
