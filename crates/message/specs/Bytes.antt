-- "The packet": two header bytes, least first, then objects of four bytes, least first. This is the one definition of a message's
-- bytes; reading and writing both answer to it.
use Rattle.std.specs.Prelude.{ℕ, ◌+◌, ◌*◌, ◌/◌, ◌%◌, ◌<◌, ◌≤◌, ◌≡◌, Bool, true, List, [], ◌∷◌, ◌++◌, eqb, length, get_or}
use Rattle.message.specs.declared.Fields.{Fields}
use Rattle.message.specs.Layout.{get, Chunked}
use Rattle.message.specs.Header.{header_of, Fits}

-- the two bytes of a word, least first
abbrev pub two_bytes : ℕ → List ℕ
two_bytes w = (w % 256) ∷ ((w / 256) ∷ [])

-- THE DEFINITION: the bytes of a message with these fields and these object bytes
unfoldable pub bytes_of : Fields → List ℕ → List ℕ
bytes_of f o = two_bytes (header_of f (length o / 4)) ++ o

-- the word of the first two bytes, least first; a byte that is not there counts as zero
unfoldable pub word_of : List ℕ → ℕ
word_of s = get_or s 0 0 + get_or s 1 0 * 256

-- the low half of the first object is the extended header, whose bit 15 is Chunked
unfoldable pub is_chunked : List ℕ → Bool
is_chunked o = eqb (get Chunked (word_of o)) 1

-- a message that can stand on the wire: its fields fit, it has at most seven whole objects, and an extended one is chunked
pub record Sound (f : Fields) (o : List ℕ) : Type 0 where
  pub fits : Fits f
  pub whole : length o % 4 ≡ 0
  pub few : length o ≤ 28
  pub chunked : f.extended ≡ true → is_chunked o ≡ true

-- what every slice of bytes is
abbrev pub AreBytes : List ℕ → Type 0
AreBytes s = (i : ℕ) → get_or s i 0 < 256
