-- What the claims about packets say, in plain terms.
use Rattle.std.specs.Prelude.{ℕ, ◌+◌, ◌/◌, ◌<◌, ◌≤◌, ◌≡◌, List, length, get_or}
use Rattle.message.specs.declared.Fields.{Fields}
use Rattle.reading.specs.Reading.{read_of, part_of, message_with}

-- the bytes s read as a message with these fields and these object bytes
pub record ReadsAs (s : List ℕ) (f : Fields) (o : List ℕ) : Type 0 where
  pub message : read_of s ≡ message_with (length o / 4) f
  pub objects : part_of s ≡ o

-- outside the k bytes from the place on, a buffer is afterwards what it was
pub record SameElsewhere (buf after : List ℕ) (place k : ℕ) : Type 0 where
  pub before : (i : ℕ) → i < place → get_or after i 0 ≡ get_or buf i 0
  pub behind : (i : ℕ) → place + k ≤ i → get_or after i 0 ≡ get_or buf i 0
  pub long : length after ≡ length buf
