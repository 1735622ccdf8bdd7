-- "The packet": a whole message of ours as it goes out, in a place for thirty bytes of which the first so many are the message.
use Rattle.std.specs.Prelude.{ℕ, ◌+◌, ◌*◌, ◌/◌, ◌%◌, List, [], ◌∷◌, ◌++◌, take, replicate, get_or}
use Rattle.message.specs.Header.{header_of}
use Rattle.message.specs.Bytes.{two_bytes}
use Rattle.outgoing.specs.declared.Packet.{Packet}
use Rattle.sending.specs.Sending.{our_fields}

-- the message itself
abbrev pub on_wire : Packet → List ℕ
on_wire m = take m.length m.bytes

-- no message
abbrev pub no_packet : Packet
no_packet = record { bytes = replicate 30 0; length = 0 }

-- "objects of four bytes, least first"
abbrev pub four_bytes : ℕ → List ℕ
four_bytes x = (x % 256) ∷ ((x / 256 % 256) ∷ ((x / 65536 % 256) ∷ ((x / 16777216 % 256) ∷ [])))

abbrev pub object_bytes : List ℕ → List ℕ
object_bytes [] = []
object_bytes (x ∷ xs) = four_bytes x ++ object_bytes xs

-- seven objects, one by one
abbrev pub seven : List ℕ → List ℕ
seven l = get_or l 0 0 ∷ (get_or l 1 0 ∷ (get_or l 2 0 ∷ (get_or l 3 0 ∷ (get_or l 4 0 ∷ (get_or l 5 0 ∷ (get_or l 6 0 ∷ []))))))

-- ours of a type and MessageID: a control message, and one with the first so many of seven objects
unfoldable pub control_of : ℕ → ℕ → Packet
control_of type id = record { bytes = two_bytes (header_of (our_fields type id) 0) ++ replicate 28 0; length = 2 }

unfoldable pub data_of : ℕ → ℕ → List ℕ → ℕ → Packet
data_of type id objects count = record { bytes = two_bytes (header_of (our_fields type id) count) ++ object_bytes (seven objects); length = 2 + 4 * (count % 8) }
