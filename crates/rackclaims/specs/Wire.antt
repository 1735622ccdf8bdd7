-- "The packet", as the wire tells it: the last offer put on it, and what a Request asks of that offer. Bytes alone; no memory of a port is read.
use Rattle.std.specs.Prelude.{ℕ, ◌*◌, ◌-◌, Bool, not, cond, ◌&&◌, List, eqb, ltb, drop}
use Rattle.message.specs.Header.{fields_of, objects_of}
use Rattle.message.specs.Bytes.{word_of}
use Rattle.message.specs.Types as Types
use Rattle.reading.specs.Reading.{part_of}
use Rattle.offers.specs.Objects.{voltage_of, position_of, operating_of}
use Rattle.outgoing.specs.declared.Packet.{Packet}
use Rattle.outgoing.specs.Packets.{on_wire}
use Rattle.port.specs.Packets.{first_object}

-- "Extended set: an extended message; else no objects: control; else data."
abbrev is_extended : List ℕ → Bool
is_extended m = (fields_of (word_of m)).extended

abbrev has_objects : List ℕ → Bool
has_objects m = ltb 0 (objects_of (word_of m))

-- whether a message's bytes are a Source_Capabilities: of its type, and a data message
unfoldable pub is_offer : List ℕ → Bool
is_offer m = eqb (fields_of (word_of m)).message_type Types.SourceCapabilities && (not (is_extended m) && has_objects m)

-- whether they are an Accept: of its type, and a control message
unfoldable pub is_accept : List ℕ → Bool
is_accept m = eqb (fields_of (word_of m)).message_type Types.Accept && (not (is_extended m) && not (has_objects m))

-- the last offer put on the wire, after one more transmission
abbrev pub last_offer : Packet → List ℕ → List ℕ
last_offer m before = cond (is_offer (on_wire m)) (on_wire m) before

-- an offer's object at a position, counted from 1: two header bytes come first, and each object has four
abbrev pub object_on : List ℕ → ℕ → ℕ
object_on offer position = first_object (drop (4 * position - 2) offer)

-- what the Request in the bytes s asks of an offer: "voltage field times operating current field"
abbrev pub worth_on : List ℕ → List ℕ → ℕ
worth_on offer s = voltage_of (object_on offer (position_of (first_object (part_of s)))) * operating_of (first_object (part_of s))
