-- "Night-desk examples": the starred ones in one table, and what each says.
use Rattle.std.specs.Prelude.{ℕ, max, ◌+◌, ◌≡◌, Bool, true, false, cond, List, [], ◌∷◌, replicate, Ok, Err, Result}
use Rattle.ground.specs.Refusals.{number_of}
use Rattle.message.specs.Types as Types
use Rattle.message.specs.Header.{header_of}
use Rattle.message.specs.Bytes.{two_bytes}
use Rattle.meaning.specs.declared.Kind.{Kind}
use Rattle.meaning.specs.declared.Kind.TheVariants.{Control, Data}
use Rattle.meaning.specs.declared.Meaning.{Meaning}
use Rattle.meaning.specs.Meaning.{kind_of, meaning_of}
use Rattle.reading.specs.Reading.{read_of, part_of}
use Rattle.sending.specs.Sending.{our_fields}
use Rattle.offers.specs.Requests as Requests
use Rattle.outgoing.specs.Packets.{on_wire, control_of}
use Rattle.port.specs.Packets.{first_object}
use Rattle.slot.specs.Load.{load_of}
use Rattle.rack.specs.declared.Rack.{Rack}
use Rattle.rack.specs.Ports.{at, place_of, others, power_rule}
use Rattle.rack.specs.Steps as Rack
use Rattle.rackclaims.specs.NightDesk.{Asking, rack_after, for120000, for54000, for36000, for36180}
use Rattle.reading.specs.declared.Message.{Message}
use Rattle.ground.specs.declared.Refusal.{Refusal}

-- what the desk says of a header, a packet, or a port that asks
pub data Example : Type 0 where
  -- these two bytes lead our message of this type and MessageID, with so many objects
  ours : (bytes : List ℕ) (type id objects : ℕ) → Example
  -- this packet is of this kind and meaning and has this MessageID
  reads : (packet : List ℕ) (kind : Kind) (meaning : Meaning) (id : ℕ) → Example
  -- this packet is refused with this number
  refused : (packet : List ℕ) (number : ℕ) → Example
  -- in the rack of example 8, after earlier ones, this Request comes to the port of this number: it asks so much, the total with it is so much, and the answer is yes
  asks : (earlier : List Asking) (number : ℕ) (request : List ℕ) (asked sum : ℕ) (yes' : Bool) → Example

-- a packet's kind, meaning and MessageID, or its refusal's number
pub data Said : Type 0 where
  message : Kind → Meaning → ℕ → Said
  refusal : ℕ → Said

abbrev pub said : Result Message Refusal → Said
said (Ok m) = message (kind_of m.fields.extended m.objects) (meaning_of (kind_of m.fields.extended m.objects) m.fields.message_type) m.fields.message_id
said (Err r) = refusal (number_of r)

-- "the sum over the other ports of max(share, held) plus max(share, held, asked) of this port"
abbrev pub total_with : Rack → ℕ → ℕ → ℕ
total_with r i asked = others r i + max (load_of (at r i)) asked

-- Accept or Reject, as the port's second message
abbrev pub answer_of : Bool → List ℕ
answer_of yes' = on_wire (control_of (cond yes' Types.Accept Types.Reject) 1)

-- a port that asks: what it asks, the total, the power rule, and what goes out
pub record Asks (r : Rack) (number : ℕ) (request : List ℕ) (asked sum : ℕ) (yes' : Bool) : Type 0 where
  pub worth : (Requests.asked (first_object (part_of request)) (at r (place_of number)).port.last).worth ≡ asked
  pub total : total_with r (place_of number) asked ≡ sum
  pub rule : power_rule r (place_of number) asked ≡ yes'
  pub answer : on_wire (Rack.step r number (Rack.packet request)).actions.transmit ≡ answer_of yes'

abbrev pub Holds : Example → Type 0
Holds (ours bytes type id objects) = two_bytes (header_of (our_fields type id) objects) ≡ bytes
Holds (reads packet kind meaning id) = said (read_of packet) ≡ message kind meaning id
Holds (refused packet number) = said (read_of packet) ≡ refusal number
Holds (asks earlier number request asked sum yes') = Asks (rack_after earlier number) number request asked sum yes'

abbrev pub All : List Example → Type 0
All [] = Unit {0}
All (e ∷ es) = Holds e × All es

-- the objects 5 V 3 A of the examples' head
abbrev five_volts : List ℕ
five_volts = 0x2C ∷ 0x91 ∷ 0x01 ∷ 0x00 ∷ []

-- the ports that asked before: port 1 for 120,000, then port 2 for 54,000
abbrev first : List Asking
first = record { number = 1; bytes = for120000 } ∷ []

abbrev two : List Asking
two = record { number = 1; bytes = for120000 } ∷ (record { number = 2; bytes = for54000 } ∷ [])

-- examples 1 (ours, and as it reads), 2, 3 (a header with its object), 4, 5 and 6; and 8's four
unfoldable pub table : List Example
table =
    ours (0xA1 ∷ 0x01 ∷ []) Types.GoodCRC 0 0
    ∷ reads (0xA1 ∷ 0x01 ∷ []) Control Meaning.GoodCrc 0
    ∷ ours (0xA1 ∷ 0x11 ∷ []) Types.SourceCapabilities 0 1
    ∷ reads (0x82 ∷ 0x10 ∷ five_volts) Data Meaning.Request 0
    ∷ refused (0x82 ∷ []) 1
    ∷ refused (replicate 31 0) 2
    ∷ refused (0x82 ∷ 0x10 ∷ []) 3
    ∷ asks [] 1 for120000 120000 210000 true
    ∷ asks first 2 for54000 54000 234000 true
    ∷ asks two 3 for36000 36000 240000 true
    ∷ asks two 3 for36180 36180 240180 false
    ∷ []
