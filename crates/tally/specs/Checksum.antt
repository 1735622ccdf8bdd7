-- docs/REPLAY.md, "The checksum": the numbers that an answer takes in, in their order.
use Rattle.std.specs.Prelude.{ℕ, ◌+◌, ◌*◌, ◌%◌, Bool, true, false, List, [], ◌∷◌, take, Some, None, Ok, Err, Option}
use Rattle.ground.specs.Refusals.{number_of, Verdict}
use Rattle.message.specs.Bytes.{word_of}
use Rattle.outgoing.specs.declared.Packet.{Packet}
use Rattle.source.specs.declared.State.{State}
use Rattle.source.specs.declared.Timer.{Timer}
use Rattle.source.specs.States.{code_of}
use Rattle.port.specs.declared.Actions.{Actions}
use Rattle.port.specs.declared.Supply.{Supply}

-- "sum = (sum * 16777619 + x) mod 4294967296"
unfoldable pub mixed : ℕ → ℕ → ℕ
mixed sum x = (sum * 16777619 + x) % 4294967296

-- "0, or the number of the refusal"
abbrev pub verdict_number : Verdict → ℕ
verdict_number (Ok _) = 0
verdict_number (Err r) = number_of r

abbrev pub timer_number : Option Timer → ℕ
timer_number None = 0
timer_number (Some Timer.SenderResponse) = 1
timer_number (Some Timer.SourceCapability) = 2
timer_number (Some Timer.PsHardReset) = 3

abbrev pub supply_number : Option Supply → ℕ
supply_number None = 0
supply_number (Some Supply.Default) = 255
supply_number (Some (Supply.Position n)) = n

-- "its two bytes as a number, least byte first; 0 for none"
unfoldable pub crc_number : Option (List ℕ) → ℕ
crc_number None = 0
crc_number (Some bytes) = word_of bytes

abbrev pub bit : Bool → ℕ
bit true = 1
bit false = 0

abbrev pub mixed_all : ℕ → List ℕ → ℕ
mixed_all sum [] = sum
mixed_all sum (x ∷ l) = mixed_all (mixed sum x) l

-- "the length of the message, 0 for none; then each byte of it"
unfoldable pub mixed_packet : ℕ → Packet → ℕ
mixed_packet sum m = mixed_all (mixed sum m.length) (take m.length m.bytes)

-- the answer of a port that is then in a state and holds so much
unfoldable pub checked : ℕ → ℕ → Verdict → Actions → State → ℕ → ℕ
checked sum port v a state held =
    mixed_all
    (mixed_packet
    (mixed_all sum (port ∷ (verdict_number v ∷ (crc_number a.good_crc ∷ (timer_number a.stop ∷ [])))))
    a.transmit)
    (bit a.hard_reset ∷ (supply_number a.supply ∷ (timer_number a.start ∷ (code_of state ∷ (held ∷ [])))))
