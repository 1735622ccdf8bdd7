-- A new Request that comes awaited or in Ready and does not fit the last offer put on the wire is rejected: Reject goes out, and power is as it was. Assumes nothing.
use Prim.Native.Nat.{ℕ}
use mathlib.Core.Path.{◌≡◌, refl}
use mathlib.Core.Bool.{true, false}
use mathlib.Core.List.{List}
use Rattle.message.specs.declared.Fields.{Fields}
use Rattle.message.specs.Types as Types
use Rattle.meaning.specs.declared.Meaning.{Meaning}
use Rattle.reading.specs.Reading.{part_of}
use Rattle.offers.specs.Requests.{fits, fit_of}
use Rattle.outgoing.specs.Packets.{control_of}
use Rattle.channel.specs.Channel.{sends}
use Rattle.power.specs.declared.Change.{Change}
use Rattle.source.specs.declared.State.{State}
use Rattle.source.specs.declared.Heard.{Heard}
use Rattle.source.specs.declared.Way.{Way}
use Rattle.hearing.specs.Packets.{on_packet}
use Rattle.port.specs.declared.Port.{Port}
use Rattle.port.specs.Memory.{state_of}
use Rattle.port.specs.Entering.{enter}
use Rattle.port.specs.Steps.{turn}
use Rattle.port.specs.Packets.{first_object, crc_for, heard_as, other_packet, new_packet, by_meaning, message_of, packet_of}
use Rattle.port.specs.Calls.{packet, step}
use Rattle.portclaims.specs.Awaited.{awaits_request}
use Rattle.portclaims.proofs.Shapes.{New}
use Rattle.std.specs.Prelude.{Some}

to_refusing : (s : State) → awaits_request s ≡ true → on_packet s Heard.OtherRequest ≡ Some Way.Refusing
unfolding on_packet
to_refusing State.Offer e = refl
to_refusing s e = cc

-- THE CLAIM
pub unfit_is_rejected : (p : Port) (s : List ℕ) (n : ℕ) (f : Fields) → New p s n f Meaning.Request → awaits_request (state_of p) ≡ true →
    fits n (first_object (part_of s)) p.last ≡ false →
    (state_of (step p (packet s)).port ≡ State.Refusing)
    × ((step p (packet s)).actions.good_crc ≡ crc_for f)
    × ((step p (packet s)).actions.transmit ≡ control_of Types.Reject (step p (packet s)).port.channel.counter)
    × ((step p (packet s)).port.power ≡ p.power)
    × ((step p (packet s)).held ≡ Change.Nothing)
unfolding step packet_of message_of by_meaning other_packet new_packet heard_as fit_of turn enter sends
unfit_is_rejected p s n f k awaited unfit =
    rw (k.read, k.listening, k.meaning, k.fresh, unfit, to_refusing (state_of p) awaited) (refl, refl, refl, refl, refl)
