-- "What may not be left loose": what an answer says of held power, and where. Accepted, where a Request is answered with Accept; in force, where Telling's PS_RDY is
-- acknowledged; given up, at detach and when Default is ready; else nothing.
use Rattle.std.specs.Prelude.{Bool, true, false, not, cond, ◌&&◌, eqb, Ok, Err, Result}
use Rattle.meaning.specs.declared.Meaning.{Meaning}
use Rattle.reading.specs.Reading.{read_of}
use Rattle.outgoing.specs.Packets.{on_wire}
use Rattle.channel.specs.Channel.{pending_id}
use Rattle.power.specs.declared.Change.{Change}
use Rattle.source.specs.declared.State.{State}
use Rattle.source.specs.States.{same}
use Rattle.port.specs.declared.Event.{Event}
use Rattle.port.specs.declared.Port.{Port}
use Rattle.port.specs.declared.Actions.{Actions}
use Rattle.port.specs.Memory.{state_of, pending_in}
use Rattle.port.specs.Packets.{meaning_in}
use Rattle.rack.specs.Steps.{Happening, event, packet, new_offer}
use Rattle.rackclaims.specs.Wire.{is_accept}
use Rattle.reading.specs.declared.Message.{Message}
use Rattle.ground.specs.declared.Refusal.{Refusal}

abbrev pub means_request : Meaning → Bool
means_request Meaning.Unsupported = false
means_request Meaning.GoodCrc = false
means_request Meaning.Reply = false
means_request Meaning.GetSourceCap = false
means_request Meaning.SoftReset = false
means_request Meaning.Quiet = false
means_request Meaning.Request = true

abbrev pub means_good_crc : Meaning → Bool
means_good_crc Meaning.Unsupported = false
means_good_crc Meaning.GoodCrc = true
means_good_crc Meaning.Reply = false
means_good_crc Meaning.GetSourceCap = false
means_good_crc Meaning.SoftReset = false
means_good_crc Meaning.Quiet = false
means_good_crc Meaning.Request = false

abbrev pub is_request : Result Message Refusal → Bool
is_request (Ok m) = means_request (meaning_in m.objects m.fields)
is_request (Err no') = false

-- "A GoodCRC with the pending MessageID acknowledges."
abbrev pub acknowledges : Result Message Refusal → Port → Bool
acknowledges (Ok m) p = means_good_crc (meaning_in m.objects m.fields) && (pending_in p && eqb (pending_id p.channel) m.fields.message_id)
acknowledges (Err no') p = false

abbrev pub said_if : Bool → Change → Change
said_if so change = cond so change Change.Nothing

-- what is said of a port, as it was, by an answer with these actions
abbrev pub told_of : Port → Actions → Happening → Change
told_of p a (packet s) =
    cond (is_request (read_of s) && is_accept (on_wire a.transmit)) Change.Accepted
    (said_if (acknowledges (read_of s) p && same (state_of p) State.Telling) Change.InForce)
told_of p a (new_offer o) = Change.Nothing
told_of p a (event Event.Detach) = said_if (not (same (state_of p) State.Detached)) Change.GivenUp
told_of p a (event Event.SupplyReady) = said_if (same (state_of p) State.Default) Change.GivenUp
told_of p a (event Event.Attach) = Change.Nothing
told_of p a (event Event.HardReset) = Change.Nothing
told_of p a (event Event.Acknowledgement) = Change.Nothing
told_of p a (event Event.SenderResponse) = Change.Nothing
told_of p a (event Event.SourceCapability) = Change.Nothing
told_of p a (event Event.PsHardReset) = Change.Nothing
told_of p a (event Event.Yes) = Change.Nothing
told_of p a (event Event.No) = Change.Nothing
