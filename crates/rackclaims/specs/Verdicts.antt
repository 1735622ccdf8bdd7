-- "Refusal numbers": which verdict an event at a port of the rack gets. "An event tries 9, then 1 to 4 or 7, then 8."
use Rattle.std.specs.Prelude.{ℕ, Bool, true, false, not, cond, ◌&&◌, ◌||◌, Ok, Err, Result}
use Rattle.ground.specs.declared.Refusal.TheVariants.{BadOffer, NotAwaited, NotInRack}
use Rattle.reading.specs.Reading.{read_of}
use Rattle.offers.specs.Offers.{good_offer}
use Rattle.source.specs.declared.State.{State}
use Rattle.source.specs.States.{same, listens}
use Rattle.port.specs.declared.Event.{Event}
use Rattle.port.specs.declared.Port.{Port}
use Rattle.port.specs.Memory.{state_of, pending_in}
use Rattle.slot.specs.declared.Slot.{Slot}
use Rattle.rack.specs.declared.Rack.{Rack}
use Rattle.rack.specs.Ports.{at, in_rack, place_of}
use Rattle.rack.specs.Steps.{Happening, event, packet, new_offer}
use Rattle.ground.specs.Refusals.{Verdict}
use Rattle.reading.specs.declared.Message.{Message}
use Rattle.ground.specs.declared.Refusal.{Refusal}

-- whether a port is in one state
abbrev is : Port → State → Bool
is p s = same (state_of p) s

-- which events a port awaits: each where the paper's states name it
abbrev pub awaits : Port → Event → Bool
awaits p Event.Attach = is p State.Detached
awaits p Event.Detach = not (is p State.Detached)
awaits p Event.HardReset = listens (state_of p)
awaits p Event.Acknowledgement = pending_in p
awaits p Event.SenderResponse = (is p State.Offer || is p State.Soft) && not (pending_in p)
awaits p Event.SourceCapability = is p State.Discovery
awaits p Event.PsHardReset = is p State.Hard
awaits p Event.SupplyReady = is p State.Moving || is p State.Default
awaits p Event.Yes = is p State.Judge
awaits p Event.No = is p State.Judge

-- "the event isn't awaited in this state"
abbrev pub or_eight : Bool → Verdict
or_eight true = Ok tt
or_eight false = Err NotAwaited

-- a packet: as reading refuses it; else the states that listen await any
abbrev pub of_packet : Result Message Refusal → Port → Verdict
of_packet (Ok m) p = or_eight (listens (state_of p))
of_packet (Err no') p = Err no'

abbrev pub verdict_at : Slot → Happening → Verdict
verdict_at s (event e) = or_eight (awaits s.port e)
verdict_at s (packet bytes) = of_packet (read_of bytes) s.port
verdict_at s (new_offer o) = cond (good_offer s.limit o) (Ok tt) (Err BadOffer)

-- "port number not in the rack", before everything else
abbrev pub verdict_in : Rack → ℕ → Happening → Verdict
verdict_in r number h = cond (in_rack r number) (verdict_at (at r (place_of number)) h) (Err NotInRack)
