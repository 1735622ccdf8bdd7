-- What the loop goes by: a field as `plan` takes it, and the size of loads.
use Rattle.std.specs.Prelude.{List, ℕ, ◌<◌, Some, None, Option}
use Rattle.offers.specs.declared.Offer.{Offer}
use Rattle.port.specs.declared.Port.{Port}
use Rattle.port.specs.declared.Answer.{Answer}
use Rattle.port.specs.Calls as Port
use Rattle.slot.specs.declared.Slot.{Slot}
use Rattle.slot.specs.Load.{load_of}
use Rattle.slot.specs.Answers.{settled}
use Rattle.rack.specs.declared.Rack.{Rack}
use Rattle.rack.specs.Ports.{at, ports_in}
use Rattle.rack.specs.Steps.{Happening, event, packet, new_offer, call_of}
use Rattle.night.specs.declared.Found.{Found}
use Rattle.night.specs.Events.{behind_of, offer_of}
use Rattle.plan.specs.declared.Met.{Met}
use Rattle.tally.specs.declared.Tally.{Tally}
use Rattle.playing.specs.declared.Played.{Played}
use Rattle.playing.specs.declared.turns.Coming.{Coming}
use Rattle.playing.specs.declared.turns.Turn.{Turn}
use Rattle.plan.specs.Plans.{met_event, met_packet, met_offer}

-- the event that a field is, where it is one
abbrev pub turn_in : Found → Option Turn
turn_in Found.Cut = None
turn_in Found.UnknownTag = None
turn_in Found.WrongLength = None
turn_in Found.SetUp = None
turn_in (Found.Event number e) = Some record { number = number; coming = Coming.Event e }
turn_in (Found.Packet number) = Some record { number = number; coming = Coming.Packet }
turn_in (Found.NewOffer number) = Some record { number = number; coming = Coming.NewOffer }

abbrev pub met_in : Slot → Coming → List ℕ → Met
met_in t (Coming.Event e) l = met_event t.port.channel e
met_in t Coming.Packet l = met_packet t.port (behind_of l)
met_in t Coming.NewOffer l = met_offer t.limit (offer_of l)

-- the new offer, where one has come
abbrev pub offer_in : Port → Coming → List ℕ → Offer
offer_in p (Coming.Event e) l = p.newest
offer_in p Coming.Packet l = p.newest
offer_in p Coming.NewOffer l = offer_of l

-- the same for the rack's step
abbrev pub coming_as : Coming → List ℕ → Happening
coming_as (Coming.Event e) l = event e
coming_as Coming.Packet l = packet (behind_of l)
coming_as Coming.NewOffer l = new_offer (offer_of l)

-- what a port answers to it beside others that take so much of the supply
unfoldable pub stepped_by : Slot → Coming → List ℕ → ℕ → ℕ → Answer
stepped_by t coming l others supply = settled t others supply (Port.step t.port (call_of t.limit (coming_as coming l)))

-- no port takes more than a number of four bytes can say
abbrev pub Small : Rack → Type 0
Small r = (k : ℕ) → k < ports_in r → load_of (at r k) < 4294967296

-- what the loop holds, as it is handed back
abbrev pub held_by : List Slot → ℕ → ℕ → Tally → ℕ → Played
held_by slots count supply tally place = record { rack = record { slots = slots; count = count; supply = supply }; tally = tally; at = place }
