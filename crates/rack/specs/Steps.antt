-- An event at a port of the rack: the port's own step, with the power answer in it; the other ports stay as they are.
use Rattle.std.specs.Prelude.{ℕ, Bool, true, false, List, Err}
use Rattle.ground.specs.declared.Refusal.{Refusal}
use Rattle.ground.specs.declared.Refusal.TheVariants.{NotInRack}
use Rattle.offers.specs.declared.Offer.{Offer}
use Rattle.power.specs.declared.Change.{Change}
use Rattle.port.specs.declared.Event.{Event}
use Rattle.port.specs.declared.Answer.{Answer}
use Rattle.port.specs.Memory.{no_actions}
use Rattle.port.specs.Calls as Port
use Rattle.slot.specs.Answers.{settled}
use Rattle.rack.specs.declared.Rack.{Rack}
use Rattle.rack.specs.declared.RackAnswer.{RackAnswer}
use Rattle.rack.specs.Ports.{at, in_rack, place_of, others, put}

-- what can come to a port of the rack
pub data Happening : Type 0 where
  event : Event → Happening
  packet : List ℕ → Happening
  new_offer : Offer → Happening

-- the same for the port alone; an offer is judged by its limit
abbrev pub call_of : ℕ → Happening → Port.Call
call_of limit (event e) = Port.event e
call_of limit (packet s) = Port.packet s
call_of limit (new_offer o) = Port.new_offer limit o

-- what the port at a place answers by itself, and with the power answer in it
abbrev pub own_answer : Rack → ℕ → Happening → Answer
own_answer r i h = Port.step (at r i).port (call_of (at r i).limit h)

unfoldable pub answer_at : Rack → ℕ → Happening → Answer
answer_at r i h = settled (at r i) (others r i) r.supply (own_answer r i h)

-- the rack with a port's answer
abbrev pub turned : Rack → ℕ → Answer → RackAnswer
turned r i a = record { verdict = a.verdict; rack = put r i a.port; actions = a.actions; held = a.held }

abbrev pub refused_by : Refusal → Rack → RackAnswer
refused_by no' r = record { verdict = Err no'; rack = r; actions = no_actions; held = Change.Nothing }

-- "port number not in the rack", tried before everything else
abbrev pub if_in_rack : Bool → Rack → ℕ → Happening → RackAnswer
if_in_rack true r i h = turned r i (answer_at r i h)
if_in_rack false r i h = refused_by NotInRack r

unfoldable pub step : Rack → ℕ → Happening → RackAnswer
step r number h = if_in_rack (in_rack r number) r (place_of number) h
