-- What a field comes to at one port that is looked at by itself: the port's own answer, and whether that is the whole. `proofs/PortAlone` shows that it
-- then is the field's answer in the rack; nobody has to believe the definitions here.
use Rattle.std.specs.Prelude.{ℕ, Bool, true, false, not, ◌&&◌, List, eqb, Result, Ok, Err}
use Rattle.port.specs.declared.Answer.{Answer}
use Rattle.port.specs.Memory.{no_actions}
use Rattle.port.specs.Calls as Port
use Rattle.slot.specs.declared.Slot.{Slot}
use Rattle.slot.specs.Answers.{has_asked}
use Rattle.rack.specs.Steps.{Happening, event, packet, new_offer, call_of}
use Rattle.night.specs.declared.Found.{Found}
use Rattle.night.specs.Fields.{size_of}
use Rattle.night.specs.Events.{next_of, behind_of, offer_of}
use Rattle.fields.specs.declared.alone.Alone.{Alone}

-- `Ok` where the port has answered, and that is all; `Err` where the rack is to be asked
abbrev pub settled_where : Bool → Alone → Result Alone Alone
settled_where true x = Ok x
settled_where false x = Err x

-- what is no event is nothing to a port
abbrev pub elsewhere : Slot → Alone
elsewhere t = record { verdict = Ok tt; actions = no_actions; slot = t; size = 0 }

-- an event that came to this port or to another: the port's own answer
abbrev pub answered_alone : Slot → Bool → Answer → ℕ → Result Alone Alone
answered_alone t here a size =
    settled_where (here && not (has_asked t.port a.port)) (record { verdict = a.verdict; actions = a.actions; slot = record { port = a.port; share = t.share; limit = t.limit }; size = size })

abbrev pub own_to : Slot → Happening → Answer
own_to t h = Port.step t.port (call_of t.limit h)

-- what is no event is for the rack
abbrev pub alone_by : Found → Slot → ℕ → List ℕ → Result Alone Alone
alone_by Found.Cut t number l = Err (elsewhere t)
alone_by Found.UnknownTag t number l = Err (elsewhere t)
alone_by Found.WrongLength t number l = Err (elsewhere t)
alone_by Found.SetUp t number l = Err (elsewhere t)
alone_by (Found.Event n e) t number l = answered_alone t (eqb n number) (own_to t (event e)) (size_of l)
alone_by (Found.Packet n) t number l = answered_alone t (eqb n number) (own_to t (packet (behind_of l))) (size_of l)
alone_by (Found.NewOffer n) t number l = answered_alone t (eqb n number) (own_to t (new_offer (offer_of l))) (size_of l)

unfoldable pub alone_of : Slot → ℕ → List ℕ → Result Alone Alone
alone_of t number l = alone_by (next_of l) t number l
