-- A night played over a rack, field by field: each event is a step of the rack, each good set-up gives a rack anew. docs/NIGHT.md says which fields there are,
-- docs/REPLAY.md what is counted.
use Rattle.std.specs.Prelude.{ℕ, zero, suc, ◌+◌, Bool, true, false, cond, List, drop, Ok, Err, is_some, Result}
use Rattle.source.specs.declared.State.{State}
use Rattle.port.specs.declared.Event.{Event}
use Rattle.port.specs.Memory.{state_of}
use Rattle.rack.specs.declared.Rack.{Rack}
use Rattle.rack.specs.declared.RackAnswer.{RackAnswer}
use Rattle.rack.specs.Ports.{at, in_rack, place_of}
use Rattle.rack.specs.Steps.{Happening, event, packet, new_offer, step}
use Rattle.setup.specs.SetUps.{accepted_set_up, verdict_of, rack_or_none}
use Rattle.night.specs.declared.Found.{Found}
use Rattle.night.specs.Fields.{size_of}
use Rattle.night.specs.Events.{next_of, behind_of, offer_of}
use Rattle.night.specs.SetUps.{set_up_in, set_up_or_none}
use Rattle.tally.specs.declared.Tally.{Tally}
use Rattle.tally.specs.Counts.{told, set_up_told}
use Rattle.playing.specs.declared.Played.{Played}
use Rattle.ground.specs.Refusals.{Verdict}
use Rattle.ground.specs.declared.Refusal.{Refusal}

-- nothing has been played
abbrev pub begun : Rack → Tally → Played
begun r t = record { rack = r; tally = t; at = 0 }

-- the state of the port of a number, and what it holds; "where the rack has no such port, state and held are 0"
abbrev pub state_at : Rack → ℕ → State
state_at r number = cond (in_rack r number) (state_of (at r (place_of number)).port) State.Detached

abbrev pub held_at : Rack → ℕ → ℕ
held_at r number = cond (in_rack r number) (at r (place_of number)).port.power.held 0

-- ---- one field
-- an answer of the rack, taken in
unfoldable pub answered : Played → ℕ → ℕ → RackAnswer → Played
answered p number size a =
    record { rack = a.rack; tally = told p.tally number a.verdict a.actions (state_at p.rack number) (state_at a.rack number) (held_at a.rack number); at = p.at + size }

-- something comes to the port of a number
unfoldable pub event_done : Played → ℕ → Happening → List ℕ → Played
event_done p number h l = answered p number (size_of l) (step p.rack number h)

-- "A bad one changes nothing"; "the rack before is put away"
abbrev pub rack_after : Verdict → Rack → Rack → Rack
rack_after (Ok _) new old = new
rack_after (Err r) new old = old

unfoldable pub set_up_done : Played → Result Rack Refusal → ℕ → Played
set_up_done p s size = record { rack = rack_after (verdict_of s) (rack_or_none s) p.rack; tally = set_up_told p.tally (verdict_of s); at = p.at + size }

abbrev pub field_done : Found → Played → List ℕ → Played
field_done Found.Cut p l = p
field_done Found.UnknownTag p l = p
field_done Found.WrongLength p l = p
field_done Found.SetUp p l = set_up_done p (accepted_set_up (set_up_or_none (set_up_in l))) (size_of l)
field_done (Found.Event number e) p l = event_done p number (event e) l
field_done (Found.Packet number) p l = event_done p number (packet (behind_of l)) l
field_done (Found.NewOffer number) p l = event_done p number (new_offer (offer_of l)) l

-- whether the first field can be read: it is neither cut nor damaged
abbrev pub is_readable : Found → List ℕ → Bool
is_readable Found.Cut l = false
is_readable Found.UnknownTag l = false
is_readable Found.WrongLength l = false
is_readable Found.SetUp l = is_some (set_up_in l)
is_readable (Found.Event number e) l = true
is_readable (Found.Packet number) l = true
is_readable (Found.NewOffer number) l = true

-- ---- all fields, up to the first that cannot be read; at most so many
unfoldable pub night_in : ℕ → Played → List ℕ → Played
night_in zero p l = p
night_in (suc n) p l = cond (is_readable (next_of l) l) (night_in n (field_done (next_of l) p l) (drop (size_of l) l)) p

-- ---- a field that is an event, and what comes to the port of its number
abbrev pub is_event : Found → Bool
is_event Found.Cut = false
is_event Found.UnknownTag = false
is_event Found.WrongLength = false
is_event Found.SetUp = false
is_event (Found.Event number e) = true
is_event (Found.Packet number) = true
is_event (Found.NewOffer number) = true

abbrev pub is_set_up : Found → Bool
is_set_up Found.Cut = false
is_set_up Found.UnknownTag = false
is_set_up Found.WrongLength = false
is_set_up Found.SetUp = true
is_set_up (Found.Event number e) = false
is_set_up (Found.Packet number) = false
is_set_up (Found.NewOffer number) = false

abbrev pub number_in : Found → ℕ
number_in Found.Cut = 0
number_in Found.UnknownTag = 0
number_in Found.WrongLength = 0
number_in Found.SetUp = 0
number_in (Found.Event number e) = number
number_in (Found.Packet number) = number
number_in (Found.NewOffer number) = number

-- what is no event counts for nothing here
abbrev pub happening_in : Found → List ℕ → Happening
happening_in Found.Cut l = event Event.Attach
happening_in Found.UnknownTag l = event Event.Attach
happening_in Found.WrongLength l = event Event.Attach
happening_in Found.SetUp l = event Event.Attach
happening_in (Found.Event number e) l = event e
happening_in (Found.Packet number) l = packet (behind_of l)
happening_in (Found.NewOffer number) l = new_offer (offer_of l)
