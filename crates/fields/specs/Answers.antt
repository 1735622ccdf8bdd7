-- What a field of a night comes to over a rack, and all fields one after the other: the list of answers. docs/NIGHT.md says which fields there are.
use Rattle.std.specs.Prelude.{ℕ, zero, suc, ◌+◌, ◌≡◌, List, [], ◌∷◌, length, drop, Ok, Err, Option, Some, None, Result}
use Rattle.port.specs.Memory.{no_actions}
use Rattle.rack.specs.declared.Rack.{Rack}
use Rattle.rack.specs.declared.RackAnswer.{RackAnswer}
use Rattle.rack.specs.Steps.{event, packet, new_offer, step}
use Rattle.setup.specs.SetUps.{accepted_set_up, verdict_of, rack_or_none}
use Rattle.night.specs.declared.Found.{Found}
use Rattle.night.specs.Fields.{size_of}
use Rattle.night.specs.Events.{next_of, behind_of, offer_of}
use Rattle.night.specs.SetUps.{set_up_in}
use Rattle.fields.specs.declared.Field.{Field}
use Rattle.ground.specs.Refusals.{Verdict}
use Rattle.setup.specs.declared.SetUp.{SetUp}
use Rattle.ground.specs.declared.Refusal.{Refusal}

-- an event, and the rack's answer to it
abbrev pub event_field : Found → RackAnswer → ℕ → Field
event_field found a size = record { found = found; verdict = a.verdict; actions = a.actions; rack = a.rack; size = size }

-- "A bad one changes nothing"; "the rack before is put away"
abbrev pub rack_after : Verdict → Rack → Rack → Rack
rack_after (Ok _) new old = new
rack_after (Err r) new old = old

abbrev pub started_field : Rack → Result Rack Refusal → ℕ → Field
started_field r s size = record { found = Found.SetUp; verdict = verdict_of s; actions = no_actions; rack = rack_after (verdict_of s) (rack_or_none s) r; size = size }

abbrev pub laid_field : Rack → Option SetUp → ℕ → Result Field Found
laid_field r None size = Err Found.SetUp
laid_field r (Some u) size = Ok (started_field r (accepted_set_up u) size)

abbrev pub set_up_field : Rack → List ℕ → ℕ → Result Field Found
set_up_field r l size = laid_field r (set_up_in l) size

-- "Nothing is skipped": what cannot be read comes to no answer, and changes nothing; what stands there is told
abbrev pub field_by : Found → Rack → List ℕ → Result Field Found
field_by Found.Cut r l = Err Found.Cut
field_by Found.UnknownTag r l = Err Found.UnknownTag
field_by Found.WrongLength r l = Err Found.WrongLength
field_by Found.SetUp r l = set_up_field r l (size_of l)
field_by (Found.Event number e) r l = Ok (event_field (Found.Event number e) (step r number (event e)) (size_of l))
field_by (Found.Packet number) r l = Ok (event_field (Found.Packet number) (step r number (packet (behind_of l))) (size_of l))
field_by (Found.NewOffer number) r l = Ok (event_field (Found.NewOffer number) (step r number (new_offer (offer_of l))) (size_of l))

-- THE DEFINITION: what the first field comes to; or what stands there, where it cannot be read
unfoldable pub field_of : Rack → List ℕ → Result Field Found
field_of r l = field_by (next_of l) r l

-- a field, and those behind it
abbrev pub and_behind : Result Field Found → (Field → List Field) → List Field
and_behind (Err found) behind = []
and_behind (Ok f) behind = f ∷ behind f

-- ---- all fields, up to the first that cannot be read; at most so many
unfoldable pub fields_in : ℕ → Rack → List ℕ → List Field
fields_in zero r l = []
fields_in (suc n) r l = and_behind (field_of r l) (λ (f : Field). fields_in n f.rack (drop f.size l))

-- the rack behind them, and how many bytes they have
unfoldable pub last_rack : Rack → List Field → Rack
last_rack r [] = r
last_rack r (f ∷ fields) = last_rack f.rack fields

unfoldable pub size_of_all : List Field → ℕ
size_of_all [] = 0
size_of_all (f ∷ fields) = f.size + size_of_all fields

-- THE DEFINITION: what going through them comes to, of some bytes: the rack and the place
pub record Through (r : Rack) (l : List ℕ) (rack : Rack) (place : ℕ) : Type 0 where
  pub rack_is : rack ≡ last_rack r (fields_in (length l) r l)
  pub place_is : place ≡ size_of_all (fields_in (length l) r l)
