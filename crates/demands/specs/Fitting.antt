-- Programs that judge a Request by another rule than "fits", and answer everything else as ours does: so the rule of before request 01 can be set beside ours.
use Rattle.std.specs.Prelude.{ℕ, ◌≡◌, Bool, true, false, cond, ◌&&◌, List, [], ◌∷◌, Ok, Err, Option, Result}
use Rattle.ground.specs.declared.Refusal.TheVariants.{NotInRack}
use Rattle.meaning.specs.declared.Meaning.{Meaning}
use Rattle.reading.specs.Reading.{read_of, part_of}
use Rattle.offers.specs.declared.Offer.{Offer}
use Rattle.offers.specs.Objects.{is_mismatch}
use Rattle.offers.specs.Requests.{operating_fits, maximum_fits, asked, judged, fit_of}
use Rattle.port.specs.declared.Port.{Port}
use Rattle.port.specs.declared.Answer.{Answer}
use Rattle.port.specs.Memory as Port
use Rattle.port.specs.Packets.{first_object, meaning_in, message_of}
use Rattle.slot.specs.Answers.{settled}
use Rattle.rack.specs.declared.Rack.{Rack}
use Rattle.rack.specs.Ports.{at, in_rack, place_of, others}
use Rattle.rack.specs.Steps.{Happening, event, packet, new_offer, own_answer, turned, refused_by}
use Rattle.rack.specs.Runs.{Happens, Stepping}
use Rattle.reading.specs.declared.Message.{Message}
use Rattle.ground.specs.declared.Refusal.{Refusal}
use Rattle.offers.specs.declared.Asked.{Asked}

-- whether a Request of so many objects, with this first one, fits an offer
abbrev pub Rule : Type 0
Rule = ℕ → ℕ → Offer → Bool

-- the rule of before request 01: "operating and maximum operating current are both at most the object's current", whatever bit 26 says
abbrev pub both_compared : Rule
both_compared count r o = operating_fits count r o && maximum_fits r o

abbrev pub is_request : Meaning → Bool
is_request Meaning.Unsupported = false
is_request Meaning.GoodCrc = false
is_request Meaning.Reply = false
is_request Meaning.GetSourceCap = false
is_request Meaning.SoftReset = false
is_request Meaning.Quiet = false
is_request Meaning.Request = true

-- ---- ours, but that a Request is judged by this rule
abbrev pub judged_by : Rule → Bool → ℕ → ℕ → Offer → Option Asked
judged_by rule request count r o = cond request (judged (rule count r o) (asked r o)) (fit_of count r o)

abbrev pub read_by : Rule → Result Message Refusal → Port → List ℕ → Answer
read_by rule (Ok m) p s = message_of p m.objects m.fields (judged_by rule (is_request (meaning_in m.objects m.fields)) m.objects (first_object (part_of s)) p.last)
read_by rule (Err no') p s = Port.refused_by no' p

abbrev pub own_by : Rule → Rack → ℕ → Happening → Answer
own_by rule r i (packet s) = read_by rule (read_of s) (at r i).port s
own_by rule r i (event e) = own_answer r i (event e)
own_by rule r i (new_offer o) = own_answer r i (new_offer o)

abbrev pub answer_by : Rule → Rack → ℕ → Happening → Answer
answer_by rule r i h = settled (at r i) (others r i) r.supply (own_by rule r i h)

abbrev pub fitting_by : Rule → Stepping
fitting_by rule r number h = cond (in_rack r number) (turned r (place_of number) (answer_by rule r (place_of number) h)) (refused_by NotInRack r)

-- ---- events at which a Request sets capability mismatch
abbrev pub mismatch_in : Result Message Refusal → List ℕ → Bool
mismatch_in (Ok m) s = is_request (meaning_in m.objects m.fields) && is_mismatch (first_object (part_of s))
mismatch_in (Err no') s = false

abbrev pub sets_mismatch : Happening → Bool
sets_mismatch (packet s) = mismatch_in (read_of s) s
sets_mismatch (event e) = false
sets_mismatch (new_offer o) = false

abbrev pub NoneSetsIt : List Happens → Type 0
NoneSetsIt [] = Unit {0}
NoneSetsIt (e ∷ es) = (sets_mismatch e.happening ≡ false) × NoneSetsIt es
