-- Where no Request sets capability mismatch, each event of any rack is answered as before request 01 (through any list of events: AsBeforeWithoutMismatch). Assumes
-- nothing.
use Prim.Native.Nat.{ℕ}
use mathlib.Core.Path.{◌≡◌, refl, sym, ap}
use mathlib.Core.Bool.{Bool, true, false, cond, ◌&&◌}
use mathlib.Core.List.{List}
use Rattle.ground.specs.declared.Refusal.TheVariants.{NotInRack}
use Rattle.reading.specs.Reading.{read_of, part_of}
use Rattle.offers.specs.declared.Offer.{Offer}
use Rattle.offers.specs.Objects.{is_mismatch}
use Rattle.offers.specs.Requests.{asked, judged, fit_of}
use Rattle.offers.proofs.CapabilityMismatch.{clear_as_before}
use Rattle.port.specs.declared.Port.{Port}
use Rattle.port.specs.declared.Answer.{Answer}
use Rattle.port.specs.Packets.{first_object, meaning_in, message_of, read_to, packet_of}
use Rattle.port.specs.Calls as Port
use Rattle.slot.specs.Answers.{settled}
use Rattle.rack.specs.declared.Rack.{Rack}
use Rattle.rack.specs.Ports.{at, in_rack, place_of, others}
use Rattle.rack.specs.Steps.{Happening, event, packet, new_offer, own_answer, answer_at, turned, refused_by, if_in_rack, step}
use Rattle.demands.specs.Ours.{ours}
use Rattle.demands.specs.Fitting.{both_compared, is_request, judged_by, read_by, own_by, mismatch_in, sets_mismatch}
use Rattle.demands.specs.WrongPrograms.{hears_no_mismatch}
use Rattle.std.specs.Prelude.{Err, Result, Ok}
use Rattle.reading.specs.declared.Message.{Message}
use Rattle.ground.specs.declared.Refusal.{Refusal}

-- ---- one Request, one packet, one event
fit_as_before : (request : Bool) (count r : ℕ) (o : Offer) → (request && is_mismatch r) ≡ false → judged_by both_compared request count r o ≡ fit_of count r o
unfolding fit_of
fit_as_before true count r o clear = ap (λ b. judged b (asked r o)) (sym (clear_as_before count r o clear))
fit_as_before false count r o clear = refl

packet_as_before : (p : Port) (s : List ℕ) (x : Result Message Refusal) → mismatch_in x s ≡ false → read_by both_compared x p s ≡ read_to x p s
packet_as_before p s (Ok m) clear =
    ap (message_of p m.objects m.fields) (fit_as_before (is_request (meaning_in m.objects m.fields)) m.objects (first_object (part_of s)) p.last clear)
packet_as_before p s (Err no') clear = refl

own_as_before : (r : Rack) (i : ℕ) (h : Happening) → sets_mismatch h ≡ false → own_by both_compared r i h ≡ own_answer r i h
unfolding Port.step packet_of
own_as_before r i (packet s) clear = packet_as_before (at r i).port s (read_of s) clear
own_as_before r i (event e) clear = refl
own_as_before r i (new_offer o) clear = refl

in_its_place : (here : Bool) (r : Rack) (i : ℕ) (h : Happening) (own : Answer) → own ≡ own_answer r i h →
    cond here (turned r i (settled (at r i) (others r i) r.supply own)) (refused_by NotInRack r) ≡ if_in_rack here r i h
unfolding answer_at
in_its_place true r i h own e = ap (λ a. turned r i (settled (at r i) (others r i) r.supply a)) e
in_its_place false r i h own e = refl

-- THE CLAIM: of any rack
pub answers_as_before : (r : Rack) (number : ℕ) (h : Happening) → sets_mismatch h ≡ false → hears_no_mismatch.step r number h ≡ ours.step r number h
unfolding step
answers_as_before r number h clear = in_its_place (in_rack r number) r (place_of number) h (own_by both_compared r (place_of number) h) (own_as_before r (place_of number) h clear)
