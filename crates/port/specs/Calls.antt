-- Everything that can come to a port, as one type; and a port stepped through a list of it.
use Rattle.std.specs.Prelude.{ℕ, List, [], ◌∷◌}
use Rattle.offers.specs.declared.Offer.{Offer}
use Rattle.port.specs.declared.Port.{Port}
use Rattle.port.specs.declared.Answer.{Answer}
use Rattle.port.specs.declared.Event.{Event}
use Rattle.port.specs.Steps.{event_of, new_offer_of}
use Rattle.port.specs.Packets.{packet_of}

pub data Call : Type 0 where
  event : Event → Call
  packet : List ℕ → Call
  new_offer : (limit : ℕ) → Offer → Call

unfoldable pub step : Port → Call → Answer
step p (event e) = event_of p e
step p (packet s) = packet_of p s
step p (new_offer limit o) = new_offer_of p limit o

-- the port after each of some calls in turn
abbrev pub run : Port → List Call → Port
run p [] = p
run p (c ∷ cs) = run (step p c).port cs
