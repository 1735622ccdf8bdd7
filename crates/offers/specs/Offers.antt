-- "Refusal numbers": an offer is good with 1 to 7 fixed objects, the first at 5,000 mV, voltages strictly rising, none over 20,000 mV,
-- current at most 5,000 mA, each object worth at most the port's limit.
use Rattle.std.specs.Prelude.{ℕ, ◌*◌, Bool, true, ◌&&◌, List, [], ◌∷◌, ltb, leb, eqb, take, get_or}
use Rattle.offers.specs.declared.Offer.{Offer}
use Rattle.offers.specs.Objects.{is_fixed, voltage_of, current_of}

-- the objects of an offer
abbrev pub listed : Offer → List ℕ
listed o = take o.count o.objects

-- positions are counted from 1
abbrev pub has : Offer → ℕ → Bool
has o position = leb 1 position && leb position o.count

unfoldable pub object_at : Offer → ℕ → ℕ
object_at o position = get_or (0 ∷ o.objects) position 0

-- in 50 mV and 10 mA: 20,000 mV, 5,000 mA and 5,000 mV
abbrev highest : ℕ
highest = 400

abbrev most : ℕ
most = 500

abbrev five_volts : ℕ
five_volts = 100

-- an object by itself
unfoldable pub good_object : ℕ → ℕ → Bool
good_object limit x = ((is_fixed x && leb (voltage_of x) highest) && leb (current_of x) most) && leb (voltage_of x * current_of x) limit

-- objects that are good, each of a higher voltage than the one before it
unfoldable pub good_from : ℕ → ℕ → List ℕ → Bool
good_from limit before [] = true
good_from limit before (x ∷ xs) = (good_object limit x && ltb before (voltage_of x)) && good_from limit (voltage_of x) xs

unfoldable pub good_offer : ℕ → Offer → Bool
good_offer limit o = (leb 1 o.count && leb o.count 7) && (eqb (voltage_of (object_at o 1)) five_volts && good_from limit 0 (listed o))
