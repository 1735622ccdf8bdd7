-- "A Request fits if it has one object, the position is 1 to the last offer's count, and operating and maximum operating current are both
-- at most the object's current." Request 01: "with bit 26 set only the operating current is compared." And what it asks; and whether an
-- offer still has what was agreed.
use Rattle.std.specs.Prelude.{ℕ, ◌*◌, Bool, true, false, ◌&&◌, ◌||◌, leb, eqb, Some, None, Option}
use Rattle.offers.specs.declared.Offer.{Offer}
use Rattle.offers.specs.declared.Asked.{Asked}
use Rattle.offers.specs.Objects.{voltage_of, current_of, position_of, is_mismatch, operating_of, maximum_of}
use Rattle.offers.specs.Offers.{has, object_at}

-- the object that a Request names
abbrev pub named : ℕ → Offer → ℕ
named r o = object_at o (position_of r)

-- one object, at a position of the offer, and the operating current at most the object's
abbrev pub operating_fits : ℕ → ℕ → Offer → Bool
operating_fits count r o = (eqb count 1 && has o (position_of r)) && leb (operating_of r) (current_of (named r o))

abbrev pub maximum_fits : ℕ → Offer → Bool
maximum_fits r o = leb (maximum_of r) (current_of (named r o))

unfoldable pub fits : ℕ → ℕ → Offer → Bool
fits count r o = operating_fits count r o && (is_mismatch r || maximum_fits r o)

-- position, voltage, operating current and worth: "voltage field times operating current field"
unfoldable pub asked : ℕ → Offer → Asked
asked r o = record { position = position_of r; voltage = voltage_of (named r o); current = operating_of r; worth = voltage_of (named r o) * operating_of r }

abbrev pub judged : Bool → Asked → Option Asked
judged true a = Some a
judged false a = None

unfoldable pub fit_of : ℕ → ℕ → Offer → Option Asked
fit_of count r o = judged (fits count r o) (asked r o)

-- "last offer has at the contract's position the same voltage and at least its current"
unfoldable pub is_honoured : Asked → Offer → Bool
is_honoured a o = (has o a.position && eqb (voltage_of (object_at o a.position)) a.voltage) && leb a.current (current_of (object_at o a.position))
