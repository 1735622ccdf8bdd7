-- docs/NIGHT.md, "The events", "Cut and damaged files": what the next field of a night is.
use Rattle.std.specs.Prelude.{ℕ, ◌+◌, ◌%◌, ◌≡◌, Bool, true, false, cond, ◌&&◌, List, leb, eqb, drop, get_or}
use Rattle.std.specs.Borrow.{Bor}
use Rattle.offers.specs.declared.Offer.{Offer}
use Rattle.port.specs.declared.Event.{Event}
use Rattle.night.specs.declared.Found.{Found}
use Rattle.night.specs.Fields.{tag_of, length_of, size_of, is_whole, value_of, offer_in}

-- the tags of events with nothing behind the port's number, 32 to 43
unfoldable pub event_of : ℕ → Event
event_of tag =
    cond (eqb tag 32) Event.Attach
    (cond (eqb tag 33) Event.Detach
    (cond (eqb tag 35) Event.HardReset
    (cond (eqb tag 36) Event.Acknowledgement
    (cond (eqb tag 37) Event.SenderResponse
    (cond (eqb tag 38) Event.SourceCapability
    (cond (eqb tag 39) Event.PsHardReset
    (cond (eqb tag 40) Event.SupplyReady
    (cond (eqb tag 42) Event.Yes
    Event.No))))))))

-- "an event's length does not fit its row": a wrong length
abbrev pub if_fits : Bool → Found → Found
if_fits true n = n
if_fits false n = Found.WrongLength

-- a whole field, by its tag, the length of its value and the value's first byte, the port's number
unfoldable pub kind_of : ℕ → ℕ → ℕ → Found
kind_of tag n port =
    cond (eqb tag 34) (if_fits (leb 1 n) (Found.Packet port))
    (cond (eqb tag 41) (if_fits (eqb (n % 4) 1) (Found.NewOffer port))
    (cond (eqb tag 16) Found.SetUp
    (cond (leb 32 tag && leb tag 43) (if_fits (eqb n 1) (Found.Event port (event_of tag)))
    Found.UnknownTag)))

-- "fewer bytes are left than the field's three and its length: cut", whatever the tag
unfoldable pub next_of : List ℕ → Found
next_of l = cond (is_whole l) (kind_of (tag_of l) (length_of l) (get_or l 3 0)) Found.Cut

-- what stands behind the port's number
unfoldable pub behind_of : List ℕ → List ℕ
behind_of l = drop 1 (value_of l)

-- where that is: behind the field's three and the number, or at the beginning where the field is not whole or has no number
unfoldable pub behind_start : List ℕ → ℕ
behind_start l = cond (leb 4 (size_of l) && is_whole l) 4 0

-- the offer of a new offer's field
unfoldable pub offer_of : List ℕ → Offer
offer_of l = offer_in (behind_of l)

-- the slice r is that part of the bytes s itself: in the same memory, at its start, with its bytes
pub record Behind (s r : Bor (List ℕ)) : Type 0 where
  pub memory : r.ref_ptr.0 ≡ s.ref_ptr.0
  pub start : r.ref_ptr.1 ≡ s.ref_ptr.1 + behind_start s.now
  pub bytes : r.now ≡ behind_of s.now
