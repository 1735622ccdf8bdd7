-- Capability mismatch says nothing to a port's memory: of two packets that differ in their object alone, and whose Requests both fit the last offer and ask for the
-- same position and operating current, one is answered as the other and leaves the same port, whatever bit 26 and the maximum are. Assumes nothing.
use Prim.Native.Nat.{ℕ}
use mathlib.Core.Path.{◌≡◌, refl}
use mathlib.Core.Bool.{true}
use mathlib.Core.List.{List}
use Rattle.message.specs.declared.Fields.{Fields}
use Rattle.reading.specs.Reading.{read_of, part_of, message_with}
use Rattle.offers.specs.Objects.{position_of, is_mismatch, operating_of, maximum_of}
use Rattle.offers.specs.Requests.{fits}
use Rattle.offers.proofs.CapabilityMismatch.{fit_the_same, other_bits_are_ignored}
use Rattle.port.specs.declared.Port.{Port}
use Rattle.port.specs.Packets.{first_object, packet_of}
use Rattle.port.specs.Calls.{packet, step}
use Rattle.portclaims.proofs.Shapes.{fit_in}

abbrev object : List ℕ → ℕ
object s = first_object (part_of s)

module _ (p : Port) (s t : List ℕ) (n : ℕ) (f : Fields) (read : read_of s ≡ message_with n f) (read-too : read_of t ≡ message_with n f) where
  by_fit : fit_in p n s ≡ fit_in p n t → step p (packet s) ≡ step p (packet t)
  unfolding step packet_of
  by_fit alike = rw (read, read-too, alike) refl

  module _ (position : position_of (object s) ≡ position_of (object t)) (operating : operating_of (object s) ≡ operating_of (object t)) where
    -- THE CLAIM
    pub mismatch_says_nothing_more : fits n (object s) p.last ≡ true → fits n (object t) p.last ≡ true → step p (packet s) ≡ step p (packet t)
    mismatch_says_nothing_more fitting fitting-too = by_fit (fit_the_same (object s) (object t) p.last position operating n fitting fitting-too)

    -- THE CLAIM: and whether they fit or not, no bit but those of the four fields says anything, so neither does GiveBack
    pub give_back_says_nothing : is_mismatch (object s) ≡ is_mismatch (object t) → maximum_of (object s) ≡ maximum_of (object t) → step p (packet s) ≡ step p (packet t)
    give_back_says_nothing mismatch maximum = by_fit (other_bits_are_ignored (object s) (object t) p.last position operating n mismatch maximum)
