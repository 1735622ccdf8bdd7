-- docs/NIGHT.md, "An example": the night of 44 bytes, field by field. The checker computes each. Assumes nothing.
use Prim.Native.Nat.{ℕ}
use native.Mathlib.Omega.{arith}
use mathlib.Core.Path.{◌≡◌, refl}
use mathlib.Core.List.{List, [], ◌∷◌, ◌++◌}
use lib.ListN.{length, drop}
use Rattle.message.specs.Bytes.{word_of}
use Rattle.port.specs.declared.Event.{Event}
use Rattle.night.specs.declared.Found.{Found}
use Rattle.night.specs.Fields.{tag_of, length_of, size_of, is_whole, value_of, number_at, offer_in}
use Rattle.night.specs.Events.{event_of, kind_of, next_of, behind_of}
use Rattle.night.specs.SetUps.{head_is, is_setting, setting_of, is_port, is_supply, placed, group_in, set_up_in}
use Rattle.night.specs.Layout.{PortGroup, four_bytes, object_bytes, field_bytes, port_value, rack_value, rack_bytes, set_up_for, Fit}
use Rattle.std.specs.Prelude.{Some}

-- "an offer of 5 V 3 A": `2C 91 01 00`
abbrev port : PortGroup
port = record { share = 30000; limit = 30000; objects = 0x0001912C ∷ [] }

abbrev night : List ℕ
night =
    0x10 ∷ 0x1F ∷ 0x00
    ∷ 0x11 ∷ 0x15 ∷ 0x00
    ∷ 0x13 ∷ 0x04 ∷ 0x00 ∷ 0x30 ∷ 0x75 ∷ 0x00 ∷ 0x00
    ∷ 0x14 ∷ 0x04 ∷ 0x00 ∷ 0x30 ∷ 0x75 ∷ 0x00 ∷ 0x00
    ∷ 0x15 ∷ 0x04 ∷ 0x00 ∷ 0x2C ∷ 0x91 ∷ 0x01 ∷ 0x00
    ∷ 0x12 ∷ 0x04 ∷ 0x00 ∷ 0x30 ∷ 0x75 ∷ 0x00 ∷ 0x00
    ∷ 0x20 ∷ 0x01 ∷ 0x00 ∷ 0x01
    ∷ 0x22 ∷ 0x03 ∷ 0x00 ∷ 0x01 ∷ 0x81 ∷ 0x00
    ∷ []

pub its_length : length night ≡ 44
its_length = refl

-- THE CLAIM: the set-up
pub first_a_set_up : (next_of night ≡ Found.SetUp) × (size_of night ≡ 34)
unfolding next_of is_whole size_of length_of tag_of word_of kind_of
first_a_set_up = (refl, refl)

pub the_set_up : set_up_in night ≡ Some (set_up_for (port ∷ []) 30000)
unfolding set_up_in group_in is_supply is_port is_setting setting_of head_is placed offer_in number_at value_of is_whole size_of length_of tag_of word_of
the_set_up = refl

-- it is the one that the page lays out
pub its_bytes : rack_bytes (port ∷ []) 30000 ++ drop 34 night ≡ night
unfolding rack_bytes rack_value port_value field_bytes object_bytes four_bytes
its_bytes = refl

-- and its numbers fit (WrittenReadsBack)
pub it_fits : Fit (port ∷ []) 30000
it_fits = record { power = omega arith; groups = (record { share = omega arith; limit = omega arith; objects = (omega arith, tt); few = omega arith }, tt); few = omega arith }

-- THE CLAIM: attach at port 1
pub then_attach : (next_of (drop 34 night) ≡ Found.Event 1 Event.Attach) × (size_of (drop 34 night) ≡ 4)
unfolding next_of is_whole size_of length_of tag_of word_of kind_of event_of
then_attach = (refl, refl)

-- THE CLAIM: at port 1, the packet `81 00`
pub then_a_packet : (next_of (drop 38 night) ≡ Found.Packet 1) × (behind_of (drop 38 night) ≡ 0x81 ∷ 0x00 ∷ []) × (size_of (drop 38 night) ≡ 6)
unfolding next_of behind_of value_of is_whole size_of length_of tag_of word_of kind_of
then_a_packet = (refl, refl, refl)
