-- What the bytes of our messages tell whoever reads the wire: no message and a control message are no offer; a Source_Capabilities with objects is one, and
-- each of its objects has there the voltage that it was given. Assumes nothing.
use Prim.Native.Nat.{ℕ, zero, suc, ◌+◌, ◌-◌, ◌*◌, ◌/◌, ◌%◌, ◌<◌, ◌≤◌}
use native.Mathlib.Omega.{arith}
use mathlib.Core.Path.{◌≡◌, refl, sym, ap, ◌∙◌}
use mathlib.Core.Bool.{true, false, and-false}
use mathlib.Core.List.{List, [], ◌++◌}
use lib.Dec.{eqb}
use lib.ListN.{take, drop, get_or}
use lib.Seq.{get_or-take, get_or-drop, drop-drop}
use borrow.Author.Tests.{lt-ltb}
use Rattle.message.specs.declared.Fields.{Fields}
use Rattle.message.specs.Bytes.{two_bytes, word_of}
use Rattle.message.specs.Header.{fields_of, header_of}
use Rattle.message.specs.Types as Types
use Rattle.message.proofs.RoundTrip.{objects_packed}
use Rattle.message.proofs.Bytes.{word_of_two}
use Rattle.sending.specs.Sending.{our_fields}
use Rattle.offers.specs.Objects.{voltage_of}
use Rattle.offers.specs.Offers.{object_at}
use Rattle.outgoing.specs.Packets.{on_wire, no_packet, four_bytes, object_bytes, seven, control_of, data_of}
use Rattle.port.specs.Packets.{first_object}
use Rattle.portclaims.proofs.ObjectsReadBack.{object_reads_back}
use Rattle.rackclaims.specs.Wire.{is_offer, last_offer, object_on}

-- ---- the Extended bit of a header, its highest, is clear in ours
highest : (o i p r d t : ℕ) → o < 8 → i < 8 → p < 2 → r < 4 → d < 2 → t < 32 → (0 * 32768 + o * 4096 + i * 512 + p * 256 + r * 64 + d * 32 + t * 1) / 32768 % 2 ≡ 0
highest o i p r d t o< i< p< r< d< t< = omega arith

pub plain_packed : (type id n : ℕ) → (fields_of (header_of (our_fields type id) n)).extended ≡ false
unfolding fields_of header_of
plain_packed type id n =
    ap (λ (x : ℕ). eqb x 1) (highest (n % 8) (id % 8) 1 2 1 (type % 32) (omega arith) (omega arith) (omega arith) (omega arith) (omega arith) (omega arith))

-- ---- what is no offer
pub no_offer_lem : is_offer [] ≡ false
unfolding is_offer word_of fields_of
no_offer_lem = refl

pub nothing_sent : (y : List ℕ) → last_offer no_packet y ≡ y
nothing_sent y = rw no_offer_lem

-- a control message's header names no objects
pub control_no_offer : (type id : ℕ) → is_offer (on_wire (control_of type id)) ≡ false
unfolding is_offer control_of fields_of
control_no_offer type id = rw (word_of_two (header_of (our_fields type id) 0) [], plain_packed type id 0, objects_packed (our_fields type id) 0, and-false)

pub control_sent : (type id : ℕ) (y : List ℕ) → last_offer (control_of type id) y ≡ y
control_sent type id y = rw (control_no_offer type id)

-- ---- what is left of bytes whose end is cut off
byte_left : (n k i : ℕ) (l : List ℕ) → k + i < n → get_or (drop k (take n l)) i 0 ≡ get_or (drop k l) i 0
byte_left n k i l h = get_or-drop k (take n l) i 0 ∙ get_or-take n l (k + i) 0 h ∙ sym (get_or-drop k l i 0)

word_left : (n k : ℕ) (l : List ℕ) → k + 2 ≤ n → word_of (drop k (take n l)) ≡ word_of (drop k l)
unfolding word_of
word_left n k l h = rw (byte_left n k 0 l (omega arith), byte_left n k 1 l (omega arith))

object_left : (n k : ℕ) (l : List ℕ) → k + 4 ≤ n → first_object (drop k (take n l)) ≡ first_object (drop k l)
unfolding first_object
object_left n k l h = rw (drop-drop 2 k (take n l), drop-drop 2 k l, word_left n k l (omega arith), word_left n (k + 2) l (omega arith))

-- ---- our offer is one
-- the type has the header's lowest five bits
lowest : (e o i p r d t : ℕ) → t < 32 → (e * 32768 + o * 4096 + i * 512 + p * 256 + r * 64 + d * 32 + t * 1) / 1 % 32 ≡ t
lowest e o i p r d t h = omega arith

pub type_packed : (f : Fields) (n : ℕ) → (fields_of (header_of f n)).message_type ≡ f.message_type % 32
unfolding fields_of header_of
type_packed f n = lowest _ _ _ _ _ _ (f.message_type % 32) (omega arith)

pub header_on_wire : (type id : ℕ) (objects : List ℕ) (count : ℕ) → word_of (on_wire (data_of type id objects count)) ≡ header_of (our_fields type id) count
unfolding data_of
header_on_wire type id objects count = word_left (2 + 4 * (count % 8)) 0 _ (omega arith) ∙ word_of_two (header_of (our_fields type id) count) _

-- THE CLAIM: a Source_Capabilities with one to seven objects is an offer
pub offer_is_one : (id count : ℕ) (objects : List ℕ) → 1 ≤ count → count ≤ 7 → is_offer (on_wire (data_of Types.SourceCapabilities id objects count)) ≡ true
unfolding is_offer fields_of
offer_is_one id count objects some few =
    rw (header_on_wire Types.SourceCapabilities id objects count, plain_packed Types.SourceCapabilities id count, type_packed (our_fields Types.SourceCapabilities id) count, objects_packed (our_fields Types.SourceCapabilities id) count, lt-ltb 0 (count % 8) (omega arith))
    refl

-- ---- its objects
-- four bytes keep an object's low 32 bits, and the voltage lies in those
module _ (x v t : ℕ) (e : v + 4294967296 * t ≡ x) where
  byte_0 : v % 256 ≡ x % 256
  byte_0 = omega arith

  byte_1 : v / 256 % 256 ≡ x / 256 % 256
  byte_1 = omega arith

  byte_2 : v / 65536 % 256 ≡ x / 65536 % 256
  byte_2 = omega arith

  byte_3 : v / 16777216 % 256 ≡ x / 16777216 % 256
  byte_3 = omega arith

  same_voltage : voltage_of v ≡ voltage_of x
  same_voltage = omega arith

  same_bytes : four_bytes v ≡ four_bytes x
  same_bytes = rw (byte_0, byte_1, byte_2, byte_3)

voltage_back : (x : ℕ) (rest : List ℕ) → voltage_of (first_object (four_bytes x ++ rest)) ≡ voltage_of x
voltage_back x rest =
    ap (λ (bytes : List ℕ). voltage_of (first_object (bytes ++ rest))) (sym (same_bytes x low high whole))
    ∙ rw (object_reads_back low rest (omega arith)) (same_voltage x low high whole)
  where
    low : ℕ
    low = x % 4294967296

    high : ℕ
    high = x / 4294967296

    whole : low + 4294967296 * high ≡ x
    whole = omega arith

-- two header bytes, then four for each of seven objects
by_place : (h : ℕ) (objects : List ℕ) (count i : ℕ) → 1 ≤ i → i ≤ 7 →
    voltage_of (object_on (two_bytes h ++ object_bytes (seven objects)) i) ≡ voltage_of (object_at (record { objects = objects; count = count }) i)
unfolding object_at
by_place h objects count zero low high = absurd (omega arith)
by_place h objects count (suc zero) low high = voltage_back (get_or objects 0 0) _
by_place h objects count (suc (suc zero)) low high = voltage_back (get_or objects 1 0) _
by_place h objects count (suc (suc (suc zero))) low high = voltage_back (get_or objects 2 0) _
by_place h objects count (suc (suc (suc (suc zero)))) low high = voltage_back (get_or objects 3 0) _
by_place h objects count (suc (suc (suc (suc (suc zero))))) low high = voltage_back (get_or objects 4 0) _
by_place h objects count (suc (suc (suc (suc (suc (suc zero)))))) low high = voltage_back (get_or objects 5 0) _
by_place h objects count (suc (suc (suc (suc (suc (suc (suc zero))))))) low high = voltage_back (get_or objects 6 0) _
by_place h objects count (suc (suc (suc (suc (suc (suc (suc (suc i)))))))) low high = absurd (omega arith)

-- THE CLAIM: an object on the wire has the voltage of the object in the offer
pub voltage_on_wire : (id count : ℕ) (objects : List ℕ) (i : ℕ) → count ≤ 7 → 1 ≤ i → i ≤ count →
    voltage_of (object_on (on_wire (data_of Types.SourceCapabilities id objects count)) i) ≡ voltage_of (object_at (record { objects = objects; count = count }) i)
unfolding data_of
voltage_on_wire id count objects i few low high =
    rw (object_left (2 + 4 * (count % 8)) (4 * i - 2) (two_bytes (header_of (our_fields Types.SourceCapabilities id) count) ++ object_bytes (seven objects)) (omega arith))
    (by_place (header_of (our_fields Types.SourceCapabilities id) count) objects count i low (omega arith))
