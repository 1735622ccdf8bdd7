-- A worked case for each claim that has a condition, so that none of them speaks of nothing: the Request `82 12 2C B1 04 20` of example 7, written into
-- the middle of a buffer, and a GoodCRC with the reserved revision. The checker computes each. Assumes nothing.
use Prim.Native.Nat.{ℕ, ◌<◌}
use native.Mathlib.Omega.{arith}
use mathlib.Core.Path.{◌≡◌, refl}
use mathlib.Core.Bool.{false}
use mathlib.Core.List.{List, [], ◌∷◌}
use lib.ListN.{length}
use Rattle.ground.specs.declared.Refusal.TheVariants.{OutOfRange}
use Rattle.ground.specs.Refusals.{refuse_if, any_of}
use Rattle.message.specs.declared.Fields.{Fields}
use Rattle.message.specs.Header.{fields_of, objects_of, header_of, Fits}
use Rattle.message.specs.Bytes.{AreBytes, bytes_of, word_of, is_chunked}
use Rattle.message.proofs.Bytes.{are_bytes}
use Rattle.reading.specs.Reading.{read_of, reading_tried, part_of, message_with}
use Rattle.writing.specs.Writing.{Wrote, Writable, writing_tried}
use Rattle.writing.proofs.Fine.{writable}
use Rattle.std.specs.Prelude.{Ok, Err}

abbrev packet : List ℕ
packet = 0x82 ∷ 0x12 ∷ 0x2C ∷ 0xB1 ∷ 0x04 ∷ 0x20 ∷ []

abbrev request : Fields
request = record { extended = false; message_id = 1; power_role = 0; revision = 2; data_role = 0; message_type = 2 }

abbrev objects : List ℕ
objects = 0x2C ∷ 0xB1 ∷ 0x04 ∷ 0x20 ∷ []

abbrev buffer : List ℕ
buffer = 0 ∷ 1 ∷ 2 ∷ 3 ∷ 4 ∷ 5 ∷ 6 ∷ 7 ∷ []

abbrev written : List ℕ
written = 0 ∷ 0x82 ∷ 0x12 ∷ 0x2C ∷ 0xB1 ∷ 0x04 ∷ 0x20 ∷ 7 ∷ []

-- a write that is accepted (WrittenReadsBack.written_reads_back, RefusedWriteChangesNothing.no_other_byte)
pub a_write : Wrote request objects buffer 1 (Ok 6) written
unfolding writing_tried refuse_if any_of is_chunked word_of bytes_of header_of
a_write = record { result = refl; buffer = refl }

-- a message that writing takes (WrittenReadsBack.good_is_written)
pub a_good_message : Writable request objects (length buffer) 1
unfolding writing_tried refuse_if any_of is_chunked word_of
a_good_message = writable request objects 8 1 refl

-- whose fields fit, in a header that names its one object (message: RoundTrip.unpack_pack, objects_pack, pack_unpack)
pub fields_that_fit : Fits request
fields_that_fit = a_good_message.sound.fits

pub a_header : (header_of request 1 ≡ 0x1282) × (1 < 8) × (0x1282 < 65536)
unfolding header_of
a_header = (refl, omega arith, omega arith)

-- a packet that is read (ReadWritesBack.read_writes_back)
pub a_packet : (AreBytes packet) × (read_of packet ≡ message_with 1 request) × (part_of packet ≡ objects)
unfolding read_of reading_tried part_of refuse_if is_chunked word_of fields_of objects_of
a_packet = (are_bytes packet tt, refl, refl)

abbrev reserved : Fields
reserved = record { extended = false; message_id = 0; power_role = 1; revision = 3; data_role = 0; message_type = 1 }

-- the reserved revision is read (ReadWritesBack.reserved_never_written)
pub a_reserved_packet : read_of (0xC1 ∷ 0x01 ∷ []) ≡ message_with 0 reserved
unfolding read_of reading_tried refuse_if is_chunked word_of fields_of objects_of
a_reserved_packet = refl

-- and its writing is refused (RefusedWriteChangesNothing.refused_changes_nothing)
pub a_refused_write : Wrote reserved [] buffer 1 (Err OutOfRange) buffer
unfolding writing_tried refuse_if any_of
a_refused_write = record { result = refl; buffer = refl }
