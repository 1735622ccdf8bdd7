-- Every answer is pinned down: no two differing results meet the contract of a public call, as the checker itself reads that contract.
-- Where a call returns a part, its place in the caller's memory is settled too; where a call is lent a buffer, so is every byte of it. Assumes nothing.
use mathlib.Core.Path.{ap}
use Rattle.std.specs.Prelude.{is_ok}
use Rattle.ground.proofs.Settles.{Settles, same}
use Rattle.text.specs.Text.{Line}
use Rattle.text.proofs.Line.new.Kinds as new-k
use Rattle.text.proofs.Line.new.Reads as new-c
use Rattle.text.proofs.Line.as_bytes.Kinds as so_far-k
use Rattle.text.proofs.Line.as_bytes.Reads as so_far-c
use Rattle.text.proofs.Line.put.Kinds as put-k
use Rattle.text.proofs.Line.put.Reads as put-c
use Rattle.text.proofs.Line.put_hex.Kinds as hex-k
use Rattle.text.proofs.Line.put_hex.Reads as hex-c
use Rattle.text.proofs.Line.put_number.Kinds as number-text-k
use Rattle.text.proofs.Line.put_number.Reads as number-text-c
use Rattle.text.proofs.Line.put_decimal.Kinds as decimal-k
use Rattle.text.proofs.Line.put_decimal.Reads as decimal-c
use Rattle.text.proofs.Line.put_bytes.Kinds as bytes-k
use Rattle.text.proofs.Line.put_bytes.Reads as bytes-c
use Rattle.text.proofs.LineWrite.write_str.Kinds as write_str-k
use Rattle.text.proofs.LineWrite.write_str.Reads as write_str-c
use Rattle.ground.proofs.number.Kinds as number-k
use Rattle.ground.proofs.number.Reads as number-c
use Rattle.ground.proofs.refuse_if.Kinds as refuse-k
use Rattle.ground.proofs.refuse_if.Reads as refuse-c
use Rattle.ground.proofs.refuse.Kinds as one-test-k
use Rattle.ground.proofs.refuse.Reads as one-test-c
use Rattle.message.proofs.unpack.Kinds as unpack-k
use Rattle.message.proofs.unpack.Reads as unpack-c
use Rattle.message.proofs.pack.Kinds as pack-k
use Rattle.message.proofs.pack.Reads as pack-c
use Rattle.message.proofs.object_count.Kinds as count-k
use Rattle.message.proofs.object_count.Reads as count-c
use Rattle.message.proofs.word.Kinds as word-k
use Rattle.message.proofs.word.Reads as word-c
use Rattle.message.proofs.chunked.Kinds as chunked-k
use Rattle.message.proofs.chunked.Reads as chunked-c
use Rattle.meaning.proofs.kind_of.Kinds as kind-k
use Rattle.meaning.proofs.kind_of.Reads as kind-c
use Rattle.meaning.proofs.meaning_of.Kinds as meaning-k
use Rattle.meaning.proofs.meaning_of.Reads as meaning-c
use Rattle.reading.proofs.read.Kinds as read-k
use Rattle.reading.proofs.read.Reads as read-c
use Rattle.reading.proofs.objects.Kinds as objects-k
use Rattle.reading.proofs.objects.Reads as objects-c
use Rattle.writing.proofs.write.Kinds as write-k
use Rattle.writing.proofs.write.Reads as write-c
use Rattle.sending.proofs.our_fields.Kinds as ours-k
use Rattle.sending.proofs.our_fields.Reads as ours-c
use Rattle.sending.proofs.header_bytes.Kinds as header-k
use Rattle.sending.proofs.header_bytes.Reads as header-c
use Rattle.sending.proofs.good_crc.Kinds as crc-k
use Rattle.sending.proofs.good_crc.Reads as crc-c
use Rattle.message.proofs.byte.Kinds as byte-k
use Rattle.message.proofs.byte.Reads as byte-c

pub number : Settles 0 number-k.ps number-k.r number-c.Post (λ κs x s. x)
number κs a x y s t = same

pub refuse_if_lem : Settles 0 refuse-k.ps refuse-k.r refuse-c.Post (λ κs x s. x)
refuse_if_lem κs a x y s t = same

pub refuse : Settles 0 one-test-k.ps one-test-k.r one-test-c.Post (λ κs x s. x)
refuse κs a x y s t = same

pub unpack : Settles 0 unpack-k.ps unpack-k.r unpack-c.Post (λ κs x s. x)
unpack κs a x y s t = same

pub pack : Settles 0 pack-k.ps pack-k.r pack-c.Post (λ κs x s. x)
pack κs a x y s t = same

pub object_count_lem : Settles 0 count-k.ps count-k.r count-c.Post (λ κs x s. x)
object_count_lem κs a x y s t = same

pub word : Settles 1 word-k.ps word-k.r word-c.Post (λ κs x s. x)
word κs a x y s t = same

pub chunked : Settles 1 chunked-k.ps chunked-k.r chunked-c.Post (λ κs x s. x)
chunked κs a x y s t = same

pub kind_of_lem : Settles 0 kind-k.ps kind-k.r kind-c.Post (λ κs x s. x)
kind_of_lem κs a x y s t = same

pub meaning_of_lem : Settles 0 meaning-k.ps meaning-k.r meaning-c.Post (λ κs x s. x)
meaning_of_lem κs a x y s t = same

pub read : Settles 1 read-k.ps read-k.r read-c.Post (λ κs x s. x)
read κs a x y s t = same

pub objects_bytes : Settles 1 objects-k.ps objects-k.r objects-c.Post (λ κs x s. x.now)
objects_bytes κs a x y s t p q = same p.bytes q.bytes

pub objects_memory : Settles 1 objects-k.ps objects-k.r objects-c.Post (λ κs x s. x.ref_ptr.0)
objects_memory κs a x y s t p q = same p.memory q.memory

pub objects_start : Settles 1 objects-k.ps objects-k.r objects-c.Post (λ κs x s. x.ref_ptr.1)
objects_start κs a x y s t p q = same p.start q.start

pub write_result : Settles 2 write-k.ps write-k.r write-c.Post (λ κs x s. x)
write_result κs a x y s t p q = same p.result q.result

pub write_buffer : Settles 2 write-k.ps write-k.r write-c.Post (λ κs x s. s.1.1.0.now)
write_buffer κs a x y s t p q = same p.buffer q.buffer

pub our_fields_lem : Settles 0 ours-k.ps ours-k.r ours-c.Post (λ κs x s. x)
our_fields_lem κs a x y s t = same

pub header_bytes_lem : Settles 0 header-k.ps header-k.r header-c.Post (λ κs x s. x)
header_bytes_lem κs a x y s t = same

pub good_crc_lem : Settles 0 crc-k.ps crc-k.r crc-c.Post (λ κs x s. x)
good_crc_lem κs a x y s t = same

-- ---- lines of text: the place, every byte of the buffer, and that it is the buffer that was lent
pub new_place : Settles 1 new-k.ps new-k.r new-c.Post (λ κs x s. x.end)
new_place κs a x y s t p q = ap (λ (l : Line). l.at) (same p.0 q.0)

pub new_bytes : Settles 1 new-k.ps new-k.r new-c.Post (λ κs x s. x.buffer.now)
new_bytes κs a x y s t p q = ap (λ (l : Line). l.text) (same p.0 q.0)

pub new_same_buffer : Settles 1 new-k.ps new-k.r new-c.Post (λ κs x s. x.buffer.ghost_name)
new_same_buffer κs a x y s t p q = same p.1 q.1

pub as_bytes_bytes : Settles 2 so_far-k.ps so_far-k.r so_far-c.Post (λ κs x s. x.now)
as_bytes_bytes κs a x y s t p q = same p.0 q.0

pub as_bytes_place : Settles 2 so_far-k.ps so_far-k.r so_far-c.Post (λ κs x s. x.ref_ptr)
as_bytes_place κs a x y s t p q = same p.1 q.1

pub put_place : Settles 3 put-k.ps put-k.r put-c.Post (λ κs x s. s.0.now.end)
put_place κs a x y s t p q = ap (λ (l : Line). l.at) (same p.0 q.0)

pub put_bytes_lem : Settles 3 put-k.ps put-k.r put-c.Post (λ κs x s. s.0.now.buffer.now)
put_bytes_lem κs a x y s t p q = ap (λ (l : Line). l.text) (same p.0 q.0)

pub put_same_buffer : Settles 3 put-k.ps put-k.r put-c.Post (λ κs x s. s.0.now.buffer.ghost_name)
put_same_buffer κs a x y s t p q = same p.1 q.1

pub put_hex_place : Settles 2 hex-k.ps hex-k.r hex-c.Post (λ κs x s. s.0.now.end)
put_hex_place κs a x y s t p q = ap (λ (l : Line). l.at) (same p.0 q.0)

pub put_hex_bytes : Settles 2 hex-k.ps hex-k.r hex-c.Post (λ κs x s. s.0.now.buffer.now)
put_hex_bytes κs a x y s t p q = ap (λ (l : Line). l.text) (same p.0 q.0)

pub put_hex_same_buffer : Settles 2 hex-k.ps hex-k.r hex-c.Post (λ κs x s. s.0.now.buffer.ghost_name)
put_hex_same_buffer κs a x y s t p q = same p.1 q.1

pub put_number_place : Settles 2 number-text-k.ps number-text-k.r number-text-c.Post (λ κs x s. s.0.now.end)
put_number_place κs a x y s t p q = ap (λ (l : Line). l.at) (same p.0 q.0)

pub put_number_bytes : Settles 2 number-text-k.ps number-text-k.r number-text-c.Post (λ κs x s. s.0.now.buffer.now)
put_number_bytes κs a x y s t p q = ap (λ (l : Line). l.text) (same p.0 q.0)

pub put_number_same_buffer : Settles 2 number-text-k.ps number-text-k.r number-text-c.Post (λ κs x s. s.0.now.buffer.ghost_name)
put_number_same_buffer κs a x y s t p q = same p.1 q.1

pub put_decimal_place : Settles 2 decimal-k.ps decimal-k.r decimal-c.Post (λ κs x s. s.0.now.end)
put_decimal_place κs a x y s t p q = ap (λ (l : Line). l.at) (same p.0 q.0)

pub put_decimal_bytes : Settles 2 decimal-k.ps decimal-k.r decimal-c.Post (λ κs x s. s.0.now.buffer.now)
put_decimal_bytes κs a x y s t p q = ap (λ (l : Line). l.text) (same p.0 q.0)

pub put_decimal_same_buffer : Settles 2 decimal-k.ps decimal-k.r decimal-c.Post (λ κs x s. s.0.now.buffer.ghost_name)
put_decimal_same_buffer κs a x y s t p q = same p.1 q.1

pub put_bytes_of_place : Settles 3 bytes-k.ps bytes-k.r bytes-c.Post (λ κs x s. s.0.now.end)
put_bytes_of_place κs a x y s t p q = ap (λ (l : Line). l.at) (same p.0 q.0)

pub put_bytes_of_bytes : Settles 3 bytes-k.ps bytes-k.r bytes-c.Post (λ κs x s. s.0.now.buffer.now)
put_bytes_of_bytes κs a x y s t p q = ap (λ (l : Line). l.text) (same p.0 q.0)

pub put_bytes_of_same_buffer : Settles 3 bytes-k.ps bytes-k.r bytes-c.Post (λ κs x s. s.0.now.buffer.ghost_name)
put_bytes_of_same_buffer κs a x y s t p q = same p.1 q.1

pub write_str_answer : Settles 3 write_str-k.ps write_str-k.r write_str-c.Post (λ κs x s. is_ok x)
write_str_answer κs a x y s t p q = same p.1.0 q.1.0

pub write_str_place : Settles 3 write_str-k.ps write_str-k.r write_str-c.Post (λ κs x s. s.0.now.end)
write_str_place κs a x y s t p q = ap (λ (l : Line). l.at) (same p.1.1.0 q.1.1.0)

pub write_str_bytes : Settles 3 write_str-k.ps write_str-k.r write_str-c.Post (λ κs x s. s.0.now.buffer.now)
write_str_bytes κs a x y s t p q = ap (λ (l : Line). l.text) (same p.1.1.0 q.1.1.0)

pub write_str_same_buffer : Settles 3 write_str-k.ps write_str-k.r write_str-c.Post (λ κs x s. s.0.now.buffer.ghost_name)
write_str_same_buffer κs a x y s t p q = same p.1.1.1 q.1.1.1

pub byte : Settles 1 byte-k.ps byte-k.r byte-c.Post (λ κs x s. x)
byte κs a x y s t = same
