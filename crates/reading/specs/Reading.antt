-- "The packet" and "Refusal numbers": what reading a packet gives. Reading tries 1, 2, 3 (extended under 4), 4, 3.
use Rattle.std.specs.Prelude.{ℕ, ◌+◌, ◌*◌, ◌≡◌, Bool, not, ◌&&◌, List, [], ltb, eqb, length, drop, Ok, Err, Result}
use Rattle.std.specs.Borrow.{Bor}
use Rattle.ground.specs.declared.Refusal.TheVariants.{TooShort, TooLong, WrongLength, NotChunked}
use Rattle.ground.specs.Refusals.{refuse_if, Verdict}
use Rattle.message.specs.Header.{fields_of, objects_of}
use Rattle.message.specs.declared.Fields.{Fields}
use Rattle.message.specs.Bytes.{word_of, is_chunked}
use Rattle.reading.specs.declared.Message.{Message}
use Rattle.ground.specs.declared.Refusal.{Refusal}

-- what follows the two header bytes
abbrev pub after_header : List ℕ → List ℕ
after_header s = drop 2 s

abbrev pub header_in : List ℕ → ℕ
header_in s = word_of s

abbrev pub extended_in : List ℕ → Bool
extended_in s = (fields_of (header_in s)).extended

-- nothing to refuse, or the first refusal
unfoldable pub reading_tried : List ℕ → Verdict
reading_tried s =
    refuse_if (ltb (length s) 2) TooShort
    (refuse_if (ltb 30 (length s)) TooLong
    (refuse_if (extended_in s && ltb (length s) 4) WrongLength
    (refuse_if (extended_in s && not (is_chunked (after_header s))) NotChunked
    (refuse_if (not (eqb (length s) (2 + 4 * objects_of (header_in s)))) WrongLength
    (Ok tt)))))

-- a message of so many objects and with these fields
abbrev pub message_with : ℕ → Fields → Result Message Refusal
message_with objects fields = Ok record { objects = objects; fields = fields }

-- the fields and the number of objects of a header whose packet there is nothing to refuse in
abbrev pub answer_of : Verdict → ℕ → Result Message Refusal
answer_of (Ok _) h = message_with (objects_of h) (fields_of h)
answer_of (Err r) h = Err r

unfoldable pub read_of : List ℕ → Result Message Refusal
read_of s = answer_of (reading_tried s) (header_in s)

-- where the part that is handed back starts, and its bytes: byte 2 on, or the empty beginning where reading is refused
abbrev pub start_of : Verdict → ℕ
start_of (Ok _) = 2
start_of (Err r) = 0

abbrev pub bytes_in : Verdict → List ℕ → List ℕ
bytes_in (Ok _) s = after_header s
bytes_in (Err r) s = []

unfoldable pub part_start : List ℕ → ℕ
part_start s = start_of (reading_tried s)

unfoldable pub part_of : List ℕ → List ℕ
part_of s = bytes_in (reading_tried s) s

-- the slice r is that part of the packet s itself: in the same memory, at its start, with its bytes
pub record Part (s r : Bor (List ℕ)) : Type 0 where
  pub memory : r.ref_ptr.0 ≡ s.ref_ptr.0
  pub start : r.ref_ptr.1 ≡ s.ref_ptr.1 + part_start s.now
  pub bytes : r.now ≡ part_of s.now
