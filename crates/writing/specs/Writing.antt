-- "The packet" and "Refusal numbers": what writing a message into a buffer from a place on gives. Writing tries 6, 4, 5.
use Rattle.std.specs.Prelude.{ℕ, ◌+◌, ◌*◌, ◌-◌, ◌/◌, ◌%◌, ◌<◌, ◌≤◌, ◌≡◌, Bool, not, ◌&&◌, List, [], ◌∷◌, ltb, eqb, length, Ok, Err, Result}
use Rattle.ground.specs.declared.Refusal.TheVariants.{OutOfRange, NotChunked, NoRoom}
use Rattle.ground.specs.Buffers.{laid}
use Rattle.ground.specs.Refusals.{refuse_if, any_of, Verdict}
use Rattle.message.specs.declared.Fields.{Fields}
use Rattle.message.specs.Bytes.{bytes_of, is_chunked, Sound}
use Rattle.ground.specs.declared.Refusal.{Refusal}

-- "type over 31, MessageID over 7, a role over 1, revision 11b or over, object bytes not a multiple of 4 or over 28" (n of them)
abbrev pub out_of_range : Fields → ℕ → Bool
out_of_range f n =
    any_of
    (ltb 31 f.message_type
    ∷ ltb 7 f.message_id
    ∷ ltb 1 f.power_role
    ∷ ltb 1 f.data_role
    ∷ ltb 2 f.revision
    ∷ not (eqb (n % 4) 0)
    ∷ ltb 28 n
    ∷ [])

-- "extended with Chunked clear; in writing also extended without object"
abbrev pub without_chunk : Fields → List ℕ → Bool
without_chunk f o = f.extended && any_of (eqb (length o) 0 ∷ not (is_chunked o) ∷ [])

-- "fewer than 2 + 4 x objects bytes from the place to the buffer's end, or place past the end" (n object bytes, a buffer of some size)
abbrev pub too_little_room : ℕ → ℕ → ℕ → Bool
too_little_room size place n = any_of (ltb size place ∷ ltb (size - place) (2 + 4 * (n / 4)) ∷ [])

-- nothing to refuse, or the first refusal
unfoldable pub writing_tried : Fields → List ℕ → ℕ → ℕ → Verdict
writing_tried f o size place =
    refuse_if (out_of_range f (length o)) OutOfRange
    (refuse_if (without_chunk f o) NotChunked
    (refuse_if (too_little_room size place (length o)) NoRoom
    (Ok tt)))

-- what writing takes: a sound message, a revision other than 11b, and room from the place on
pub record Writable (f : Fields) (o : List ℕ) (size place : ℕ) : Type 0 where
  pub sound : Sound f o
  pub revision : f.revision < 3
  pub within : place ≤ size
  pub room : 2 + length o ≤ size - place

-- how many bytes were written of the message m, or the refusal
abbrev pub result_of : Verdict → List ℕ → Result ℕ Refusal
result_of (Ok _) m = Ok (length m)
result_of (Err r) m = Err r

-- the buffer afterwards
abbrev pub buffer_of : Verdict → List ℕ → ℕ → List ℕ → List ℕ
buffer_of (Ok _) m place buf = laid m place buf
buffer_of (Err r) m place buf = buf

-- the promise: the result, and the whole buffer afterwards
pub record Wrote (f : Fields) (o buf : List ℕ) (place : ℕ) (r : Result ℕ Refusal) (after : List ℕ) : Type 0 where
  pub result : r ≡ result_of (writing_tried f o (length buf) place) (bytes_of f o)
  pub buffer : after ≡ buffer_of (writing_tried f o (length buf) place) (bytes_of f o) place buf
