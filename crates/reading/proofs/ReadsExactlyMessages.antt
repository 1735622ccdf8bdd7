-- Reading accepts exactly the bytes of sound messages, and gives back the message whose bytes they are. Assumes nothing.
use Prim.Native.Nat.{ℕ, ◌*◌, ◌/◌, ◌<◌}
use native.Mathlib.Omega.{arith}
use mathlib.Core.Path.{◌≡◌, refl, sym, ap, ◌∙◌}
use mathlib.Core.Bool.{true}
use mathlib.Core.List.{List}
use lib.ListN.{length, drop, length-drop}
use Rattle.message.specs.declared.Fields.{Fields}
use Rattle.message.specs.Header.{fields_of, objects_of}
use Rattle.message.specs.Bytes.{AreBytes, Sound, bytes_of, word_of, is_chunked}
use Rattle.message.proofs.RoundTrip.{pack_unpack, unpack_pack, objects_pack, fields_fit}
use Rattle.message.proofs.Bytes.{header_first, objects_rest, length_bytes, word<, two_of_word, chunked_there}
use Rattle.reading.specs.Reading.{reading_tried, answer_of, read_of, part_of, extended_in, message_with}
use Rattle.reading.proofs.Fine.{Readable, readable, fine}
use Rattle.ground.specs.Refusals.{Verdict}
use Rattle.std.specs.Prelude.{Ok, Err, Result}
use Rattle.reading.specs.declared.Message.{Message}
use Rattle.ground.specs.declared.Refusal.{Refusal}

-- ---- the bytes of a sound message are read as that message
module _ (f : Fields) (o : List ℕ) (m : Sound f o) where
  few : length o / 4 < 8
  few = omega (arith, m.few)

  fields_in : fields_of (word_of (bytes_of f o)) ≡ f
  fields_in = rw (header_first f o) (unpack_pack f (length o / 4) m.fits)

  objects_in : objects_of (word_of (bytes_of f o)) ≡ length o / 4
  objects_in = rw (header_first f o) (objects_pack f (length o / 4) few)

  chunk_in : extended_in (bytes_of f o) ≡ true → is_chunked o ≡ true
  chunk_in x = m.chunked (sym (ap (λ (g : Fields). g.extended) fields_in) ∙ x)

  fine_in : reading_tried (bytes_of f o) ≡ Ok tt
  fine_in =
      fine (bytes_of f o)
      record {
        least = rw (length_bytes f o) (omega arith);
        most = rw (length_bytes f o) (omega (arith, m.few));
        four = λ x. rw (length_bytes f o) (omega (arith, chunked_there o (chunk_in x), m.whole));
        chunked = λ x. rw (objects_rest f o) (chunk_in x);
        even = rw (length_bytes f o, objects_in) (omega (arith, m.whole));
      }

  -- THE CLAIM: a sound message's bytes are read as that message
  pub read_is : read_of (bytes_of f o) ≡ message_with (length o / 4) f
  unfolding read_of
  read_is = rw (fine_in, objects_in, fields_in)

  -- THE CLAIM: and their part is its object bytes
  pub part_is : part_of (bytes_of f o) ≡ o
  unfolding part_of
  part_is = rw (fine_in) (objects_rest f o)

-- ---- what is read is a sound message, of which the packet is the bytes
-- what a message says, to take one equation of two messages apart
abbrev objects_in_it : Result Message Refusal → ℕ
objects_in_it (Ok m) = m.objects
objects_in_it (Err r) = 0

abbrev fields_in_it : Fields → Result Message Refusal → Fields
fields_in_it none (Ok m) = m.fields
fields_in_it none (Err r) = none

pub same_message : (m n : ℕ) (f g : Fields) → message_with m f ≡ message_with n g → (m ≡ n) × (f ≡ g)
same_message m n f g e = (ap objects_in_it e, ap (fields_in_it f) e)

answered : (v : Verdict) (h n : ℕ) (f : Fields) → answer_of v h ≡ message_with n f → (v ≡ Ok tt) × (objects_of h ≡ n) × (fields_of h ≡ f)
answered (Ok _) h n f e = let same = same_message _ _ _ _ e in (refl, same.0, same.1)
answered (Err r) h n f e = (cc, cc, cc)

module _ (s : List ℕ) (b : AreBytes s) (n : ℕ) (f : Fields) (e : read_of s ≡ message_with n f) where
  told : (reading_tried s ≡ Ok tt) × (objects_of (word_of s) ≡ n) × (fields_of (word_of s) ≡ f)
  unfolding read_of
  told = answered (reading_tried s) (word_of s) n f e

  known : Readable s
  known = readable s told.0

  rest_is : part_of s ≡ drop 2 s
  unfolding part_of
  rest_is = rw told.0

  rest_length : length (drop 2 s) ≡ 4 * n
  rest_length = omega (arith, length-drop 2 s, known.even, told.1)

  pub objects_are : length (part_of s) ≡ 4 * n
  objects_are = rw rest_is rest_length

  -- THE CLAIM: what is read is a sound message
  pub is_sound : Sound f (part_of s)
  is_sound =
      record {
        fits = rw (← told.2) (fields_fit (word_of s));
        whole = rw objects_are (omega arith);
        few = omega (arith, objects_are, known.even, known.most, told.1);
        chunked = λ x. rw rest_is (known.chunked (ap (λ (g : Fields). g.extended) told.2 ∙ x));
      }

  fours : length (part_of s) / 4 ≡ n
  fours = omega (arith, objects_are)

  -- THE CLAIM: and the packet is that message's bytes
  pub bytes_are : bytes_of f (part_of s) ≡ s
  unfolding bytes_of
  bytes_are =
      rw (fours, ← told.2, ← told.1, pack_unpack (word_of s) (word< s b), rest_is) (two_of_word s b known.least)
