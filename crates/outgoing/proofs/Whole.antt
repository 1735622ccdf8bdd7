-- A message of ours in its place of thirty bytes is, on the wire, the message by THE DEFINITION of a message's bytes, and carries the MessageID that it was
-- given. Assumes nothing.
use Prim.Native.Nat.{ℕ, zero, suc, ◌+◌, ◌*◌, ◌/◌, ◌%◌, ◌<◌, ◌≤◌}
use native.Mathlib.Nat.{le_of_suc-le-suc, not-suc-le-zero, mod-eq_of_lt}
use native.Mathlib.Omega.{arith}
use mathlib.Core.Path.{◌≡◌, refl, ap, ◌∙◌}
use mathlib.Core.List.{List, [], ◌∷◌, ◌++◌}
use lib.ListN.{length, take}
use lib.Seq.{length-take-le}
use Rattle.message.specs.Header.{fields_of, header_of, Fits}
use Rattle.message.specs.Bytes.{bytes_of, two_bytes, word_of}
use Rattle.message.proofs.RoundTrip.{unpack_pack}
use Rattle.message.proofs.Bytes.{word_of_two}
use Rattle.sending.specs.Sending.{our_fields}
use Rattle.outgoing.specs.Packets.{on_wire, four_bytes, object_bytes, seven, control_of, data_of}

module _ (type id : ℕ) (t : type < 32) (i : id < 8) where
  ours_fit : Fits (our_fields type id)
  ours_fit = record { message_id = i; power_role = omega arith; revision = omega arith; data_role = omega arith; message_type = t }

  pub control_id : (fields_of (word_of (control_of type id).bytes)).message_id ≡ id
  unfolding control_of
  control_id = rw (word_of_two (header_of (our_fields type id) 0) _, unpack_pack (our_fields type id) 0 ours_fit) refl

  pub data_id : (objects : List ℕ) (count : ℕ) → (fields_of (word_of (data_of type id objects count).bytes)).message_id ≡ id
  unfolding data_of
  data_id objects count = rw (word_of_two (header_of (our_fields type id) count) _, unpack_pack (our_fields type id) count ours_fit) refl

-- ---- the whole bytes
pub control_whole : (type id : ℕ) → on_wire (control_of type id) ≡ bytes_of (our_fields type id) []
unfolding control_of bytes_of
control_whole type id = refl

-- the first objects of a row, byte by byte
firsts : (count : ℕ) (l : List ℕ) → count ≤ length l → take (4 * count) (object_bytes l) ≡ object_bytes (take count l)
firsts zero l h = refl
firsts (suc n) [] h = absurd (not-suc-le-zero h)
firsts (suc n) (x ∷ l) h = rw (four n) (ap (λ (r : List ℕ). four_bytes x ++ r) (firsts n l (le_of_suc-le-suc h)))
  where
    four : (n : ℕ) → 4 * suc n ≡ suc (suc (suc (suc (4 * n))))
    four n = omega arith

as_long : (l : List ℕ) → length (object_bytes l) ≡ 4 * length l
as_long [] = refl
as_long (x ∷ l) = omega (arith, as_long l)

never : {A : Type 0} → suc 0 ≤ 0 → A
never h = absurd (not-suc-le-zero h)

-- seven objects one by one are the row
pub seven_are : (l : List ℕ) → length l ≡ 7 → seven l ≡ l
seven_are [] h = never (omega arith)
seven_are (a ∷ []) h = never (omega arith)
seven_are (a ∷ (b ∷ [])) h = never (omega arith)
seven_are (a ∷ (b ∷ (c ∷ []))) h = never (omega arith)
seven_are (a ∷ (b ∷ (c ∷ (d ∷ [])))) h = never (omega arith)
seven_are (a ∷ (b ∷ (c ∷ (d ∷ (e ∷ []))))) h = never (omega arith)
seven_are (a ∷ (b ∷ (c ∷ (d ∷ (e ∷ (f ∷ [])))))) h = never (omega arith)
seven_are (a ∷ (b ∷ (c ∷ (d ∷ (e ∷ (f ∷ (g ∷ []))))))) h = refl
seven_are (a ∷ (b ∷ (c ∷ (d ∷ (e ∷ (f ∷ (g ∷ (x ∷ l)))))))) h = never (omega arith)

-- THE CLAIM: on the wire our message with the first so many of seven objects is that message
pub data_whole : (type id : ℕ) (objects : List ℕ) (count : ℕ) → length objects ≡ 7 → count ≤ 7 →
    on_wire (data_of type id objects count) ≡ bytes_of (our_fields type id) (object_bytes (take count objects))
unfolding data_of bytes_of
data_whole type id objects count n few =
    ap (λ (l : List ℕ). take (2 + 4 * (count % 8)) (two ++ object_bytes l)) (seven_are objects n) ∙ rw (low, counted, two_more (4 * count)) (ap (λ (r : List ℕ). two ++ r) (firsts count objects (omega arith)))
  where
    two_more : (k : ℕ) → 2 + k ≡ suc (suc k)
    two_more k = omega arith

    two : List ℕ
    two = two_bytes (header_of (our_fields type id) count)

    low : count % 8 ≡ count
    low = mod-eq_of_lt (omega arith)

    counted : length (object_bytes (take count objects)) / 4 ≡ count
    counted = omega (arith, as_long (take count objects), length-take-le count objects (omega arith))
