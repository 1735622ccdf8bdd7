-- What was written reads back the same: the fields, the number of objects and the object bytes, from the same place, for every message that writing
-- takes; and writing takes every sound message that has room, unless its revision is the reserved one. Assumes nothing.
use Prim.Native.Nat.{ℕ, ◌+◌}
use mathlib.Core.Path.{◌≡◌, refl, ◌∙◌}
use mathlib.Core.List.{List}
use lib.ListN.{length, take, drop}
use Rattle.message.specs.declared.Fields.{Fields}
use Rattle.message.specs.Bytes.{bytes_of}
use Rattle.message.proofs.Bytes.{length_bytes}
use Rattle.reading.proofs.ReadsExactlyMessages.{read_is, part_is}
use Rattle.demands.specs.Packets.{ReadsAs}
use Rattle.writing.specs.Writing.{Wrote, Writable, result_of, writing_tried}
use Rattle.writing.proofs.Fine.{writable, fine}
use Rattle.ground.proofs.Laid.{stands}
use Rattle.ground.specs.Refusals.{Verdict}
use Rattle.std.specs.Prelude.{Ok, Err, Result}
use Rattle.ground.specs.declared.Refusal.{Refusal}

-- only a writing in which there is nothing to refuse is written
pub was_fine : (v : Verdict) (m : List ℕ) (k : ℕ) → Ok k ≡ result_of v m → (v ≡ Ok tt) × (k ≡ length m)
was_fine (Ok _) m k e = (refl, cc)
was_fine (Err r) m k e = (cc, cc)

module _ (f : Fields) (o buf : List ℕ) (place : ℕ) where
  -- THE CLAIM: what was written, k bytes from the place on, reads back the same
  pub written_reads_back : (k : ℕ) (after : List ℕ) → Wrote f o buf place (Ok k) after → ReadsAs (take k (drop place after)) f o
  written_reads_back k after w =
      let told = was_fine (writing_tried f o (length buf) place) (bytes_of f o) k w.result in
      let good = writable f o (length buf) place told.0 in
      let bytes : take k (drop place after) ≡ bytes_of f o = rw (told.1, w.buffer, told.0) (stands (bytes_of f o) buf place good.within) in
      record { message = rw bytes (read_is f o good.sound); objects = rw bytes (part_is f o good.sound) }

  -- THE CLAIM: every sound message with room for it and a revision that may be written is written, whole
  pub good_is_written : (r : Result ℕ Refusal) (after : List ℕ) → Writable f o (length buf) place → Wrote f o buf place r after → r ≡ Ok (2 + length o)
  good_is_written r after good w = w.result ∙ rw (fine f o (length buf) place good, length_bytes f o)
