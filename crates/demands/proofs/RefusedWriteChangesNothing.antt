-- A refused write leaves the buffer as it was; a write that was not refused changes no byte outside the message. Assumes nothing.
use Prim.Native.Nat.{ℕ}
use mathlib.Core.Path.{◌≡◌, refl, ◌∙◌}
use mathlib.Core.List.{List}
use lib.ListN.{length}
use Rattle.ground.specs.declared.Refusal.{Refusal}
use Rattle.message.specs.declared.Fields.{Fields}
use Rattle.message.specs.Bytes.{bytes_of}
use Rattle.message.proofs.Bytes.{length_bytes}
use Rattle.writing.specs.Writing.{Wrote, result_of, buffer_of, writing_tried}
use Rattle.writing.proofs.Fine.{writable}
use Rattle.ground.proofs.Laid.{before_it, behind_it, as_long}
use Rattle.demands.specs.Packets.{SameElsewhere}
use Rattle.demands.proofs.WrittenReadsBack.{was_fine}
use Rattle.ground.specs.Refusals.{Verdict}
use Rattle.std.specs.Prelude.{Ok, Err}

kept : (v : Verdict) (m : List ℕ) (place : ℕ) (buf : List ℕ) (no' : Refusal) → Err no' ≡ result_of v m → buffer_of v m place buf ≡ buf
kept (Ok _) m place buf no' e = cc
kept (Err r) m place buf no' e = refl

module _ (f : Fields) (o buf : List ℕ) (place : ℕ) (after : List ℕ) where
  -- THE CLAIM
  pub refused_changes_nothing : (no' : Refusal) → Wrote f o buf place (Err no') after → after ≡ buf
  refused_changes_nothing no' w = w.buffer ∙ kept (writing_tried f o (length buf) place) (bytes_of f o) place buf no' w.result

  -- THE CLAIM: of k bytes written from the place on, no byte before or behind them is different, and the buffer is as long as it was
  pub no_other_byte : (k : ℕ) → Wrote f o buf place (Ok k) after → SameElsewhere buf after place k
  no_other_byte k w =
      let told = was_fine (writing_tried f o (length buf) place) (bytes_of f o) k w.result in
      let good = writable f o (length buf) place told.0 in
      let m = bytes_of f o in
      let within = good.within in
      record {
        before = λ i h. rw (w.buffer, told.0) (before_it m buf place within i h);
        behind = λ i h. rw (w.buffer, told.0) (behind_it m buf place within i (rw told.1 at h));
        long = rw (w.buffer, told.0) (as_long m buf place within (rw (length_bytes f o) good.room));
      }
