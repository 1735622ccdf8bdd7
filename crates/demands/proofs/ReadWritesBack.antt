-- What was read with a revision other than 11b writes back to the same bytes, wherever there is room; what was read with 11b is never written.
-- Assumes nothing.
use Prim.Native.Nat.{ℕ, ◌+◌, ◌-◌, ◌<◌, ◌≤◌}
use native.Mathlib.Omega.{arith}
use mathlib.Core.Path.{◌≡◌, sym, ap, ◌∙◌}
use mathlib.Core.List.{List}
use lib.ListN.{length}
use Rattle.ground.specs.declared.Refusal.TheVariants.{OutOfRange}
use Rattle.message.specs.declared.Fields.{Fields}
use Rattle.message.specs.Bytes.{AreBytes}
use Rattle.message.proofs.Bytes.{length_bytes}
use Rattle.reading.specs.Reading.{read_of, part_of, message_with}
use Rattle.reading.proofs.ReadsExactlyMessages.{is_sound, bytes_are}
use Rattle.ground.specs.Buffers.{laid}
use Rattle.writing.specs.Writing.{Wrote, Writable}
use Rattle.writing.proofs.Fine.{fine, reserved}
use Rattle.std.specs.Prelude.{Ok, Err, Result}
use Rattle.ground.specs.declared.Refusal.{Refusal}

module _ (s : List ℕ) (b : AreBytes s) (n : ℕ) (f : Fields) (e : read_of s ≡ message_with n f) where
  as_long : length s ≡ 2 + length (part_of s)
  as_long = sym (ap length (bytes_are s b n f e)) ∙ length_bytes f (part_of s)

  good : (size place : ℕ) → f.revision < 3 → place ≤ size → length s ≤ size - place → Writable f (part_of s) size place
  good size place revision within room =
      let sound = is_sound s b n f e in
      record { sound = sound; revision = revision; within = within; room = omega (arith, as_long) }

  -- THE CLAIM
  pub read_writes_back : (buf : List ℕ) (place : ℕ) (r : Result ℕ Refusal) (after : List ℕ) → f.revision < 3 → place ≤ length buf → length s ≤ length buf - place →
      Wrote f (part_of s) buf place r after → (r ≡ Ok (length s)) × (after ≡ laid s place buf)
  read_writes_back buf place r after revision within room w =
      let fits = fine f (part_of s) (length buf) place (good (length buf) place revision within room) in
      (w.result ∙ rw (fits, bytes_are s b n f e), w.buffer ∙ rw (fits, bytes_are s b n f e))

-- THE CLAIM: the reserved revision is never written, whatever else the message has
pub reserved_never_written : (f : Fields) (o buf : List ℕ) (place : ℕ) (r : Result ℕ Refusal) (after : List ℕ) → 3 ≤ f.revision → Wrote f o buf place r after → r ≡ Err OutOfRange
reserved_never_written f o buf place r after h w = w.result ∙ rw (reserved f o (length buf) place h)
