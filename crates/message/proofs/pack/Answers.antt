-- `message::pack` lays each field into its bits.
use mathlib.Core.Bool.{Bool, true, false}
use mathlib.Core.Path.{◌≡◌, refl}
use Prim.Native.Nat.{◌%◌}
use native.Mathlib.Nat.{mul-one}
use Rattle.message.specs.Header.{bit_of, header_of}
use Rattle.message.proofs.pack.Goals as goal

bit_fits : (b : Bool) → bit_of b % 2 ≡ bit_of b
bit_fits true = refl
bit_fits false = refl

pub returns : goal.returns
unfolding header_of
returns c =
    rw (c.wide-6.ensures.0, c.wide-5.ensures.0, c.wide-4.ensures.0, c.wide-3.ensures.0, c.wide-2.ensures.0, c.wide.ensures.0, c.bit.ensures.0, bit_fits c.args.f.extended, mul-one (c.args.f.message_type % 32))
