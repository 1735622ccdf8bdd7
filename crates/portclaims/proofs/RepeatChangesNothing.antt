-- While a port listens, a readable packet that repeats the stored MessageID, Soft_Reset and GoodCRC aside, gets its GoodCRC again and changes nothing.
-- Assumes nothing.
use Prim.Native.Nat.{ℕ}
use mathlib.Core.Path.{◌≡◌, refl}
use mathlib.Core.Bool.{Bool, true, false, cond}
use mathlib.Core.List.{List}
use Rattle.message.specs.declared.Fields.{Fields}
use Rattle.meaning.specs.declared.Meaning.{Meaning}
use Rattle.reading.specs.Reading.{read_of, message_with}
use Rattle.channel.specs.Channel.{is_repeat}
use Rattle.source.specs.States.{same, listens}
use Rattle.port.specs.declared.Port.{Port}
use Rattle.port.specs.Memory.{state_of}
use Rattle.port.specs.Steps.{nothing_done}
use Rattle.port.specs.Packets.{meaning_in, crc_for, other_packet, by_meaning, message_of, packet_of}
use Rattle.portclaims.specs.Repeats.{only_good_crc, aside}
use Rattle.portclaims.proofs.Shapes.{fit_in}
use Rattle.std.specs.Prelude.{None, Option}
use Rattle.source.specs.declared.Timer.{Timer}
use Rattle.offers.specs.declared.Asked.{Asked}

either_way : (b : Bool) → cond {A = Option Timer} b None None ≡ None
either_way true = refl
either_way false = refl

nothing_else : (f : Fields) (p : Port) → nothing_done (crc_for f) p ≡ only_good_crc f p
unfolding nothing_done
nothing_else f p = rw (either_way (same (state_of p) (state_of p))) refl

module _ (p : Port) (f : Fields) (fit : Option Asked) (again : is_repeat p.channel f.message_id ≡ true) where
  by_meaning_lem : (m : Meaning) → aside m ≡ false → by_meaning m p f fit ≡ only_good_crc f p
  unfolding by_meaning other_packet
  by_meaning_lem Meaning.GoodCrc e = cc
  by_meaning_lem Meaning.SoftReset e = cc
  by_meaning_lem m e = rw again (nothing_else f p)

-- THE CLAIM
pub repeat_changes_nothing : (p : Port) (s : List ℕ) (n : ℕ) (f : Fields) → listens (state_of p) ≡ true → read_of s ≡ message_with n f →
    is_repeat p.channel f.message_id ≡ true → aside (meaning_in n f) ≡ false → packet_of p s ≡ only_good_crc f p
unfolding packet_of message_of
repeat_changes_nothing p s n f l e again k = rw (e, l) (by_meaning_lem p f (fit_in p n s) again (meaning_in n f) k)
