-- A packet that repeats the stored MessageID: which packets are left aside, and the answer to the others.
use Rattle.std.specs.Prelude.{Bool, true, false, None, Ok}
use Rattle.message.specs.declared.Fields.{Fields}
use Rattle.meaning.specs.declared.Meaning.{Meaning}
use Rattle.outgoing.specs.Packets.{no_packet}
use Rattle.power.specs.declared.Change.{Change}
use Rattle.port.specs.declared.Port.{Port}
use Rattle.port.specs.declared.Answer.{Answer}
use Rattle.port.specs.Packets.{crc_for}

-- the same port, and nothing done but a GoodCRC
abbrev pub only_good_crc : Fields → Port → Answer
only_good_crc f p =
    record {
      verdict = Ok tt;
      port = p;
      actions = record { good_crc = crc_for f; stop = None; transmit = no_packet; hard_reset = false; supply = None; start = None };
      held = Change.Nothing;
    }

-- "Soft_Reset and GoodCRC aside"
abbrev pub aside : Meaning → Bool
aside Meaning.Unsupported = false
aside Meaning.GoodCrc = true
aside Meaning.Reply = false
aside Meaning.GetSourceCap = false
aside Meaning.SoftReset = true
aside Meaning.Quiet = false
aside Meaning.Request = false
