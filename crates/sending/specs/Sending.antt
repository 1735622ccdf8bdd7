-- "The packet": what we send.
use Rattle.std.specs.Prelude.{ℕ, false, cond, eqb}
use Rattle.message.specs.declared.Fields.{Fields}
use Rattle.message.specs.Types.{GoodCRC}

-- our roles, in a message that is not extended
abbrev sent : ℕ → ℕ → ℕ → Fields
sent revision type id = record { extended = false; message_id = id; power_role = 1; revision = revision; data_role = 1; message_type = type }

-- "What we send: power role 1, data role 1, revision 10b."
abbrev pub our_fields : ℕ → ℕ → Fields
our_fields type id = sent 2 type id

-- "01b if the packet did, else 10b"
abbrev pub good_crc_revision : ℕ → ℕ
good_crc_revision revision = cond (eqb revision 1) 1 2

-- "A GoodCRC repeats the MessageID it acknowledges."
abbrev pub good_crc_packet : Fields → Fields
good_crc_packet f = sent (good_crc_revision f.revision) GoodCRC f.message_id
