-- "Protocol rules": counter, stored MessageID and pending message of a channel, and what is done to them.
use Rattle.std.specs.Prelude.{ℕ, ◌+◌, ◌%◌, Bool, true, false, cond, ltb, eqb, Some, None, Option}
use Rattle.message.specs.Header.{fields_of}
use Rattle.message.specs.Bytes.{word_of}
use Rattle.outgoing.specs.declared.Packet.{Packet}
use Rattle.outgoing.specs.Packets.{no_packet}
use Rattle.channel.specs.declared.Pending.{Pending}
use Rattle.channel.specs.declared.Channel.{Channel}

abbrev pub is_pending : Channel → Bool
is_pending c = ltb 0 c.pending.packet.length

-- the MessageID that the pending message carries
unfoldable pub pending_id : Channel → ℕ
pending_id c = (fields_of (word_of c.pending.packet.bytes)).message_id

abbrev pub is_in : Option ℕ → ℕ → Bool
is_in None id = false
is_in (Some last) id = eqb last id

-- "its MessageID is the stored one"
unfoldable pub is_repeat : Channel → ℕ → Bool
is_repeat c id = is_in c.stored id

-- "counter (0 to 7, rolling)": one on
abbrev pub next_id : ℕ → ℕ
next_id id = (id % 8 + 1) % 8

abbrev pub most_retries : ℕ
most_retries = 2

abbrev pub none_pending : Pending
none_pending = record { packet = no_packet; retries = 0 }

-- zero, none, none
abbrev pub fresh : Channel
fresh = record { counter = 0; stored = None; pending = none_pending }

-- the pending message is acknowledged, has failed, or is dropped: "counter plus one"
unfoldable pub ended : Channel → Channel
ended c = record { counter = next_id c.counter; stored = c.stored; pending = none_pending }

-- "sends the same bytes again, at most twice"
abbrev pub once_more : ℕ → ℕ
once_more retries = cond (ltb retries most_retries) (retries + 1) retries

unfoldable pub again : Channel → Channel
again c = record { counter = c.counter; stored = c.stored; pending = record { packet = c.pending.packet; retries = once_more c.pending.retries } }

-- "a pending message is dropped (counter plus one)"; "for Soft_Reset the counter is then 0, dropped or not"
abbrev pub counter_after : Bool → Bool → ℕ → ℕ
counter_after true pending counter = 0
counter_after false true counter = next_id counter
counter_after false false counter = counter

-- a new packet: "a pending message is dropped, the MessageID is stored"
unfoldable pub heard : Channel → ℕ → Bool → Channel
heard c id softReset = record { counter = counter_after softReset (is_pending c) c.counter; stored = Some id; pending = none_pending }

-- a message goes out for the first time
unfoldable pub sends : Channel → Packet → Channel
sends c m = record { counter = c.counter; stored = c.stored; pending = record { packet = m; retries = 0 } }
