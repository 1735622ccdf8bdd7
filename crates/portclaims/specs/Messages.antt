-- What the claims about messages say: a message is made and goes out for the first time, goes out again, stays pending, or is gone.
use Rattle.std.specs.Prelude.{ℕ, ◌+◌, ◌<◌, ◌≤◌, ◌≡◌, true, false, List, [], ◌∷◌, eqb}
use Rattle.message.specs.declared.Fields.{Fields}
use Rattle.message.specs.Types as Types
use Rattle.meaning.specs.declared.Meaning.{Meaning}
use Rattle.reading.specs.Reading.{read_of, message_with}
use Rattle.outgoing.specs.declared.Packet.{Packet}
use Rattle.outgoing.specs.Packets.{no_packet, control_of, data_of}
use Rattle.channel.specs.Channel.{pending_id, most_retries}
use Rattle.source.specs.States.{listens}
use Rattle.port.specs.declared.Port.{Port}
use Rattle.port.specs.declared.Answer.{Answer}
use Rattle.port.specs.declared.Event.{Event}
use Rattle.port.specs.Memory.{state_of, pending_in}
use Rattle.port.specs.Packets.{meaning_in}
use Rattle.port.specs.Calls.{Call, event, packet, step, run}

-- a message of ours with this MessageID
pub data Ours : Packet → ℕ → Type 0 where
  control : (type id : ℕ) → Ours (control_of type id) id
  offer : (id : ℕ) (objects : List ℕ) (count : ℕ) → Ours (data_of Types.SourceCapabilities id objects count) id

-- message m goes out of a port for the first time: it is made with the counter as its MessageID, and is now pending
pub record First (p : Port) (m : Packet) : Type 0 where
  pub pending : p.channel.pending ≡ record { packet = m; retries = 0 }
  pub ours : Ours m p.channel.counter

-- what port p had pending goes out again: the same bytes, after fewer than two retries, and now with one more
pub record SentAgain (p : Port) (a : Answer) : Type 0 where
  pub was_pending : pending_in p ≡ true
  pub few : p.channel.pending.retries < most_retries
  pub same_bytes : a.actions.transmit ≡ p.channel.pending.packet
  pub one_more : a.port.channel.pending ≡ record { packet = p.channel.pending.packet; retries = p.channel.pending.retries + 1 }
  pub same_counter : a.port.channel.counter ≡ p.channel.counter

-- what an answer transmits
pub data Transmits (p : Port) (a : Answer) : Type 0 where
  nothing : a.actions.transmit ≡ no_packet → Transmits p a
  first : First a.port a.actions.transmit → Transmits p a
  again : SentAgain p a → Transmits p a

-- what becomes of the pending message: nothing goes out and it is just as it was, its retries too; or it goes out again; or a new one is made; or none is left
pub data Fate (p : Port) (a : Answer) : Type 0 where
  kept : a.actions.transmit ≡ no_packet → a.port.channel.pending ≡ p.channel.pending → a.port.channel.counter ≡ p.channel.counter → Fate p a
  goes_again : SentAgain p a → Fate p a
  made : First a.port a.actions.transmit → Fate p a
  gone : a.actions.transmit ≡ no_packet → pending_in a.port ≡ false → Fate p a

-- message m stays pending, from port p on through some calls, and goes out n times in them
pub data Kept (m : Packet) : ℕ → Port → List Call → Type 0 where
  to_the_end : (p : Port) → p.channel.pending.packet ≡ m → Kept m 0 p []
  quietly : (n : ℕ) (p : Port) (c : Call) (cs : List Call) → p.channel.pending.packet ≡ m →
      (step p c).actions.transmit ≡ no_packet → Kept m n (step p c).port cs → Kept m n p (c ∷ cs)
  once_more : (n : ℕ) (p : Port) (c : Call) (cs : List Call) → p.channel.pending.packet ≡ m →
      (step p c).actions.transmit ≡ m → Kept m n (step p c).port cs → Kept m (n + 1) p (c ∷ cs)

-- message m is made by one of some calls to port p, goes out in it for the first time, stays pending since, and has gone out n times by then, the first included
pub data Sent (m : Packet) : ℕ → Port → List Call → Type 0 where
  at_once : (n : ℕ) (p : Port) (c : Call) (cs : List Call) → First (step p c).port (step p c).actions.transmit →
      (step p c).actions.transmit ≡ m → Kept m n (step p c).port cs → Sent m (n + 1) p (c ∷ cs)
  later : (n : ℕ) (p : Port) (c : Call) (cs : List Call) → Sent m n (step p c).port cs → Sent m n p (c ∷ cs)

-- message m, pending after some calls to port p, was made in one of them and kept since, and has gone out once more than it has retries: at most three times
pub record Made (m : Packet) (p : Port) (cs : List Call) : Type 0 where
  pub times : ℕ
  pub sent : Sent m times p cs
  pub retried : times ≡ (run p cs).channel.pending.retries + 1
  pub at_most_three : times ≤ 3

-- a call that tells a port that its message was not heard: the acknowledgement timer, or a GoodCRC with another MessageID than the pending one
pub data Unheard (p : Port) : Call → Type 0 where
  by_timer : Unheard p (event Event.Acknowledgement)
  by_another_good_crc : (s : List ℕ) (n : ℕ) (f : Fields) → listens (state_of p) ≡ true → read_of s ≡ message_with n f → meaning_in n f ≡ Meaning.GoodCrc →
      eqb (pending_id p.channel) f.message_id ≡ false → Unheard p (packet s)
