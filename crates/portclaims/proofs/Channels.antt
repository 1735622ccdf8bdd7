-- The pending MessageID is the counter, and no message is sent again more than twice: kept by every protocol rule and on every way. Assumes nothing.
use Prim.Native.Nat.{ℕ, ◌+◌, ◌<◌, ◌≤◌}
use native.Mathlib.Omega.{arith}
use mathlib.Core.Path.{◌≡◌, refl, sym}
use mathlib.Core.Bool.{Bool, true, false, cond}
use mathlib.Core.List.{List}
use lib.Dec.{ltb, lit<}
use Rattle.message.specs.Types as Types
use Rattle.offers.specs.declared.Asked.{Asked}
use Rattle.outgoing.specs.Packets.{control_of, data_of}
use Rattle.outgoing.proofs.Whole.{control_id, data_id}
use Rattle.channel.specs.declared.Channel.{Channel}
use Rattle.channel.specs.Channel.{is_pending, pending_id, most_retries, counter_after, fresh, ended, again, heard, sends}
use Rattle.source.specs.declared.Way.{Way}
use Rattle.port.specs.declared.Port.{Port}
use Rattle.port.specs.Entering.{enter}
use Rattle.portclaims.specs.Between.{Numbered}
use Rattle.portclaims.proofs.Truth.{below, true_not_false}

pub numbered_fresh : Numbered fresh
numbered_fresh = record { id = λ h. true_not_false (sym h); below = omega arith; few = omega arith }

pub numbered_ended : (c : Channel) → Numbered c → Numbered (ended c)
unfolding ended
numbered_ended c n = record { id = λ h. true_not_false (sym h); below = omega arith; few = omega arith }

once_more_few : (r : ℕ) (b : Bool) → ltb r most_retries ≡ b → r ≤ most_retries → cond b (r + 1) r ≤ most_retries
once_more_few r true e h = omega (arith, below r most_retries e)
once_more_few r false e h = h

pub numbered_again : (c : Channel) → Numbered c → Numbered (again c)
unfolding again pending_id
numbered_again c n = record { id = n.id; below = n.below; few = once_more_few c.pending.retries (ltb c.pending.retries most_retries) refl n.few }

after< : (soft pending : Bool) (counter : ℕ) → counter < 8 → counter_after soft pending counter < 8
after< true pending counter h = omega arith
after< false true counter h = omega arith
after< false false counter h = h

pub numbered_heard : (c : Channel) (id : ℕ) (soft : Bool) → Numbered c → Numbered (heard c id soft)
unfolding heard
numbered_heard c id soft n = record { id = λ h. true_not_false (sym h); below = after< soft (is_pending c) c.counter n.below; few = omega arith }

module _ (c : Channel) (n : Numbered c) where
  numbered_tells : (type : ℕ) → type < 32 → Numbered (sends c (control_of type c.counter))
  unfolding sends pending_id
  numbered_tells type t = record { id = λ h. control_id type c.counter t n.below; below = n.below; few = omega arith }

  numbered_offers : (objects : List ℕ) (count : ℕ) → Numbered (sends c (data_of Types.SourceCapabilities c.counter objects count))
  unfolding sends pending_id
  numbered_offers objects count = record { id = λ h. data_id Types.SourceCapabilities c.counter (lit< tt) n.below objects count; below = n.below; few = omega arith }

pub numbered_enters : (w : Way) (a : Asked) (p : Port) → Numbered p.channel → Numbered (enter w a p).port.channel
unfolding enter
numbered_enters Way.Offer a p n = numbered_offers p.channel n p.newest.objects p.newest.count
numbered_enters Way.Accepting a p n = numbered_tells p.channel n Types.Accept (lit< tt)
numbered_enters Way.Telling a p n = numbered_tells p.channel n Types.PsRdy (lit< tt)
numbered_enters Way.Declining a p n = numbered_tells p.channel n Types.NotSupported (lit< tt)
numbered_enters Way.Refusing a p n = numbered_tells p.channel n Types.Reject (lit< tt)
numbered_enters Way.Soft a p n = numbered_tells fresh numbered_fresh Types.SoftReset (lit< tt)
numbered_enters Way.Answering a p n = numbered_tells p.channel n Types.Accept (lit< tt)
numbered_enters Way.Hard a p n = numbered_fresh
numbered_enters Way.HardHeard a p n = numbered_fresh
numbered_enters w a p n = n
