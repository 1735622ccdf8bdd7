-- Where an answer leads, with all that the paper says of entering there: Offer, Soft and Hard.
use Rattle.std.specs.Prelude.{◌≡◌, true, Some, None}
use Rattle.message.specs.Types as Types
use Rattle.offers.specs.declared.Offer.{Offer}
use Rattle.outgoing.specs.Packets.{no_packet, control_of, data_of}
use Rattle.channel.specs.Channel.{fresh}
use Rattle.source.specs.declared.State.{State}
use Rattle.source.specs.declared.Timer.TheVariants.{PsHardReset}
use Rattle.port.specs.declared.Answer.{Answer}
use Rattle.port.specs.Memory.{state_of}

-- "Offer: newest offer becomes last offer and is transmitted": offer o, with the counter as its MessageID
pub record ToOffer (o : Offer) (a : Answer) : Type 0 where
  pub state : state_of a.port ≡ State.Offer
  pub sent : a.actions.transmit ≡ data_of Types.SourceCapabilities a.port.channel.counter o.objects o.count
  pub newest : a.port.newest ≡ o
  pub last : a.port.last ≡ o
  pub gone_out : a.port.gone_out ≡ true

-- "Soft: counter 0, stored cleared, transmit Soft_Reset"
pub record ToSoft (a : Answer) : Type 0 where
  pub state : state_of a.port ≡ State.Soft
  pub sent : a.actions.transmit ≡ control_of Types.SoftReset 0
  pub counter : a.port.channel.counter ≡ 0
  pub stored : a.port.channel.stored ≡ None

-- "Hard: pending dropped, counter 0, stored cleared, signal, start PSHardReset"
pub record ToHard (a : Answer) : Type 0 where
  pub state : state_of a.port ≡ State.Hard
  pub channel : a.port.channel ≡ fresh
  pub signal : a.actions.hard_reset ≡ true
  pub silent : a.actions.transmit ≡ no_packet
  pub timer : a.actions.start ≡ Some PsHardReset
