-- "The Source states": what is done where the rules lead. Each line is the paper's sentence on entering that state.
use Rattle.std.specs.Prelude.{ℕ, ◌+◌, Bool, true, false, cond, ltb, Some, None, Option}
use Rattle.message.specs.Types as Types
use Rattle.outgoing.specs.declared.Packet.{Packet}
use Rattle.outgoing.specs.Packets.{no_packet, control_of, data_of}
use Rattle.channel.specs.Channel.{fresh, sends}
use Rattle.offers.specs.declared.Asked.{Asked}
use Rattle.power.specs.Power.{judges}
use Rattle.source.specs.declared.State.{State}
use Rattle.source.specs.declared.Timer.{Timer}
use Rattle.source.specs.declared.Timer.TheVariants.{SenderResponse, SourceCapability, PsHardReset}
use Rattle.source.specs.declared.Way.{Way}
use Rattle.source.specs.declared.Way.TheVariants.{Stay, Offered, Softened, HardHeard}
use Rattle.port.specs.declared.Supply.{Supply}
use Rattle.port.specs.declared.Supply.TheVariants.{Position}
use Rattle.port.specs.declared.Port.{Port}
use Rattle.port.specs.declared.Entered.{Entered}
use Rattle.port.specs.Parts.{to, channel_is, gone_out_is, last_is, power_is, count_is, connected_is}
use Rattle.port.specs.Memory.{most_offers}

-- ---- a port, with at most one thing done
abbrev pub doing : Port → Packet → Bool → Option Supply → Option Timer → Entered
doing p m signal supply start = record { port = p; transmit = m; hard_reset = signal; supply = supply; start = start }

abbrev pub quiet : Port → Entered
quiet p = doing p no_packet false None None

abbrev pub starts : Option Timer → Port → Entered
starts t p = doing p no_packet false None t

abbrev pub supplies : Option Supply → Port → Entered
supplies x p = doing p no_packet false x None

-- a message goes out for the first time, and is pending
abbrev pub transmits : Packet → Port → Entered
transmits m p = doing (channel_is (sends p.channel m) p) m false None None

-- a control message of ours, with the counter as its MessageID
abbrev pub tells : ℕ → Port → Entered
tells type p = transmits (control_of type p.channel.counter) p

-- the newest offer as a Source_Capabilities, with the counter as its MessageID
abbrev pub capabilities : Port → Packet
capabilities p = data_of Types.SourceCapabilities p.channel.counter p.newest.objects p.newest.count

-- "count plus one, but never over 50"
abbrev pub one_offer : ℕ → ℕ
one_offer count = cond (ltb count most_offers) (count + 1) most_offers

-- "newest offer becomes last offer"
abbrev pub offering : Port → Port
offering p = last_is p.newest (gone_out_is true (count_is (one_offer p.count) p))

-- "counter 0, stored cleared", with a pending message dropped
abbrev pub unchannelled : Port → Port
unchannelled p = channel_is fresh p

-- Hard: "pending dropped, counter 0, stored cleared, signal (not if heard), start PSHardReset"
abbrev pub hardened : Bool → Port → Entered
hardened signal p = doing (to State.Hard (unchannelled p)) no_packet signal None (Some PsHardReset)

unfoldable pub enter : Way → Asked → Port → Entered
enter Stay a p = quiet p
enter Offered a p = starts (Some SenderResponse) (count_is 0 (connected_is true p))
enter Softened a p = starts (Some SenderResponse) p
enter Way.Offer a p = transmits (capabilities p) (to State.Offer (offering p))
enter Way.Discovery a p = starts (Some SourceCapability) (to State.Discovery p)
enter Way.Disabled a p = quiet (to State.Disabled p)
enter Way.Judge a p = quiet (to State.Judge (power_is (judges p.power a) p))
enter Way.Accepting a p = tells Types.Accept (to State.Accepting p)
enter Way.Moving a p = supplies (Some (Position p.power.accepted.position)) (to State.Moving p)
enter Way.Telling a p = tells Types.PsRdy (to State.Telling p)
enter Way.Ready a p = quiet (to State.Ready p)
enter Way.Declining a p = tells Types.NotSupported (to State.Declining p)
enter Way.Refusing a p = tells Types.Reject (to State.Refusing p)
enter Way.Waiting a p = quiet (to State.Waiting p)
enter Way.Soft a p = tells Types.SoftReset (to State.Soft (unchannelled p))
enter Way.Answering a p = tells Types.Accept (to State.Answering p)
enter Way.Hard a p = hardened true p
enter HardHeard a p = hardened false p
enter Way.Default a p = supplies (Some Supply.Default) (to State.Default p)
enter Way.Detached a p = quiet (to State.Detached p)
