-- The step of a port: what the protocol rules do to its channel, what happens to held power, and where the states lead.
use Rattle.std.specs.Prelude.{ℕ, Bool, true, false, Some, None, Ok, Option, List}
use Rattle.ground.specs.declared.Refusal.TheVariants.{BadOffer, NotAwaited}
use Rattle.offers.specs.declared.Asked.{Asked}
use Rattle.offers.specs.declared.Offer.{Offer}
use Rattle.offers.specs.Offers.{good_offer}
use Rattle.channel.specs.declared.Outcome.{Outcome}
use Rattle.channel.specs.declared.Outcome.TheVariants.{NonePending, Acknowledged, Again, Failed}
use Rattle.channel.specs.Channel.{ended, again}
use Rattle.channel.specs.Outcomes.{on_expiry}
use Rattle.power.specs.declared.Change.{Change}
use Rattle.power.specs.Power.{nothing_asked, changed}
use Rattle.source.specs.declared.State.{State}
use Rattle.source.specs.declared.Stimulus.{Stimulus}
use Rattle.source.specs.declared.Timer.{Timer}
use Rattle.source.specs.declared.Way.{Way}
use Rattle.source.specs.States.{stopped}
use Rattle.stimuli.specs.Leads.{leads}
use Rattle.source.specs.Changes.{change_of}
use Rattle.port.specs.declared.Port.{Port}
use Rattle.port.specs.declared.Answer.{Answer}
use Rattle.port.specs.declared.Entered.{Entered}
use Rattle.port.specs.declared.Event.{Event}
use Rattle.port.specs.Parts.{channel_is, newest_is, gone_out_is, power_is, count_is, connected_is}
use Rattle.port.specs.Memory.{state_of, cleared, facts_of, running_in, no_crc, refused_by}
use Rattle.port.specs.Entering.{doing, quiet, enter}

-- Default ready: "contract, held, count and connected cleared"
abbrev pub with_change : Change → Port → Port
with_change Change.Nothing p = p
with_change Change.Accepted p = power_is (changed Change.Accepted p.power) p
with_change Change.InForce p = power_is (changed Change.InForce p.power) p
with_change Change.GivenUp p = count_is 0 (connected_is false (power_is (changed Change.GivenUp p.power) p))

-- the whole answer: GoodCRC, the timer that ran before if the state is left, and what was done on entering
abbrev pub answered : State → Option (List ℕ) → Option Timer → Change → Entered → Answer
answered before crc runs change e =
    record {
      verdict = Ok tt;
      port = e.port;
      actions = record { good_crc = crc; stop = stopped before (state_of e.port) runs; transmit = e.transmit; hard_reset = e.hard_reset; supply = e.supply; start = e.start };
      held = change;
    }

-- a port that was in a state goes where the rules lead
unfoldable pub turn : Port → State → Option (List ℕ) → Option Timer → Change → Way → Asked → Answer
turn p before crc runs change way a = answered before crc runs change (enter way a (with_change change p))

-- ---- what can happen, new packets aside
-- where the rules lead nowhere the event is refused; else the port, as the protocol rules leave it, goes where they lead
abbrev pub led_to : Port → Stimulus → Port → Option Timer → Option Way → Answer
led_to p e after runs None = refused_by NotAwaited p
led_to p e after runs (Some way) = turn after (state_of p) no_crc runs (change_of (state_of p) e) way nothing_asked

-- port p meets a stimulus: `after` is p with its channel after the protocol rules, `runs` the timer that still runs
unfoldable pub happens : Port → Stimulus → Port → Option Timer → Answer
happens p e after runs = led_to p e after runs (leads (state_of p) e (facts_of p))

-- "acknowledges: counter plus one"; "the send has failed: counter plus one"
abbrev pub ending : Port → Port
ending p = channel_is (ended p.channel) p

unfoldable pub acknowledged : Port → Answer
acknowledged p = happens p Stimulus.Acknowledged (ending p) (running_in p)

unfoldable pub failed : Port → Answer
failed p = happens p Stimulus.Failed (ending p) (running_in p)

-- "sends the same bytes again"
unfoldable pub resent : Port → Answer
resent p = answered (state_of p) no_crc None Change.Nothing (doing (channel_is (again p.channel) p) p.channel.pending.packet false None None)

-- "With nothing pending a GoodCRC does nothing and the timer is refusal 8."
unfoldable pub by_outcome : Outcome → Answer → Port → Answer
by_outcome NonePending none' p = none'
by_outcome Acknowledged none' p = acknowledged p
by_outcome Again none' p = resent p
by_outcome Failed none' p = failed p

unfoldable pub nothing_done : Option (List ℕ) → Port → Answer
nothing_done crc p = answered (state_of p) crc None Change.Nothing (quiet p)

-- ---- the events
-- "Leaving a state stops its running timer; one that has expired no longer runs."
unfoldable pub event_of : Port → Event → Answer
event_of p Event.Attach = happens p Stimulus.Attach (cleared p) (running_in p)
event_of p Event.Detach = happens p Stimulus.Detach (cleared p) (running_in p)
event_of p Event.HardReset = happens p Stimulus.HardReset p (running_in p)
event_of p Event.Acknowledgement = by_outcome (on_expiry p.channel) (refused_by NotAwaited p) p
event_of p Event.SenderResponse = happens p Stimulus.SenderResponse p None
event_of p Event.SourceCapability = happens p Stimulus.SourceCapability p None
event_of p Event.PsHardReset = happens p Stimulus.PsHardReset p None
event_of p Event.SupplyReady = happens p Stimulus.SupplyReady p (running_in p)
event_of p Event.Yes = happens p Stimulus.Yes p (running_in p)
event_of p Event.No = happens p Stimulus.No p (running_in p)

-- "A new offer replaces the newest."
abbrev pub replaced : Port → Offer → Port
replaced p o = newest_is o (gone_out_is false p)

abbrev pub offer_judged : Bool → Port → Offer → Answer
offer_judged true p o = happens p Stimulus.NewOffer (replaced p o) (running_in p)
offer_judged false p o = refused_by BadOffer p

unfoldable pub new_offer_of : Port → ℕ → Offer → Answer
new_offer_of p limit o = offer_judged (good_offer limit o) p o
