-- A port's step in two: what is decided, for which the port is only read, and what is done, all at once. `proofs/SameAsStepping` shows that the two are the
-- port's step with the power answer in it; nobody has to believe the definitions here.
use Rattle.std.specs.Prelude.{ℕ, Bool, true, false, cond, not, ◌&&◌, List, Some, None, Ok, Err, Option, Result}
use Rattle.ground.specs.declared.Refusal.{Refusal}
use Rattle.ground.specs.declared.Refusal.TheVariants.{BadOffer, NotAwaited}
use Rattle.message.specs.declared.Fields.{Fields}
use Rattle.meaning.specs.declared.Meaning.{Meaning}
use Rattle.reading.specs.Reading.{read_of, part_of}
use Rattle.offers.specs.declared.Asked.{Asked}
use Rattle.offers.specs.declared.Offer.{Offer}
use Rattle.offers.specs.Offers.{good_offer}
use Rattle.offers.specs.Requests.{fit_of}
use Rattle.outgoing.specs.declared.Packet.{Packet}
use Rattle.channel.specs.declared.Channel.{Channel}
use Rattle.channel.specs.declared.Outcome.{Outcome}
use Rattle.channel.specs.declared.Outcome.TheVariants.{NonePending, Acknowledged, Again, Failed}
use Rattle.channel.specs.Channel.{fresh, is_repeat, ended, again, heard}
use Rattle.channel.specs.Outcomes.{on_expiry, on_good_crc}
use Rattle.power.specs.declared.Change.{Change}
use Rattle.power.specs.declared.Power.{Power}
use Rattle.power.specs.Power.{nothing_asked, judges}
use Rattle.source.specs.declared.Stimulus.{Stimulus}
use Rattle.source.specs.declared.Timer.{Timer}
use Rattle.source.specs.declared.Way.{Way}
use Rattle.source.specs.States.{listens}
use Rattle.stimuli.specs.Leads.{leads}
use Rattle.source.specs.Changes.{change_of}
use Rattle.hearing.specs.Packets.{on_packet}
use Rattle.port.specs.declared.Port.{Port}
use Rattle.port.specs.declared.Answer.{Answer}
use Rattle.port.specs.declared.Event.{Event}
use Rattle.port.specs.Parts.{channel_is, power_is}
use Rattle.port.specs.Memory.{state_of, cleared, facts_of, running_in, no_crc, refused_by}
use Rattle.port.specs.Steps.{turn, ending, replaced}
use Rattle.port.specs.Packets.{first_object, meaning_in, heard_as, asked_by, is_soft_reset, crc_for, hearing}
use Rattle.slot.specs.declared.Slot.{Slot}
use Rattle.slot.specs.Load.{approves}
use Rattle.plan.specs.declared.Prior.{Prior}
use Rattle.plan.specs.declared.Cue.{Cue}
use Rattle.plan.specs.declared.Met.{Met}
use Rattle.plan.specs.declared.Plan.{Plan}
use Rattle.reading.specs.declared.Message.{Message}

-- ---- what comes to a port, once the protocol rules have been asked
abbrev pub plain : Cue → Prior → Met
plain cue prior = record { cue = cue; prior = prior; crc = no_crc; asked = nothing_asked }

abbrev pub met_outcome : Outcome → Cue → Met
met_outcome NonePending none = plain none Prior.Nothing
met_outcome Acknowledged _ = plain (Cue.Meets Stimulus.Acknowledged false) Prior.Ended
met_outcome Again _ = plain Cue.Done Prior.Again
met_outcome Failed _ = plain (Cue.Meets Stimulus.Failed false) Prior.Ended

unfoldable pub met_event : Channel → Event → Met
met_event c Event.Attach = plain (Cue.Meets Stimulus.Attach false) Prior.Cleared
met_event c Event.Detach = plain (Cue.Meets Stimulus.Detach false) Prior.Cleared
met_event c Event.HardReset = plain (Cue.Meets Stimulus.HardReset false) Prior.Nothing
met_event c Event.Acknowledgement = met_outcome (on_expiry c) (Cue.Refused NotAwaited)
met_event c Event.SenderResponse = plain (Cue.Meets Stimulus.SenderResponse true) Prior.Nothing
met_event c Event.SourceCapability = plain (Cue.Meets Stimulus.SourceCapability true) Prior.Nothing
met_event c Event.PsHardReset = plain (Cue.Meets Stimulus.PsHardReset true) Prior.Nothing
met_event c Event.SupplyReady = plain (Cue.Meets Stimulus.SupplyReady false) Prior.Nothing
met_event c Event.Yes = plain (Cue.Meets Stimulus.Yes false) Prior.Nothing
met_event c Event.No = plain (Cue.Meets Stimulus.No false) Prior.Nothing

abbrev pub met_repeat : Fields → Met
met_repeat f = record { cue = Cue.Done; prior = Prior.Nothing; crc = crc_for f; asked = nothing_asked }

abbrev pub met_new : Fields → Meaning → Option Asked → Met
met_new f m fit = record { cue = Cue.Hears (heard_as m f.message_type fit); prior = Prior.Heard f.message_id (is_soft_reset m); crc = crc_for f; asked = asked_by fit }

abbrev pub is_good_crc : Meaning → Bool
is_good_crc Meaning.Unsupported = false
is_good_crc Meaning.GoodCrc = true
is_good_crc Meaning.Reply = false
is_good_crc Meaning.GetSourceCap = false
is_good_crc Meaning.SoftReset = false
is_good_crc Meaning.Quiet = false
is_good_crc Meaning.Request = false

unfoldable pub met_meaning : Meaning → Port → Fields → Option Asked → Met
met_meaning m p f fit =
    cond (is_good_crc m) (met_outcome (on_good_crc p.channel f.message_id) Cue.Done)
    (cond (is_repeat p.channel f.message_id && not (is_soft_reset m)) (met_repeat f)
    (met_new f m fit))

unfoldable pub met_message : Port → ℕ → Fields → Option Asked → Met
met_message p objects f fit = cond (listens (state_of p)) (met_meaning (meaning_in objects f) p f fit) (plain (Cue.Refused NotAwaited) Prior.Nothing)

abbrev pub met_reading : Result Message Refusal → Port → List ℕ → Met
met_reading (Ok m) p s = met_message p m.objects m.fields (fit_of m.objects (first_object (part_of s)) p.last)
met_reading (Err r) p s = plain (Cue.Refused r) Prior.Nothing

unfoldable pub met_packet : Port → List ℕ → Met
met_packet p s = met_reading (read_of s) p s

unfoldable pub met_offer : ℕ → Offer → Met
met_offer limit o = cond (good_offer limit o) (plain (Cue.Meets Stimulus.NewOffer false) Prior.Replaced) (plain (Cue.Refused BadOffer) Prior.Nothing)

-- ---- what is to be done
abbrev pub goes : Met → Option Timer → Change → Bool → Way → Plan
goes m runs change asks way = record { prior = m.prior; crc = m.crc; runs = runs; change = change; way = way; asks = asks; asked = m.asked }

abbrev pub is_judge : Way → Bool
is_judge Way.Stay = false
is_judge Way.Offered = false
is_judge Way.Softened = false
is_judge Way.Offer = false
is_judge Way.Discovery = false
is_judge Way.Disabled = false
is_judge Way.Judge = true
is_judge Way.Accepting = false
is_judge Way.Moving = false
is_judge Way.Telling = false
is_judge Way.Ready = false
is_judge Way.Declining = false
is_judge Way.Refusing = false
is_judge Way.Waiting = false
is_judge Way.Soft = false
is_judge Way.Answering = false
is_judge Way.Hard = false
is_judge Way.HardHeard = false
is_judge Way.Default = false
is_judge Way.Detached = false

abbrev pub still_runs : Bool → Option Timer → Option Timer
still_runs true t = None
still_runs false t = t

abbrev pub plan_led : Option Way → Stimulus → Bool → Port → Met → Result Plan Refusal
plan_led None e expired p m = Err NotAwaited
plan_led (Some way) e expired p m = Ok (goes m (still_runs expired (running_in p)) (change_of (state_of p) e) false way)

abbrev pub plan_heard : Option Way → Port → Met → Result Plan Refusal
plan_heard None p m = Err NotAwaited
plan_heard (Some way) p m = Ok (goes m (running_in p) Change.Nothing (is_judge way) way)

abbrev pub plan_by : Cue → Port → Met → Result Plan Refusal
plan_by (Cue.Refused r) p m = Err r
plan_by Cue.Done p m = Ok (goes m None Change.Nothing false Way.Stay)
plan_by (Cue.Meets e expired) p m = plan_led (leads (state_of p) e (facts_of p)) e expired p m
plan_by (Cue.Hears h) p m = plan_heard (on_packet (state_of p) h) p m

unfoldable pub plan_of : Port → Met → Result Plan Refusal
plan_of p m = plan_by m.cue p m

-- the power answer within the event
abbrev pub answered_by : Bool → Plan → Plan
answered_by true x = record { prior = x.prior; crc = x.crc; runs = x.runs; change = Change.Accepted; way = Way.Accepting; asks = true; asked = x.asked }
answered_by false x = record { prior = x.prior; crc = x.crc; runs = x.runs; change = Change.Nothing; way = Way.Refusing; asks = true; asked = x.asked }

unfoldable pub with_answer : Slot → ℕ → ℕ → Plan → Plan
with_answer t others supply x = cond x.asks (answered_by (approves t others supply x.asked.worth) x) x

abbrev pub settled_plan : Slot → ℕ → ℕ → Result Plan Refusal → Result Plan Refusal
settled_plan t others supply (Ok x) = Ok (with_answer t others supply x)
settled_plan t others supply (Err r) = Err r

-- ---- what is done
-- the port as the protocol rules leave it, or with the new offer o
abbrev pub after : Prior → Offer → Port → Port
after Prior.Nothing o p = p
after Prior.Cleared o p = cleared p
after Prior.Ended o p = ending p
after Prior.Again o p = channel_is (again p.channel) p
after (Prior.Heard id soft) o p = hearing p id soft
after Prior.Replaced o p = replaced p o

abbrev pub judging : Bool → Asked → Port → Port
judging true a p = power_is (judges p.power a) p
judging false a p = p

-- the same, part by part
abbrev pub base : Prior → Offer → Port → Port
base Prior.Nothing o p = p
base Prior.Cleared o p = cleared p
base Prior.Ended o p = p
base Prior.Again o p = p
base (Prior.Heard id soft) o p = p
base Prior.Replaced o p = replaced p o

abbrev pub channel_after : Prior → Channel → Channel
channel_after Prior.Nothing c = c
channel_after Prior.Cleared c = fresh
channel_after Prior.Ended c = ended c
channel_after Prior.Again c = again c
channel_after (Prior.Heard id soft) c = heard c id soft
channel_after Prior.Replaced c = c

abbrev pub is_heard : Prior → Bool
is_heard Prior.Nothing = false
is_heard Prior.Cleared = false
is_heard Prior.Ended = false
is_heard Prior.Again = false
is_heard (Prior.Heard id soft) = true
is_heard Prior.Replaced = false

abbrev pub power_judging : Bool → Asked → Power → Power
power_judging true a w = judges w a
power_judging false a w = w

abbrev pub transmits : Packet → Answer → Answer
transmits m a =
    record {
      verdict = a.verdict;
      port = a.port;
      actions =
          record {
            good_crc = a.actions.good_crc;
            stop = a.actions.stop;
            transmit = m;
            hard_reset = a.actions.hard_reset;
            supply = a.actions.supply;
            start = a.actions.start;
          };
      held = a.held;
    }

abbrev pub resends : Prior → Packet → Answer → Answer
resends Prior.Nothing m a = a
resends Prior.Cleared m a = a
resends Prior.Ended m a = a
resends Prior.Again m a = transmits m a
resends (Prior.Heard id soft) m a = a
resends Prior.Replaced m a = a

unfoldable pub performed : Port → Offer → Plan → Answer
performed p o x = resends x.prior p.channel.pending.packet (turn (judging x.asks x.asked (after x.prior o p)) (state_of p) x.crc x.runs x.change x.way x.asked)

abbrev pub done_plan : Port → Offer → Result Plan Refusal → Answer
done_plan p o (Ok x) = performed p o x
done_plan p o (Err r) = refused_by r p

-- a port's answer; o is the new offer, where one has come
unfoldable pub done_of : Slot → Offer → Met → ℕ → ℕ → Answer
done_of t o m others supply = done_plan t.port o (settled_plan t others supply (plan_of t.port m))
