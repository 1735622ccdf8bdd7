-- "What may not be left loose": wrong programs, to be tried against the demands. Each is ours but for one lie, after which it is named.
use Rattle.std.specs.Prelude.{ℕ, max, ◌+◌, Bool, true, false, cond, ◌&&◌, ◌||◌, [], leb, eqb, Ok}
use Rattle.ground.specs.declared.Refusal.TheVariants.{NotAwaited, NotInRack}
use Rattle.message.specs.Types as Types
use Rattle.offers.specs.Objects.{position_of, is_mismatch}
use Rattle.offers.specs.Offers.{has}
use Rattle.offers.specs.Requests.{operating_fits}
use Rattle.outgoing.specs.Packets.{control_of}
use Rattle.power.specs.declared.Change.{Change}
use Rattle.power.specs.declared.Power.{Power}
use Rattle.source.specs.declared.State.{State}
use Rattle.source.specs.States.{same}
use Rattle.port.specs.declared.Port.{Port}
use Rattle.port.specs.declared.Answer.{Answer}
use Rattle.port.specs.declared.Actions.{Actions}
use Rattle.port.specs.Memory.{state_of, no_actions}
use Rattle.port.specs.Parts.{channel_is, power_is, count_is}
use Rattle.slot.specs.Load.{load_of, approves}
use Rattle.slot.specs.Answers.{has_asked, judged}
use Rattle.rack.specs.declared.Rack.{Rack}
use Rattle.rack.specs.declared.RackAnswer.{RackAnswer}
use Rattle.rack.specs.Ports.{at, ports_in, in_rack, place_of, total, others, put}
use Rattle.rack.specs.Steps.{Happening, own_answer, turned, refused_by, step}
use Rattle.rack.specs.Runs.{Stepping}
use Rattle.setup.specs.SetUps as SetUps
use Rattle.demands.specs.Programs.{Program}
use Rattle.demands.specs.Ours.{ours}
use Rattle.demands.specs.Limits.{stepped_up_to, set_up_up_to}
use Rattle.demands.specs.Fitting.{both_compared, fitting_by}
use Rattle.reading.specs.Reading.{message_with}

-- ours, stepped in another way
abbrev stepped_by : Stepping → Program
stepped_by f = record { read = ours.read; part = ours.part; write = ours.write; buffer = ours.buffer; accepted_set_up = ours.accepted_set_up; step = f }

-- ---- other power rules
abbrev answered_by : Bool → Answer → Answer → Answer
answered_by asked own answer = cond asked answer own

abbrev ruled_by : (Rack → ℕ → ℕ → Bool) → Program
ruled_by rule =
    stepped_by
    (λ r number h.
    let i = place_of number in
    let a = own_answer r i h in
    cond (in_rack r number) (turned r i (answered_by (has_asked (at r i).port a.port) a (judged (rule r i a.port.power.accepted.worth) a))) (refused_by NotInRack r))

abbrev pub rejects_everything : Program
rejects_everything = ruled_by (λ r i asked. false)

abbrev pub accepts_everything : Program
accepts_everything = ruled_by (λ r i asked. true)

abbrev pub counts_only_its_own_port : Program
counts_only_its_own_port = ruled_by (λ r i asked. approves (at r i) 0 r.supply asked)

abbrev pub forgets_the_shares_of_idle_ports : Program
forgets_the_shares_of_idle_ports = ruled_by (λ r i asked. approves (at r i) (total (λ k. cond (eqb k i) 0 (at r k).port.power.held) (ports_in r)) r.supply asked)

abbrev pub compares_with_the_wrong_limit : Program
compares_with_the_wrong_limit = ruled_by (λ r i asked. leb (others r i + max (load_of (at r i)) asked) (at r i).limit)

-- ---- answers that are changed once they are given
abbrev changed_by : (Rack → ℕ → Happening → RackAnswer → RackAnswer) → Program
changed_by f = stepped_by (λ r number h. f r number h (step r number h))

abbrev with_port : ℕ → (Port → Port) → RackAnswer → RackAnswer
with_port i f a = record { verdict = a.verdict; rack = put a.rack i (f (at a.rack i).port); actions = a.actions; held = a.held }

abbrev saying : Change → RackAnswer → RackAnswer
saying change a = record { verdict = a.verdict; rack = a.rack; actions = a.actions; held = change }

-- the Accept goes out, and nothing is said of held power
abbrev pub says_nothing_of_held_power : Program
says_nothing_of_held_power = changed_by (λ r number h a. saying Change.Nothing a)

abbrev only_accepted : Power → Power
only_accepted p = record { accepted = p.accepted; contract = p.contract; held = p.accepted.worth }

-- another answer where power is accepted, and where it is given up
abbrev when_said : Change → RackAnswer → RackAnswer → RackAnswer → RackAnswer
when_said Change.Nothing a accepted givenUp = a
when_said Change.Accepted a accepted givenUp = accepted
when_said Change.InForce a accepted givenUp = a
when_said Change.GivenUp a accepted givenUp = givenUp

abbrev pub lets_go_of_old_power_at_accept : Program
lets_go_of_old_power_at_accept = changed_by (λ r number h a. when_said a.held a (with_port (place_of number) (λ p. power_is (only_accepted p.power) p) a) a)

abbrev pub keeps_held_power_after_detach : Program
keeps_held_power_after_detach = changed_by (λ r number h a. when_said a.held a a (saying Change.Nothing (with_port (place_of number) (power_is (at r (place_of number)).port.power) a)))

-- the offer count stays at zero
abbrev pub counts_no_offer : Program
counts_no_offer = changed_by (λ r number h a. with_port (place_of number) (count_is 0) a)

-- what is pending stays so in Hard
abbrev pub keeps_the_retry_through_a_hard_reset : Program
keeps_the_retry_through_a_hard_reset =
    changed_by
    (λ r number h a.
    let i = place_of number in
    cond (same (state_of (at a.rack i).port) State.Hard) (with_port i (channel_is (at r i).port.channel) a) a)

-- in Hard, whatever comes, an Accept goes out once more
abbrev accept_once_more : Actions
accept_once_more =
    record {
      good_crc = no_actions.good_crc;
      stop = no_actions.stop;
      transmit = control_of Types.Accept 0;
      hard_reset = no_actions.hard_reset;
      supply = no_actions.supply;
      start = no_actions.start;
    }

abbrev pub invents_a_retry : Program
invents_a_retry =
    changed_by
    (λ r number h a. cond (same (state_of (at r (place_of number)).port) State.Hard) (record { verdict = Ok tt; rack = a.rack; actions = accept_once_more; held = a.held }) a)

-- ---- programs that sleep, or answer somebody else
abbrev pub does_nothing : Program
does_nothing = stepped_by (λ r number h. refused_by NotAwaited r)

abbrev pub answers_once_and_then_sleeps : Program
answers_once_and_then_sleeps = stepped_by (λ r number h. cond (same (state_of (at r (place_of number)).port) State.Detached) (step r number h) (refused_by NotAwaited r))

abbrev pub answers_another_port : Program
answers_another_port = stepped_by (λ r number h. step r (cond (eqb number 1) 2 number) h)

-- ---- other rules of fitting: no capability mismatch is heard, as before request 01; one is heard in every Request; no current of one is compared
abbrev pub hears_no_mismatch : Program
hears_no_mismatch = stepped_by (fitting_by both_compared)

abbrev pub hears_a_mismatch_in_every_request : Program
hears_a_mismatch_in_every_request = stepped_by (fitting_by operating_fits)

abbrev pub compares_no_current_of_a_mismatch : Program
compares_no_current_of_a_mismatch = stepped_by (fitting_by (λ count r o. (eqb count 1 && has o (position_of r)) && (is_mismatch r || both_compared count r o)))

-- ---- other limits: those of before request 08; and a port or a unit over ours
abbrev limited_to : ℕ → ℕ → Program
limited_to most largest = record { read = ours.read; part = ours.part; write = ours.write; buffer = ours.buffer; accepted_set_up = set_up_up_to most largest; step = stepped_up_to most }

abbrev pub stays_at_eight_ports : Program
stays_at_eight_ports = limited_to 8 1600000

abbrev pub has_thirty_three_ports : Program
has_thirty_three_ports = limited_to 33 6400000

abbrev pub takes_one_unit_more : Program
takes_one_unit_more = limited_to 32 6400001

-- ---- packets and set-ups
abbrev pub reads_all_alike : Program
reads_all_alike =
    record {
      read = λ s. message_with 0 (record { extended = false; message_id = 0; power_role = 0; revision = 2; data_role = 0; message_type = 1 });
      part = λ s. [];
      write = ours.write;
      buffer = ours.buffer;
      accepted_set_up = ours.accepted_set_up;
      step = ours.step;
    }

-- the buffer is emptied, refused or not
abbrev pub changes_the_buffer_of_a_refused_write : Program
changes_the_buffer_of_a_refused_write = record { read = ours.read; part = ours.part; write = ours.write; buffer = λ f o buf place. []; accepted_set_up = ours.accepted_set_up; step = ours.step }

abbrev pub refuses_every_set_up : Program
refuses_every_set_up = record { read = ours.read; part = ours.part; write = ours.write; buffer = ours.buffer; accepted_set_up = λ u. SetUps.judged false u; step = ours.step }
