-- A plan asks the power rule exactly where the port, stepped so, has come to ask it. Assumes nothing.
use mathlib.Core.Path.{◌≡◌, refl, sym}
use mathlib.Core.Bool.{Bool, true, false, not, ◌&&◌}
use lib.Dec.{T}
use Rattle.offers.specs.declared.Offer.{Offer}
use Rattle.outgoing.specs.declared.Packet.{Packet}
use Rattle.source.specs.declared.State.{State}
use Rattle.source.specs.declared.Stimulus.{Stimulus}
use Rattle.source.specs.declared.Heard.{Heard}
use Rattle.source.specs.declared.Facts.{Facts}
use Rattle.source.specs.declared.Way.{Way}
use Rattle.source.specs.States.{same}
use Rattle.stimuli.specs.Leads.{leads}
use Rattle.hearing.specs.Packets.{on_packet}
use Rattle.source.proofs.Finite.{everywhere, at_packets}
use Rattle.port.specs.declared.Port.{Port}
use Rattle.port.specs.declared.Answer.{Answer}
use Rattle.port.specs.Memory.{state_of}
use Rattle.portclaims.specs.Between.{implies}
use Rattle.portclaims.proofs.Truth.{true_not_false}
use Rattle.portclaims.proofs.Ways.{state_after}
use Rattle.portclaims.proofs.Led.{turn_state}
use Rattle.slot.specs.Answers.{has_asked}
use Rattle.plan.specs.declared.Prior.{Prior}
use Rattle.plan.specs.declared.Plan.{Plan}
use Rattle.plan.specs.Plans.{is_judge, after, resends, performed}
use Rattle.std.specs.Prelude.{Some, None, Option}

-- ---- the tables
abbrev pub quiet_test : Option Way → Bool
quiet_test None = true
quiet_test (Some way) = not (is_judge way)

pub no_stimulus_asks : (s : State) (e : Stimulus) (f : Facts) → T (quiet_test (leads s e f))
unfolding leads
no_stimulus_asks = everywhere (λ s e f. quiet_test (leads s e f)) tt

abbrev pub ask_test : State → Option Way → Bool
ask_test s None = true
ask_test s (Some way) = implies (is_judge way) (not (same s State.Judge))

pub asks_elsewhere : (s : State) (h : Heard) → T (ask_test s (on_packet s h))
unfolding on_packet
asks_elsewhere = at_packets (λ s h. ask_test s (on_packet s h)) tt

pub is_judge_lem : (way : Way) → is_judge way ≡ true → way ≡ Way.Judge
is_judge_lem Way.Stay e = true_not_false (sym e)
is_judge_lem Way.Offered e = true_not_false (sym e)
is_judge_lem Way.Softened e = true_not_false (sym e)
is_judge_lem Way.Offer e = true_not_false (sym e)
is_judge_lem Way.Discovery e = true_not_false (sym e)
is_judge_lem Way.Disabled e = true_not_false (sym e)
is_judge_lem Way.Judge e = refl
is_judge_lem Way.Accepting e = true_not_false (sym e)
is_judge_lem Way.Moving e = true_not_false (sym e)
is_judge_lem Way.Telling e = true_not_false (sym e)
is_judge_lem Way.Ready e = true_not_false (sym e)
is_judge_lem Way.Declining e = true_not_false (sym e)
is_judge_lem Way.Refusing e = true_not_false (sym e)
is_judge_lem Way.Waiting e = true_not_false (sym e)
is_judge_lem Way.Soft e = true_not_false (sym e)
is_judge_lem Way.Answering e = true_not_false (sym e)
is_judge_lem Way.Hard e = true_not_false (sym e)
is_judge_lem Way.HardHeard e = true_not_false (sym e)
is_judge_lem Way.Default e = true_not_false (sym e)
is_judge_lem Way.Detached e = true_not_false (sym e)

-- ---- what does not lead to Judge has not asked
pub never : (b : Bool) → (not b && b) ≡ false
never true = refl
never false = refl

none : (b : Bool) → (b && false) ≡ false
none true = refl
none false = refl

unasked : (s t : State) (way : Way) → is_judge way ≡ false → (not (same s State.Judge) && same t State.Judge) ≡ false → (not (same s State.Judge) && same (state_after t way) State.Judge) ≡ false
unasked s t Way.Stay e k = k
unasked s t Way.Offered e k = k
unasked s t Way.Softened e k = k
unasked s t Way.Offer e k = none (not (same s State.Judge))
unasked s t Way.Discovery e k = none (not (same s State.Judge))
unasked s t Way.Disabled e k = none (not (same s State.Judge))
unasked s t Way.Judge e k = true_not_false e
unasked s t Way.Accepting e k = none (not (same s State.Judge))
unasked s t Way.Moving e k = none (not (same s State.Judge))
unasked s t Way.Telling e k = none (not (same s State.Judge))
unasked s t Way.Ready e k = none (not (same s State.Judge))
unasked s t Way.Declining e k = none (not (same s State.Judge))
unasked s t Way.Refusing e k = none (not (same s State.Judge))
unasked s t Way.Waiting e k = none (not (same s State.Judge))
unasked s t Way.Soft e k = none (not (same s State.Judge))
unasked s t Way.Answering e k = none (not (same s State.Judge))
unasked s t Way.Hard e k = none (not (same s State.Judge))
unasked s t Way.HardHeard e k = none (not (same s State.Judge))
unasked s t Way.Default e k = none (not (same s State.Judge))
unasked s t Way.Detached e k = none (not (same s State.Judge))

ruled_first : (x : Prior) (o : Offer) (p : Port) → (not (same (state_of p) State.Judge) && same (state_of (after x o p)) State.Judge) ≡ false
ruled_first Prior.Nothing o p = never (same (state_of p) State.Judge)
ruled_first Prior.Cleared o p = none (not (same (state_of p) State.Judge))
ruled_first Prior.Ended o p = never (same (state_of p) State.Judge)
ruled_first Prior.Again o p = never (same (state_of p) State.Judge)
ruled_first (Prior.Heard id soft) o p = never (same (state_of p) State.Judge)
ruled_first Prior.Replaced o p = never (same (state_of p) State.Judge)

same_port : (x : Prior) (m : Packet) (a : Answer) → (resends x m a).port ≡ a.port
same_port Prior.Nothing m a = refl
same_port Prior.Cleared m a = refl
same_port Prior.Ended m a = refl
same_port Prior.Again m a = refl
same_port (Prior.Heard id soft) m a = refl
same_port Prior.Replaced m a = refl

pub not_asked : (p : Port) (o : Offer) (x : Plan) → x.asks ≡ false → is_judge x.way ≡ false → has_asked p (performed p o x).port ≡ false
unfolding performed
not_asked p o x e w =
    rw (same_port x.prior p.channel.pending.packet _, e, turn_state (after x.prior o p) (state_of p) x.crc x.runs x.change x.way x.asked)
    (unasked (state_of p) (state_of (after x.prior o p)) x.way w (ruled_first x.prior o p))
