-- What a way does to a port: its state, whether a message is pending, whether the newest offer has gone out, its contract and held power, its count and counter;
-- and what goes out and which timer starts. Assumes nothing.
use Prim.Native.Nat.{ℕ, ◌+◌, ◌*◌, ◌%◌}
use native.Mathlib.Omega.{arith}
use mathlib.Core.Path.{◌≡◌, refl}
use mathlib.Core.Bool.{Bool, true, false, cond, ◌&&◌, ◌||◌}
use lib.Dec.{ltb, eqb}
use borrow.Author.Tests.{lt-ltb}
use Rattle.offers.specs.declared.Asked.{Asked}
use Rattle.channel.specs.Channel.{sends}
use Rattle.power.specs.declared.Change.{Change}
use Rattle.outgoing.specs.Packets.{no_packet, control_of, data_of}
use Rattle.source.specs.declared.State.{State}
use Rattle.source.specs.declared.Way.{Way}
use Rattle.port.specs.declared.Port.{Port}
use Rattle.port.specs.Memory.{state_of, pending_in}
use Rattle.port.specs.Entering.{enter, one_offer}
use mathlib.Core.List.{[], ◌∷◌}
use Rattle.source.specs.declared.Timer.{Timer}
use Rattle.source.specs.declared.Timer.TheVariants.{SenderResponse, SourceCapability, PsHardReset}
use Rattle.port.specs.declared.Entered.{Entered}
use Rattle.portclaims.proofs.Truth.{true_not_false}
use Rattle.portclaims.proofs.Groups.{one_way_of, is_sending, is_hard, is_offer, is_offered}
use Rattle.std.specs.Prelude.{Some, None, Option}

abbrev pub state_after : State → Way → State
state_after s Way.Stay = s
state_after s Way.Offered = s
state_after s Way.Softened = s
state_after s Way.Offer = State.Offer
state_after s Way.Discovery = State.Discovery
state_after s Way.Disabled = State.Disabled
state_after s Way.Judge = State.Judge
state_after s Way.Accepting = State.Accepting
state_after s Way.Moving = State.Moving
state_after s Way.Telling = State.Telling
state_after s Way.Ready = State.Ready
state_after s Way.Declining = State.Declining
state_after s Way.Refusing = State.Refusing
state_after s Way.Waiting = State.Waiting
state_after s Way.Soft = State.Soft
state_after s Way.Answering = State.Answering
state_after s Way.Hard = State.Hard
state_after s Way.HardHeard = State.Hard
state_after s Way.Default = State.Default
state_after s Way.Detached = State.Detached

abbrev pub pending_after : Bool → Way → Bool
pending_after b w = cond (is_sending w) true (cond (is_hard w) false b)

abbrev pub gone_out_after : Bool → Way → Bool
gone_out_after b w = cond (is_offer w) true b

abbrev pub made_after : Bool → Change → Bool
made_after b Change.Nothing = b
made_after b Change.Accepted = b
made_after b Change.InForce = true
made_after b Change.GivenUp = false

-- the timer that a way starts
abbrev pub start_of : Way → Option Timer
start_of w = cond (one_way_of (Way.Offered ∷ Way.Softened ∷ []) w) (Some SenderResponse) (cond (one_way_of (Way.Discovery ∷ []) w) (Some SourceCapability) (cond (is_hard w) (Some PsHardReset) None))

-- the count after it: one offer more, or none since the last was acknowledged
abbrev pub count_after : ℕ → Way → ℕ
count_after n w = cond (is_offer w) (one_offer n) (cond (is_offered w) 0 n)

-- the counter after it: Soft and Hard start over
abbrev pub is_over : Way → Bool
is_over w = one_way_of (Way.Soft ∷ Way.Hard ∷ Way.HardHeard ∷ []) w

abbrev pub counter_after : ℕ → Way → ℕ
counter_after n w = cond (is_over w) 0 n

-- a Source_Capabilities has bytes, whatever the offer
pub some : (count : ℕ) → ltb 0 (2 + 4 * (count % 8)) ≡ true
some count = lt-ltb 0 (2 + 4 * (count % 8)) (omega arith)

-- what going a way does to a port
pub record Goes (w : Way) (p : Port) (e : Entered) : Type 0 where
  pub state : state_of e.port ≡ state_after (state_of p) w
  pub pending : pending_in e.port ≡ pending_after (pending_in p) w
  pub gone_out : e.port.gone_out ≡ gone_out_after p.gone_out w
  pub contract : e.port.power.contract ≡ p.power.contract
  pub held : e.port.power.held ≡ p.power.held
  pub start : e.start ≡ start_of w
  pub count : e.port.count ≡ count_after p.count w
  pub counter : e.port.channel.counter ≡ counter_after p.channel.counter w
  pub sent : (ltb 0 e.transmit.length && eqb e.port.channel.pending.retries 0) ≡ is_sending w
  pub quiet : is_sending w ≡ false → e.transmit ≡ no_packet
  pub alone : (is_sending w || is_hard w) ≡ false → e.port.channel ≡ p.channel

pub goes : (w : Way) (a : Asked) (p : Port) → Goes w p (enter w a p)
unfolding enter sends control_of data_of
goes Way.Offer a p = record { state = refl; pending = some p.newest.count; gone_out = refl; contract = refl; held = refl; start = refl; count = refl; counter = refl; sent = rw (some p.newest.count) refl; quiet = true_not_false; alone = true_not_false }
goes w a p = record { state = refl; pending = refl; gone_out = refl; contract = refl; held = refl; start = refl; count = refl; counter = refl; sent = refl; quiet = λ h. cc; alone = λ h. cc }
