-- A port goes where the tables lead: the state after a step, from the state before it. Assumes nothing.
use mathlib.Core.Path.{◌≡◌, refl, subst, ◌∙◌}
use mathlib.Core.Bool.{Bool, true, cond}
use lib.Dec.{T}
use Rattle.offers.specs.declared.Asked.{Asked}
use Rattle.channel.specs.Channel.{ended}
use Rattle.power.specs.declared.Change.{Change}
use Rattle.source.specs.declared.State.{State}
use Rattle.source.specs.declared.Stimulus.{Stimulus}
use Rattle.source.specs.declared.Timer.{Timer}
use Rattle.source.specs.declared.Way.{Way}
use Rattle.source.specs.States.{same}
use Rattle.port.specs.declared.Port.{Port}
use Rattle.port.specs.Memory.{state_of, pending_in, running_in}
use Rattle.port.specs.Steps.{with_change, turn}
use Rattle.port.specs.Calls.{Call}
use Rattle.portclaims.proofs.Groups.{clears, expiring}
use Rattle.portclaims.proofs.Ways as Ways
use Rattle.portclaims.proofs.Tables as Tables
use Rattle.portclaims.proofs.Shapes.{is_expiry, Rule, by_acknowledgement, by_failure}
use Rattle.std.specs.Prelude.{Some, None, Option, List, ℕ}

pub change_state : (p : Port) (c : Change) → state_of (with_change c p) ≡ state_of p
change_state p Change.Nothing = refl
change_state p c = refl

pub change_channel : (p : Port) (c : Change) → (with_change c p).channel ≡ p.channel
change_channel p Change.Nothing = refl
change_channel p c = refl

-- what the protocol rules do to a port before its state leads on, and to the timer that runs
pub record Ruled (p : Port) (c : Call) (e : Stimulus) (q : Port) (t : Option Timer) : Type 0 where
  pub state : state_of q ≡ Tables.ruled_state e (state_of p)
  pub pending : pending_in q ≡ Tables.ruled_pending e (pending_in p)
  pub count : q.count ≡ cond (clears e) 0 p.count
  pub expiry : is_expiry c ≡ expiring e
  pub runs : t ≡ cond (expiring e) None (running_in p)
  pub possible : Tables.possible e (pending_in p) ≡ true

pub ruled : (p : Port) (c : Call) (e : Stimulus) (q : Port) (t : Option Timer) → Rule p c e q t → Ruled p c e q t
unfolding ended
ruled p c e q t (by_acknowledgement d u on) = record { state = refl; pending = refl; count = refl; expiry = u; runs = refl; possible = on }
ruled p c e q t (by_failure d u on) = record { state = refl; pending = refl; count = refl; expiry = u; runs = refl; possible = on }
ruled p c e q t rule = record { state = refl; pending = refl; count = refl; expiry = refl; runs = refl; possible = refl }

pub turn_state : (q : Port) (s : State) (crc : Option (List ℕ)) (t : Option Timer) (c : Change) (w : Way) (a : Asked) → state_of (turn q s crc t c w a).port ≡ Ways.state_after (state_of q) w
unfolding turn
turn_state q s crc t c w a = (Ways.goes w a (with_change c q)).state ∙ rw (change_state q c)

pub turn_pending : (q : Port) (s : State) (crc : Option (List ℕ)) (t : Option Timer) (c : Change) (w : Way) (a : Asked) → pending_in (turn q s crc t c w a).port ≡ Ways.pending_after (pending_in q) w
unfolding turn
turn_pending q s crc t c w a = (Ways.goes w a (with_change c q)).pending ∙ rw (change_channel q c)

pub led_state : (p : Port) (c : Call) (e : Stimulus) (q : Port) (t : Option Timer) → Rule p c e q t → (crc : Option (List ℕ)) (u : Option Timer) (d : Change) (w : Way) (a : Asked) →
    state_of (turn q (state_of p) crc u d w a).port ≡ Ways.state_after (Tables.ruled_state e (state_of p)) w
led_state p c e q t rule crc u d w a = turn_state q (state_of p) crc u d w a ∙ rw (ruled p c e q t rule).state

-- a test of where the rules lead, at the way that they led
pub at_way : (t : Option Way → Bool) (l : Option Way) (w : Way) → l ≡ Some w → T (t l) → T (t (Some w))
at_way t l w e x = subst (λ (y : Option Way). T (t y)) e x

pub is_same : (s t : State) → s ≡ t → same t t ≡ true → same s t ≡ true
is_same s t e h = rw e h
