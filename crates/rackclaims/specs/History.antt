-- "What may not be left loose": "held power over the history". What came to the rack and what it answered, and the power that a port holds by it; no memory of the
-- rack is read.
use Rattle.std.specs.Prelude.{ℕ, cond, List, [], ◌∷◌, eqb}
use Rattle.power.specs.declared.Change.{Change}
use Rattle.port.specs.declared.Actions.{Actions}
use Rattle.portclaims.specs.Held.{held_after}
use Rattle.rack.specs.declared.Rack.{Rack}
use Rattle.rack.specs.declared.RackAnswer.{RackAnswer}
use Rattle.rack.specs.Steps.{Happening, event, packet, new_offer, step}
use Rattle.rack.specs.Runs.{Happens, Stepping}
use Rattle.rackclaims.specs.Wire.{last_offer, worth_on}

-- an event and the answer to it: the actions, and what happened to held power
pub record Entry : Type 0 where
  pub number : ℕ
  pub happening : Happening
  pub actions : Actions
  pub change : Change

abbrev pub entry_of : Happens → RackAnswer → Entry
entry_of e a = record { number = e.number; happening = e.happening; actions = a.actions; change = a.held }

unfoldable pub history_by : Stepping → Rack → List Happens → List Entry
history_by f r [] = []
history_by f r (e ∷ es) = entry_of e (f r e.number e.happening) ∷ history_by f (f r e.number e.happening).rack es

-- by the rules
abbrev pub history : Rack → List Happens → List Entry
history r es = history_by step r es

-- what is known of a port by the history: the last offer put on its wire, the worth of the request last accepted, and the power held
pub record Known : Type 0 where
  pub offer : List ℕ
  pub accepted : ℕ
  pub held : ℕ

abbrev pub nothing_yet : Known
nothing_yet = record { offer = []; accepted = 0; held = 0 }

-- what an event asks, if it is a Request
abbrev pub asked_by : List ℕ → Happening → ℕ
asked_by offer (packet s) = worth_on offer s
asked_by offer (event e) = 0
asked_by offer (new_offer o) = 0

-- the worth of the request last accepted
abbrev pub accepted_after : Change → ℕ → ℕ → ℕ
accepted_after Change.Accepted asked before = asked
accepted_after Change.Nothing asked before = before
accepted_after Change.InForce asked before = before
accepted_after Change.GivenUp asked before = before

-- one event at the port more
abbrev pub after : Known → Entry → Known
after x e =
    record {
      offer = last_offer e.actions.transmit x.offer;
      accepted = accepted_after e.change (asked_by x.offer e.happening) x.accepted;
      held = held_after e.change x.held (accepted_after e.change (asked_by x.offer e.happening) x.accepted);
    }

-- only what came to the port of this number counts
abbrev pub noted : ℕ → Known → Entry → Known
noted number x e = cond (eqb e.number number) (after x e) x

abbrev pub known_after : ℕ → Known → List Entry → Known
known_after number x [] = x
known_after number x (e ∷ es) = known_after number (noted number x e) es

-- the power that the port of a number holds, by a history from the set-up on
unfoldable pub held_by : ℕ → List Entry → ℕ
held_by number es = (known_after number nothing_yet es).held
