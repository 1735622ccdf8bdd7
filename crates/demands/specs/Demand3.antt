-- DEMAND 3. "After an accepted set-up and through any events at any ports: the power held by all ports never exceeds the supply, no port holds more than its
-- limit, and what a port hasn't taken of its share stays free for it. A new Request that comes awaited or in Ready, fits the last offer and asks no more than the
-- port's share is accepted, whatever the other ports did. Held power is reckoned from what was accepted, put in force and given up (the history), not from sums
-- the program keeps."
use Rattle.std.specs.Prelude.{ℕ, suc, max, ◌<◌, ◌≤◌, ◌≡◌, true, false, List, Ok}
use Rattle.message.specs.declared.Fields.{Fields}
use Rattle.meaning.specs.declared.Meaning.{Meaning}
use Rattle.offers.specs.Requests.{fits, asked}
use Rattle.outgoing.specs.Packets.{on_wire}
use Rattle.channel.specs.Channel.{is_repeat}
use Rattle.port.specs.declared.Port.{Port}
use Rattle.port.specs.Memory.{state_of}
use Rattle.port.specs.Packets.{first_object, meaning_in}
use Rattle.portclaims.specs.Awaited.{awaits_request}
use Rattle.rack.specs.declared.Rack.{Rack}
use Rattle.rack.specs.Ports.{at, total}
use Rattle.rack.specs.Steps.{Happening, packet}
use Rattle.rack.specs.Runs.{Happens}
use Rattle.setup.specs.declared.SetUp.{SetUp}
use Rattle.setup.specs.SetUps.{setting, verdict_of}
use Rattle.rackclaims.specs.Wire.{is_accept}
use Rattle.rackclaims.specs.History.{held_by}
use Rattle.rackclaims.specs.Told.{told_of}
use Rattle.demands.specs.Programs.{Program, rack_now, history, AtAnyPort}
use Rattle.reading.specs.Reading.{message_with}

module _ (P : Program) (u : SetUp) (es : List Happens) where
  -- held power, by the history of the port at a place
  abbrev held : ℕ → ℕ
  held i = held_by (suc i) (history P u es)

  pub record SupplyHolds : Type 0 where
    -- the power held by all ports never exceeds the supply
    pub supply_is_never_exceeded : total (λ i. held i) u.count ≤ u.supply
    -- no port holds more than its limit
    pub limit_is_never_exceeded : (i : ℕ) → i < u.count → held i ≤ (setting u i).limit
    -- what a port hasn't taken of its share stays free for it
    pub shares_stay_free : total (λ i. max (setting u i).share (held i)) u.count ≤ u.supply

  module _ (i : ℕ) where
    abbrev r : Rack
    r = rack_now P u es

    abbrev port : Port
    port = (at r i).port

    -- a new Request that comes awaited or in Ready, fits the last offer and asks no more than the port's share is accepted, whatever the other ports did
    pub record ShareIsGranted : Type 0 where
      pub granted : (s : List ℕ) (n : ℕ) (f : Fields) → P.read s ≡ message_with n f → meaning_in n f ≡ Meaning.Request →
          is_repeat port.channel f.message_id ≡ false →
          awaits_request (state_of port) ≡ true →
          fits n (first_object (P.part s)) port.last ≡ true →
          (asked (first_object (P.part s)) port.last).worth ≤ (setting u i).share →
          is_accept (on_wire (P.step r (suc i) (packet s)).actions.transmit) ≡ true

    -- the history is true: accepted is said exactly where a Request is answered with Accept on the wire, in force exactly where Telling's PS_RDY is acknowledged, given
    -- up exactly at detach and Default ready. And it is what the program keeps
    pub record HistoryIsTrue : Type 0 where
      pub told_exactly : (h : Happening) → (P.step r (suc i) h).held ≡ told_of port (P.step r (suc i) h).actions h
      pub program_keeps_it : port.power.held ≡ held i

pub record Demand3 (P : Program) : Type 0 where
  pub supply : (u : SetUp) → verdict_of (P.accepted_set_up u) ≡ Ok tt → (es : List Happens) → SupplyHolds P u es
  pub share : AtAnyPort P (ShareIsGranted P)
  pub history : AtAnyPort P (HistoryIsTrue P)
