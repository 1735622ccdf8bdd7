-- The actions of both steps are one set: where the power answer comes within the event, no action of either step is lost, and there is at most one of each.
-- Assumes nothing.
use mathlib.Core.Path.{◌≡◌, refl}
use mathlib.Core.Bool.{Bool, true, false}
use mathlib.Core.List.{List}
use Prim.Native.Nat.{ℕ}
use Rattle.outgoing.specs.Packets.{no_packet}
use Rattle.port.specs.declared.Port.{Port}
use Rattle.port.specs.declared.Answer.{Answer}
use Rattle.port.specs.Memory.{no_crc}
use Rattle.port.specs.Steps.{event_of}
use Rattle.port.specs.Calls.{packet, step}
use Rattle.portclaims.proofs.AcceptExactly.{FittingRequest, comes_to_ask, asks_quietly}
use Rattle.slot.specs.Answers.{answer_of, judged}
use Rattle.rackclaims.proofs.OwnSteps.{at_yes_lem, at_no}
use Rattle.std.specs.Prelude.{None}

-- what a step has no part in, of the six actions
pub record OnlyFirstTwo (a : Answer) : Type 0 where
  pub transmit : a.actions.transmit ≡ no_packet
  pub hard_reset_lem : a.actions.hard_reset ≡ false
  pub supply : a.actions.supply ≡ None
  pub start : a.actions.start ≡ None

pub record OnlyLastFour (a : Answer) : Type 0 where
  pub good_crc_lem : a.actions.good_crc ≡ no_crc
  pub stop : a.actions.stop ≡ None

module _ (p : Port) (s : List ℕ) (q : FittingRequest p s) where
  -- THE CLAIM: the Request's own step has at most GoodCRC and a timer to stop, and these stand in the answer
  pub asking : OnlyFirstTwo (step p (packet s))
  asking = let a = asks_quietly p s q in record { transmit = a.2; hard_reset_lem = a.3; supply = a.4; start = a.5 }

  -- THE CLAIM: the power answer's step has neither, and what it has stands in the answer
  pub answering : (yes' : Bool) → OnlyLastFour (event_of (step p (packet s)).port (answer_of yes'))
  answering true = let y = at_yes_lem (step p (packet s)).port (comes_to_ask p s q).0 in record { good_crc_lem = y.joins.0; stop = y.joins.1 }
  answering false = let y = at_no (step p (packet s)).port (comes_to_ask p s q).0 in record { good_crc_lem = y.joins.0; stop = y.joins.1 }

  module _ (yes' : Bool) where
    pub first_two : ((judged yes' (step p (packet s))).actions.good_crc ≡ (step p (packet s)).actions.good_crc) × ((judged yes' (step p (packet s))).actions.stop ≡ (step p (packet s)).actions.stop)
    unfolding judged
    first_two = (refl, refl)

    abbrev second : Answer
    second = event_of (step p (packet s)).port (answer_of yes')

    pub last_four :
        ((judged yes' (step p (packet s))).actions.transmit ≡ second.actions.transmit)
        × ((judged yes' (step p (packet s))).actions.hard_reset ≡ second.actions.hard_reset)
        × ((judged yes' (step p (packet s))).actions.supply ≡ second.actions.supply)
        × ((judged yes' (step p (packet s))).actions.start ≡ second.actions.start)
    unfolding judged
    last_four = (refl, refl, refl, refl)
