-- "Judge": "In the rack the answer comes within the same event."
use Rattle.std.specs.Prelude.{ℕ, Bool, true, false, cond, not, ◌&&◌}
use Rattle.source.specs.declared.State.{State}
use Rattle.source.specs.States.{same}
use Rattle.port.specs.declared.Event.{Event}
use Rattle.port.specs.declared.Port.{Port}
use Rattle.port.specs.declared.Answer.{Answer}
use Rattle.port.specs.Memory.{state_of}
use Rattle.port.specs.Steps.{event_of}
use Rattle.slot.specs.declared.Slot.{Slot}
use Rattle.slot.specs.Load.{approves}

-- whether a port has come to ask the power rule
abbrev pub has_asked : Port → Port → Bool
has_asked before after = not (same (state_of before) State.Judge) && same (state_of after) State.Judge

abbrev pub answer_of : Bool → Event
answer_of true = Event.Yes
answer_of false = Event.No

-- two steps of a port in one event, their actions one set: a port that comes to ask has no more to do than to send GoodCRC and to stop a timer, and the
-- power answer has it do the rest
abbrev pub joined : Answer → Answer → Answer
joined a b =
    record {
      verdict = b.verdict;
      port = b.port;
      actions =
          record {
            good_crc = a.actions.good_crc;
            stop = a.actions.stop;
            transmit = b.actions.transmit;
            hard_reset = b.actions.hard_reset;
            supply = b.actions.supply;
            start = b.actions.start;
          };
      held = b.held;
    }

-- the answer to a port that has asked, with the power answer in it
unfoldable pub judged : Bool → Answer → Answer
judged yes' a = joined a (event_of a.port (answer_of yes'))

-- a port's own answer; with the power answer where it has asked
unfoldable pub settled : Slot → ℕ → ℕ → Answer → Answer
settled s others supply a = cond (has_asked s.port a.port) (judged (approves s others supply a.port.power.accepted.worth) a) a
