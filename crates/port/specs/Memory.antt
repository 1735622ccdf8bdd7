-- "The port's memory and its actions": the memory at attach, what the states ask of it, and an answer without actions.
use Rattle.std.specs.Prelude.{ℕ, Bool, false, leb, replicate, None, Err, Option, List}
use Rattle.ground.specs.declared.Refusal.{Refusal}
use Rattle.offers.specs.declared.Offer.{Offer}
use Rattle.outgoing.specs.Packets.{no_packet}
use Rattle.channel.specs.Channel.{is_pending, fresh}
use Rattle.power.specs.declared.Change.{Change}
use Rattle.power.specs.Power.{none, standing_of}
use Rattle.source.specs.declared.State.{State}
use Rattle.source.specs.declared.Timer.{Timer}
use Rattle.source.specs.declared.Facts.{Facts}
use Rattle.source.specs.States.{running}
use Rattle.port.specs.declared.Actions.{Actions}
use Rattle.port.specs.declared.Port.{Port}
use Rattle.port.specs.declared.Answer.{Answer}

abbrev pub state_of : Port → State
state_of p = p.state

abbrev pub no_offer : Offer
no_offer = record { objects = replicate 7 0; count = 0 }

-- "Numbers are zero, none or no at attach, the newest offer aside."
abbrev pub detached_port : Offer → Port
detached_port newest =
    record {
      state = State.Detached;
      channel = fresh;
      newest = newest;
      gone_out = false;
      last = no_offer;
      power = none;
      count = 0;
      connected = false;
    }

-- "clears everything but the newest offer"
abbrev pub cleared : Port → Port
cleared p = detached_port p.newest

abbrev pub pending_in : Port → Bool
pending_in p = is_pending p.channel

-- "count plus one, but never over 50"; "once the count is 50"
abbrev pub most_offers : ℕ
most_offers = 50

abbrev pub facts_of : Port → Facts
facts_of p =
    record {
      pending = pending_in p;
      connected = p.connected;
      gone_out = p.gone_out;
      fifty = leb most_offers p.count;
      standing = standing_of p.power.contract p.last;
    }

-- the timer that runs
abbrev pub running_in : Port → Option Timer
running_in p = running (state_of p) (pending_in p)

abbrev pub no_crc : Option (List ℕ)
no_crc = None

abbrev pub no_actions : Actions
no_actions = record { good_crc = no_crc; stop = None; transmit = no_packet; hard_reset = false; supply = None; start = None }

-- "A refusal returns its number only": the same port, and no action
abbrev pub refused_by : Refusal → Port → Answer
refused_by r p = record { verdict = Err r; port = p; actions = no_actions; held = Change.Nothing }
