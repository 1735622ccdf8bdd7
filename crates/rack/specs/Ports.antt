-- "Power rule": the ports of a rack, what they take of the supply, and what the rule says of a port that asks.
use Rattle.std.specs.Prelude.{ℕ, zero, suc, ◌+◌, ◌-◌, min, Bool, false, cond, ◌&&◌, [], leb, eqb, get_or, set, None}
use Rattle.source.specs.declared.State.{State}
use Rattle.port.specs.declared.Port.{Port}
use Rattle.slot.specs.declared.Slot.{Slot}
use Rattle.slot.specs.Load.{load_of, approves}
use Rattle.rack.specs.declared.Rack.{Rack}

-- "1 to 8 ports"; Req 08: "The new shelf has 32 ports"
abbrev pub most_ports : ℕ
most_ports = 32

-- what stands past the end of the slots; no port of a rack is there
abbrev pub nobody : Slot
nobody =
    record {
      port =
          record {
            state = State.Detached;
            channel = record { counter = 0; stored = None; pending = record { packet = record { bytes = []; length = 0 }; retries = 0 } };
            newest = record { objects = []; count = 0 };
            gone_out = false;
            last = record { objects = []; count = 0 };
            power = record { accepted = record { position = 0; voltage = 0; current = 0; worth = 0 }; contract = None; held = 0 };
            count = 0;
            connected = false;
          };
      share = 0;
      limit = 0;
    }

-- the port at a place, counted from 0
abbrev pub at : Rack → ℕ → Slot
at r i = get_or r.slots i nobody

-- how many ports there are
abbrev pub ports_in : Rack → ℕ
ports_in r = min r.count most_ports

-- "ports, numbered from 1"
abbrev pub in_rack : Rack → ℕ → Bool
in_rack r number = leb 1 number && leb number (ports_in r)

abbrev pub place_of : ℕ → ℕ
place_of number = number - 1

-- f 0 + .. + f (n - 1)
abbrev pub total : (ℕ → ℕ) → ℕ → ℕ
total f zero = 0
total f (suc n) = total f n + f n

-- the sum over all ports of max(share, held)
unfoldable pub loads : Rack → ℕ
loads r = total (λ k. load_of (at r k)) (ports_in r)

-- "the sum over the other ports of max(share, held)"
unfoldable pub others : Rack → ℕ → ℕ
others r i = total (λ k. cond (eqb k i) 0 (load_of (at r k))) (ports_in r)

-- the power rule, of the port at a place that asks so much
unfoldable pub power_rule : Rack → ℕ → ℕ → Bool
power_rule r i asked = approves (at r i) (others r i) r.supply asked

-- the rack with another port at a place
abbrev pub put : Rack → ℕ → Port → Rack
put r i p = record { slots = set r.slots i (record { port = p; share = (at r i).share; limit = (at r i).limit }); count = r.count; supply = r.supply }
