-- "The power held by all ports never exceeds the supply, no port holds more than its limit, and what a port hasn't taken of its share stays free for it":
-- of a rack as it stands, with its own supply, shares and limits.
use Rattle.std.specs.Prelude.{ℕ, max, ◌<◌, ◌≤◌}
use Rattle.rack.specs.declared.Rack.{Rack}
use Rattle.rack.specs.Ports.{at, ports_in, total}

-- the power that the port at a place holds
abbrev pub held_in : Rack → ℕ → ℕ
held_in r i = (at r i).port.power.held

pub record InSupply (r : Rack) : Type 0 where
  pub held : total (λ i. held_in r i) (ports_in r) ≤ r.supply
  pub limits : (i : ℕ) → i < ports_in r → held_in r i ≤ (at r i).limit
  pub shares : total (λ i. max (at r i).share (held_in r i)) (ports_in r) ≤ r.supply
