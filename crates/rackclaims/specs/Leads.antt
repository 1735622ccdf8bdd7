-- "The Source states": what it is for a port to be one that the rules lead to.
use Rattle.std.specs.Prelude.{◌≡◌, List}
use Rattle.port.specs.declared.Port.{Port}
use Rattle.port.specs.Calls.{Call, run}

-- some calls lead from port p to port q
pub record Leads (p q : Port) : Type 0 where
  pub calls : List Call
  pub there : run p calls ≡ q
