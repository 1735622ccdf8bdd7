-- A rack through any list of events at any ports.
use Rattle.std.specs.Prelude.{ℕ, List, [], ◌∷◌}
use Rattle.rack.specs.declared.Rack.{Rack}
use Rattle.rack.specs.declared.RackAnswer.{RackAnswer}
use Rattle.rack.specs.Steps.{Happening, step}

-- what comes to the port of a number
pub record Happens : Type 0 where
  pub number : ℕ
  pub happening : Happening

-- how an event at a port is answered: by the rules, or in some other way
abbrev pub Stepping : Type 0
Stepping = Rack → ℕ → Happening → RackAnswer

unfoldable pub run_by : Stepping → Rack → List Happens → Rack
run_by f r [] = r
run_by f r (e ∷ es) = run_by f (f r e.number e.happening).rack es

-- by the rules
abbrev pub run : Rack → List Happens → Rack
run r es = run_by step r es
