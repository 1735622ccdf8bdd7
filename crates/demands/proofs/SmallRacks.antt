-- With at most 8 ports and 1,600,000 units both limits come to the same (the claims are AsBeforeUpToEightPorts). Assumes nothing.
use Prim.Native.Nat.{◌≤◌}
use native.Mathlib.Omega.{arith}
use mathlib.Core.Path.{◌≡◌, refl}
use borrow.Author.Tests.{le-leb}
use Rattle.rack.specs.declared.Rack.{Rack}
use Rattle.rack.specs.Ports.{ports_in}
use Rattle.setup.specs.declared.SetUp.{SetUp}
use Rattle.setup.specs.SetUps.{good_set_up}
use Rattle.demands.specs.Limits.{ports_up_to, good_up_to}

-- a set-up
pub same_judgement : (u : SetUp) → u.count ≤ 8 → u.supply ≤ 1600000 → good_up_to 8 1600000 u ≡ good_set_up u
unfolding good_set_up
same_judgement u few small = rw (le-leb u.count 8 few, le-leb u.count 32 (omega (arith, few)), le-leb u.supply 1600000 small, le-leb u.supply 6400000 (omega (arith, small))) refl

-- a rack
pub same_ports : (r : Rack) → r.count ≤ 8 → ports_up_to 8 r ≡ ports_in r
same_ports r few = omega (arith, few)
