-- `rack::Rack::load` meets its contract: the loop has the load of the ports passed. Assumes nothing.
use Rattle.std.proofs.Common.{rules}
use native.Mathlib.Omega.{arith}
use mathlib.Core.Path.{◌≡◌}
use lib.ListN.{length}
use Rattle.rack.specs.Ports.{most_ports}
use Rattle.rack.proofs.Loads.{load_all, long}
use Rattle.rack.proofs.Rack.load.Goals as goal

pub returns : goal.returns
returns c =
    let q = c.loop-s in
    let n : length c.args.self.slots ≡ most_ports = search (rules, long) depth 7 in
    load_all c.args.self q.total q.s-index q.invariant.0 c.ports.result c.ports.ensures (omega (arith, n)) (omega (arith, n))
