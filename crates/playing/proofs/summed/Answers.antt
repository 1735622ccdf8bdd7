-- `playing::summed` meets its contract: the loop has the load of the ports passed. Assumes nothing.
use Rattle.std.proofs.Common.{rules}
use native.Mathlib.Omega.{arith}
use mathlib.Core.Path.{◌≡◌}
use lib.ListN.{length}
use Rattle.rack.specs.Ports.{most_ports}
use Rattle.rack.proofs.Loads.{load_all, long}
use Rattle.playing.proofs.summed.Goals as goal

pub returns : goal.returns
returns c =
    let q = c.loop-s in
    let r = c.args.r in
    let n : length r.slots ≡ most_ports = search (rules, long) depth 7 in (
      load_all r q.total q.s-index q.invariant.0 c.ports.result c.ports.ensures (omega (arith, n)) (omega (arith, n)),
      λ k h. q.invariant.2 k (omega (arith, n, c.ports.ensures, h)),
    )
