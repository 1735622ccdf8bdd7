-- `playing::summed` meets its contract: the loop has the load of the ports passed. Assumes nothing.
use Prim.Native.Nat.{ℕ, ◌<◌, ◌≤◌, ◌*◌}
use mathlib.Core.Path.{◌≡◌}
use Rattle.slot.specs.Load.{load_of}
use Rattle.rack.specs.Ports.{at, total}
use Rattle.playing.proofs.summed.Given as goal

abbrev pub invariant-loop-s : goal.invariant-loop-s
invariant-loop-s l = (l.total ≡ total (λ k. load_of (at l.fn.r k)) l.s-index) × (l.total ≤ l.s-index * 4294967295) × ((k : ℕ) → k < l.s-index → load_of (at l.fn.r k) < 4294967296)
