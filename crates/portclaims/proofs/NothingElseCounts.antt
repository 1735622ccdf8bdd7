-- Nothing but a message that is acknowledged, has failed or is dropped moves the counter: with nothing pending, the counter after a step is what it was, or the count
-- starts over at 0 (Soft, Hard, Answering, Detached). Assumes nothing.
use mathlib.Core.Path.{◌≡◌}
use mathlib.Core.Bool.{false}
use Rattle.port.specs.declared.Port.{Port}
use Rattle.port.specs.Memory.{pending_in}
use Rattle.port.specs.Calls.{Call, step}
use Rattle.portclaims.specs.Between.{Between}
use Rattle.portclaims.proofs.Shapes.{shape}
use Rattle.portclaims.proofs.CounterAtRest.{by_shape}
pub use Rattle.portclaims.proofs.CounterAtRest.{Rests}

module _ (p : Port) (k : Between p) (none : pending_in p ≡ false) where
  -- THE CLAIM
  pub nothing_else_counts : (c : Call) → Rests p (step p c).port
  nothing_else_counts c = by_shape p k none c (step p c) (shape p c)
