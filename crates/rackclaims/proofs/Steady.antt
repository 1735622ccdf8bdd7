-- What is kept of a port of the rack between events. Assumes nothing.
use Prim.Native.Nat.{◌≤◌}
use mathlib.Core.Path.{◌≡◌}
use mathlib.Core.Bool.{true, false}
use Rattle.source.specs.declared.State.{State}
use Rattle.source.specs.States.{same}
use Rattle.port.specs.declared.Port.{Port}
use Rattle.port.specs.Memory.{state_of}
use Rattle.portclaims.specs.Between.{Between}
use Rattle.rackclaims.proofs.OwnSteps.{is_in_hand}

-- a port of the rack between events: it does not stand in Judge, and holds what it has accepted and not yet put in force
pub record Steady (p : Port) : Type 0 where
  pub between : Between p
  pub elsewhere : same (state_of p) State.Judge ≡ false
  pub promised : is_in_hand (state_of p) ≡ true → p.power.accepted.worth ≤ p.power.held
