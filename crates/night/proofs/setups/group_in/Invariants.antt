-- `night::setups::group_in` meets its contract: what the whole value says is what the rest of it says of the set-up so far. Assumes nothing.
use Prim.Native.Nat.{◌-◌, ◌≤◌}
use mathlib.Core.Path.{◌≡◌}
use lib.ListN.{length, drop}
use Rattle.night.specs.SetUps.{no_set_up, group_in}
use Rattle.night.proofs.setups.group_in.Given as goal

abbrev pub invariant-loop : goal.invariant-loop
invariant-loop l = (l.at ≤ length l.s) × (group_in (length l.s) no_set_up l.s ≡ group_in (length l.s - l.counter) l.u (drop l.at l.s))
