-- `setup::slots_of` meets its contract: the loop has filled the slots passed. Assumes nothing.
use mathlib.Core.Path.{◌≡◌}
use mathlib.Core.List.{map}
use lib.ListN.{take, length}
use Rattle.rack.specs.Ports.{most_ports}
use Rattle.setup.specs.SetUps.{slot_of}
use Rattle.setup.proofs.slots_of.Given as goal

abbrev pub invariant-loop-i : goal.invariant-loop-i
invariant-loop-i l = (length l.slots ≡ most_ports) × (take l.i l.slots ≡ map slot_of (take l.i l.settings))
