-- `outgoing::with_objects` meets its contract: the header and the objects passed stand one behind the other. Assumes nothing.
use Prim.Native.Nat.{◌+◌, ◌*◌}
use mathlib.Core.Path.{◌≡◌}
use mathlib.Core.List.{◌++◌}
use lib.ListN.{length, take}
use Rattle.outgoing.specs.Packets.{object_bytes}
use Rattle.outgoing.proofs.with_objects.Given as goal

abbrev pub invariant-loop-i : goal.invariant-loop-i
invariant-loop-i l = (length l.bytes ≡ 30) × (take (2 + 4 * l.i) l.bytes ≡ take 2 l.initial.bytes ++ object_bytes (take l.i l.fn.objects))
