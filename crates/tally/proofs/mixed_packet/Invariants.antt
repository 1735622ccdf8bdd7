-- `tally::mixed_packet` meets its contract: the loop has taken in the bytes passed, and what is left of the message is still to come.
use mathlib.Core.Path.{◌≡◌}
use lib.ListN.{drop}
use Rattle.tally.specs.Checksum.{mixed_all}
use Rattle.tally.proofs.mixed_packet.Given as goal

abbrev pub invariant-loop-b : goal.invariant-loop-b
invariant-loop-b l = mixed_all l.initial.mix l.b-items ≡ mixed_all l.mix (drop l.b-index l.b-items)
