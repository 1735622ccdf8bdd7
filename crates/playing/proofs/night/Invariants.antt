-- `playing::night` meets its contract: what is left of the night, played over what the loop holds, is the whole. Assumes nothing.
use Prim.Native.Nat.{◌-◌}
use lib.ListN.{length}
use Rattle.playing.proofs.Sums.{rack_in}
use Rattle.playing.proofs.Kept.{Kept}
use Rattle.playing.proofs.night.Given as goal

abbrev pub invariant-loop : goal.invariant-loop
invariant-loop l = Kept (rack_in l.initial.slots l.initial.count l.initial.supply) l.initial.tally l.s l.slots l.count l.supply l.total l.tally l.at (length l.s - l.counter)
