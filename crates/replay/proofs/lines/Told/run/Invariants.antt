-- The invariant: what is left of the piece, gone through from here, is the whole.
use Rattle.std.proofs.Common.{◌-◌, ◌<◌, ◌^◌, length}
use Rattle.fields.proofs.Through.{Going}
use Rattle.replay.proofs.lines.Told.run.Given as goal

abbrev pub invariant-loop-turn : goal.invariant-loop-turn
invariant-loop-turn l = record { short : length l.s < 2 ^ 64; going : Going l.initial.rack l.s l.rack l.at (length l.s - l._turn) }
