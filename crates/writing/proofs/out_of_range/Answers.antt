use mathlib.Core.Bool.{or_assoc, or-false}
use Rattle.ground.specs.Refusals.{any_of}
use Rattle.writing.proofs.out_of_range.Goals as goal

pub returns : goal.returns
unfolding any_of
returns c = simp (or_assoc, or-false)
