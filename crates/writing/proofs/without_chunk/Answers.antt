use mathlib.Core.Bool.{or-false}
use Rattle.ground.specs.Refusals.{any_of}
use Rattle.writing.proofs.without_chunk.Goals as goal

pub returns : goal.returns
unfolding any_of
returns c = rw (c.chunked.ensures, or-false)
