use borrow.Author.Tests.{lt-ltb, le-ltb}
use mathlib.Core.Bool.{or-false}
use Rattle.ground.specs.Refusals.{any_of}
use Rattle.writing.proofs.too_little_room.Goals as goal

pub returns-then-size-place : goal.returns-then-size-place
unfolding any_of
returns-then-size-place c = rw (lt-ltb _ _ c.if-size-place.true)

pub returns-else-size-place : goal.returns-else-size-place
unfolding any_of
returns-else-size-place c = rw (le-ltb _ _ c.if-size-place.false, or-false)
