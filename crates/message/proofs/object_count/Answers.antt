use mathlib.Core.Path.{refl}
use Rattle.message.specs.Header.{objects_of}
use Rattle.message.proofs.object_count.Goals as goal

pub returns : goal.returns
unfolding objects_of
returns c = refl
