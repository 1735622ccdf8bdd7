use mathlib.Core.Path.{◌∙◌}
use Rattle.playing.proofs.Meets.{as_stepped}
use Rattle.playing.proofs.turns.stepped.Goals as goal

pub returns : goal.returns
returns c = c.done.ensures ∙ rw (c.met.ensures, c.offer_in-o.ensures) (as_stepped _ _ _ _ _)
