use mathlib.Core.Path.{◌∙◌}
use Rattle.port.specs.Calls as Port
use Rattle.rack.specs.Steps.{answer_at, step}
use Rattle.rack.proofs.Rack.packet.Goals as goal

pub returns-then-has : goal.returns-then-has
unfolding Port.step answer_at step
returns-then-has c = c.turned.ensures ∙ rw (c.packet.ensures, c.slot.ensures, ← c.has.ensures, c.if-has.true)

pub returns : goal.returns
unfolding Port.step answer_at step
returns c = c.refused.ensures ∙ rw (← c.has.ensures, c.if-has.false)
