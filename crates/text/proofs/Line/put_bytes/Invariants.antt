-- The loop's invariant: what is left to type, typed from here, is what was left at the start.
use mathlib.Core.Path.{◌≡◌}
use lib.ListN.{drop}
use Rattle.text.specs.Text.{line, typed_rest}
use Rattle.text.proofs.Line.put_bytes.Given as goal

abbrev pub invariant-loop-b : goal.invariant-loop-b
invariant-loop-b l =
    (l.self.buffer.ghost_name ≡ l.initial.self.buffer.ghost_name) × (typed_rest l.rest (line l.initial.self.buffer.now l.initial.self.end) ≡ typed_rest (drop l.b-index l.rest) (line l.self.buffer.now l.self.end))
