-- The loop's invariant: what is left of the number, in front of the digits so far, is the whole of it.
use mathlib.Core.Path.{◌≡◌}
use mathlib.Core.List.{[]}
use lib.ListN.{length, drop}
use Rattle.text.specs.Text.{digits_before}
use Rattle.text.proofs.Line.put_decimal.Given as goal

abbrev pub invariant-loop-i : goal.invariant-loop-i
invariant-loop-i l =
    (l.self ≡ l.initial.self) × (length l.digits ≡ 10) × (digits_before 10 l.n [] ≡ digits_before l.i l.left (drop l.i l.digits))
