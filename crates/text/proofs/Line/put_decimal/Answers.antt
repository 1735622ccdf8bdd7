use Prim.Native.Nat.{◌<◌, ◌≤◌}
use borrow.Author.Rules.{rules}
use native.Mathlib.Omega.{arith}
use mathlib.Core.Path.{◌∙◌}
use lib.ListN.{length}
use Rattle.text.proofs.Digits.{first, further, full}
use Rattle.text.proofs.Line.put_decimal.Goals as goal

pub returns-then-left-lt10-clause-typed : goal.returns-then-left-lt10-clause-typed
returns-then-left-lt10-clause-typed c =
    let turn = c.loop-i in
    let digits = first turn.digits turn.i turn.left (search rules) turn.invariant.1 (search rules) c.if-left-lt10.true in
    rw (turn.invariant.2, digits, ← c.glyph.ensures, ← turn.invariant.0) c.put.ensures.typed

pub loop-i-preserved : goal.loop-i-preserved
loop-i-preserved c =
    let turn = c.loop-i in
    let some : 0 < turn.i = search rules in
    let within : turn.i ≤ length turn.digits = omega arith in
    let more = further turn.digits turn.i turn.left some within c.if-left-lt10.false in
    (turn.invariant.0, search rules, turn.invariant.2 ∙ rw c.glyph.ensures more)

pub returns-clause-typed : goal.returns-clause-typed
returns-clause-typed c =
    let turn = c.loop-i in
    rw (turn.invariant.2, full turn.digits turn.i turn.left (search rules), ← turn.invariant.0) c.put-2.ensures.typed
