use borrow.Author.Rules.{rules}
use mathlib.Core.Path.{sym, ◌∙◌}
use Rattle.text.proofs.Rest.{nothing, begun, gone_on, ended}
use Rattle.text.proofs.Line.put_bytes.Goals as goal

pub returns-in_default-clause-typed : goal.returns-in_default-clause-typed
returns-in_default-clause-typed c = c.put.ensures.typed ∙ sym (nothing c.args.src.now _ c.in_default.len_below)

pub loop-b-preserved : goal.loop-b-preserved
loop-b-preserved c =
    (search rules, c.loop-b.invariant.1 ∙ rw (c.put_hex-in-loop-b.ensures.typed, c.put-in-loop-b.ensures.typed) (gone_on _ c.loop-b.b-index _ c.loop-b-test.true))

pub returns-clause-typed : goal.returns-clause-typed
returns-clause-typed c =
    sym (ended _ c.loop-b.b-index _ c.loop-b-test.false) ∙ sym c.loop-b.invariant.1 ∙ rw c.put_hex.ensures.typed (sym (begun c.args.src.now _ c.in-len1-up.len_at_least))
