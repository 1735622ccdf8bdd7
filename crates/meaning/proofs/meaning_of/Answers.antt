use mathlib.Core.Path.{sym, ◌∙◌}
use Rattle.meaning.proofs.Table.{entry_is, past}
use Rattle.meaning.proofs.meaning_of.Goals as goal

pub returns-then-message_type-lt32 : goal.returns-then-message_type-lt32
returns-then-message_type-lt32 c = c.entry.ensures ∙ rw c.first-at.ensures.0 (entry_is c.args.k _ c.if-message_type-lt32.true)

pub returns-else-message_type-lt32 : goal.returns-else-message_type-lt32
returns-else-message_type-lt32 c = sym (past c.args.k _ c.if-message_type-lt32.false)
