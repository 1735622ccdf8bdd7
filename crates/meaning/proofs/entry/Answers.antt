-- `meaning::entry` gives the rule's meaning: the checker compares the constant table with the rule's own, at all 96 entries at once.
use borrow.Author.Rules.{rules}
use Rattle.ground.proofs.Table.{at}
use Rattle.meaning.specs.declared.Meaning.TheVariants.{Unsupported}
use Rattle.meaning.specs.Meaning.{meaning_of, entry_of}
use Rattle.meaning.proofs.entry.Goals as goal

pub returns : goal.returns
unfolding meaning_of entry_of
returns c = at entry_of Unsupported 96 c.args.at (search rules)
