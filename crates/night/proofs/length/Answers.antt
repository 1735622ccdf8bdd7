use borrow.Author.Rules.{rules}
use Rattle.night.specs.Fields.{length_of}
use Rattle.night.proofs.length.Goals as goal

pub returns : goal.returns
unfolding length_of
returns c = (rw (c.word.ensures, c.from.ensures), search rules)
