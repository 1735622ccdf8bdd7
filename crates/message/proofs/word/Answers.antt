use Rattle.message.specs.Bytes.{word_of}
use Rattle.std.proofs.lemmas.Grind.{common_steps}
use Rattle.std.proofs.Common.{arith}
use Rattle.message.proofs.word.Goals as goal

pub returns : goal.returns
unfolding word_of
returns c = grind (arith, common_steps)
