use Rattle.message.specs.Bytes.{is_chunked}
use Rattle.message.proofs.chunked.Goals as goal

pub returns : goal.returns
unfolding is_chunked
returns c = rw c.word.ensures
