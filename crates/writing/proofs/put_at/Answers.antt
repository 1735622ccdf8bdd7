use Rattle.message.specs.Bytes.{bytes_of}
use Rattle.ground.proofs.Laid.{over_back}
use Rattle.writing.proofs.put_at.Goals as goal

pub returns : goal.returns
unfolding bytes_of
returns c =
    let a = c.args in
    over_back (bytes_of a.f a.objects.now) _ a.place a.buf.now (rw c.pack.ensures at c.put_message.ensures)
