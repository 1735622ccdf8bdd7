use Rattle.outgoing.specs.Packets.{control_of}
use Rattle.outgoing.proofs.control.Goals as goal

pub returns : goal.returns
unfolding control_of
returns c = rw (c.copy_from_slice.ensures.after, c.header_bytes-h.ensures, c.our_fields.ensures)
