use mathlib.Core.Path.{◌∙◌}
use Rattle.message.specs.Bytes.{bytes_of}
use Rattle.sending.proofs.good_crc.Goals as goal

pub returns : goal.returns
unfolding bytes_of
returns c = c.header_bytes.ensures ∙ rw (c.good_crc_revision.ensures, c.our_fields-ours.ensures)
