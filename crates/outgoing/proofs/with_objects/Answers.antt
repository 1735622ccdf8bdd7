-- `outgoing::with_objects` meets its contract: the header and the objects passed stand one behind the other. Assumes nothing.
use borrow.Author.Rules.{rules}
use native.Mathlib.Omega.{arith}
use mathlib.Core.Path.{◌≡◌, ◌∙◌}
use lib.ListN.{length, get_or}
use borrow.Rule.Slice.PartMut.{same_len_mid}
use Rattle.outgoing.specs.Packets.{data_of, four_bytes}
use Rattle.outgoing.proofs.Laid.{laid_more, laid_all}
use Rattle.outgoing.proofs.with_objects.Goals as goal

pub loop-i-preserved : goal.loop-i-preserved
loop-i-preserved c =
    let q = c.loop-i in
    let n : length c.args.objects ≡ 7 = search rules in
    let object : c.copy_from_slice-in-loop-i.new.self ≡ four_bytes (get_or c.args.objects q.i 0) = c.copy_from_slice-in-loop-i.ensures.after ∙ c.to_le_bytes.ensures in
    (same_len_mid _ _ q.bytes _ c.copy_from_slice-in-loop-i.ensures.len ∙ q.invariant.0, laid_more _ c.args.objects q.bytes q.i q.invariant.1 _ _ q.invariant.0 n (omega arith) object)

pub returns : goal.returns
unfolding data_of
returns c =
    let q = c.loop-i in
    let n : length c.args.objects ≡ 7 = search rules in
    rw (laid_all _ c.args.objects q.bytes q.i q.invariant.1 q.invariant.0 n (omega arith), c.copy_from_slice.ensures.after, c.header_bytes-h.ensures, c.our_fields.ensures)
