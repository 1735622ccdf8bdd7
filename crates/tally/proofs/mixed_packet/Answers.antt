-- `tally::mixed_packet` meets its contract: the loop has taken in the bytes passed, and what is left of the message is still to come.
use Prim.Native.Nat.{min}
use borrow.Author.Rules.{rules}
use native.Mathlib.Omega.{arith}
use mathlib.Core.Path.{◌≡◌, sym, ap, ◌∙◌}
use lib.ListN.{length}
use Rattle.tally.specs.Checksum.{mixed_packet}
use Rattle.tally.proofs.Mixing.{all_in}
use Rattle.tally.proofs.mixed_packet.Goals as goal

pub returns : goal.returns
unfolding mixed_packet
returns c =
    let m = c.args.m in
    let q = c.loop-b in
    let long : length m.bytes ≡ 30 = search rules in
    all_in m.bytes m.length c.min-n.result q.b-index q.mix _ (c.min-n.ensures ∙ ap (min m.length) (sym long)) q.invariant (omega arith) ∙ rw c.mixed-mix.ensures
