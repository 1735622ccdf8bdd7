-- `setup::slots_of` meets its contract: the loop has filled the slots passed. Assumes nothing.
use borrow.Author.Rules.{rules}
use native.Mathlib.Omega.{arith}
use mathlib.Core.Path.{◌≡◌, ◌∙◌}
use lib.ListN.{length, length-set}
use Rattle.rack.specs.Ports.{most_ports}
use Rattle.rack.proofs.Loads.{long}
use Rattle.setup.specs.SetUps.{slot_of, no_setting}
use Rattle.setup.proofs.Filled.{filled_more, filled}
use Rattle.setup.proofs.slots_of.Goals as goal

pub loop-i-preserved : goal.loop-i-preserved
loop-i-preserved c =
    let l = c.args.settings in
    let q = c.loop-i in
    let n : length l ≡ most_ports = search (rules, long) depth 7 in
    (length-set q.slots q.i c.slot_of.result ∙ q.invariant.0, filled_more slot_of l q.slots q.i no_setting c.slot_of.result c.slot_of.ensures (omega arith) (omega (arith, q.invariant.0)) q.invariant.1)

pub returns : goal.returns
returns c =
    let l = c.args.settings in
    let q = c.loop-i in
    let n : length l ≡ most_ports = search (rules, long) depth 7 in
    filled slot_of l q.slots q.i most_ports n q.invariant.0 c.loop-i-test.false q.invariant.1
