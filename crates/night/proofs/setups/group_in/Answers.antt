-- `night::setups::group_in` meets its contract: what the whole value says is what the rest of it says of the set-up so far. Assumes nothing.
use borrow.Author.Rules.{rules}
use native.Mathlib.Omega.{arith}
use Prim.Native.Nat.{◌+◌, ◌-◌}
use mathlib.Core.Path.{◌≡◌, refl, sym, ◌∙◌}
use lib.ListN.{length}
use Rattle.night.proofs.Groups.{ended, at_supply, at_neither, at_port_lem, within}
use Rattle.night.proofs.setups.group_in.Goals as goal

pub loop-init : goal.loop-init
loop-init c =
    let s = c.args.s.now in
    let all : length s - 0 ≡ length s = omega arith in
    (search rules, rw all refl)

pub returns-then-is_supply : goal.returns-then-is_supply
returns-then-is_supply c =
    let s = c.args.s.now in
    let q = c.loop in
    let left = length s - q.counter in
    rw c.number.ensures (at_supply s q.u q.at left q.invariant.1 (omega arith) _ c.from-f.ensures (sym c.is_supply.ensures ∙ c.if-is_supply.true))

pub returns-then-not-is_port : goal.returns-then-not-is_port
returns-then-not-is_port c =
    let s = c.args.s.now in
    let q = c.loop in
    let left = length s - q.counter in
    at_neither s q.u q.at left q.invariant.1 (omega arith) _ c.from-f.ensures (sym c.is_supply.ensures ∙ c.if-is_supply.false) (sym c.is_port.ensures ∙ c.if-not-is_port.true)

pub overflow_add-at : goal.overflow_add-at
overflow_add-at c =
    let s = c.args.s.now in
    let q = c.loop in
    let left = length s - q.counter in
    omega (arith, within s q.at _ c.from-f.ensures q.invariant.0 (sym c.is_port.ensures ∙ c.if-not-is_port.false), c.size-at.ensures)

pub loop-preserved : goal.loop-preserved
loop-preserved c =
    let s = c.args.s.now in
    let q = c.loop in
    let left = length s - q.counter in
    let one_fewer : length s - (q.counter + 1) ≡ left - 1 = omega arith in
    let port = sym c.is_port.ensures ∙ c.if-not-is_port.false in
    rw (one_fewer, c.size-at.ensures, c.placed-u.ensures, c.setting_of.ensures, c.value.ensures)
    (within s q.at _ c.from-f.ensures q.invariant.0 port, at_port_lem s q.u q.at left q.invariant.1 (omega arith) _ c.from-f.ensures (sym c.is_supply.ensures ∙ c.if-is_supply.false) port)

pub returns : goal.returns
returns c =
    let s = c.args.s.now in
    let q = c.loop in
    ended s q.u q.at (length s - q.counter) q.invariant.1 (omega arith)
