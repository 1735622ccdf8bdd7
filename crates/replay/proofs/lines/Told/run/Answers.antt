-- What is left of the piece, gone through from here, is the whole: so it is at first, a field that a port answers by itself keeps it, as does any other, and
-- so the contract holds where no turn is left, and where a field cannot be read.
use Rattle.std.proofs.Common.{◌≡◌, ℕ, ◌+◌, ◌-◌, length, arith, rules}
use mathlib.Core.Path.{sym, ◌∙◌}
use Rattle.ground.proofs.Parts.{rest}
use Rattle.fields.proofs.Through.{begins, used_up, reaches, stops, goes_on}
use Rattle.fields.proofs.PortAlone.{reaches_alone, goes_on_alone}
use Rattle.replay.proofs.lines.Told.run.Goals as goal

-- the turns that are left
all_left : (n : ℕ) → n - 0 ≡ n
all_left n = omega arith

one_less : (n turn : ℕ) → n - (turn + 1) ≡ n - turn - 1
one_less n turn = omega arith

pub loop-turn-init : goal.loop-turn-init
loop-turn-init c = record { short = search rules; going = rw (all_left (length c.args.s.now)) (begins _ _) }

pub slice_bounds-field-count : goal.slice_bounds-field-count
slice_bounds-field-count c = omega (arith, c.loop-turn.invariant.short, c.loop-turn.invariant.going.within)

pub slice_bounds-field-start : goal.slice_bounds-field-start
slice_bounds-field-start c = omega (arith, c.loop-turn.invariant.short, c.loop-turn.invariant.going.within)

pub overflow_add-at : goal.overflow_add-at
overflow_add-at c =
    let fits = reaches_alone c.loop-turn.invariant.going _ (rest c.loop-turn.at c.args.s.now) _ _ c.slot_of-i.ensures _ c.at_port.ensures c.in-Ok.x c.in-Ok.is (sym c.has.ensures ∙ c.if-has.true) in
    omega (arith, c.loop-turn.invariant.short, fits)

pub loop-turn-preserved-in-loop-turn : goal.loop-turn-preserved-in-loop-turn
loop-turn-preserved-in-loop-turn c = record {
  short = c.loop-turn.invariant.short;
  going = rw (one_less (length c.args.s.now) c.loop-turn._turn) (goes_on_alone c.loop-turn.invariant.going _ (rest c.loop-turn.at c.args.s.now) _ _ c.slot_of-i.ensures _ c.at_port.ensures c.in-Ok.x c.in-Ok.is (sym c.has.ensures ∙ c.if-has.true) (omega (arith, c.loop-turn-test.true)));
}

pub returns-in_default : goal.returns-in_default
returns-in_default c = stops c.loop-turn.invariant.going _ (rest c.loop-turn.at c.args.s.now) c.first.result c.first.ensures _ c.in_default-2.is

pub overflow_add-at-in-loop-turn : goal.overflow_add-at-in-loop-turn
overflow_add-at-in-loop-turn c =
    let fits = reaches c.loop-turn.invariant.going _ (rest c.loop-turn.at c.args.s.now) c.first.result c.first.ensures c.in-Ok-first.f c.in-Ok-first.is in
    omega (arith, c.loop-turn.invariant.short, fits)

pub loop-turn-preserved : goal.loop-turn-preserved
loop-turn-preserved c = record {
  short = c.loop-turn.invariant.short;
  going = rw (one_less (length c.args.s.now) c.loop-turn._turn) (goes_on c.loop-turn.invariant.going _ (rest c.loop-turn.at c.args.s.now) c.first.result c.first.ensures c.in-Ok-first.f c.in-Ok-first.is (omega (arith, c.loop-turn-test.true)));
}

pub returns : goal.returns
returns c = used_up c.loop-turn.invariant.going (omega (arith, c.loop-turn-test.false))
