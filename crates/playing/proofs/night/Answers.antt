-- `playing::night` meets its contract: what is left of the night, played over what the loop holds, is the whole. Assumes nothing.
use borrow.Author.Rules.{rules}
use Prim.Native.Nat.{◌+◌, ◌-◌}
use native.Mathlib.Omega.{arith}
use mathlib.Core.Path.{◌≡◌, refl, sym, ap, ◌∙◌}
use lib.ListN.{length, drop}
use Rattle.ground.proofs.Parts.{rest}
use Rattle.rack.proofs.Loads.{from_one, place_in_slots, long}
use Rattle.tally.proofs.ByParts.{by_parts}
use Rattle.playing.specs.Meeting.{held_by}
use Rattle.playing.proofs.Sums.{rack_in}
use Rattle.playing.proofs.Kept.{none_left, stops_unlaid, stops_unread, event_reaches, set_up_reaches, absent, can_weigh, present, refused_set_up, accepted_set_up_lem}
use Rattle.playing.proofs.night.Goals as goal
use Rattle.std.specs.Prelude.{is_some}

pub loop-init : goal.loop-init
loop-init c = let all : length c.args.s.now - 0 ≡ length c.args.s.now = omega arith in record { within = search rules; long = search (rules, long) depth 7; small = c.summed-total.ensures.1; sum_is = c.summed-total.ensures.0; rest = rw all refl }

pub overflow_add-at : goal.overflow_add-at
overflow_add-at c = omega (arith, event_reaches c.loop.invariant (omega arith) _ (rest c.loop.at c.args.s.now) c.next-found.result c.next-found.ensures (sym c.turn_in.ensures ∙ c.in-Some.is), c.size-at.ensures)

pub overflow_sub-i : goal.overflow_sub-i
overflow_sub-i c = from_one (rack_in c.loop.slots c.loop.count c.loop.supply) c.in-Some.turn.number (sym c.is_in.ensures ∙ c.if-is_in.true)

pub bounds-slots-i : goal.bounds-slots-i
bounds-slots-i c = omega (arith, place_in_slots (rack_in c.loop.slots c.loop.count c.loop.supply) c.in-Some.turn.number (sym c.is_in.ensures ∙ c.if-is_in.true))

pub overflow_sub-beside : goal.overflow_sub-beside
overflow_sub-beside c = omega (arith, (can_weigh c.loop.invariant (omega arith) _ (rest c.loop.at c.args.s.now) c.next-found.result c.next-found.ensures c.in-Some.turn (sym c.turn_in.ensures ∙ c.in-Some.is) _ refl (sym c.is_in.ensures ∙ c.if-is_in.true) _ refl _ refl).0, c.load-was.ensures)

pub bounds-slots-i-then-is_in : goal.bounds-slots-i-then-is_in
bounds-slots-i-then-is_in c = omega (arith, place_in_slots (rack_in c.loop.slots c.loop.count c.loop.supply) c.in-Some.turn.number (sym c.is_in.ensures ∙ c.if-is_in.true))

pub moved-total-requires : goal.moved-total-requires
moved-total-requires c = rw c.load-was.ensures (can_weigh c.loop.invariant (omega arith) _ (rest c.loop.at c.args.s.now) c.next-found.result c.next-found.ensures c.in-Some.turn (sym c.turn_in.ensures ∙ c.in-Some.is) _ refl (sym c.is_in.ensures ∙ c.if-is_in.true) _ refl _ refl)

pub bounds-tally-k : goal.bounds-tally-k
bounds-tally-k c = omega (arith, c.verdict_number-k.ensures.1)

pub bounds-tally-k-then-is_in : goal.bounds-tally-k-then-is_in
bounds-tally-k-then-is_in c = omega (arith, c.verdict_number-k.ensures.1)

pub loop-preserved-then-is_in : goal.loop-preserved-then-is_in
loop-preserved-then-is_in c = let one_fewer : length c.args.s.now - (c.loop.counter + 1) ≡ length c.args.s.now - c.loop.counter - 1 = omega arith in rw (one_fewer, c.size-at.ensures) (present c.loop.invariant (omega arith) _ (rest c.loop.at c.args.s.now) c.next-found.result c.next-found.ensures c.in-Some.turn (sym c.turn_in.ensures ∙ c.in-Some.is) _ refl (sym c.is_in.ensures ∙ c.if-is_in.true) _ refl _ refl c.stepped-a.result (rw (← c.load-was.ensures) c.stepped-a.ensures) c.port-q.result c.port-q.ensures c.moved-total.result _ (rw (← c.load-was.ensures, ← c.load.ensures) c.moved-total.ensures) (rw (← c.load.ensures) (search rules)) (by_parts _ _ _ _ _ _ _ c.answered-sums.result c.answered-sums.ensures _ c.verdict_number-k.ensures.0 c.one_more.result c.one_more.ensures))

pub loop-preserved-in-Some : goal.loop-preserved-in-Some
loop-preserved-in-Some c = let one_fewer : length c.args.s.now - (c.loop.counter + 1) ≡ length c.args.s.now - c.loop.counter - 1 = omega arith in rw (one_fewer, c.size-at.ensures) (absent c.loop.invariant (omega arith) _ (rest c.loop.at c.args.s.now) c.next-found.result c.next-found.ensures c.in-Some.turn (sym c.turn_in.ensures ∙ c.in-Some.is) _ refl (sym c.is_in.ensures ∙ c.if-is_in.false) c.nobody-tally.result c.nobody-tally.ensures)

pub overflow_add-at-in-loop : goal.overflow_add-at-in-loop
overflow_add-at-in-loop c = omega (arith, set_up_reaches c.loop.invariant (omega arith) _ (rest c.loop.at c.args.s.now) c.next-found.result c.next-found.ensures c.in-SetUp.is, c.size-at-in-loop.ensures)

pub loop-preserved-in-Ok : goal.loop-preserved-in-Ok
loop-preserved-in-Ok c = let one_fewer : length c.args.s.now - (c.loop.counter + 1) ≡ length c.args.s.now - c.loop.counter - 1 = omega arith in rw (one_fewer, c.size-at-in-loop.ensures) (accepted_set_up_lem c.loop.invariant (omega arith) _ (rest c.loop.at c.args.s.now) c.next-found.result c.next-found.ensures c.in-SetUp.is c.in-Some-set_up.u (sym c.set_up.ensures ∙ c.in-Some-set_up.is) c.in-Ok.rack (sym c.set_up-in-loop.ensures ∙ c.in-Ok.is) c.set_up_told-tally.result c.set_up_told-tally.ensures c.summed-total-in-Ok.result (search (rules, long) depth 7) c.summed-total-in-Ok.ensures)

pub loop-preserved : goal.loop-preserved
loop-preserved c = let one_fewer : length c.args.s.now - (c.loop.counter + 1) ≡ length c.args.s.now - c.loop.counter - 1 = omega arith in rw (one_fewer, c.size-at-in-loop.ensures) (refused_set_up c.loop.invariant (omega arith) _ (rest c.loop.at c.args.s.now) c.next-found.result c.next-found.ensures c.in-SetUp.is c.in-Some-set_up.u (sym c.set_up.ensures ∙ c.in-Some-set_up.is) c.in-Err.no (sym c.set_up-in-loop.ensures ∙ c.in-Err.is) c.set_up_told-tally-in-Err.result c.set_up_told-tally-in-Err.ensures)

pub returns-in_default-set_up : goal.returns-in_default-set_up
returns-in_default-set_up c = c.held-in_default-set_up.ensures ∙ stops_unlaid c.loop.invariant (omega arith) _ (rest c.loop.at c.args.s.now) c.next-found.result c.next-found.ensures c.in-SetUp.is (ap is_some (sym c.set_up.ensures ∙ c.in_default-set_up.is))

pub returns-in_default-found : goal.returns-in_default-found
returns-in_default-found c = c.held.ensures ∙ stops_unread c.loop.invariant (omega arith) _ (rest c.loop.at c.args.s.now) c.next-found.result c.next-found.ensures (sym c.turn_in.ensures ∙ c.in_default.is) c.in_default-found.not-SetUp

pub returns : goal.returns
returns c = c.held-2.ensures ∙ sym (c.loop.invariant.rest ∙ none_left (length c.args.s.now - c.loop.counter) (held_by c.loop.slots c.loop.count c.loop.supply c.loop.tally c.loop.at) (drop c.loop.at c.args.s.now) (omega arith))
