-- What happens to held power in an event is what the answer says: nothing; accepted, the larger of held and asked; in force, the accepted worth; given up, zero.
-- Assumes nothing.
use mathlib.Core.Path.{◌≡◌, refl, sym, ap, subst, ◌∙◌}
use mathlib.Core.Bool.{Bool, true, not}
use lib.Dec.{T}
use Rattle.offers.specs.declared.Asked.{Asked}
use Rattle.power.specs.declared.Change.{Change}
use Rattle.power.specs.Power.{nothing_asked, changed}
use Rattle.source.specs.declared.State.{State}
use Rattle.source.specs.declared.Stimulus.{Stimulus}
use Rattle.source.specs.declared.Timer.{Timer}
use Rattle.source.specs.declared.Facts.{Facts}
use Rattle.source.specs.declared.Way.{Way}
use Rattle.source.specs.States.{same}
use Rattle.stimuli.specs.Leads.{leads}
use Rattle.source.specs.Changes.{change_of}
use Rattle.source.proofs.Finite.{everywhere}
use Rattle.port.specs.declared.Port.{Port}
use Rattle.port.specs.declared.Answer.{Answer}
use Rattle.port.specs.Memory.{state_of, pending_in, facts_of, running_in, no_crc}
use Rattle.port.specs.Steps.{with_change, turn, nothing_done, resent}
use Rattle.port.specs.Packets.{asked_by, is_soft_reset, crc_for, hearing}
use Rattle.port.specs.Calls.{Call, step}
use Rattle.portclaims.specs.Held.{held_after}
use Rattle.portclaims.specs.Between.{calm, is_made, worth_in, Between}
use Rattle.portclaims.proofs.Truth.{holds, true_not_false, second, not_true}
use Rattle.portclaims.proofs.Ways as Ways
use Rattle.portclaims.proofs.Led.{at_way}
use Rattle.portclaims.proofs.Shapes.{Rule, by_attach, fit_in, Shape, refused, idle, again, led, heard, shape}
use Rattle.std.specs.Prelude.{Some, None, Option, List, ℕ}

with_change_lem : (c : Change) (q : Port) → (with_change c q).power.held ≡ held_after c q.power.held q.power.accepted.worth
unfolding changed
with_change_lem Change.Nothing q = refl
with_change_lem c q = refl

turn_holds : (q : Port) (s : State) (crc : Option (List ℕ)) (t : Option Timer) (c : Change) (w : Way) (a : Asked) →
    (turn q s crc t c w a).port.power.held ≡ held_after c q.power.held q.power.accepted.worth
unfolding turn
turn_holds q s crc t c w a = (Ways.goes w a (with_change c q)).held ∙ with_change_lem c q

-- only a port that is Detached is attached
abbrev attach_test : State → Option Way → Bool
attach_test s None = true
attach_test s (Some way) = same s State.Detached

only_detached : (s : State) (f : Facts) → T (attach_test s (leads s Stimulus.Attach f))
unfolding leads
only_detached s f = everywhere (λ s e f. attach_test s (leads s Stimulus.Attach f)) tt s Stimulus.Attach f

module _ (p : Port) (k : Between p) where
  nothing_held : same (state_of p) State.Detached ≡ true → p.power.held ≡ 0
  nothing_held d = by_contract p.power.contract refl
    where
      detached_is : (s : State) → same s State.Detached ≡ true → s ≡ State.Detached
      detached_is State.Detached e = refl
      detached_is s e = true_not_false (sym e)

      here : state_of p ≡ State.Detached
      here = detached_is (state_of p) d

      none : not (is_made p.power.contract) ≡ true
      none = second (not (pending_in p)) (not (is_made p.power.contract)) (subst (λ (s : State). calm s (pending_in p) p.gone_out (is_made p.power.contract) ≡ true) here k.calmly)

      by_contract : (c : Option Asked) → p.power.contract ≡ c → p.power.held ≡ 0
      by_contract None e = k.holds (rw here refl) ∙ ap worth_in e
      by_contract (Some a) e = true_not_false (sym (ap is_made e) ∙ not_true (is_made p.power.contract) none)

  by_rule : (c : Call) (e : Stimulus) (q : Port) (t : Option Timer) → Rule p c e q t → (way : Way) → leads (state_of p) e (facts_of p) ≡ Some way →
      held_after (change_of (state_of p) e) q.power.held q.power.accepted.worth ≡ held_after (change_of (state_of p) e) p.power.held p.power.accepted.worth
  unfolding change_of
  by_rule c e q t by_attach way l = sym (nothing_held (so_same (at_way (attach_test (state_of p)) (leads (state_of p) Stimulus.Attach (facts_of p)) way l (only_detached (state_of p) (facts_of p)))))
    where
      so_same : T (same (state_of p) State.Detached) → same (state_of p) State.Detached ≡ true
      so_same x = holds (same (state_of p) State.Detached) x
  by_rule c e q t rule way l = refl

  by_shape : (c : Call) (a : Answer) → Shape p c a → a.port.power.held ≡ held_after a.held p.power.held p.power.accepted.worth
  unfolding turn nothing_done resent
  by_shape c a (refused d r) = refl
  by_shape c a (idle d u crc) = refl
  by_shape c a (again d u on few) = refl
  by_shape c a (led d e q t way rule l) = turn_holds q (state_of p) no_crc t (change_of (state_of p) e) way nothing_asked ∙ by_rule d e q t rule way l
  by_shape c a (heard s n f m way new l) = turn_holds (hearing p f.message_id (is_soft_reset m)) (state_of p) (crc_for f) (running_in p) Change.Nothing way (asked_by (fit_in p n s))

  -- THE CLAIM
  pub held_by_change : (c : Call) → (step p c).port.power.held ≡ held_after (step p c).held p.power.held p.power.accepted.worth
  held_by_change c = by_shape c (step p c) (shape p c)
