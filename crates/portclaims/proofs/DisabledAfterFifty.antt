-- A port comes to be Disabled only after fifty offers since the count was last cleared. Assumes nothing.
use Prim.Native.Nat.{◌≤◌}
use native.Mathlib.Omega.{arith}
use mathlib.Core.Path.{◌≡◌, refl, sym, ap, ◌∙◌}
use mathlib.Core.Bool.{Bool, true, false, not, ◌&&◌}
use mathlib.Core.List.{List}
use lib.Dec.{T, leb, leb→le}
use Rattle.offers.specs.declared.Offer.{Offer}
use Rattle.power.specs.declared.Change.{Change}
use Rattle.power.specs.Power.{nothing_asked}
use Rattle.source.specs.declared.State.{State}
use Rattle.source.specs.declared.Stimulus.{Stimulus}
use Rattle.source.specs.declared.Heard.{Heard}
use Rattle.source.specs.declared.Facts.{Facts}
use Rattle.source.specs.States.{same}
use Rattle.stimuli.specs.Leads.{leads}
use Rattle.hearing.specs.Packets.{on_packet}
use Rattle.source.specs.Changes.{change_of}
use Rattle.source.proofs.Finite.{everywhere, at_packets}
use Rattle.port.specs.declared.Port.{Port}
use Rattle.port.specs.declared.Answer.{Answer}
use Rattle.port.specs.Memory.{state_of, facts_of, running_in, no_crc, most_offers, detached_port}
use Rattle.port.specs.Steps.{nothing_done, resent}
use Rattle.port.specs.Packets.{heard_as, asked_by, is_soft_reset, crc_for, hearing}
use Rattle.port.specs.Calls.{Call, step, run}
use Rattle.portclaims.specs.Between.{implies}
use Rattle.portclaims.specs.OfferCount.{offers_since}
use Rattle.portclaims.proofs.Truth.{so, holds, true_not_false, then, and, not_true}
use Rattle.portclaims.proofs.Ways as Ways
use Rattle.portclaims.proofs.Tables as Tables
use Rattle.portclaims.proofs.Led.{turn_state, led_state, at_way, is_same}
use Rattle.portclaims.proofs.Shapes.{fit_in, Shape, refused, idle, again as sent_again, led, heard, shape}
use Rattle.portclaims.proofs.OfferCount.{count_is_offers}
use Rattle.std.specs.Prelude.{Some, None, Option}
use Rattle.source.specs.declared.Way.{Way}

abbrev disabled_test : State → Stimulus → Facts → Option Way → Bool
disabled_test s e f None = true
disabled_test s e f (Some way) = implies (not (same s State.Disabled) && same (Ways.state_after (Tables.ruled_state e s) way) State.Disabled) f.fifty

only_fifty : (s : State) (e : Stimulus) (f : Facts) → T (disabled_test s e f (leads s e f))
unfolding leads
only_fifty = everywhere (λ s e f. disabled_test s e f (leads s e f)) tt

abbrev deaf_test : State → Option Way → Bool
deaf_test s None = true
deaf_test s (Some way) = not (same (Ways.state_after s way) State.Disabled)

no_packet_disables : (s : State) (h : Heard) → T (deaf_test s (on_packet s h))
unfolding on_packet
no_packet_disables = at_packets (λ s h. deaf_test s (on_packet s h)) tt

module _ (p : Port) (elsewhere : same (state_of p) State.Disabled ≡ false) where
  remains : {A : Type 0} → state_of p ≡ State.Disabled → A
  remains e = true_not_false (sym (is_same (state_of p) State.Disabled e refl) ∙ elsewhere)

  fifty : (c : Call) (a : Answer) → Shape p c a → state_of a.port ≡ State.Disabled → leb most_offers p.count ≡ true
  unfolding nothing_done resent
  fifty c a (refused d r) e = remains e
  fifty c a (idle d u crc) e = remains e
  fifty c a (sent_again d u on few) e = remains e
  fifty c a (led d s q t way rule l) e =
      then (not (same (state_of p) State.Disabled) && same (Ways.state_after (Tables.ruled_state s (state_of p)) way) State.Disabled) (leb most_offers p.count)
      (at_way (disabled_test (state_of p) s (facts_of p)) (leads (state_of p) s (facts_of p)) way l (only_fifty (state_of p) s (facts_of p)))
      (and (not (same (state_of p) State.Disabled)) _ (ap not elsewhere) (is_same _ State.Disabled (sym (led_state p d s q t rule no_crc t (change_of (state_of p) s) way nothing_asked) ∙ e) refl))
  fifty c a (heard s n f m way new l) e =
      true_not_false
      (sym (is_same _ State.Disabled (sym (turn_state (hearing p f.message_id (is_soft_reset m)) (state_of p) (crc_for f) (running_in p) Change.Nothing way (asked_by (fit_in p n s))) ∙ e) refl)
      ∙ not_true _ (holds _ (at_way (deaf_test (state_of p)) (on_packet (state_of p) (heard_as m f.message_type (fit_in p n s))) way l (no_packet_disables (state_of p) (heard_as m f.message_type (fit_in p n s))))))

  -- THE CLAIM: who comes to be Disabled had a count of fifty
  pub disabled_only_after_fifty : (c : Call) → state_of (step p c).port ≡ State.Disabled → leb most_offers p.count ≡ true
  disabled_only_after_fifty c e = fifty c (step p c) (shape p c) e

-- THE CLAIM: whatever calls a port has been through from the start, if it is not Disabled then and one call more makes it so, it had made fifty offers since the count
-- was last cleared
pub disabled_after_fifty_offers : (o : Offer) (cs : List Call) (c : Call) → same (state_of (run (detached_port o) cs)) State.Disabled ≡ false →
    state_of (step (run (detached_port o) cs) c).port ≡ State.Disabled → 50 ≤ offers_since 0 (detached_port o) cs
disabled_after_fifty_offers o cs c elsewhere e =
    let full = leb→le most_offers (run (detached_port o) cs).count (so _ (disabled_only_after_fifty (run (detached_port o) cs) elsewhere c e)) in
    omega (arith, full, count_is_offers o cs)
