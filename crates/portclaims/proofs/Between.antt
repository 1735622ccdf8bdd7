-- What may be relied on between events holds of a port that nothing is attached to, and is kept by every event, packet and new offer; so it holds after any
-- list of them. Assumes nothing.
use Prim.Native.Nat.{ℕ, ◌+◌, ◌≤◌}
use native.Mathlib.Omega.{arith}
use mathlib.Core.Path.{◌≡◌, refl, sym, ap, subst, ◌∙◌}
use mathlib.Core.Bool.{Bool, true, false, not, cond, ◌&&◌}
use mathlib.Core.List.{List, [], ◌∷◌}
use lib.Dec.{T, ltb}
use Rattle.offers.specs.declared.Asked.{Asked}
use Rattle.offers.specs.declared.Offer.{Offer}
use Rattle.channel.specs.declared.Channel.{Channel}
use Rattle.channel.specs.Channel.{is_pending, fresh, ended, again, heard, sends}
use Rattle.power.specs.declared.Change.{Change}
use Rattle.power.specs.Power.{nothing_asked, changed, standing_of, by_offer}
use Rattle.offers.specs.Requests.{is_honoured}
use Rattle.source.specs.declared.State.{State}
use Rattle.source.specs.declared.Stimulus.{Stimulus}
use Rattle.source.specs.declared.Timer.{Timer}
use Rattle.source.specs.declared.Heard.{Heard}
use Rattle.source.specs.declared.Way.{Way}
use Rattle.source.specs.States.{same}
use Rattle.stimuli.specs.Leads.{leads}
use Rattle.hearing.specs.Packets.{on_packet}
use Rattle.source.specs.Changes.{change_of}
use Rattle.port.specs.declared.Port.{Port}
use Rattle.port.specs.declared.Answer.{Answer}
use Rattle.port.specs.Memory.{state_of, detached_port, cleared, pending_in, facts_of, most_offers}
use Rattle.port.specs.Entering.{enter}
use Rattle.port.specs.Steps.{with_change, turn, ending, resent, nothing_done}
use Rattle.port.specs.Packets.{heard_as, asked_by, is_soft_reset, hearing}
use Rattle.port.specs.Calls.{Call, step, run}
use Rattle.portclaims.specs.Between.{implies, pends, calm, is_made, in_between, worth_in, is_reset, Numbered, Between}
use Rattle.portclaims.proofs.Truth.{below, so, holds, true_not_false, then, and, first, second, not_true, not_false}
use Rattle.portclaims.proofs.Ways as Ways
use Rattle.portclaims.proofs.Channels.{numbered_fresh, numbered_ended, numbered_again, numbered_heard, numbered_enters}
use Rattle.portclaims.proofs.Tables as Tables
use Rattle.portclaims.proofs.Led.{change_state, change_channel}
use Rattle.portclaims.proofs.Shapes.{Rule, by_attach, by_detach, by_acknowledgement, by_failure, by_offer_lem, fit_in, Shape, refused, idle, again as sent_again, led, heard as is-heard, shape}
use Rattle.std.specs.Prelude.{Some, None, Option}

-- ---- the parts of what is relied on that a way keeps or makes
abbrev Known : Port → Type 0
Known p = (id : ℕ) → p.channel.stored ≡ Some id → p.connected ≡ true

abbrev Shown : Port → Type 0
Shown p = p.gone_out ≡ true → p.newest ≡ p.last

none_stored : {A : Type 0} (id : ℕ) → None ≡ Some id → A
none_stored id e = cc

known_enters : (w : Way) (a : Asked) (p : Port) → Known p → Known (enter w a p).port
unfolding enter sends
known_enters Way.Offered a p k = λ id e. refl
known_enters Way.Soft a p k = none_stored
known_enters Way.Hard a p k = none_stored
known_enters Way.HardHeard a p k = none_stored
known_enters w a p k = k

shown_enters : (w : Way) (a : Asked) (p : Port) → Shown p → Shown (enter w a p).port
unfolding enter
shown_enters Way.Offer a p k = λ e. refl
shown_enters w a p k = k

one_offer≤ : (n : ℕ) (b : Bool) → ltb n most_offers ≡ b → n ≤ most_offers → cond b (n + 1) most_offers ≤ most_offers
one_offer≤ n true e h = omega (arith, below n most_offers e)
one_offer≤ n false e h = omega arith

counted_enters : (w : Way) (a : Asked) (p : Port) → p.count ≤ most_offers → (enter w a p).port.count ≤ most_offers
unfolding enter
counted_enters Way.Offered a p h = omega arith
counted_enters Way.Offer a p h = one_offer≤ p.count (ltb p.count most_offers) refl h
counted_enters w a p h = h

-- where a way leads to a state whose channel is as at attach, the channel is so
reset_enters : (w : Way) (a : Asked) (p : Port) → (is_reset (state_of p) ≡ true → p.channel ≡ fresh) → (Tables.is_deaf_way w ≡ true → p.channel ≡ fresh) →
    is_reset (state_of (enter w a p).port) ≡ true → (enter w a p).port.channel ≡ fresh
unfolding enter
reset_enters Way.Stay a p k d h = k h
reset_enters Way.Offered a p k d h = k h
reset_enters Way.Softened a p k d h = k h
reset_enters Way.Default a p k d h = d refl
reset_enters Way.Detached a p k d h = d refl
reset_enters w a p k d h = cc

-- ---- what a change does
module _ (p : Port) where
  change_gone_out : (c : Change) → (with_change c p).gone_out ≡ p.gone_out
  change_gone_out Change.Nothing = refl
  change_gone_out c = refl

  change_made : (c : Change) → is_made (with_change c p).power.contract ≡ Ways.made_after (is_made p.power.contract) c
  unfolding changed
  change_made Change.Nothing = refl
  change_made c = refl

  change_shown : (c : Change) → Shown p → Shown (with_change c p)
  change_shown Change.Nothing k = k
  change_shown c k = k

  change_counted : (c : Change) → p.count ≤ most_offers → (with_change c p).count ≤ most_offers
  change_counted Change.GivenUp h = omega arith
  change_counted c h = h

  change_known : (c : Change) → Known p → (Tables.is_given_up c ≡ true → p.channel ≡ fresh) → Known (with_change c p)
  change_known Change.GivenUp k f = λ id e. none_stored id (sym (ap (λ (c : Channel). c.stored) (f refl)) ∙ e)
  change_known c k f = k

  change_holds : (c : Change) (before after : Bool) → T (Tables.by_change c before after) → (before ≡ false → p.power.held ≡ worth_in p.power.contract) → after ≡ false →
      (with_change c p).power.held ≡ worth_in (with_change c p).power.contract
  unfolding changed
  change_holds Change.Nothing before after t k e = k (not_true before (then (not after) (not before) t (not_false after e)))
  change_holds Change.Accepted before after t k e = true_not_false (sym (holds after t) ∙ e)
  change_holds Change.InForce before after t k e = refl
  change_holds Change.GivenUp before after t k e = refl

-- ---- a stimulus
made_by : (c : Option Asked) (o : Offer) → Tables.made_by (standing_of c o) ≡ is_made c
unfolding standing_of
made_by None o = refl
made_by (Some a) o = by_either (is_honoured a o)
  where
    by_either : (b : Bool) → Tables.made_by (by_offer b) ≡ true
    by_either true = refl
    by_either false = refl

module _ (p : Port) (k : Between p) where
  -- the four facts, and the rest, after the protocol rules
  pub record Ruled (e : Stimulus) (q : Port) : Type 0 where
    pub state : state_of q ≡ Tables.ruled_state e (state_of p)
    pub pending : pending_in q ≡ Tables.ruled_pending e (pending_in p)
    pub gone_out : q.gone_out ≡ Tables.ruled_gone_out e p.gone_out
    pub made : is_made q.power.contract ≡ Tables.ruled_made e (is_made p.power.contract)
    pub numbered : Numbered q.channel
    pub reset : is_reset (state_of q) ≡ true → q.channel ≡ fresh
    pub known : Known q
    pub shown : Shown q
    pub held : in_between (state_of q) ≡ false → q.power.held ≡ worth_in q.power.contract
    pub counted : q.count ≤ most_offers
    pub possible : Tables.possible e (pending_in p) ≡ true

  ruled_cleared : (e : Stimulus) → Tables.ruled_state e (state_of p) ≡ State.Detached → Tables.ruled_pending e (pending_in p) ≡ false → Tables.ruled_gone_out e p.gone_out ≡ false →
      Tables.ruled_made e (is_made p.power.contract) ≡ false → Tables.possible e (pending_in p) ≡ true → Ruled e (cleared p)
  ruled_cleared e s b g m x =
      record {
        state = sym s;
        pending = sym b;
        gone_out = sym g;
        made = sym m;
        numbered = numbered_fresh;
        reset = λ h. refl;
        known = none_stored;
        shown = λ h. true_not_false (sym h);
        held = λ h. refl;
        counted = omega arith;
        possible = x;
      }

  ruled_ending : (e : Stimulus) → pending_in p ≡ true → state_of p ≡ Tables.ruled_state e (state_of p) → false ≡ Tables.ruled_pending e (pending_in p) → p.gone_out ≡ Tables.ruled_gone_out e p.gone_out →
      is_made p.power.contract ≡ Tables.ruled_made e (is_made p.power.contract) → Tables.possible e (pending_in p) ≡ true → Ruled e (ending p)
  unfolding ended
  ruled_ending e on s b g m x =
      record {
        state = s;
        pending = b;
        gone_out = g;
        made = m;
        numbered = numbered_ended p.channel k.numbered;
        reset = λ h. true_not_false (sym on ∙ ap is_pending (k.reset h));
        known = k.known;
        shown = k.shown;
        held = k.holds;
        counted = k.counted;
        possible = x;
      }

  as_it_was : (e : Stimulus) → state_of p ≡ Tables.ruled_state e (state_of p) → pending_in p ≡ Tables.ruled_pending e (pending_in p) → p.gone_out ≡ Tables.ruled_gone_out e p.gone_out →
      is_made p.power.contract ≡ Tables.ruled_made e (is_made p.power.contract) → Tables.possible e (pending_in p) ≡ true → Ruled e p
  as_it_was e s b g m x =
      record { state = s; pending = b; gone_out = g; made = m; numbered = k.numbered; reset = k.reset; known = k.known; shown = k.shown; held = k.holds; counted = k.counted; possible = x }

  ruled : (c : Call) (e : Stimulus) (q : Port) (t : Option Timer) → Rule p c e q t → Ruled e q
  ruled c e q t by_attach = ruled_cleared Stimulus.Attach refl refl refl refl refl
  ruled c e q t by_detach = ruled_cleared Stimulus.Detach refl refl refl refl refl
  ruled c e q t (by_acknowledgement d u on) = ruled_ending Stimulus.Acknowledged on refl refl refl refl on
  ruled c e q t (by_failure d u on) = ruled_ending Stimulus.Failed on refl refl refl refl on
  ruled c e q t (by_offer_lem limit o good) =
      record {
        state = refl;
        pending = refl;
        gone_out = refl;
        made = refl;
        numbered = k.numbered;
        reset = k.reset;
        known = k.known;
        shown = λ h. true_not_false (sym h);
        held = k.holds;
        counted = k.counted;
        possible = refl;
      }
  ruled c e q t rule = as_it_was e refl refl refl refl refl

  -- ---- led on by a stimulus
  module _ (e : Stimulus) (q : Port) (r : Ruled e q) (way : Way) (a : Asked) (l : leads (state_of p) e (facts_of p) ≡ Some way) where
    abbrev change : Change
    change = change_of (state_of p) e

    abbrev changed_port : Port
    changed_port = with_change change q

    abbrev end : Port
    end = (enter way a changed_port).port

    of_lead : (t : Option Way → Bool) → T (t (leads (state_of p) e (facts_of p))) → T (t (Some way))
    of_lead t x = subst (λ (y : Option Way). T (t y)) l x

    deaf : is_reset (Tables.ruled_state e (state_of p)) ≡ true → q.channel ≡ fresh
    deaf h = r.reset (rw r.state h)

    end_state : state_of end ≡ Ways.state_after (Tables.ruled_state e (state_of p)) way
    end_state = (Ways.goes way a changed_port).state ∙ rw (change_state q change, r.state)

    end_pending : pending_in end ≡ Ways.pending_after (Tables.ruled_pending e (pending_in p)) way
    end_pending = (Ways.goes way a changed_port).pending ∙ rw (change_channel q change, r.pending)

    end_gone_out : end.gone_out ≡ Ways.gone_out_after (Tables.ruled_gone_out e p.gone_out) way
    end_gone_out = (Ways.goes way a changed_port).gone_out ∙ rw (change_gone_out q change, r.gone_out)

    end_made : is_made end.power.contract ≡ Ways.made_after (Tables.ruled_made e (Tables.made_by (facts_of p).standing)) change
    end_made = rw ((Ways.goes way a changed_port).contract, change_made q change, r.made, made_by p.power.contract p.last)

    calmly : calm (state_of end) (pending_in end) end.gone_out (is_made end.power.contract) ≡ true
    calmly =
        rw (end_state, end_pending, end_gone_out, end_made)
        (then
        (calm (state_of p) (pending_in p) p.gone_out (Tables.made_by (facts_of p).standing) && Tables.possible e (pending_in p))
        (Tables.calm_after (state_of p) e (facts_of p) way)
        (of_lead (Tables.calm_test (state_of p) e (facts_of p)) (Tables.calm_kept (state_of p) e (facts_of p)))
        (and (calm (state_of p) (pending_in p) p.gone_out (Tables.made_by (facts_of p).standing)) (Tables.possible e (pending_in p)) (rw (made_by p.power.contract p.last) k.calmly) r.possible))

    holding : in_between (state_of end) ≡ false → end.power.held ≡ worth_in end.power.contract
    holding h =
        rw ((Ways.goes way a changed_port).held, (Ways.goes way a changed_port).contract)
        (change_holds q change (in_between (Tables.ruled_state e (state_of p))) (in_between (Ways.state_after (Tables.ruled_state e (state_of p)) way))
        (of_lead (Tables.held_test (state_of p) e) (Tables.held_kept (state_of p) e (facts_of p)))
        (λ b. r.held (rw r.state b))
        (rw end_state at h))

    knowing : Known end
    knowing =
        known_enters way a changed_port
        (change_known q change r.known
        (λ g. deaf (then (Tables.is_given_up change) (is_reset (Tables.ruled_state e (state_of p))) (of_lead (Tables.given_up_test (state_of p) e) (Tables.given_up_kept (state_of p) e (facts_of p))) g)))

    resetting : is_reset (state_of end) ≡ true → end.channel ≡ fresh
    resetting =
        reset_enters way a changed_port
        (λ h. rw (change_channel q change) (r.reset (rw (change_state q change) at h)))
        (λ d. rw (change_channel q change) (deaf (then (Tables.is_deaf_way way) (is_reset (Tables.ruled_state e (state_of p))) (of_lead (Tables.reset_test (state_of p) e) (Tables.reset_kept (state_of p) e (facts_of p))) d)))

    led_on : Between end
    led_on =
        record {
          calmly = calmly;
          numbered = numbered_enters way a changed_port (rw (change_channel q change) r.numbered);
          reset = resetting;
          known = knowing;
          shown = shown_enters way a changed_port (change_shown q change r.shown);
          holds = holding;
          counted = counted_enters way a changed_port (change_counted q change r.counted);
        }

  -- ---- led on by a new packet
  module _ (id : ℕ) (soft : Bool) (h : Heard) (way : Way) (a : Asked) (l : on_packet (state_of p) h ≡ Some way) where
    abbrev hearer : Port
    hearer = hearing p id soft

    abbrev after : Port
    after = (enter way a hearer).port

    of_packet_lem : (t : Option Way → Bool) → T (t (on_packet (state_of p) h)) → T (t (Some way))
    of_packet_lem t x = subst (λ (y : Option Way). T (t y)) l x

    abbrev rested : Bool
    rested = not (is_reset (state_of p)) && implies (not (in_between (Ways.state_after (state_of p) way))) (not (in_between (state_of p)))

    rest : (not (Tables.is_deaf_way way) && rested) ≡ true
    rest = holds _ (of_packet_lem (Tables.rest_heard (state_of p)) (Tables.rest_heard_lem (state_of p) h))

    abbrev at_ready : Bool
    at_ready = implies (same (state_of p) State.Ready) (p.gone_out && is_made p.power.contract)

    abbrev at_waiting : Bool
    at_waiting = implies (same (state_of p) State.Waiting) (p.gone_out && not (is_made p.power.contract))

    abbrev at_declining : Bool
    at_declining = implies (same (state_of p) State.Declining) (is_made p.power.contract)

    abbrev at_detached : Bool
    at_detached = implies (same (state_of p) State.Detached) (not (is_made p.power.contract))

    was_calm : (at_ready && at_declining) ≡ true
    was_calm =
        let behind = second (pends (state_of p) (pending_in p)) (at_ready && (at_waiting && (at_declining && at_detached))) k.calmly in
        let last = second at_waiting (at_declining && at_detached) (second at_ready (at_waiting && (at_declining && at_detached)) behind) in
        and at_ready at_declining (first at_ready (at_waiting && (at_declining && at_detached)) behind) (first at_declining at_detached last)

    none_left : pending_in hearer ≡ false
    unfolding heard
    none_left = refl

    calm_after_lem : calm (state_of after) (pending_in after) after.gone_out (is_made after.power.contract) ≡ true
    calm_after_lem =
        rw ((Ways.goes way a hearer).state, (Ways.goes way a hearer).pending, none_left, (Ways.goes way a hearer).gone_out, (Ways.goes way a hearer).contract)
        (then (at_ready && at_declining) (calm (Ways.state_after (state_of p) way) (Ways.pending_after false way) (Ways.gone_out_after p.gone_out way) (is_made p.power.contract))
        (of_packet_lem (Tables.calm_heard (state_of p) p.gone_out (is_made p.power.contract)) (Tables.calm_heard_lem (state_of p) h p.gone_out (is_made p.power.contract))) was_calm)

    heard_on : Between after
    unfolding heard
    heard_on =
        record {
          calmly = calm_after_lem;
          numbered = numbered_enters way a hearer (numbered_heard p.channel id soft k.numbered);
          reset =
              reset_enters way a hearer (λ x. true_not_false (sym x ∙ not_true (is_reset (state_of p)) (first _ _ (second (not (Tables.is_deaf_way way)) rested rest))))
              (λ d. true_not_false (sym d ∙ not_true (Tables.is_deaf_way way) (first _ _ rest)));
          known = known_enters way a hearer (λ i e. refl);
          shown = shown_enters way a hearer k.shown;
          holds =
              λ x. rw ((Ways.goes way a hearer).held, (Ways.goes way a hearer).contract)
              (k.holds
              (not_true (in_between (state_of p))
              (then _ _ (so _ (second (not (is_reset (state_of p))) _ (second (not (Tables.is_deaf_way way)) rested rest))) (not_false _ (rw (Ways.goes way a hearer).state at x)))));
          counted = counted_enters way a hearer k.counted;
        }

  -- ---- every step
  kept : (c : Call) (a : Answer) → Shape p c a → Between a.port
  unfolding turn nothing_done resent again
  kept c a (refused d r) = k
  kept c a (idle d u crc) = k
  kept c a (sent_again d u on few) =
      record { calmly = k.calmly; numbered = numbered_again p.channel k.numbered; reset = λ x. true_not_false (sym on ∙ ap is_pending (k.reset x)); known = k.known; shown = k.shown; holds = k.holds; counted = k.counted }
  kept c a (led d e q t way rule l) = led_on e q (ruled d e q t rule) way nothing_asked l
  kept c a (is-heard s n f m way new l) = heard_on f.message_id (is_soft_reset m) (heard_as m f.message_type (fit_in p n s)) way (asked_by (fit_in p n s)) l

  pub step_keeps : (c : Call) → Between (step p c).port
  step_keeps c = kept c (step p c) (shape p c)

-- a port that nothing is attached to
pub at_first : (o : Offer) → Between (detached_port o)
at_first o =
    record { calmly = refl; numbered = numbered_fresh; reset = λ h. refl; known = none_stored; shown = λ h. true_not_false (sym h); holds = λ h. refl; counted = omega arith }

-- THE CLAIM: after any list of events, packets and new offers
pub run_keeps : (p : Port) (cs : List Call) → Between p → Between (run p cs)
run_keeps p [] k = k
run_keeps p (c ∷ cs) k = run_keeps (step p c).port cs (step_keeps p k c)

pub between_events : (o : Offer) (cs : List Call) → Between (run (detached_port o) cs)
between_events o cs = run_keeps (detached_port o) cs (at_first o)
