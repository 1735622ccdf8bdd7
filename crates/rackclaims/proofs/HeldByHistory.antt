-- The power that the program keeps for a port is the power that it holds by the history, from the set-up on and through any events: so claims about the history
-- are claims about the program, and the other way round. Assumes nothing.
use Prim.Native.Nat.{ℕ, suc, ◌*◌, ◌<◌}
use mathlib.Core.Path.{◌≡◌, refl, sym, ap, subst, ◌∙◌}
use mathlib.Core.Bool.{Bool, true, false, cond}
use mathlib.Core.List.{List, [], ◌∷◌}
use lib.Dec.{eqb}
use borrow.Author.Tests.{eqb-true, eqb-false}
use Rattle.reading.specs.Reading.{part_of}
use Rattle.offers.specs.declared.Offer.{Offer}
use Rattle.offers.specs.Objects.{position_of, operating_of}
use Rattle.offers.specs.Offers.{has, good_offer}
use Rattle.offers.specs.Requests.{fits, asked}
use Rattle.power.specs.declared.Change.{Change}
use Rattle.port.specs.declared.Event.{Event}
use Rattle.port.specs.declared.Port.{Port}
use Rattle.port.specs.declared.Answer.{Answer}
use Rattle.port.specs.Memory.{state_of, detached_port}
use Rattle.port.specs.Packets.{first_object}
use Rattle.port.specs.Steps.{event_of}
use Rattle.port.specs.Calls as Port
use Rattle.portclaims.specs.Held.{held_after}
use Rattle.portclaims.proofs.Truth.{true_not_false, first, second}
use Rattle.portclaims.proofs.HeldByChange.{held_by_change}
use Rattle.portclaims.proofs.AcceptExactly.{FittingRequest, comes_to_ask, asks_quietly}
use Rattle.slot.specs.declared.Slot.{Slot}
use Rattle.slot.specs.Answers.{judged, settled}
use Rattle.rack.specs.declared.Rack.{Rack}
use Rattle.rack.specs.Ports.{at, others}
use Rattle.rack.specs.Steps.{Happening, packet, call_of, answer_at, step}
use Rattle.rack.specs.Runs.{Happens, run_by, run}
use Rattle.setup.specs.declared.SetUp.{SetUp}
use Rattle.setup.specs.SetUps.{setting, good_set_up, rack_of}
use Rattle.rackclaims.specs.Wire.{last_offer, worth_on}
use Rattle.rackclaims.specs.History.{entry_of, history_by, history, Known, nothing_yet, asked_by, accepted_after, after, noted, known_after, held_by}
use Rattle.rackclaims.proofs.OwnSteps.{is_in_hand, is_accepted, is_in_force, own, at_yes_lem, at_no}
use Rattle.rackclaims.proofs.Settling.{asks, asked_is, Settles, by_itself, granted, denied, settles, Steady}
use Rattle.rackclaims.proofs.WireOffers.{nothing_sent}
use Rattle.rackclaims.proofs.Wired.{Wired, wired_first, wired_step}
use Rattle.rackclaims.proofs.GoodSetUps.{set_up_so, first_offer_good}
use Rattle.rackclaims.proofs.Reached.{Reached, reached_first, step_reached, at_its_place, comes_to_it, comes_to_another}
use Rattle.rackclaims.proofs.AcceptExactly.{call_is}

-- what the history knows of a port agrees with the port
pub record Agrees (p : Port) (x : Known) : Type 0 where
  pub wired : Wired p x.offer
  pub accepted : is_in_hand (state_of p) ≡ true → p.power.accepted.worth ≡ x.accepted
  pub held : p.power.held ≡ x.held

agrees_first : (o : Offer) (limit : ℕ) → good_offer limit o ≡ true → Agrees (detached_port o) nothing_yet
agrees_first o limit good = record { wired = wired_first o limit good; accepted = λ h. true_not_false (sym h); held = refl }

-- ---- what a Request asks of the last offer is what it asks of the bytes on the wire
asks_on_wire : (p : Port) (offer s : List ℕ) → Wired p offer → FittingRequest p s → asks p s ≡ worth_on offer s
unfolding asked fits
asks_on_wire p offer s w q =
    let request = first_object (part_of s) in
    let there : has p.last (position_of request) ≡ true = second (eqb q.objects 1) _ (first _ _ (first _ _ q.fitting)) in
    ap (λ v. v * operating_of request) (sym (w.shows (position_of request) there))

-- ---- changes that accept nothing
not_accepted : (c : Change) (new old : ℕ) → is_accepted c ≡ false → accepted_after c new old ≡ old
not_accepted Change.Nothing new old h = refl
not_accepted Change.Accepted new old h = true_not_false h
not_accepted Change.InForce new old h = refl
not_accepted Change.GivenUp new old h = refl

same_held : (c : Change) (held held' w w' : ℕ) → is_accepted c ≡ false → held ≡ held' → (is_in_force c ≡ true → w ≡ w') → held_after c held w ≡ held_after c held' w'
same_held Change.Nothing held held' w w' h e f = e
same_held Change.Accepted held held' w w' h e f = true_not_false h
same_held Change.InForce held held' w w' h e f = f refl
same_held Change.GivenUp held held' w w' h e f = refl

-- ---- one event at the port
abbrev noting : Known → Happening → Answer → Known
noting x h a = after x (record { number = 0; happening = h; actions = a.actions; change = a.held })

module _ (s : Slot) (all supply : ℕ) (k : Steady s.port) (x : Known) (g : Agrees s.port x) where
  agrees_by_itself : (c : Port.Call) (h : Happening) → Agrees (Port.step s.port c).port (noting x h (Port.step s.port c))
  agrees_by_itself c h =
      let o = own s.port k.elsewhere c in
      let kept : accepted_after (Port.step s.port c).held (asked_by x.offer h) x.accepted ≡ x.accepted = not_accepted (Port.step s.port c).held (asked_by x.offer h) x.accepted o.accepts_nothing in
      record {
        wired = wired_step s.port x.offer c g.wired;
        accepted = λ i. ap (λ a. a.worth) (o.in_hand_lem i).2 ∙ g.accepted (o.in_hand_lem i).0 ∙ sym kept;
        held = held_by_change s.port k.between c ∙ same_held (Port.step s.port c).held s.port.power.held x.held _ _ o.accepts_nothing g.held (λ i. g.accepted (o.in_force i) ∙ sym kept);
      }

  module _ (bytes : List ℕ) (q : FittingRequest s.port bytes) where
    abbrev asked_port : Port
    asked_port = (Port.step s.port (Port.packet bytes)).port

    wired_asked : Wired asked_port x.offer
    wired_asked = subst (Wired asked_port) (ap (λ m. last_offer m x.offer) (asks_quietly s.port bytes q).2 ∙ nothing_sent x.offer) (wired_step s.port x.offer (Port.packet bytes) g.wired)

    wired_answer : (e : Event) → Wired (event_of asked_port e).port (last_offer (event_of asked_port e).actions.transmit x.offer)
    unfolding Port.step
    wired_answer e = wired_step asked_port x.offer (Port.event e) wired_asked

    abbrev worth : ℕ
    worth = worth_on x.offer bytes

    kept_worth : asked_port.power.accepted.worth ≡ worth
    kept_worth = asked_is s.port bytes q ∙ asks_on_wire s.port x.offer bytes g.wired q

    kept_held : asked_port.power.held ≡ x.held
    kept_held = (asks_quietly s.port bytes q).1 ∙ g.held

    agrees_granted : Agrees (judged true (Port.step s.port (Port.packet bytes))).port (noting x (packet bytes) (judged true (Port.step s.port (Port.packet bytes))))
    unfolding judged
    agrees_granted =
        let y = at_yes_lem asked_port (comes_to_ask s.port bytes q).0 in
        record {
          wired = wired_answer Event.Yes;
          accepted = λ i. ap (λ a. a.worth) y.accepted_is ∙ kept_worth ∙ ap (λ c. accepted_after c worth x.accepted) (sym y.change_is);
          held = y.held_is ∙ rw (kept_held, kept_worth, y.change_is) refl;
        }

    agrees_denied : Agrees (judged false (Port.step s.port (Port.packet bytes))).port (noting x (packet bytes) (judged false (Port.step s.port (Port.packet bytes))))
    unfolding judged
    agrees_denied =
        let y = at_no asked_port (comes_to_ask s.port bytes q).0 in
        record {
          wired = wired_answer Event.No;
          accepted = λ i. true_not_false (sym i ∙ ap is_in_hand y.state_is);
          held = y.held_is ∙ rw (kept_held, y.change_is) refl;
        }

  by_view : (c : Port.Call) (a : Answer) → Settles s all supply c a → (h : Happening) → call_of s.limit h ≡ c → Agrees a.port (noting x h a)
  by_view c a (by_itself d e) h f = agrees_by_itself d h
  by_view c a (granted bytes q e) h f =
      let a = judged true (Port.step s.port (Port.packet bytes)) in subst (λ t. Agrees a.port (noting x t a)) (sym (call_is s.limit h bytes f)) (agrees_granted bytes q)
  by_view c a (denied bytes q e) h f =
      let a = judged false (Port.step s.port (Port.packet bytes)) in subst (λ t. Agrees a.port (noting x t a)) (sym (call_is s.limit h bytes f)) (agrees_denied bytes q)

  pub agrees_after : (h : Happening) → Agrees (settled s all supply (Port.step s.port (call_of s.limit h))).port (noting x h (settled s all supply (Port.step s.port (call_of s.limit h))))
  agrees_after h = by_view (call_of s.limit h) _ (settles s all supply k.elsewhere (call_of s.limit h)) h refl

-- ---- any events at any ports
module _ (u : SetUp) (good : good_set_up u ≡ true) (i : ℕ) (here : i < u.count) where
  module _ (r : Rack) (k : Reached u r) (x : Known) (g : Agrees (at r i).port x) where
    -- it comes to this port
    to_this : (h : Happening) → Agrees (at (step r (suc i) h).rack i).port (after x (entry_of (record { number = suc i; happening = h }) (step r (suc i) h)))
    unfolding answer_at
    to_this h =
        rw (comes_to_it u good r k i here h)
        (subst (λ t. Agrees t.port (noting x h (answer_at r i h))) (sym (at_its_place u good r k i here (answer_at r i h).port))
        (agrees_after (at r i) (others r i) r.supply (k.steady i here) x g h))

    by_test : (e : Happens) (b : Bool) → eqb e.number (suc i) ≡ b →
        Agrees (at (step r e.number e.happening).rack i).port (cond b (after x (entry_of e (step r e.number e.happening))) x)
    by_test e true q = subst (λ n. Agrees (at (step r n e.happening).rack i).port (after x (entry_of (record { number = n; happening = e.happening }) (step r n e.happening)))) (sym (eqb-true e.number (suc i) q)) (to_this e.happening)
    by_test e false q = subst (λ t. Agrees t.port x) (sym (comes_to_another u good r k i here e.number e.happening (eqb-false e.number (suc i) q))) g

    pub agrees_step : (e : Happens) → Agrees (at (step r e.number e.happening).rack i).port (noted (suc i) x (entry_of e (step r e.number e.happening)))
    agrees_step e = by_test e (eqb e.number (suc i)) refl

  agrees_run : (es : List Happens) (r : Rack) (x : Known) → Reached u r → Agrees (at r i).port x → Agrees (at (run r es) i).port (known_after (suc i) x (history r es))
  unfolding run_by history_by
  agrees_run [] r x k g = g
  agrees_run (e ∷ es) r x k g = agrees_run es (step r e.number e.happening).rack _ (step_reached u good r k e.number e.happening) (agrees_step r k x g e)

  -- THE CLAIM
  pub held_by_history : (es : List Happens) → (at (run (rack_of u) es) i).port.power.held ≡ held_by (suc i) (history (rack_of u) es)
  unfolding held_by
  held_by_history es =
      (agrees_run es (rack_of u) nothing_yet (reached_first u good) (subst (λ s. Agrees s.port nothing_yet) (sym (set_up_so u good i here)) (agrees_first (setting u i).offer (setting u i).limit (first_offer_good u good i here)))).held
