-- What a port does by itself, outside Judge: it accepts nothing, and holds no more than before; what it has in hand between its Accept and the power in force
-- it had in hand before. And what it does in Judge, at yes and at no. Assumes nothing.
use Prim.Native.Nat.{ℕ, max, ◌≤◌}
use native.Mathlib.Nat.{le_refl}
use native.Mathlib.Omega.{arith}
use mathlib.Core.Path.{◌≡◌, refl, sym, ap, ◌∙◌}
use mathlib.Core.Bool.{Bool, true, false, not, ◌&&◌}
use mathlib.Core.List.{[], ◌∷◌}
use lib.Dec.{T}
use Rattle.message.specs.Types as Types
use Rattle.offers.specs.declared.Asked.{Asked}
use Rattle.outgoing.specs.Packets.{control_of}
use Rattle.channel.specs.Channel.{sends}
use Rattle.power.specs.declared.Change.{Change}
use Rattle.power.specs.Power.{nothing_asked, changed}
use Rattle.source.specs.declared.State.{State}
use Rattle.source.specs.declared.Stimulus.{Stimulus}
use Rattle.source.specs.declared.Timer.{Timer}
use Rattle.source.specs.declared.Heard.{Heard}
use Rattle.source.specs.declared.Facts.{Facts}
use Rattle.source.specs.declared.Way.{Way}
use Rattle.source.specs.States.{same}
use Rattle.stimuli.specs.Leads.{leads}
use Rattle.hearing.specs.Packets.{on_packet}
use Rattle.source.specs.Changes.{change_of}
use Rattle.source.proofs.Finite.{everywhere, at_packets}
use Rattle.port.specs.declared.Event.{Event}
use Rattle.port.specs.declared.Port.{Port}
use Rattle.port.specs.declared.Answer.{Answer}
use Rattle.port.specs.Memory.{state_of, facts_of, running_in, no_crc}
use Rattle.port.specs.Entering.{enter}
use Rattle.port.specs.Steps.{with_change, turn, happens, resent, nothing_done, event_of}
use Rattle.port.specs.Packets.{heard_as, asked_by, is_soft_reset, crc_for, hearing}
use Rattle.port.specs.Calls.{Call, step}
use Rattle.portclaims.specs.Between.{one_of, implies}
use Rattle.portclaims.specs.Held.{held_after}
use Rattle.portclaims.proofs.Groups.{one_way_of, clears}
use Rattle.portclaims.proofs.Truth.{true_not_false, so, holds, then, first, second, not_true, not_false}
use Rattle.portclaims.proofs.Ways as Ways
use Rattle.portclaims.proofs.Tables as Tables
use Rattle.portclaims.proofs.Led.{turn_state, led_state, at_way}
use Rattle.portclaims.proofs.Shapes.{Rule, by_attach, by_detach, by_hard_reset, by_acknowledgement, by_failure, by_sender_response, by_source_capability, by_ps_hard_reset, by_supply_ready, by_yes, by_no, by_offer_lem, fit_in, Shape, refused, idle, again, led, heard, shape}
use Rattle.std.specs.Prelude.{Some, None, Ok, Option}

-- a request is accepted and not yet in force
abbrev pub is_in_hand : State → Bool
is_in_hand s = one_of (State.Accepting ∷ State.Moving ∷ State.Telling ∷ []) s

abbrev is_nothing : Change → Bool
is_nothing Change.Nothing = true
is_nothing Change.Accepted = false
is_nothing Change.InForce = false
is_nothing Change.GivenUp = false

abbrev pub is_accepted : Change → Bool
is_accepted Change.Nothing = false
is_accepted Change.Accepted = true
is_accepted Change.InForce = false
is_accepted Change.GivenUp = false

abbrev pub is_in_force : Change → Bool
is_in_force Change.Nothing = false
is_in_force Change.Accepted = false
is_in_force Change.InForce = true
is_in_force Change.GivenUp = false

is_nothing_lem : (c : Change) → is_nothing c ≡ true → c ≡ Change.Nothing
is_nothing_lem Change.Nothing e = refl
is_nothing_lem Change.Accepted e = true_not_false (sym e)
is_nothing_lem Change.InForce e = true_not_false (sym e)
is_nothing_lem Change.GivenUp e = true_not_false (sym e)

-- ---- the tables, tested
abbrev is_judge_way : Way → Bool
is_judge_way w = one_way_of (Way.Judge ∷ []) w

abbrev hand_test : State → Stimulus → Way → Bool
hand_test s e way = implies (is_in_hand (Ways.state_after (Tables.ruled_state e s) way)) ((is_in_hand s && is_nothing (change_of s e)) && (not (clears e) && not (is_judge_way way)))

abbrev force_test : State → Stimulus → Bool
force_test s e = implies (is_in_force (change_of s e)) (is_in_hand s)

abbrev led_test : State → Stimulus → Option Way → Bool
led_test s e None = true
led_test s e (Some way) = implies (not (same s State.Judge)) (not (is_accepted (change_of s e)) && (force_test s e && hand_test s e way))

led_tested : (s : State) (e : Stimulus) (f : Facts) → T (led_test s e (leads s e f))
unfolding leads change_of
led_tested = everywhere (λ s e f. led_test s e (leads s e f)) tt

abbrev heard_test : State → Option Way → Bool
heard_test s None = true
heard_test s (Some way) = not (is_in_hand (Ways.state_after s way))

heard_tested : (s : State) (h : Heard) → T (heard_test s (on_packet s h))
unfolding on_packet
heard_tested = at_packets (λ s h. heard_test s (on_packet s h)) tt

-- ---- where the accepted request stays as it is
power_enters : (w : Way) (a : Asked) (p : Port) → is_judge_way w ≡ false → (enter w a p).port.power ≡ p.power
unfolding enter
power_enters Way.Stay a p h = refl
power_enters Way.Offered a p h = refl
power_enters Way.Softened a p h = refl
power_enters Way.Offer a p h = refl
power_enters Way.Discovery a p h = refl
power_enters Way.Disabled a p h = refl
power_enters Way.Judge a p h = true_not_false h
power_enters Way.Accepting a p h = refl
power_enters Way.Moving a p h = refl
power_enters Way.Telling a p h = refl
power_enters Way.Ready a p h = refl
power_enters Way.Declining a p h = refl
power_enters Way.Refusing a p h = refl
power_enters Way.Waiting a p h = refl
power_enters Way.Soft a p h = refl
power_enters Way.Answering a p h = refl
power_enters Way.Hard a p h = refl
power_enters Way.HardHeard a p h = refl
power_enters Way.Default a p h = refl
power_enters Way.Detached a p h = refl

change_accepted : (c : Change) (p : Port) → (with_change c p).power.accepted ≡ p.power.accepted
unfolding changed
change_accepted Change.Nothing p = refl
change_accepted Change.Accepted p = refl
change_accepted Change.InForce p = refl
change_accepted Change.GivenUp p = refl

rule_power : (p : Port) (c : Call) (e : Stimulus) (q : Port) (t : Option Timer) → Rule p c e q t → clears e ≡ false → q.power ≡ p.power
rule_power p c e q t by_attach h = true_not_false h
rule_power p c e q t by_detach h = true_not_false h
rule_power p c e q t by_hard_reset h = refl
rule_power p c e q t (by_acknowledgement d u on) h = refl
rule_power p c e q t (by_failure d u on) h = refl
rule_power p c e q t by_sender_response h = refl
rule_power p c e q t by_source_capability h = refl
rule_power p c e q t by_ps_hard_reset h = refl
rule_power p c e q t by_supply_ready h = refl
rule_power p c e q t by_yes h = refl
rule_power p c e q t by_no h = refl
rule_power p c e q t (by_offer_lem limit o good) h = refl

-- ---- outside Judge
pub record Own (p : Port) (a : Answer) : Type 0 where
  pub accepts_nothing : is_accepted a.held ≡ false
  pub in_force : is_in_force a.held ≡ true → is_in_hand (state_of p) ≡ true
  pub in_hand_lem : is_in_hand (state_of a.port) ≡ true → (is_in_hand (state_of p) ≡ true) × (a.held ≡ Change.Nothing) × (a.port.power.accepted ≡ p.power.accepted)

module _ (p : Port) (elsewhere : same (state_of p) State.Judge ≡ false) where
  own_led : (c : Call) (e : Stimulus) (q : Port) (t : Option Timer) (way : Way) → Rule p c e q t → leads (state_of p) e (facts_of p) ≡ Some way →
      Own p (turn q (state_of p) no_crc t (change_of (state_of p) e) way nothing_asked)
  unfolding turn
  own_led c e q t way rule l =
      let s = state_of p in
      let d = change_of s e in
      let told : (not (is_accepted d) && (force_test s e && hand_test s e way)) ≡ true = then _ _ (at_way (led_test s e) (leads s e (facts_of p)) way l (led_tested s e (facts_of p))) (not_false (same s State.Judge) elsewhere) in
      let rest : (force_test s e && hand_test s e way) ≡ true = second (not (is_accepted d)) _ told in
      record {
        accepts_nothing = not_true (is_accepted d) (first (not (is_accepted d)) _ told);
        in_force = then (is_in_force d) (is_in_hand s) (so _ (first (force_test s e) (hand_test s e way) rest));
        in_hand_lem = λ h.
            let x : ((is_in_hand s && is_nothing d) && (not (clears e) && not (is_judge_way way))) ≡ true = then _ _ (so _ (second (force_test s e) (hand_test s e way) rest)) (sym (ap is_in_hand (led_state p c e q t rule no_crc t d way nothing_asked)) ∙ h) in
            let y : (is_in_hand s && is_nothing d) ≡ true = first _ _ x in
            let z : (not (clears e) && not (is_judge_way way)) ≡ true = second (is_in_hand s && is_nothing d) _ x in (
              first (is_in_hand s) (is_nothing d) y,
              is_nothing_lem d (second (is_in_hand s) (is_nothing d) y),
              ap (λ w. w.accepted) (power_enters way nothing_asked (with_change d q) (not_true (is_judge_way way) (second (not (clears e)) _ z)))
                  ∙ change_accepted d q
                  ∙ ap (λ w. w.accepted) (rule_power p c e q t rule (not_true (clears e) (first (not (clears e)) _ z))),
            );
      }

  own_shape : (c : Call) (a : Answer) → Shape p c a → Own p a
  unfolding turn nothing_done resent
  own_shape c a (refused d r) = record { accepts_nothing = refl; in_force = λ h. true_not_false (sym h); in_hand_lem = λ h. (h, refl, refl) }
  own_shape c a (idle d u crc) = record { accepts_nothing = refl; in_force = λ h. true_not_false (sym h); in_hand_lem = λ h. (h, refl, refl) }
  own_shape c a (again d u on few) = record { accepts_nothing = refl; in_force = λ h. true_not_false (sym h); in_hand_lem = λ h. (h, refl, refl) }
  own_shape c a (led d e q t way rule l) = own_led d e q t way rule l
  own_shape c a (heard s n f m way new l) =
      record {
        accepts_nothing = refl;
        in_force = λ h. true_not_false (sym h);
        in_hand_lem = λ h. true_not_false
            (sym (sym (ap is_in_hand (turn_state (hearing p f.message_id (is_soft_reset m)) (state_of p) (crc_for f) (running_in p) Change.Nothing way (asked_by (fit_in p n s)))) ∙ h)
            ∙ not_true _ (holds _ (at_way (heard_test (state_of p)) (on_packet (state_of p) (heard_as m f.message_type (fit_in p n s))) way l (heard_tested (state_of p) (heard_as m f.message_type (fit_in p n s))))));
      }

  -- THE CLAIM
  pub own : (c : Call) → Own p (step p c)
  own c = own_shape c (step p c) (shape p c)

-- held power does not grow where nothing is accepted
pub no_more : (c : Change) (held asked : ℕ) → is_accepted c ≡ false → (is_in_force c ≡ true → asked ≤ held) → held_after c held asked ≤ held
no_more Change.Nothing held asked h k = le_refl held
no_more Change.Accepted held asked h k = true_not_false h
no_more Change.InForce held asked h k = k refl
no_more Change.GivenUp held asked h k = omega arith

-- ---- in Judge: the power answer
pub record Answered (q : Port) (a : Answer) (state : State) (type held : ℕ) (change : Change) : Type 0 where
  pub fine : a.verdict ≡ Ok tt
  pub state_is : state_of a.port ≡ state
  pub transmits : a.actions.transmit ≡ control_of type a.port.channel.counter
  pub joins : (a.actions.good_crc ≡ no_crc) × (a.actions.stop ≡ None)
  pub accepted_is : a.port.power.accepted ≡ q.power.accepted
  pub held_is : a.port.power.held ≡ held
  pub change_is : a.held ≡ change

module _ (q : Port) (judging : state_of q ≡ State.Judge) where
  pub at_yes_lem : Answered q (event_of q Event.Yes) State.Accepting Types.Accept (max q.power.held q.power.accepted.worth) Change.Accepted
  unfolding event_of happens leads change_of turn enter changed sends
  at_yes_lem = rw judging (record { fine = refl; state_is = refl; transmits = refl; joins = (refl, refl); accepted_is = refl; held_is = refl; change_is = refl })

  pub at_no : Answered q (event_of q Event.No) State.Refusing Types.Reject q.power.held Change.Nothing
  unfolding event_of happens leads change_of turn enter changed sends
  at_no = rw judging (record { fine = refl; state_is = refl; transmits = refl; joins = (refl, refl); accepted_is = refl; held_is = refl; change_is = refl })
