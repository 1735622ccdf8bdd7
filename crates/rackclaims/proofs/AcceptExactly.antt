-- An Accept answers a new Request exactly when it comes awaited or in Ready, fits the last offer put on the wire, and the power rule approves: now with the rule
-- of the rack. In every rack that an accepted set-up and any events lead to. Assumes nothing.
use Prim.Native.Nat.{ℕ, max, ◌+◌, ◌<◌, ◌≤◌}
use native.Mathlib.Omega.{arith}
use mathlib.Core.Path.{◌≡◌, refl, sym, ap, subst, ◌∙◌}
use mathlib.Core.Bool.{true, false, not}
use mathlib.Core.List.{List}
use Rattle.message.specs.Types as Types
use Rattle.outgoing.specs.Packets.{control_of}
use Rattle.power.specs.declared.Change.{Change}
use Rattle.source.specs.declared.State.{State}
use Rattle.source.specs.States.{same}
use Rattle.port.specs.declared.Answer.{Answer}
use Rattle.port.specs.Memory.{state_of}
use Rattle.port.specs.Calls as Port
use Rattle.portclaims.proofs.Truth.{true_not_false, and, not_false}
use Rattle.portclaims.proofs.Led.{is_same}
use Rattle.portclaims.proofs.AcceptExactly.{FittingRequest, comes_to_ask}
use Rattle.slot.specs.Load.{load_of}
use Rattle.slot.specs.Answers.{judged}
use Rattle.rack.specs.declared.Rack.{Rack}
use Rattle.rack.specs.Ports.{at, ports_in, others, power_rule}
use Rattle.rack.specs.Steps.{Happening, event, packet, new_offer, call_of, own_answer, answer_at}
use Rattle.rack.proofs.Loads.{others_and_this}
use Rattle.setup.specs.declared.SetUp.{SetUp}
use Rattle.setup.specs.SetUps.{setting, good_set_up}
use Rattle.rackclaims.proofs.OwnSteps.{is_accepted, own, at_yes_lem, at_no}
use Rattle.rackclaims.proofs.Settling.{asks, asked_is, Settles, by_itself, granted, denied, settles}
use Rattle.rackclaims.proofs.Neighbours.{answers_by_the_rule}
use Rattle.rackclaims.proofs.GoodSetUps.{share_within_limit}
use Rattle.rackclaims.proofs.Reached.{Reached, within_both, ports_are}

-- an answer that accepts, and one that rejects: the message, the state, and what happens to held power
pub record Accepts (a : Answer) : Type 0 where
  pub accept_goes_out : a.actions.transmit ≡ control_of Types.Accept a.port.channel.counter
  pub accepting : state_of a.port ≡ State.Accepting
  pub accepted : a.held ≡ Change.Accepted

pub record Rejects (a : Answer) : Type 0 where
  pub reject_goes_out : a.actions.transmit ≡ control_of Types.Reject a.port.channel.counter
  pub refusing : state_of a.port ≡ State.Refusing
  pub nothing_accepted : a.held ≡ Change.Nothing

-- what is accepted: a Request that is new, comes awaited or in Ready and fits the last offer, and that the power rule approves
pub data AcceptedBy (r : Rack) (i : ℕ) : Happening → Type 0 where
  by_request : (s : List ℕ) → FittingRequest (at r i).port s → power_rule r i (asks (at r i).port s) ≡ true → AcceptedBy r i (packet s)

pub call_is : (limit : ℕ) (h : Happening) (s : List ℕ) → call_of limit h ≡ Port.packet s → h ≡ packet s
call_is limit (packet t) s e = cc
call_is limit (event x) s e = cc
call_is limit (new_offer o) s e = cc

is_accepted_lem : (c : Change) → c ≡ Change.Accepted → is_accepted c ≡ true
is_accepted_lem c e = ap is_accepted e

module _ (u : SetUp) (good : good_set_up u ≡ true) (r : Rack) (k : Reached u r) (i : ℕ) (here : i < u.count) where
  module _ (s : List ℕ) (q : FittingRequest (at r i).port s) where
    by_rule : answer_at r i (packet s) ≡ judged (power_rule r i (asks (at r i).port s)) (own_answer r i (packet s))
    by_rule =
        answers_by_the_rule r i (packet s)
        (and (not (same (state_of (at r i).port) State.Judge)) _ (not_false _ (k.steady i here).elsewhere) (is_same _ State.Judge (comes_to_ask (at r i).port s q).0 refl))
        ∙ ap (λ w. judged (power_rule r i w) (own_answer r i (packet s))) (asked_is (at r i).port s q)

    -- THE CLAIM: where the rule approves, Accept; where it does not, Reject
    pub accept_where_approved : power_rule r i (asks (at r i).port s) ≡ true → Accepts (answer_at r i (packet s))
    unfolding judged
    accept_where_approved e =
        let y = at_yes_lem (own_answer r i (packet s)).port (comes_to_ask (at r i).port s q).0 in
        subst Accepts (sym (by_rule ∙ ap (λ b. judged b (own_answer r i (packet s))) e)) (record { accept_goes_out = y.transmits; accepting = y.state_is; accepted = y.change_is })

    pub reject_where_not : power_rule r i (asks (at r i).port s) ≡ false → Rejects (answer_at r i (packet s))
    unfolding judged
    reject_where_not e =
        let y = at_no (own_answer r i (packet s)).port (comes_to_ask (at r i).port s q).0 in
        subst Rejects (sym (by_rule ∙ ap (λ b. judged b (own_answer r i (packet s))) e)) (record { reject_goes_out = y.transmits; refusing = y.state_is; nothing_accepted = y.change_is })

    -- THE CLAIM: what asks no more than the port takes already, its share or what it holds, is approved, whatever the other ports did
    pub load_is_approved : asks (at r i).port s ≤ load_of (at r i) → asks (at r i).port s ≤ (at r i).limit → power_rule r i (asks (at r i).port s) ≡ true
    unfolding power_rule
    load_is_approved h limit =
        let w = asks (at r i).port s in
        let within : i < ports_in r = subst (λ n. i < n) (sym (ports_are u good r k)) here in
        let supply : others r i + max (load_of (at r i)) w ≤ r.supply = omega (arith, h, others_and_this r i within, k.fits) in
        within_both (at r i) (others r i) r.supply w limit supply

    -- THE CLAIM: and so what asks no more than the share
    pub share_is_approved : asks (at r i).port s ≤ (setting u i).share → power_rule r i (asks (at r i).port s) ≡ true
    share_is_approved h = load_is_approved (omega (arith, h, k.share i here)) (omega (arith, h, k.limit i here, share_within_limit u good i here))

    pub share_is_accepted : asks (at r i).port s ≤ (setting u i).share → Accepts (answer_at r i (packet s))
    share_is_accepted h = accept_where_approved (share_is_approved h)

  -- ---- and nothing else is accepted
  by_view : (c : Port.Call) (a : Answer) → Settles (at r i) (others r i) r.supply c a → (h : Happening) → call_of (at r i).limit h ≡ c → a.held ≡ Change.Accepted → AcceptedBy r i h
  unfolding judged power_rule
  by_view c a (by_itself d e) h f g = true_not_false (sym (is_accepted_lem _ g) ∙ (own (at r i).port (k.steady i here).elsewhere d).accepts_nothing)
  by_view c a (granted s q e) h f g = subst (AcceptedBy r i) (sym (call_is (at r i).limit h s f)) (by_request s q e)
  by_view c a (denied s q e) h f g =
      true_not_false (sym (is_accepted_lem _ g) ∙ ap is_accepted (at_no (Port.step (at r i).port (Port.packet s)).port (comes_to_ask (at r i).port s q).0).change_is)

  -- THE CLAIM
  pub accepted_only_so : (h : Happening) → (answer_at r i h).held ≡ Change.Accepted → AcceptedBy r i h
  unfolding answer_at
  accepted_only_so h g = by_view (call_of (at r i).limit h) _ (settles (at r i) (others r i) r.supply (k.steady i here).elsewhere (call_of (at r i).limit h)) h refl g
