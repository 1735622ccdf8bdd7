-- What the answers say of held power is said exactly where the paper says it: accepted where a Request is answered with Accept on the wire, in force where Telling's
-- PS_RDY is acknowledged, given up at detach and when Default is ready. So no answer can talk held power away, or keep silent about it. For every rack that is
-- reached. Assumes nothing.
use Prim.Native.Nat.{ℕ, ◌<◌}
use mathlib.Core.Path.{◌≡◌, refl, sym, ap, subst, ◌∙◌}
use mathlib.Core.Bool.{Bool, true, false, not, cond, ◌&&◌, ◌||◌}
use mathlib.Core.List.{List}
use lib.Dec.{T, ltb, eqb}
use Rattle.ground.specs.declared.Refusal.TheVariants.{NotAwaited}
use Rattle.message.specs.declared.Fields.{Fields}
use Rattle.message.specs.Types as Types
use Rattle.meaning.specs.declared.Meaning.{Meaning}
use Rattle.reading.specs.Reading.{read_of}
use Rattle.offers.specs.declared.Offer.{Offer}
use Rattle.offers.specs.Offers.{good_offer}
use Rattle.outgoing.specs.Packets.{on_wire}
use Rattle.channel.specs.Channel.{is_repeat, pending_id, most_retries}
use Rattle.channel.specs.Outcomes.{outcome_of, on_good_crc, on_expiry}
use Rattle.power.specs.declared.Change.{Change}
use Rattle.source.specs.declared.State.{State}
use Rattle.source.specs.declared.Stimulus.{Stimulus}
use Rattle.source.specs.declared.Timer.{Timer}
use Rattle.source.specs.States.{same, listens}
use Rattle.source.specs.Changes.{change_of}
use Rattle.source.proofs.Finite.{state}
use Rattle.stimuli.specs.Leads.{leads}
use Rattle.hearing.specs.Packets.{on_packet}
use Rattle.port.specs.declared.Event.{Event}
use Rattle.port.specs.declared.Port.{Port}
use Rattle.port.specs.declared.Answer.{Answer}
use Rattle.port.specs.Memory.{state_of, facts_of, pending_in, no_crc, refused_by}
use Rattle.port.specs.Steps.{turn, led_to, happens, acknowledged, failed, resent, by_outcome, nothing_done, event_of, offer_judged, new_offer_of}
use Rattle.port.specs.Packets.{heard_as, is_soft_reset, crc_for, led_by, new_packet, other_packet, good_crc_heard, by_meaning, message_of, meaning_in, read_to, packet_of}
use Rattle.port.specs.Calls as Port
use Rattle.portclaims.specs.Between.{implies}
use Rattle.portclaims.proofs.Truth.{then, not_true}
use Rattle.portclaims.proofs.Shapes.{fit_in}
use Rattle.portclaims.proofs.AcceptExactly.{FittingRequest, comes_to_ask}
use Rattle.slot.specs.Answers.{judged}
use Rattle.rack.specs.declared.Rack.{Rack}
use Rattle.rack.specs.Ports.{at, others}
use Rattle.rack.specs.Steps.{Happening, event, packet, new_offer, call_of, answer_at}
use Rattle.setup.specs.declared.SetUp.{SetUp}
use Rattle.rackclaims.specs.Wire.{is_accept}
use Rattle.rackclaims.specs.Told.{means_request, means_good_crc, is_request, acknowledges, said_if, told_of}
use Rattle.rackclaims.proofs.OwnSteps.{at_yes_lem, at_no}
use Rattle.rackclaims.proofs.Settling.{Settles, by_itself, granted, denied, settles}
use Rattle.rackclaims.proofs.Reached.{Reached}
use Rattle.rackclaims.proofs.RefusalsInOrder.{is_to, awaited_in, leads_where_awaited}
use Rattle.rackclaims.proofs.AcceptExactly.{call_is}
use Rattle.rackclaims.proofs.AcceptOnTheWire.{control_by_type, own_request}
use Rattle.std.specs.Prelude.{Some, None, Ok, Err, Option, Result}
use Rattle.reading.specs.declared.Message.{Message}
use Rattle.ground.specs.declared.Refusal.{Refusal}
use Rattle.source.specs.declared.Way.{Way}
use Rattle.offers.specs.declared.Asked.{Asked}

nothing_either_way : (b : Bool) → said_if b Change.Nothing ≡ Change.Nothing
nothing_either_way true = refl
nothing_either_way false = refl

-- supply ready is awaited in Moving too, where nothing is given up
default_alone : (moving default : Bool) → said_if (moving || default) (said_if default Change.GivenUp) ≡ said_if default Change.GivenUp
default_alone true default = refl
default_alone false true = refl
default_alone false false = refl

-- Telling listens
deaf_tells_nothing : (s : State) → T (implies (not (listens s)) (not (same s State.Telling)))
deaf_tells_nothing = state (λ s. implies (not (listens s)) (not (same s State.Telling))) tt

-- ---- a port by itself, outside Judge
module _ (p : Port) where
  led : (e : Stimulus) (q : Port) (t : Option Timer) (l : Option Way) → (led_to p e q t l).held ≡ said_if (is_to l) (change_of (state_of p) e)
  unfolding turn
  led e q t None = refl
  led e q t (Some way) = refl

  happening : (e : Stimulus) (q : Port) (t : Option Timer) → (happens p e q t).held ≡ said_if (awaited_in (state_of p) e (facts_of p)) (change_of (state_of p) e)
  unfolding happens
  happening e q t = led e q t (leads (state_of p) e (facts_of p)) ∙ ap (λ b. said_if b (change_of (state_of p) e)) (leads_where_awaited (state_of p) e (facts_of p))

  quietly : (e : Stimulus) (q : Port) (t : Option Timer) → change_of (state_of p) e ≡ Change.Nothing → (happens p e q t).held ≡ Change.Nothing
  quietly e q t n = happening e q t ∙ ap (said_if (awaited_in (state_of p) e (facts_of p))) n ∙ nothing_either_way (awaited_in (state_of p) e (facts_of p))

  expiry : (pending more : Bool) → (by_outcome (outcome_of pending false more) (refused_by NotAwaited p) p).held ≡ Change.Nothing
  unfolding by_outcome failed resent change_of
  expiry false more = refl
  expiry true true = refl
  expiry true false = quietly Stimulus.Failed _ _ refl

  good_crc_lem : (pending its more : Bool) → (by_outcome (outcome_of pending its more) (nothing_done no_crc p) p).held ≡ said_if ((pending && its) && same (state_of p) State.Telling) Change.InForce
  unfolding by_outcome acknowledged failed resent nothing_done change_of
  good_crc_lem false its more = refl
  good_crc_lem true true more = happening Stimulus.Acknowledged _ _
  good_crc_lem true false true = refl
  good_crc_lem true false false = quietly Stimulus.Failed _ _ refl

  heard : (f : Fields) (m : Meaning) (fit : Option Asked) (l : Option Way) → (led_by p f m fit l).held ≡ Change.Nothing
  unfolding turn
  heard f m fit None = refl
  heard f m fit (Some way) = refl

  other : (f : Fields) (m : Meaning) (fit : Option Asked) (b : Bool) → (cond b (nothing_done (crc_for f) p) (new_packet p f m fit)).held ≡ Change.Nothing
  unfolding nothing_done new_packet
  other f m fit true = refl
  other f m fit false = heard f m fit (on_packet (state_of p) (heard_as m f.message_type fit))

  other_packet_lem : (f : Fields) (m : Meaning) (fit : Option Asked) → (other_packet p f m fit).held ≡ Change.Nothing
  unfolding other_packet
  other_packet_lem f m fit = other f m fit (is_repeat p.channel f.message_id && not (is_soft_reset m))

  -- the pending message is acknowledged by a GoodCRC with its MessageID
  abbrev acked : Meaning → Fields → Bool
  acked m f = means_good_crc m && (pending_in p && eqb (pending_id p.channel) f.message_id)

  by_meaning_lem : (m : Meaning) (f : Fields) (fit : Option Asked) → (by_meaning m p f fit).held ≡ said_if (acked m f && same (state_of p) State.Telling) Change.InForce
  unfolding by_meaning good_crc_heard on_good_crc
  by_meaning_lem Meaning.GoodCrc f fit = good_crc_lem (pending_in p) (eqb (pending_id p.channel) f.message_id) (ltb p.channel.pending.retries most_retries)
  by_meaning_lem Meaning.Unsupported f fit = other_packet_lem f Meaning.Unsupported fit
  by_meaning_lem Meaning.Reply f fit = other_packet_lem f Meaning.Reply fit
  by_meaning_lem Meaning.GetSourceCap f fit = other_packet_lem f Meaning.GetSourceCap fit
  by_meaning_lem Meaning.SoftReset f fit = other_packet_lem f Meaning.SoftReset fit
  by_meaning_lem Meaning.Quiet f fit = other_packet_lem f Meaning.Quiet fit
  by_meaning_lem Meaning.Request f fit = other_packet_lem f Meaning.Request fit

  none_told : (b : Bool) → said_if (b && false) Change.InForce ≡ Change.Nothing
  none_told true = refl
  none_told false = refl

  on_message : (b : Bool) → listens (state_of p) ≡ b → (m : Meaning) (f : Fields) (fit : Option Asked) →
      (cond b (by_meaning m p f fit) (refused_by NotAwaited p)).held ≡ said_if (acked m f && same (state_of p) State.Telling) Change.InForce
  on_message true l m f fit = by_meaning_lem m f fit
  on_message false l m f fit =
      let elsewhere : same (state_of p) State.Telling ≡ false = not_true (same (state_of p) State.Telling) (then (not (listens (state_of p))) _ (deaf_tells_nothing (state_of p)) (ap not l)) in
      sym (ap (λ b. said_if (acked m f && b) Change.InForce) elsewhere ∙ none_told (acked m f))

  on_reading : (r : Result Message Refusal) (s : List ℕ) → (read_to r p s).held ≡ said_if (acknowledges r p && same (state_of p) State.Telling) Change.InForce
  unfolding message_of
  on_reading (Ok m) s = on_message (listens (state_of p)) refl (meaning_in m.objects m.fields) m.fields (fit_in p m.objects s)
  on_reading (Err no') s = refl

  on_packet_lem : (s : List ℕ) → (packet_of p s).held ≡ said_if (acknowledges (read_of s) p && same (state_of p) State.Telling) Change.InForce
  unfolding packet_of
  on_packet_lem s = on_reading (read_of s) s

  -- a Request that a port answers by itself gets no Accept
  no_accept : (s : List ℕ) (r : Result Message Refusal) → read_of s ≡ r → (is_request r && is_accept (on_wire (Port.step p (Port.packet s)).actions.transmit)) ≡ false
  no_accept s (Ok m) e = by_meant (meaning_in m.objects m.fields) refl
    where
      by_meant : (x : Meaning) → meaning_in m.objects m.fields ≡ x → (means_request x && is_accept (on_wire (Port.step p (Port.packet s)).actions.transmit)) ≡ false
      by_meant Meaning.Request g = own_request p s m.objects m.fields e g
      by_meant Meaning.Unsupported g = refl
      by_meant Meaning.GoodCrc g = refl
      by_meant Meaning.Reply g = refl
      by_meant Meaning.GetSourceCap g = refl
      by_meant Meaning.SoftReset g = refl
      by_meant Meaning.Quiet g = refl
  no_accept s (Err no') e = refl

  on_offer : (b : Bool) (o : Offer) → (offer_judged b p o).held ≡ Change.Nothing
  unfolding change_of
  on_offer true o = quietly Stimulus.NewOffer _ _ refl
  on_offer false o = refl

  module _ (elsewhere : same (state_of p) State.Judge ≡ false) where
    on_event : (e : Event) → (event_of p e).held ≡ told_of p (event_of p e).actions (event e)
    unfolding event_of on_expiry change_of
    on_event Event.Attach = quietly Stimulus.Attach _ _ refl
    on_event Event.Detach = happening Stimulus.Detach _ _
    on_event Event.HardReset = quietly Stimulus.HardReset _ _ refl
    on_event Event.Acknowledgement = expiry (pending_in p) (ltb p.channel.pending.retries most_retries)
    on_event Event.SenderResponse = quietly Stimulus.SenderResponse _ _ refl
    on_event Event.SourceCapability = quietly Stimulus.SourceCapability _ _ refl
    on_event Event.PsHardReset = quietly Stimulus.PsHardReset _ _ refl
    on_event Event.SupplyReady = happening Stimulus.SupplyReady _ _ ∙ default_alone (same (state_of p) State.Moving) (same (state_of p) State.Default)
    on_event Event.Yes = happening Stimulus.Yes _ _ ∙ ap (λ b. said_if b Change.Accepted) elsewhere
    on_event Event.No = quietly Stimulus.No _ _ refl

    own_told : (limit : ℕ) (h : Happening) → (Port.step p (call_of limit h)).held ≡ told_of p (Port.step p (call_of limit h)).actions h
    unfolding Port.step new_offer_of
    own_told limit (event e) = on_event e
    own_told limit (packet s) =
        on_packet_lem s ∙ ap (λ b. cond b Change.Accepted (said_if (acknowledges (read_of s) p && same (state_of p) State.Telling) Change.InForce)) (sym (no_accept s (read_of s) refl))
    own_told limit (new_offer o) = on_offer (good_offer limit o) o

-- ---- in the rack
module _ (u : SetUp) (r : Rack) (k : Reached u r) (i : ℕ) (here : i < u.count) where
  -- a Request is a Request, and acknowledges nothing
  module _ (s : List ℕ) (q : FittingRequest (at r i).port s) where
    is_request_lem : is_request (read_of s) ≡ true
    is_request_lem = ap is_request q.new.read ∙ ap means_request q.new.meaning

    no_acknowledgement : acknowledges (read_of s) (at r i).port ≡ false
    no_acknowledgement =
        ap (λ x. acknowledges x (at r i).port) q.new.read
        ∙ ap (λ m. means_good_crc m && (pending_in (at r i).port && eqb (pending_id (at r i).port.channel) q.fields.message_id)) q.new.meaning

    request_told : (a : Answer) → told_of (at r i).port a.actions (packet s) ≡ said_if (is_accept (on_wire a.actions.transmit)) Change.Accepted
    request_told a = rw (is_request_lem, no_acknowledgement) refl

  by_view : (c : Port.Call) (a : Answer) → Settles (at r i) (others r i) r.supply c a → (h : Happening) → call_of (at r i).limit h ≡ c → a.held ≡ told_of (at r i).port a.actions h
  unfolding judged
  by_view c a (by_itself d e) h g =
      subst (λ x. (Port.step (at r i).port x).held ≡ told_of (at r i).port (Port.step (at r i).port x).actions h) g (own_told (at r i).port (k.steady i here).elsewhere (at r i).limit h)
  by_view c a (granted s q e) h g =
      let y = at_yes_lem (Port.step (at r i).port (Port.packet s)).port (comes_to_ask (at r i).port s q).0 in
      let a = judged true (Port.step (at r i).port (Port.packet s)) in
      y.change_is
      ∙ sym (ap (λ x. told_of (at r i).port a.actions x) (call_is (at r i).limit h s g) ∙ request_told s q a ∙ ap (λ b. said_if b Change.Accepted) (ap (λ m. is_accept (on_wire m)) y.transmits ∙ control_by_type Types.Accept _))
  by_view c a (denied s q e) h g =
      let y = at_no (Port.step (at r i).port (Port.packet s)).port (comes_to_ask (at r i).port s q).0 in
      let a = judged false (Port.step (at r i).port (Port.packet s)) in
      y.change_is
      ∙ sym (ap (λ x. told_of (at r i).port a.actions x) (call_is (at r i).limit h s g) ∙ request_told s q a ∙ ap (λ b. said_if b Change.Accepted) (ap (λ m. is_accept (on_wire m)) y.transmits ∙ control_by_type Types.Reject _))

  -- THE CLAIM
  pub told_exactly : (h : Happening) → (answer_at r i h).held ≡ told_of (at r i).port (answer_at r i h).actions h
  unfolding answer_at
  told_exactly h = by_view (call_of (at r i).limit h) _ (settles (at r i) (others r i) r.supply (k.steady i here).elsewhere (call_of (at r i).limit h)) h refl
