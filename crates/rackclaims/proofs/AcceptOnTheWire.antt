-- An Accept on the wire in answer to a Request is the port's Accept: it goes out exactly when the Request is accepted. Told from the bytes alone. Assumes nothing.
use Prim.Native.Nat.{ℕ, ◌%◌, ◌<◌}
use mathlib.Core.Path.{◌≡◌, refl, sym, ap, subst, ◌∙◌}
use mathlib.Core.Bool.{Bool, true, false, not, cond, ◌&&◌, ◌||◌, and-true}
use mathlib.Core.List.{List, [], ◌∷◌}
use lib.Dec.{T, eqb}
use Rattle.ground.specs.declared.Refusal.TheVariants.{NotAwaited}
use Rattle.message.specs.declared.Fields.{Fields}
use Rattle.message.specs.Bytes.{word_of}
use Rattle.message.specs.Header.{fields_of, header_of}
use Rattle.message.specs.Types as Types
use Rattle.message.proofs.RoundTrip.{objects_packed}
use Rattle.message.proofs.Bytes.{word_of_two}
use Rattle.meaning.specs.declared.Meaning.{Meaning}
use Rattle.reading.specs.Reading.{read_of, message_with}
use Rattle.sending.specs.Sending.{our_fields}
use Rattle.offers.specs.declared.Asked.{Asked}
use Rattle.outgoing.specs.Packets.{on_wire, control_of, data_of}
use Rattle.channel.specs.Channel.{is_repeat}
use Rattle.source.specs.declared.State.{State}
use Rattle.source.specs.declared.Heard.{Heard}
use Rattle.source.specs.declared.Way.{Way}
use Rattle.source.specs.States.{listens}
use Rattle.hearing.specs.Packets.{same_heard, on_packet}
use Rattle.source.proofs.Finite.{at_packets}
use Rattle.port.specs.declared.Port.{Port}
use Rattle.port.specs.declared.Answer.{Answer}
use Rattle.port.specs.Memory.{state_of, refused_by}
use Rattle.port.specs.Entering.{enter}
use Rattle.port.specs.Steps.{turn, nothing_done}
use Rattle.port.specs.Packets.{heard_as, requested, meaning_in, crc_for, led_by, new_packet, other_packet, by_meaning, message_of, packet_of}
use Rattle.port.specs.Calls as Port
use Rattle.portclaims.specs.Between.{implies}
use Rattle.portclaims.proofs.Groups.{one_way_of}
use Rattle.portclaims.proofs.Truth.{true_not_false, then, not_true}
use Rattle.portclaims.proofs.Led.{at_way}
use Rattle.portclaims.proofs.Shapes.{fit_in}
use Rattle.portclaims.proofs.AcceptExactly.{comes_to_ask}
use Rattle.slot.specs.Answers.{judged}
use Rattle.rack.specs.declared.Rack.{Rack}
use Rattle.rack.specs.Ports.{at, others, power_rule}
use Rattle.rack.specs.Steps.{packet, answer_at}
use Rattle.setup.specs.declared.SetUp.{SetUp}
use Rattle.setup.specs.SetUps.{good_set_up}
use Rattle.rackclaims.specs.Wire.{is_accept}
use Rattle.rackclaims.proofs.WireOffers.{plain_packed, type_packed, header_on_wire}
use Rattle.rackclaims.proofs.OwnSteps.{at_no}
use Rattle.rackclaims.proofs.Settling.{Settles, by_itself, granted, denied, settles}
use Rattle.rackclaims.proofs.Reached.{Reached}
use Rattle.rackclaims.proofs.AcceptExactly.{Accepts, AcceptedBy, by_request}
use Rattle.std.specs.Prelude.{Some, None, Option}

-- ---- which messages are an Accept
nothing_is_none : is_accept [] ≡ false
unfolding is_accept word_of fields_of
nothing_is_none = refl

-- a control message of ours, by its type
pub control_by_type : (type id : ℕ) → is_accept (on_wire (control_of type id)) ≡ eqb (type % 32) Types.Accept
unfolding is_accept control_of fields_of
control_by_type type id =
    rw (word_of_two (header_of (our_fields type id) 0) [], plain_packed type id 0, type_packed (our_fields type id) 0, objects_packed (our_fields type id) 0) (and-true (eqb (type % 32) Types.Accept))

offer_is_none : (id count : ℕ) (objects : List ℕ) → is_accept (on_wire (data_of Types.SourceCapabilities id objects count)) ≡ false
unfolding is_accept
offer_is_none id count objects =
    rw (header_on_wire Types.SourceCapabilities id objects count, type_packed (our_fields Types.SourceCapabilities id) count) refl

-- ---- on which ways an Accept goes out
abbrev with_accept : Way → Bool
with_accept w = one_way_of (Way.Accepting ∷ Way.Answering ∷ []) w

no_accept : (w : Way) (a : Asked) (p : Port) → with_accept w ≡ false → is_accept (on_wire (enter w a p).transmit) ≡ false
unfolding enter
no_accept Way.Stay a p h = nothing_is_none
no_accept Way.Offered a p h = nothing_is_none
no_accept Way.Softened a p h = nothing_is_none
no_accept Way.Offer a p h = offer_is_none p.channel.counter p.newest.count p.newest.objects
no_accept Way.Discovery a p h = nothing_is_none
no_accept Way.Disabled a p h = nothing_is_none
no_accept Way.Judge a p h = nothing_is_none
no_accept Way.Accepting a p h = true_not_false h
no_accept Way.Moving a p h = nothing_is_none
no_accept Way.Telling a p h = control_by_type Types.PsRdy p.channel.counter
no_accept Way.Ready a p h = nothing_is_none
no_accept Way.Declining a p h = control_by_type Types.NotSupported p.channel.counter
no_accept Way.Refusing a p h = control_by_type Types.Reject p.channel.counter
no_accept Way.Waiting a p h = nothing_is_none
no_accept Way.Soft a p h = control_by_type Types.SoftReset 0
no_accept Way.Answering a p h = true_not_false h
no_accept Way.Hard a p h = nothing_is_none
no_accept Way.HardHeard a p h = nothing_is_none
no_accept Way.Default a p h = nothing_is_none
no_accept Way.Detached a p h = nothing_is_none

-- ---- a port by itself answers no Request with Accept
abbrev request_test : Heard → Option Way → Bool
request_test h None = true
request_test h (Some way) = implies (same_heard h Heard.FittingRequest || same_heard h Heard.OtherRequest) (not (with_accept way))

request_tested : (s : State) (h : Heard) → T (request_test h (on_packet s h))
unfolding on_packet
request_tested = at_packets (λ s h. request_test h (on_packet s h)) tt

is_request_lem : (fit : Option Asked) → (same_heard (requested fit) Heard.FittingRequest || same_heard (requested fit) Heard.OtherRequest) ≡ true
is_request_lem None = refl
is_request_lem (Some a) = refl

module _ (p : Port) (f : Fields) (fit : Option Asked) where
  by_lead : (l : Option Way) → on_packet (state_of p) (requested fit) ≡ l → is_accept (on_wire (led_by p f Meaning.Request fit l).actions.transmit) ≡ false
  unfolding turn
  by_lead None e = nothing_is_none
  by_lead (Some way) e = no_accept way _ _ (not_true (with_accept way) (then _ _ (at_way (request_test (requested fit)) (on_packet (state_of p) (requested fit)) way e (request_tested (state_of p) (requested fit))) (is_request_lem fit)))

  by_repeat : (b : Bool) → is_accept (on_wire (cond b (nothing_done (crc_for f) p) (new_packet p f Meaning.Request fit)).actions.transmit) ≡ false
  unfolding new_packet heard_as nothing_done
  by_repeat true = nothing_is_none
  by_repeat false = by_lead (on_packet (state_of p) (requested fit)) refl

  by_listening : (b : Bool) → is_accept (on_wire (cond b (by_meaning Meaning.Request p f fit) (refused_by NotAwaited p)).actions.transmit) ≡ false
  unfolding by_meaning other_packet
  by_listening true = by_repeat (is_repeat p.channel f.message_id && true)
  by_listening false = nothing_is_none

pub own_request : (p : Port) (s : List ℕ) (n : ℕ) (f : Fields) → read_of s ≡ message_with n f → meaning_in n f ≡ Meaning.Request → is_accept (on_wire (Port.step p (Port.packet s)).actions.transmit) ≡ false
unfolding Port.step packet_of message_of
own_request p s n f e m = rw (e, m) (by_listening p f (fit_in p n s) (listens (state_of p)))

-- ---- in the rack
-- THE CLAIM: what accepts sends an Accept
pub accept_is_sent : (a : Answer) → Accepts a → is_accept (on_wire a.actions.transmit) ≡ true
accept_is_sent a k = rw k.accept_goes_out (control_by_type Types.Accept a.port.channel.counter)

module _ (u : SetUp) (good : good_set_up u ≡ true) (r : Rack) (k : Reached u r) (i : ℕ) (here : i < u.count) (s : List ℕ) (n : ℕ) (f : Fields)
    (read : read_of s ≡ message_with n f) (request : meaning_in n f ≡ Meaning.Request) where
  by_view : (c : Port.Call) (a : Answer) → Settles (at r i) (others r i) r.supply c a → c ≡ Port.packet s → is_accept (on_wire a.actions.transmit) ≡ true → AcceptedBy r i (packet s)
  unfolding judged power_rule
  by_view c a (by_itself d e) g w = true_not_false (sym w ∙ ap (λ x. is_accept (on_wire (Port.step (at r i).port x).actions.transmit)) g ∙ own_request (at r i).port s n f read request)
  by_view c a (granted bytes q e) g w = subst (λ x. AcceptedBy r i (packet x)) (same_bytes g) (by_request bytes q e)
    where
      same_bytes : Port.packet bytes ≡ Port.packet s → bytes ≡ s
      same_bytes g = cc
  by_view c a (denied bytes q e) g w =
      let y = at_no (Port.step (at r i).port (Port.packet bytes)).port (comes_to_ask (at r i).port bytes q).0 in
      true_not_false (sym w ∙ ap (λ m. is_accept (on_wire m)) y.transmits ∙ control_by_type Types.Reject _)

  -- THE CLAIM: an Accept in answer to a Request is sent only where it is accepted
  pub sent_only_so : is_accept (on_wire (answer_at r i (packet s)).actions.transmit) ≡ true → AcceptedBy r i (packet s)
  unfolding answer_at
  sent_only_so w = by_view (Port.packet s) _ (settles (at r i) (others r i) r.supply (k.steady i here).elsewhere (Port.packet s)) refl w
