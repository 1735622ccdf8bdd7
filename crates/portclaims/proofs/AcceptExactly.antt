-- An Accept answers a new Request exactly when it comes awaited or in Ready, fits the last offer put on the wire, and the power rule approves: so and only so
-- a port comes to ask the power rule, and exactly at its yes the port accepts. A port that rejects everything and one that accepts everything are shut out.
-- Assumes nothing.
use Prim.Native.Nat.{ℕ, max}
use mathlib.Core.Path.{◌≡◌, refl, sym, subst, ◌∙◌}
use mathlib.Core.Bool.{Bool, true, false, not, cond, ◌&&◌}
use mathlib.Core.List.{List}
use lib.Dec.{T, eqb}
use Rattle.message.specs.declared.Fields.{Fields}
use Rattle.message.specs.Types as Types
use Rattle.meaning.specs.declared.Meaning.{Meaning}
use Rattle.reading.specs.Reading.{read_of, part_of, message_with}
use Rattle.offers.specs.declared.Asked.{Asked}
use Rattle.offers.specs.declared.Offer.{Offer}
use Rattle.offers.specs.Requests.{fits, asked, judged, fit_of}
use Rattle.outgoing.specs.Packets.{no_packet, control_of}
use Rattle.channel.specs.Channel.{is_repeat}
use Rattle.power.specs.declared.Change.{Change}
use Rattle.power.specs.Power.{nothing_asked, changed}
use Rattle.source.specs.declared.State.{State}
use Rattle.source.specs.declared.Stimulus.{Stimulus}
use Rattle.source.specs.declared.Timer.{Timer}
use Rattle.source.specs.declared.Heard.{Heard}
use Rattle.source.specs.declared.Facts.{Facts}
use Rattle.source.specs.declared.Way.{Way}
use Rattle.source.specs.States.{same, listens}
use Rattle.stimuli.specs.Leads.{leads}
use Rattle.hearing.specs.Packets.{same_heard, on_packet}
use Rattle.source.specs.Changes.{change_of}
use Rattle.source.proofs.Finite.{everywhere, at_packets}
use Rattle.port.specs.declared.Port.{Port}
use Rattle.port.specs.declared.Answer.{Answer}
use Rattle.port.specs.declared.Event.{Event}
use Rattle.port.specs.Memory.{state_of, facts_of, running_in, no_crc}
use Rattle.port.specs.Entering.{enter}
use Rattle.port.specs.Steps.{turn, happens, resent, nothing_done, event_of}
use Rattle.port.specs.Packets.{first_object, meaning_in, heard_as, requested, asked_by, is_soft_reset, crc_for, hearing, other_packet, new_packet, by_meaning, message_of, packet_of}
use Rattle.port.specs.Calls.{Call, event, packet, step}
use Rattle.portclaims.specs.Awaited.{awaits_request}
use Rattle.portclaims.specs.Between.{implies}
use Rattle.portclaims.proofs.Groups.{is_yes}
use Rattle.portclaims.proofs.Truth.{true_not_false, then, and, first, second, not_true, not_false}
use Rattle.portclaims.proofs.Led.{turn_state, led_state, at_way, is_same}
use Rattle.portclaims.proofs.Ways as Ways
use Rattle.portclaims.proofs.Tables as Tables
use Rattle.portclaims.proofs.Shapes.{Rule, by_yes, New, fit_in, Shape, refused, idle, again, led, heard, shape}
use Rattle.reading.proofs.ReadsExactlyMessages.{same_message}
use Rattle.std.specs.Prelude.{Some, None, Option}

-- the bytes s are a new Request to port p that comes awaited or in Ready and fits the last offer put on the wire
pub record FittingRequest (p : Port) (s : List ℕ) : Type 0 where
  pub objects : ℕ
  pub fields : Fields
  pub new : New p s objects fields Meaning.Request
  pub awaited : awaits_request (state_of p) ≡ true
  pub fitting : fits objects (first_object (part_of s)) p.last ≡ true

-- ---- where it says so, the port asks the power rule
to_judge : (s : State) → awaits_request s ≡ true → on_packet s Heard.FittingRequest ≡ Some Way.Judge
unfolding on_packet
to_judge State.Offer e = refl
to_judge s e = cc

listens_then : (s : State) → awaits_request s ≡ true → listens s ≡ true
listens_then State.Offer e = refl
listens_then s e = cc

-- the same, part by part
module _ (p : Port) (s : List ℕ) (n : ℕ) (f : Fields) (read : read_of s ≡ message_with n f) (request : meaning_in n f ≡ Meaning.Request) where
  pub fitting_request : is_repeat p.channel f.message_id ≡ false → awaits_request (state_of p) ≡ true →
      fits n (first_object (part_of s)) p.last ≡ true → FittingRequest p s
  fitting_request new awaited fit =
      record {
        objects = n;
        fields = f;
        new = record { read = read; listening = listens_then (state_of p) awaited; meaning = request; fresh = rw new refl };
        awaited = awaited;
        fitting = fit;
      }

no_repeat : (b : Bool) → (b && true) ≡ false → b ≡ false
no_repeat true e = e
no_repeat false e = refl

module _ (p : Port) (s : List ℕ) (n : ℕ) (f : Fields) (read : read_of s ≡ message_with n f) (r : FittingRequest p s) where
  pub its_parts :
      (is_repeat p.channel f.message_id ≡ false)
      × (awaits_request (state_of p) ≡ true)
      × (fits n (first_object (part_of s)) p.last ≡ true)
  its_parts =
      let same = same_message r.objects n r.fields f (sym r.new.read ∙ read) in (
        subst (λ g. is_repeat p.channel g.message_id ≡ false) same.1 (no_repeat (is_repeat p.channel r.fields.message_id) r.new.fresh),
        r.awaited,
        subst (λ m. fits m (first_object (part_of s)) p.last ≡ true) same.0 r.fitting,
      )

module _ (p : Port) (s : List ℕ) (r : FittingRequest p s) where
  abbrev wanted : Asked
  wanted = asked (first_object (part_of s)) p.last

  it_fits : fit_in p r.objects s ≡ Some wanted
  unfolding fit_of
  it_fits = rw r.fitting refl

  -- THE CLAIM: it comes to ask, and what it asks is kept
  pub comes_to_ask :
      (state_of (step p (packet s)).port ≡ State.Judge)
      × ((step p (packet s)).port.power.accepted ≡ wanted)
  unfolding step packet_of message_of by_meaning other_packet new_packet heard_as turn enter
  comes_to_ask = rw (r.new.read, r.new.listening, r.new.meaning, r.new.fresh, it_fits, to_judge (state_of p) r.awaited) (refl, refl)

  -- until the power answer comes it sends GoodCRC, stops a timer and does nothing else; and held is what it was
  pub asks_quietly :
      ((step p (packet s)).held ≡ Change.Nothing)
      × ((step p (packet s)).port.power.held ≡ p.power.held)
      × ((step p (packet s)).actions.transmit ≡ no_packet)
      × ((step p (packet s)).actions.hard_reset ≡ false)
      × ((step p (packet s)).actions.supply ≡ None)
      × ((step p (packet s)).actions.start ≡ None)
  unfolding step packet_of message_of by_meaning other_packet new_packet heard_as turn enter
  asks_quietly = rw (r.new.read, r.new.listening, r.new.meaning, r.new.fresh, it_fits, to_judge (state_of p) r.awaited) (refl, refl, refl, refl, refl, refl)

-- ---- and only so
abbrev judge_test : State → Stimulus → Option Way → Bool
judge_test s e None = true
judge_test s e (Some way) = implies (not (same s State.Judge)) (not (same (Ways.state_after (Tables.ruled_state e s) way) State.Judge))

no_stimulus_asks : (s : State) (e : Stimulus) (f : Facts) → T (judge_test s e (leads s e f))
unfolding leads
no_stimulus_asks = everywhere (λ s e f. judge_test s e (leads s e f)) tt

abbrev is_fitting : Heard → Bool
is_fitting h = same_heard h Heard.FittingRequest

abbrev ask_test : State → Heard → Option Way → Bool
ask_test s h None = true
ask_test s h (Some way) = implies (not (same s State.Judge) && same (Ways.state_after s way) State.Judge) (is_fitting h && awaits_request s)

only_fitting_asks : (s : State) (h : Heard) → T (ask_test s h (on_packet s h))
unfolding on_packet
only_fitting_asks = at_packets (λ s h. ask_test s h (on_packet s h)) tt

-- what is heard as a fitting Request is one
no_reply_fits : (b : Bool) → is_fitting (cond b Heard.Accept Heard.OtherReply) ≡ false
no_reply_fits true = refl
no_reply_fits false = refl

is_request_lem : (m : Meaning) (t : ℕ) (fit : Option Asked) → is_fitting (heard_as m t fit) ≡ true → m ≡ Meaning.Request
unfolding heard_as
is_request_lem Meaning.Request t fit e = refl
is_request_lem Meaning.Reply t fit e = true_not_false (sym e ∙ no_reply_fits (eqb t Types.Accept))
is_request_lem m t fit e = true_not_false (sym e)

heard_request : (t : ℕ) (fit : Option Asked) → is_fitting (heard_as Meaning.Request t fit) ≡ true → is_fitting (requested fit) ≡ true
unfolding heard_as
heard_request t fit e = e

does_fit : (n o : ℕ) (l : Offer) (b : Bool) → fits n o l ≡ b → is_fitting (requested (judged b (asked o l))) ≡ true → fits n o l ≡ true
does_fit n o l true e h = e
does_fit n o l false e h = true_not_false (sym h)

-- what came to ask
pub data AskedBy (p : Port) : Call → Type 0 where
  by_packet : (s : List ℕ) → FittingRequest p s → AskedBy p (packet s)

module _ (p : Port) (elsewhere : same (state_of p) State.Judge ≡ false) where
  stays : {A : Type 0} → state_of p ≡ State.Judge → A
  stays e = true_not_false (sym (is_same (state_of p) State.Judge e refl) ∙ elsewhere)

  was_asked : (s : List ℕ) (n : ℕ) (f : Fields) (m : Meaning) (way : Way) → New p s n f m → on_packet (state_of p) (heard_as m f.message_type (fit_in p n s)) ≡ Some way →
      same (Ways.state_after (state_of p) way) State.Judge ≡ true → FittingRequest p s
  unfolding fit_of
  was_asked s n f m way new l e =
      let h = heard_as m f.message_type (fit_in p n s) in
      let told =
      then (not (same (state_of p) State.Judge) && same (Ways.state_after (state_of p) way) State.Judge) (is_fitting h && awaits_request (state_of p))
      (at_way (ask_test (state_of p) h) (on_packet (state_of p) h) way l (only_fitting_asks (state_of p) h))
      (and (not (same (state_of p) State.Judge)) (same (Ways.state_after (state_of p) way) State.Judge) (not_false (same (state_of p) State.Judge) elsewhere) e) in
      let fitting = first (is_fitting h) (awaits_request (state_of p)) told in
      let request = is_request_lem m f.message_type (fit_in p n s) fitting in
      record {
        objects = n;
        fields = f;
        new = subst (New p s n f) request new;
        awaited = second (is_fitting h) (awaits_request (state_of p)) told;
        fitting =
            does_fit n (first_object (part_of s)) p.last (fits n (first_object (part_of s)) p.last) refl
            (heard_request f.message_type (fit_in p n s) (subst (λ (x : Meaning). is_fitting (heard_as x f.message_type (fit_in p n s)) ≡ true) request fitting));
      }

  by_shape : (c : Call) (a : Answer) → Shape p c a → state_of a.port ≡ State.Judge → AskedBy p c
  unfolding nothing_done resent
  by_shape c a (refused d r) e = stays e
  by_shape c a (idle d u crc) e = stays e
  by_shape c a (again d u on few) e = stays e
  by_shape c a (led d s q t way rule l) e =
      true_not_false
      (sym (is_same _ State.Judge (sym (led_state p d s q t rule no_crc t (change_of (state_of p) s) way nothing_asked) ∙ e) refl)
      ∙ not_true _
      (then (not (same (state_of p) State.Judge)) (not (same (Ways.state_after (Tables.ruled_state s (state_of p)) way) State.Judge))
      (at_way (judge_test (state_of p) s) (leads (state_of p) s (facts_of p)) way l (no_stimulus_asks (state_of p) s (facts_of p)))
      (not_false (same (state_of p) State.Judge) elsewhere)))
  by_shape c a (heard s n f m way new l) e =
      by_packet s
      (was_asked s n f m way new l
      (is_same (Ways.state_after (state_of p) way) State.Judge
      (sym (turn_state (hearing p f.message_id (is_soft_reset m)) (state_of p) (crc_for f) (running_in p) Change.Nothing way (asked_by (fit_in p n s))) ∙ e)
      refl))

  -- THE CLAIM: nothing else comes to ask
  pub asks_only_so : (c : Call) → state_of (step p c).port ≡ State.Judge → AskedBy p c
  asks_only_so c e = by_shape c (step p c) (shape p c) e

-- ---- the power answer
module _ (p : Port) (judging : state_of p ≡ State.Judge) where
  -- THE CLAIM: at yes Accept goes out, and held is the larger of held and asked
  pub yes_accepts :
      (state_of (step p (event Event.Yes)).port ≡ State.Accepting)
      × ((step p (event Event.Yes)).actions.transmit ≡ control_of Types.Accept p.channel.counter)
      × ((step p (event Event.Yes)).port.power.held ≡ max p.power.held p.power.accepted.worth)
      × ((step p (event Event.Yes)).held ≡ Change.Accepted)
  unfolding step event_of happens leads change_of turn enter changed
  yes_accepts = rw judging (refl, refl, refl, refl)

  -- THE CLAIM: at no Reject goes out, and held is what it was
  pub no_rejects :
      (state_of (step p (event Event.No)).port ≡ State.Refusing)
      × ((step p (event Event.No)).actions.transmit ≡ control_of Types.Reject p.channel.counter)
      × ((step p (event Event.No)).port.power ≡ p.power)
      × ((step p (event Event.No)).held ≡ Change.Nothing)
  unfolding step event_of happens leads change_of turn enter
  no_rejects = rw judging (refl, refl, refl, refl)

-- ---- and only at yes
abbrev accept_test : State → Stimulus → Option Way → Bool
accept_test s e None = true
accept_test s e (Some way) = implies (not (same s State.Accepting) && same (Ways.state_after (Tables.ruled_state e s) way) State.Accepting) (same s State.Judge && is_yes e)

only_yes_accepts : (s : State) (e : Stimulus) (f : Facts) → T (accept_test s e (leads s e f))
unfolding leads
only_yes_accepts = everywhere (λ s e f. accept_test s e (leads s e f)) tt

abbrev packet_accept_test : State → Option Way → Bool
packet_accept_test s None = true
packet_accept_test s (Some way) = implies (not (same s State.Accepting)) (not (same (Ways.state_after s way) State.Accepting))

no_packet_accepts : (s : State) (h : Heard) → T (packet_accept_test s (on_packet s h))
unfolding on_packet
no_packet_accepts = at_packets (λ s h. packet_accept_test s (on_packet s h)) tt

yes_call : (p : Port) (c : Call) (e : Stimulus) (q : Port) (t : Option Timer) → Rule p c e q t → is_yes e ≡ true → c ≡ event Event.Yes
yes_call p c e q t by_yes h = refl
yes_call p c e q t rule h = true_not_false (sym h)

module _ (p : Port) (elsewhere : same (state_of p) State.Accepting ≡ false) where
  remains : {A : Type 0} → state_of p ≡ State.Accepting → A
  remains e = true_not_false (sym (is_same (state_of p) State.Accepting e refl) ∙ elsewhere)

  was_yes : (c : Call) (a : Answer) → Shape p c a → state_of a.port ≡ State.Accepting → (same (state_of p) State.Judge ≡ true) × (c ≡ event Event.Yes)
  unfolding nothing_done resent
  was_yes c a (refused d r) e = remains e
  was_yes c a (idle d u crc) e = remains e
  was_yes c a (again d u on few) e = remains e
  was_yes c a (led d s q t way rule l) e =
      let there = is_same (Ways.state_after (Tables.ruled_state s (state_of p)) way) State.Accepting (sym (led_state p d s q t rule no_crc t (change_of (state_of p) s) way nothing_asked) ∙ e) refl in
      let told =
      then (not (same (state_of p) State.Accepting) && same (Ways.state_after (Tables.ruled_state s (state_of p)) way) State.Accepting) (same (state_of p) State.Judge && is_yes s)
      (at_way (accept_test (state_of p) s) (leads (state_of p) s (facts_of p)) way l (only_yes_accepts (state_of p) s (facts_of p)))
      (and (not (same (state_of p) State.Accepting)) _ (not_false (same (state_of p) State.Accepting) elsewhere) there) in
      (first (same (state_of p) State.Judge) (is_yes s) told, yes_call p d s q t rule (second (same (state_of p) State.Judge) (is_yes s) told))
  was_yes c a (heard s n f m way new l) e =
      true_not_false
      (sym
      (is_same (Ways.state_after (state_of p) way) State.Accepting
      (sym (turn_state (hearing p f.message_id (is_soft_reset m)) (state_of p) (crc_for f) (running_in p) Change.Nothing way (asked_by (fit_in p n s))) ∙ e)
      refl)
      ∙ not_true _
      (then (not (same (state_of p) State.Accepting)) _
      (at_way (packet_accept_test (state_of p)) (on_packet (state_of p) (heard_as m f.message_type (fit_in p n s))) way l (no_packet_accepts (state_of p) (heard_as m f.message_type (fit_in p n s))))
      (not_false (same (state_of p) State.Accepting) elsewhere)))

  -- THE CLAIM: nothing else accepts
  pub accepts_only_so : (c : Call) → state_of (step p c).port ≡ State.Accepting →
      (same (state_of p) State.Judge ≡ true) × (c ≡ event Event.Yes)
  accepts_only_so c e = was_yes c (step p c) (shape p c) e
