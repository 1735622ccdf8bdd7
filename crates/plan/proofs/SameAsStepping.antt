-- What is planned and then done is the port's own step with the power answer in it, for every port and whatever comes to it. Assumes nothing.
use Prim.Native.Nat.{ℕ}
use mathlib.Core.Path.{◌≡◌, refl, sym, ap, ◌∙◌}
use mathlib.Core.Bool.{Bool, true, false, cond, not, ◌&&◌}
use mathlib.Core.List.{List}
use lib.Dec.{T}
use Rattle.ground.specs.declared.Refusal.{Refusal}
use Rattle.ground.specs.declared.Refusal.TheVariants.{BadOffer, NotAwaited}
use Rattle.message.specs.declared.Fields.{Fields}
use Rattle.meaning.specs.declared.Meaning.{Meaning}
use Rattle.reading.specs.Reading.{read_of, part_of}
use Rattle.offers.specs.declared.Asked.{Asked}
use Rattle.offers.specs.declared.Offer.{Offer}
use Rattle.offers.specs.Offers.{good_offer}
use Rattle.offers.specs.Requests.{fit_of}
use Rattle.outgoing.specs.declared.Packet.{Packet}
use Rattle.channel.specs.declared.Outcome.{Outcome}
use Rattle.channel.specs.declared.Outcome.TheVariants.{NonePending, Acknowledged, Again, Failed}
use Rattle.channel.specs.Channel.{is_repeat}
use Rattle.channel.specs.Outcomes.{on_expiry, on_good_crc}
use Rattle.power.specs.declared.Change.{Change}
use Rattle.power.specs.Power.{nothing_asked}
use Rattle.source.specs.declared.State.{State}
use Rattle.source.specs.declared.Stimulus.{Stimulus}
use Rattle.source.specs.declared.Timer.{Timer}
use Rattle.source.specs.declared.Heard.{Heard}
use Rattle.source.specs.declared.Way.{Way}
use Rattle.source.specs.States.{same, stopped, running, listens}
use Rattle.stimuli.specs.Leads.{leads}
use Rattle.source.specs.Changes.{change_of}
use Rattle.hearing.specs.Packets.{on_packet}
use Rattle.port.specs.declared.Port.{Port}
use Rattle.port.specs.declared.Answer.{Answer}
use Rattle.port.specs.declared.Event.{Event}
use Rattle.port.specs.Memory.{state_of, facts_of, running_in, no_crc, refused_by, pending_in}
use Rattle.port.specs.Entering.{enter}
use Rattle.port.specs.Steps.{turn, led_to, happens, acknowledged, failed, resent, by_outcome, nothing_done, event_of, offer_judged, new_offer_of}
use Rattle.port.specs.Packets.{meaning_in, heard_as, asked_by, is_soft_reset, crc_for, hearing, led_by, new_packet, other_packet, good_crc_heard, by_meaning, message_of, packet_of, read_to, first_object}
use Rattle.portclaims.proofs.Truth.{holds, not_true, not_false, then, and}
use Rattle.slot.specs.declared.Slot.{Slot}
use Rattle.slot.specs.Load.{approves}
use Rattle.slot.specs.Answers.{has_asked, answer_of, joined, judged, settled}
use Rattle.plan.specs.declared.Prior.{Prior}
use Rattle.plan.specs.declared.Cue.{Cue}
use Rattle.plan.specs.declared.Met.{Met}
use Rattle.plan.specs.Plans.{plain, met_outcome, met_event, met_repeat, met_new, is_good_crc, met_meaning, met_message, met_reading, met_packet, met_offer, goes, is_judge, still_runs, plan_led, plan_heard, plan_of, answered_by, settled_plan, with_answer, after, judging, resends, performed, done_plan, done_of}
use Rattle.plan.proofs.Asking.{quiet_test, ask_test, no_stimulus_asks, asks_elsewhere, is_judge_lem, never, not_asked}
use Rattle.std.specs.Prelude.{Some, None, Ok, Err, Option, Result}
use Rattle.reading.specs.declared.Message.{Message}

-- where the power answer leads
abbrev replying : Bool → State
replying true = State.Accepting
replying false = State.Refusing

-- ---- by itself: the port's own step
-- a message that does not go out again
abbrev Silent : Prior → Type 0
Silent prior = (m : Packet) (a : Answer) → resends prior m a ≡ a

module _ (p : Port) (o : Offer) where
  performs : (prior : Prior) (crc : Option (List ℕ)) (runs : Option Timer) (change : Change) (way : Way) (a : Asked) → Silent prior →
      performed p o (record { prior = prior; crc = crc; runs = runs; change = change; way = way; asks = false; asked = a }) ≡ turn (after prior o p) (state_of p) crc runs change way a
  unfolding performed
  performs prior crc runs change way a silent = silent _ _

  led : (prior : Prior) (e : Stimulus) (expired : Bool) → Silent prior → done_plan p o (plan_of p (plain (Cue.Meets e expired) prior)) ≡ happens p e (after prior o p) (still_runs expired (running_in p))
  unfolding plan_of happens
  led prior e expired silent = by_lead (leads (state_of p) e (facts_of p))
    where
      by_lead : (l : Option Way) → done_plan p o (plan_led l e expired p (plain (Cue.Meets e expired) prior)) ≡ led_to p e (after prior o p) (still_runs expired (running_in p)) l
      by_lead None = refl
      by_lead (Some way) = performs prior no_crc (still_runs expired (running_in p)) (change_of (state_of p) e) way nothing_asked silent

  sent_again : done_plan p o (plan_of p (plain Cue.Done Prior.Again)) ≡ resent p
  unfolding plan_of performed turn enter resent
  sent_again = refl

  by_outcome_lem : (out : Outcome) (k : Cue) (none : Answer) → done_plan p o (plan_of p (plain k Prior.Nothing)) ≡ none → done_plan p o (plan_of p (met_outcome out k)) ≡ by_outcome out none p
  unfolding by_outcome acknowledged failed
  by_outcome_lem NonePending k none e = e
  by_outcome_lem Acknowledged k none e = led Prior.Ended Stimulus.Acknowledged false (λ m a. refl)
  by_outcome_lem Again k none e = sent_again
  by_outcome_lem Failed k none e = led Prior.Ended Stimulus.Failed false (λ m a. refl)

  not_awaited : done_plan p o (plan_of p (plain (Cue.Refused NotAwaited) Prior.Nothing)) ≡ refused_by NotAwaited p
  unfolding plan_of
  not_awaited = refl

  pub own_event : (e : Event) → done_plan p o (plan_of p (met_event p.channel e)) ≡ event_of p e
  unfolding met_event event_of
  own_event Event.Attach = led Prior.Cleared Stimulus.Attach false (λ m a. refl)
  own_event Event.Detach = led Prior.Cleared Stimulus.Detach false (λ m a. refl)
  own_event Event.HardReset = led Prior.Nothing Stimulus.HardReset false (λ m a. refl)
  own_event Event.Acknowledgement = by_outcome_lem (on_expiry p.channel) (Cue.Refused NotAwaited) (refused_by NotAwaited p) not_awaited
  own_event Event.SenderResponse = led Prior.Nothing Stimulus.SenderResponse true (λ m a. refl)
  own_event Event.SourceCapability = led Prior.Nothing Stimulus.SourceCapability true (λ m a. refl)
  own_event Event.PsHardReset = led Prior.Nothing Stimulus.PsHardReset true (λ m a. refl)
  own_event Event.SupplyReady = led Prior.Nothing Stimulus.SupplyReady false (λ m a. refl)
  own_event Event.Yes = led Prior.Nothing Stimulus.Yes false (λ m a. refl)
  own_event Event.No = led Prior.Nothing Stimulus.No false (λ m a. refl)

  -- ---- a packet
  -- what comes to Judge asks what it would be judged by there
  to_judge : (id : ℕ) (soft : Bool) (crc : Option (List ℕ)) (runs : Option Timer) (a : Asked) →
      performed p o (record { prior = Prior.Heard id soft; crc = crc; runs = runs; change = Change.Nothing; way = Way.Judge; asks = true; asked = a }) ≡ turn (hearing p id soft) (state_of p) crc runs Change.Nothing Way.Judge a
  unfolding performed turn enter
  to_judge id soft crc runs a = refl

  heard_so : (id : ℕ) (soft : Bool) (crc : Option (List ℕ)) (runs : Option Timer) (a : Asked) (way : Way) (b : Bool) → is_judge way ≡ b →
      performed p o (record { prior = Prior.Heard id soft; crc = crc; runs = runs; change = Change.Nothing; way = way; asks = b; asked = a }) ≡ turn (hearing p id soft) (state_of p) crc runs Change.Nothing way a
  heard_so id soft crc runs a way true e = rw (is_judge_lem way e) (to_judge id soft crc runs a)
  heard_so id soft crc runs a way false e = performs (Prior.Heard id soft) crc runs Change.Nothing way a (λ m x. refl)

  own_new : (f : Fields) (m : Meaning) (fit : Option Asked) → done_plan p o (plan_of p (met_new f m fit)) ≡ new_packet p f m fit
  unfolding plan_of new_packet
  own_new f m fit = by_lead (on_packet (state_of p) (heard_as m f.message_type fit))
    where
      by_lead : (l : Option Way) → done_plan p o (plan_heard l p (met_new f m fit)) ≡ led_by p f m fit l
      by_lead None = refl
      by_lead (Some way) = heard_so f.message_id (is_soft_reset m) (crc_for f) (running_in p) (asked_by fit) way (is_judge way) refl

  idle : (crc : Option (List ℕ)) → done_plan p o (plan_of p (record { cue = Cue.Done; prior = Prior.Nothing; crc = crc; asked = nothing_asked })) ≡ nothing_done crc p
  unfolding plan_of performed turn enter nothing_done
  idle crc = refl

  own_other : (f : Fields) (m : Meaning) (fit : Option Asked) (b : Bool) → done_plan p o (plan_of p (cond b (met_repeat f) (met_new f m fit))) ≡ cond b (nothing_done (crc_for f) p) (new_packet p f m fit)
  own_other f m fit true = idle (crc_for f)
  own_other f m fit false = own_new f m fit

  own_meaning : (m : Meaning) (f : Fields) (fit : Option Asked) → done_plan p o (plan_of p (met_meaning m p f fit)) ≡ by_meaning m p f fit
  unfolding met_meaning by_meaning other_packet good_crc_heard
  own_meaning Meaning.Unsupported f fit = own_other f Meaning.Unsupported fit (is_repeat p.channel f.message_id && true)
  own_meaning Meaning.GoodCrc f fit = by_outcome_lem (on_good_crc p.channel f.message_id) Cue.Done (nothing_done no_crc p) (idle no_crc)
  own_meaning Meaning.Reply f fit = own_other f Meaning.Reply fit (is_repeat p.channel f.message_id && true)
  own_meaning Meaning.GetSourceCap f fit = own_other f Meaning.GetSourceCap fit (is_repeat p.channel f.message_id && true)
  own_meaning Meaning.SoftReset f fit = own_other f Meaning.SoftReset fit (is_repeat p.channel f.message_id && false)
  own_meaning Meaning.Quiet f fit = own_other f Meaning.Quiet fit (is_repeat p.channel f.message_id && true)
  own_meaning Meaning.Request f fit = own_other f Meaning.Request fit (is_repeat p.channel f.message_id && true)

  own_message : (objects : ℕ) (f : Fields) (fit : Option Asked) → done_plan p o (plan_of p (met_message p objects f fit)) ≡ message_of p objects f fit
  unfolding met_message message_of
  own_message objects f fit = by_listening (listens (state_of p))
    where
      by_listening : (b : Bool) → done_plan p o (plan_of p (cond b (met_meaning (meaning_in objects f) p f fit) (plain (Cue.Refused NotAwaited) Prior.Nothing))) ≡ cond b (by_meaning (meaning_in objects f) p f fit) (refused_by NotAwaited p)
      by_listening true = own_meaning (meaning_in objects f) f fit
      by_listening false = not_awaited

  unread : (r : Refusal) → done_plan p o (plan_of p (plain (Cue.Refused r) Prior.Nothing)) ≡ refused_by r p
  unfolding plan_of
  unread r = refl

  pub own_packet : (s : List ℕ) → done_plan p o (plan_of p (met_packet p s)) ≡ packet_of p s
  unfolding met_packet packet_of
  own_packet s = by_reading (read_of s)
    where
      by_reading : (r : Result Message Refusal) → done_plan p o (plan_of p (met_reading r p s)) ≡ read_to r p s
      by_reading (Ok m) = own_message m.objects m.fields (fit_of m.objects (first_object (part_of s)) p.last)
      by_reading (Err r) = unread r

  pub own_offer : (limit : ℕ) → done_plan p o (plan_of p (met_offer limit o)) ≡ new_offer_of p limit o
  unfolding met_offer new_offer_of
  own_offer limit = by_goodness (good_offer limit o)
    where
      by_goodness : (b : Bool) → done_plan p o (plan_of p (cond b (plain (Cue.Meets Stimulus.NewOffer false) Prior.Replaced) (plain (Cue.Refused BadOffer) Prior.Nothing))) ≡ offer_judged b p o
      by_goodness true = led Prior.Replaced Stimulus.NewOffer false (λ m a. refl)
      by_goodness false = unread BadOffer

-- ---- the power answer within the event
-- on the way over Judge the same timer is stopped as on the way past it
stopped_alike : (s : State) (pending : Bool) (yes' : Bool) → stopped s State.Judge (running s pending) ≡ stopped s (replying yes') (running s pending)
stopped_alike State.Detached pending true = refl
stopped_alike State.Detached pending false = refl
stopped_alike State.Offer pending true = refl
stopped_alike State.Offer pending false = refl
stopped_alike State.Discovery pending true = refl
stopped_alike State.Discovery pending false = refl
stopped_alike State.Disabled pending true = refl
stopped_alike State.Disabled pending false = refl
stopped_alike State.Judge pending true = refl
stopped_alike State.Judge pending false = refl
stopped_alike State.Accepting pending true = refl
stopped_alike State.Accepting pending false = refl
stopped_alike State.Moving pending true = refl
stopped_alike State.Moving pending false = refl
stopped_alike State.Telling pending true = refl
stopped_alike State.Telling pending false = refl
stopped_alike State.Ready pending true = refl
stopped_alike State.Ready pending false = refl
stopped_alike State.Declining pending true = refl
stopped_alike State.Declining pending false = refl
stopped_alike State.Refusing pending true = refl
stopped_alike State.Refusing pending false = refl
stopped_alike State.Waiting pending true = refl
stopped_alike State.Waiting pending false = refl
stopped_alike State.Soft pending true = refl
stopped_alike State.Soft pending false = refl
stopped_alike State.Answering pending true = refl
stopped_alike State.Answering pending false = refl
stopped_alike State.Hard pending true = refl
stopped_alike State.Hard pending false = refl
stopped_alike State.Default pending true = refl
stopped_alike State.Default pending false = refl

-- the answer to a port in Judge is what the plan does at once
over_judge : (p : Port) (s : State) (crc : Option (List ℕ)) (a : Asked) (pending yes' : Bool) →
    joined (turn p s crc (running s pending) Change.Nothing Way.Judge a) (event_of (turn p s crc (running s pending) Change.Nothing Way.Judge a).port (answer_of yes'))
    ≡ turn (judging true a p) s crc (running s pending) (answered_by yes' (goes (plain Cue.Done Prior.Nothing) None Change.Nothing false Way.Stay)).change (answered_by yes' (goes (plain Cue.Done Prior.Nothing) None Change.Nothing false Way.Stay)).way a
unfolding turn enter event_of happens leads change_of
over_judge p s crc a pending true = rw (stopped_alike s pending true) refl
over_judge p s crc a pending false = rw (stopped_alike s pending false) refl

module _ (t : Slot) (o : Offer) (others supply : ℕ) where
  unsettled : (a : Answer) → has_asked t.port a.port ≡ false → settled t others supply a ≡ a
  unfolding settled
  unsettled a e = rw e refl

  asked_so : (a : Answer) → has_asked t.port a.port ≡ true → settled t others supply a ≡ judged (approves t others supply a.port.power.accepted.worth) a
  unfolding settled
  asked_so a e = rw e refl

  -- what asks nothing, on a way that does not lead to Judge
  asks_nothing : (m : Met) (runs : Option Timer) (change : Change) (way : Way) → is_judge way ≡ false →
      done_plan t.port o (settled_plan t others supply (Ok (goes m runs change false way))) ≡ settled t others supply (performed t.port o (goes m runs change false way))
  unfolding with_answer
  asks_nothing m runs change way w = sym (unsettled (performed t.port o (goes m runs change false way)) (not_asked t.port o (goes m runs change false way) refl w))

  refused_so : (r : Refusal) → done_plan t.port o (settled_plan t others supply (Err r)) ≡ settled t others supply (refused_by r t.port)
  unfolding with_answer
  refused_so r = sym (unsettled (refused_by r t.port) (never (same (state_of t.port) State.Judge)))

  -- what asks: the power answer is in it
  answered_so : (h : Heard) (id : ℕ) (soft : Bool) (crc : Option (List ℕ)) (a : Asked) (yes' : Bool) →
      performed t.port o (answered_by yes' (goes (record { cue = Cue.Hears h; prior = Prior.Heard id soft; crc = crc; asked = a }) (running_in t.port) Change.Nothing true Way.Judge))
      ≡ judged yes' (turn (hearing t.port id soft) (state_of t.port) crc (running_in t.port) Change.Nothing Way.Judge a)
  unfolding judged performed
  answered_so h id soft crc a true = sym (over_judge (hearing t.port id soft) (state_of t.port) crc a (pending_in t.port) true)
  answered_so h id soft crc a false = sym (over_judge (hearing t.port id soft) (state_of t.port) crc a (pending_in t.port) false)

  asks_so : (h : Heard) (id : ℕ) (soft : Bool) (crc : Option (List ℕ)) (a : Asked) → same (state_of t.port) State.Judge ≡ false →
      done_plan t.port o (settled_plan t others supply (Ok (goes (record { cue = Cue.Hears h; prior = Prior.Heard id soft; crc = crc; asked = a }) (running_in t.port) Change.Nothing true Way.Judge)))
      ≡ settled t others supply (turn (hearing t.port id soft) (state_of t.port) crc (running_in t.port) Change.Nothing Way.Judge a)
  unfolding with_answer turn enter
  asks_so h id soft crc a elsewhere =
      answered_so h id soft crc a (approves t others supply a.worth)
      ∙ sym (asked_so (turn (hearing t.port id soft) (state_of t.port) crc (running_in t.port) Change.Nothing Way.Judge a) (and (not (same (state_of t.port) State.Judge)) true (not_false (same (state_of t.port) State.Judge) elsewhere) refl))

  led_so : (m : Met) (e : Stimulus) (expired : Bool) (l : Option Way) → T (quiet_test l) →
      done_plan t.port o (settled_plan t others supply (plan_led l e expired t.port m)) ≡ settled t others supply (done_plan t.port o (plan_led l e expired t.port m))
  led_so m e expired None k = refused_so NotAwaited
  led_so m e expired (Some way) k = asks_nothing m (still_runs expired (running_in t.port)) (change_of (state_of t.port) e) way (not_true (is_judge way) (holds (not (is_judge way)) k))

  heard_so' : (h : Heard) (id : ℕ) (soft : Bool) (crc : Option (List ℕ)) (a : Asked) (way : Way) (b : Bool) → is_judge way ≡ b → T (ask_test (state_of t.port) (Some way)) →
      done_plan t.port o (settled_plan t others supply (Ok (goes (record { cue = Cue.Hears h; prior = Prior.Heard id soft; crc = crc; asked = a }) (running_in t.port) Change.Nothing b way)))
      ≡ settled t others supply (performed t.port o (goes (record { cue = Cue.Hears h; prior = Prior.Heard id soft; crc = crc; asked = a }) (running_in t.port) Change.Nothing b way))
  heard_so' h id soft crc a way false e k = asks_nothing (record { cue = Cue.Hears h; prior = Prior.Heard id soft; crc = crc; asked = a }) (running_in t.port) Change.Nothing way e
  heard_so' h id soft crc a way true e k =
      rw (is_judge_lem way e, to_judge t.port o id soft crc (running_in t.port) a)
      (asks_so h id soft crc a (not_true (same (state_of t.port) State.Judge) (then (is_judge way) (not (same (state_of t.port) State.Judge)) k e)))

  heard_led : (h : Heard) (id : ℕ) (soft : Bool) (crc : Option (List ℕ)) (a : Asked) (l : Option Way) → T (ask_test (state_of t.port) l) →
      done_plan t.port o (settled_plan t others supply (plan_heard l t.port (record { cue = Cue.Hears h; prior = Prior.Heard id soft; crc = crc; asked = a })))
      ≡ settled t others supply (done_plan t.port o (plan_heard l t.port (record { cue = Cue.Hears h; prior = Prior.Heard id soft; crc = crc; asked = a })))
  heard_led h id soft crc a None k = refused_so NotAwaited
  heard_led h id soft crc a (Some way) k = heard_so' h id soft crc a way (is_judge way) refl k

  -- what can be met: a new packet has been heard by the protocol rules
  data Sound : Met → Type 0 where
    refusing : (r : Refusal) → Sound (plain (Cue.Refused r) Prior.Nothing)
    nothing_more : (prior : Prior) (crc : Option (List ℕ)) (a : Asked) → Sound (record { cue = Cue.Done; prior = prior; crc = crc; asked = a })
    meeting : (e : Stimulus) (expired : Bool) (prior : Prior) → Sound (plain (Cue.Meets e expired) prior)
    hearing_so : (h : Heard) (id : ℕ) (soft : Bool) (crc : Option (List ℕ)) (a : Asked) → Sound (record { cue = Cue.Hears h; prior = Prior.Heard id soft; crc = crc; asked = a })

  settles : (m : Met) → Sound m → done_plan t.port o (settled_plan t others supply (plan_of t.port m)) ≡ settled t others supply (done_plan t.port o (plan_of t.port m))
  unfolding plan_of
  settles m (refusing r) = refused_so r
  settles m (nothing_more prior crc a) = asks_nothing (record { cue = Cue.Done; prior = prior; crc = crc; asked = a }) None Change.Nothing Way.Stay refl
  settles m (meeting e expired prior) = led_so (plain (Cue.Meets e expired) prior) e expired (leads (state_of t.port) e (facts_of t.port)) (no_stimulus_asks (state_of t.port) e (facts_of t.port))
  settles m (hearing_so h id soft crc a) = heard_led h id soft crc a (on_packet (state_of t.port) h) (asks_elsewhere (state_of t.port) h)

  sound_outcome : (o : Outcome) (k : Cue) → Sound (plain k Prior.Nothing) → Sound (met_outcome o k)
  sound_outcome NonePending k s = s
  sound_outcome Acknowledged k s = meeting Stimulus.Acknowledged false Prior.Ended
  sound_outcome Again k s = nothing_more Prior.Again no_crc nothing_asked
  sound_outcome Failed k s = meeting Stimulus.Failed false Prior.Ended

  sound_event : (e : Event) → Sound (met_event t.port.channel e)
  unfolding met_event
  sound_event Event.Attach = meeting Stimulus.Attach false Prior.Cleared
  sound_event Event.Detach = meeting Stimulus.Detach false Prior.Cleared
  sound_event Event.HardReset = meeting Stimulus.HardReset false Prior.Nothing
  sound_event Event.Acknowledgement = sound_outcome (on_expiry t.port.channel) (Cue.Refused NotAwaited) (refusing NotAwaited)
  sound_event Event.SenderResponse = meeting Stimulus.SenderResponse true Prior.Nothing
  sound_event Event.SourceCapability = meeting Stimulus.SourceCapability true Prior.Nothing
  sound_event Event.PsHardReset = meeting Stimulus.PsHardReset true Prior.Nothing
  sound_event Event.SupplyReady = meeting Stimulus.SupplyReady false Prior.Nothing
  sound_event Event.Yes = meeting Stimulus.Yes false Prior.Nothing
  sound_event Event.No = meeting Stimulus.No false Prior.Nothing

  sound_other : (f : Fields) (m : Meaning) (fit : Option Asked) (b : Bool) → Sound (cond b (met_repeat f) (met_new f m fit))
  sound_other f m fit true = nothing_more Prior.Nothing (crc_for f) nothing_asked
  sound_other f m fit false = hearing_so (heard_as m f.message_type fit) f.message_id (is_soft_reset m) (crc_for f) (asked_by fit)

  sound_meaning : (m : Meaning) (f : Fields) (fit : Option Asked) (b : Bool) →
      Sound (cond b (met_outcome (on_good_crc t.port.channel f.message_id) Cue.Done) (cond (is_repeat t.port.channel f.message_id && not (is_soft_reset m)) (met_repeat f) (met_new f m fit)))
  sound_meaning m f fit true = sound_outcome (on_good_crc t.port.channel f.message_id) Cue.Done (nothing_more Prior.Nothing no_crc nothing_asked)
  sound_meaning m f fit false = sound_other f m fit (is_repeat t.port.channel f.message_id && not (is_soft_reset m))

  sound_message : (objects : ℕ) (f : Fields) (fit : Option Asked) (b : Bool) → Sound (cond b (met_meaning (meaning_in objects f) t.port f fit) (plain (Cue.Refused NotAwaited) Prior.Nothing))
  unfolding met_meaning
  sound_message objects f fit true = sound_meaning (meaning_in objects f) f fit (is_good_crc (meaning_in objects f))
  sound_message objects f fit false = refusing NotAwaited

  sound_reading : (r : Result Message Refusal) (s : List ℕ) → Sound (met_reading r t.port s)
  unfolding met_message
  sound_reading (Ok m) s = sound_message m.objects m.fields (fit_of m.objects (first_object (part_of s)) t.port.last) (listens (state_of t.port))
  sound_reading (Err r) s = refusing r

  sound_packet : (s : List ℕ) → Sound (met_packet t.port s)
  unfolding met_packet
  sound_packet s = sound_reading (read_of s) s

  -- THE CLAIM: an event's answer
  pub event_alike : (e : Event) → done_of t o (met_event t.port.channel e) others supply ≡ settled t others supply (event_of t.port e)
  unfolding done_of
  event_alike e = settles (met_event t.port.channel e) (sound_event e) ∙ ap (settled t others supply) (own_event t.port o e)

  -- THE CLAIM: a packet's answer
  pub packet_alike : (s : List ℕ) → done_of t o (met_packet t.port s) others supply ≡ settled t others supply (packet_of t.port s)
  unfolding done_of
  packet_alike s = settles (met_packet t.port s) (sound_packet s) ∙ ap (settled t others supply) (own_packet t.port o s)

  sound_offer : (limit : ℕ) (x : Offer) (b : Bool) → Sound (cond b (plain (Cue.Meets Stimulus.NewOffer false) Prior.Replaced) (plain (Cue.Refused BadOffer) Prior.Nothing))
  sound_offer limit x true = meeting Stimulus.NewOffer false Prior.Replaced
  sound_offer limit x false = refusing BadOffer

  -- THE CLAIM: a new offer's answer
  pub offer_alike : done_of t o (met_offer t.limit o) others supply ≡ settled t others supply (new_offer_of t.port t.limit o)
  unfolding done_of met_offer
  offer_alike = settles (met_offer t.limit o) (sound_offer t.limit o (good_offer t.limit o)) ∙ ap (settled t others supply) (own_offer t.port o t.limit)
