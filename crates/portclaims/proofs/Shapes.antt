-- Every step of a port has one of five shapes: refused, nothing done, sent again, led on by a stimulus, led on by a new packet. The claims about all
-- events go through these five. Assumes nothing.
use Prim.Native.Nat.{ℕ}
use mathlib.Core.Path.{◌≡◌, refl}
use mathlib.Core.Bool.{Bool, true, false, ◌&&◌, not, cond}
use mathlib.Core.List.{List}
use lib.Dec.{ltb, eqb}
use Rattle.ground.specs.declared.Refusal.{Refusal}
use Rattle.ground.specs.declared.Refusal.TheVariants.{NotAwaited, BadOffer}
use Rattle.message.specs.declared.Fields.{Fields}
use Rattle.meaning.specs.declared.Meaning.{Meaning}
use Rattle.reading.specs.Reading.{read_of, part_of, message_with}
use Rattle.offers.specs.declared.Offer.{Offer}
use Rattle.offers.specs.Offers.{good_offer}
use Rattle.offers.specs.Requests.{fit_of}
use Rattle.channel.specs.declared.Outcome.{Outcome}
use Rattle.channel.specs.declared.Outcome.TheVariants.{NonePending, Acknowledged, Again, Failed}
use Rattle.channel.specs.Channel.{pending_id, is_repeat, most_retries}
use Rattle.channel.specs.Outcomes.{outcome_of, on_good_crc, on_expiry}
use Rattle.power.specs.declared.Change.{Change}
use Rattle.power.specs.Power.{nothing_asked}
use Rattle.source.specs.declared.Stimulus.{Stimulus}
use Rattle.source.specs.declared.Timer.{Timer}
use Rattle.source.specs.declared.Way.{Way}
use Rattle.source.specs.States.{listens}
use Rattle.stimuli.specs.Leads.{leads}
use Rattle.hearing.specs.Packets.{on_packet}
use Rattle.source.specs.Changes.{change_of}
use Rattle.port.specs.declared.Port.{Port}
use Rattle.port.specs.declared.Answer.{Answer}
use Rattle.port.specs.declared.Event.{Event}
use Rattle.port.specs.Memory.{state_of, cleared, pending_in, facts_of, running_in, no_crc, refused_by}
use Rattle.port.specs.Steps.{turn, led_to, happens, ending, acknowledged, failed, resent, by_outcome, nothing_done, event_of, replaced, offer_judged, new_offer_of}
use Rattle.port.specs.Packets.{heard_as, asked_by, is_soft_reset, crc_for, hearing, led_by, new_packet, other_packet, good_crc_heard, by_meaning, message_of, meaning_in, first_object, packet_of, read_to}
use Rattle.port.specs.Calls.{Call, event, packet, new_offer, step}
use Rattle.std.specs.Prelude.{Some, None, Ok, Err, Option, Result}
use Rattle.reading.specs.declared.Message.{Message}
use Rattle.offers.specs.declared.Asked.{Asked}

-- whether a call is the expiry of a timer that is started and stopped
abbrev expires : Event → Bool
expires Event.Attach = false
expires Event.Detach = false
expires Event.HardReset = false
expires Event.Acknowledgement = false
expires Event.SenderResponse = true
expires Event.SourceCapability = true
expires Event.PsHardReset = true
expires Event.SupplyReady = false
expires Event.Yes = false
expires Event.No = false

abbrev pub is_expiry : Call → Bool
is_expiry (event e) = expires e
is_expiry (packet s) = false
is_expiry (new_offer limit o) = false

-- the port after the protocol rules, and the timer that still runs, when a call brings a stimulus
pub data Rule (p : Port) : Call → Stimulus → Port → Option Timer → Type 0 where
  by_attach : Rule p (event Event.Attach) Stimulus.Attach (cleared p) (running_in p)
  by_detach : Rule p (event Event.Detach) Stimulus.Detach (cleared p) (running_in p)
  by_hard_reset : Rule p (event Event.HardReset) Stimulus.HardReset p (running_in p)
  by_acknowledgement : (c : Call) → is_expiry c ≡ false → pending_in p ≡ true → Rule p c Stimulus.Acknowledged (ending p) (running_in p)
  by_failure : (c : Call) → is_expiry c ≡ false → pending_in p ≡ true → Rule p c Stimulus.Failed (ending p) (running_in p)
  by_sender_response : Rule p (event Event.SenderResponse) Stimulus.SenderResponse p None
  by_source_capability : Rule p (event Event.SourceCapability) Stimulus.SourceCapability p None
  by_ps_hard_reset : Rule p (event Event.PsHardReset) Stimulus.PsHardReset p None
  by_supply_ready : Rule p (event Event.SupplyReady) Stimulus.SupplyReady p (running_in p)
  by_yes : Rule p (event Event.Yes) Stimulus.Yes p (running_in p)
  by_no : Rule p (event Event.No) Stimulus.No p (running_in p)
  by_offer_lem : (limit : ℕ) (o : Offer) → good_offer limit o ≡ true → Rule p (new_offer limit o) Stimulus.NewOffer (replaced p o) (running_in p)

-- the bytes s are a packet that is new to port p: read with these fields and this meaning, listened to, no GoodCRC, and no repeat but Soft_Reset
pub record New (p : Port) (s : List ℕ) (n : ℕ) (f : Fields) (m : Meaning) : Type 0 where
  pub read : read_of s ≡ message_with n f
  pub listening : listens (state_of p) ≡ true
  pub meaning : meaning_in n f ≡ m
  pub fresh : (is_repeat p.channel f.message_id && not (is_soft_reset m)) ≡ false

-- whether the Request in the bytes s fits the last offer put on the wire
abbrev pub fit_in : Port → ℕ → List ℕ → Option Asked
fit_in p n s = fit_of n (first_object (part_of s)) p.last

pub data Shape (p : Port) : Call → Answer → Type 0 where
  refused : (c : Call) (r : Refusal) → Shape p c (refused_by r p)
  idle : (c : Call) → is_expiry c ≡ false → (crc : Option (List ℕ)) → Shape p c (nothing_done crc p)
  again : (c : Call) → is_expiry c ≡ false → pending_in p ≡ true → ltb p.channel.pending.retries most_retries ≡ true → Shape p c (resent p)
  led : (c : Call) (e : Stimulus) (after : Port) (runs : Option Timer) (way : Way) → Rule p c e after runs → leads (state_of p) e (facts_of p) ≡ Some way →
      Shape p c (turn after (state_of p) no_crc runs (change_of (state_of p) e) way nothing_asked)
  heard : (s : List ℕ) (n : ℕ) (f : Fields) (m : Meaning) (way : Way) → New p s n f m → on_packet (state_of p) (heard_as m f.message_type (fit_in p n s)) ≡ Some way →
      Shape p (packet s) (turn (hearing p f.message_id (is_soft_reset m)) (state_of p) (crc_for f) (running_in p) Change.Nothing way (asked_by (fit_in p n s)))

module _ (p : Port) where
  led_to_lem : (c : Call) (e : Stimulus) (after : Port) (runs : Option Timer) → Rule p c e after runs → (l : Option Way) → leads (state_of p) e (facts_of p) ≡ l → Shape p c (led_to p e after runs l)
  led_to_lem c e after runs rule None h = refused c NotAwaited
  led_to_lem c e after runs rule (Some way) h = led c e after runs way rule h

  happening : (c : Call) (e : Stimulus) (after : Port) (runs : Option Timer) → Rule p c e after runs → Shape p c (happens p e after runs)
  unfolding happens
  happening c e after runs rule = led_to_lem c e after runs rule (leads (state_of p) e (facts_of p)) refl

  -- what an outcome says of the pending message
  abbrev Told : Outcome → Type 0
  Told NonePending = Unit {0}
  Told Acknowledged = pending_in p ≡ true
  Told Again = (pending_in p ≡ true) × (ltb p.channel.pending.retries most_retries ≡ true)
  Told Failed = pending_in p ≡ true

  told : (pending acked more : Bool) → pending_in p ≡ pending → ltb p.channel.pending.retries most_retries ≡ more → Told (outcome_of pending acked more)
  told false acked more e r = tt
  told true true more e r = e
  told true false true e r = (e, r)
  told true false false e r = e

  outcome : (c : Call) → is_expiry c ≡ false → (o : Outcome) (a : Answer) → Told o → Shape p c a → Shape p c (by_outcome o a p)
  unfolding by_outcome acknowledged failed
  outcome c u NonePending a t s = s
  outcome c u Acknowledged a t s = happening c Stimulus.Acknowledged (ending p) (running_in p) (by_acknowledgement c u t)
  outcome c u Again a t s = again c u t.0 t.1
  outcome c u Failed a t s = happening c Stimulus.Failed (ending p) (running_in p) (by_failure c u t)

  on_event : (e : Event) → Shape p (event e) (event_of p e)
  unfolding event_of on_expiry
  on_event Event.Attach = happening (event Event.Attach) Stimulus.Attach (cleared p) (running_in p) by_attach
  on_event Event.Detach = happening (event Event.Detach) Stimulus.Detach (cleared p) (running_in p) by_detach
  on_event Event.HardReset = happening (event Event.HardReset) Stimulus.HardReset p (running_in p) by_hard_reset
  on_event Event.Acknowledgement =
      outcome (event Event.Acknowledgement) refl (on_expiry p.channel) (refused_by NotAwaited p)
      (told (pending_in p) false (ltb p.channel.pending.retries most_retries) refl refl)
      (refused (event Event.Acknowledgement) NotAwaited)
  on_event Event.SenderResponse = happening (event Event.SenderResponse) Stimulus.SenderResponse p None by_sender_response
  on_event Event.SourceCapability = happening (event Event.SourceCapability) Stimulus.SourceCapability p None by_source_capability
  on_event Event.PsHardReset = happening (event Event.PsHardReset) Stimulus.PsHardReset p None by_ps_hard_reset
  on_event Event.SupplyReady = happening (event Event.SupplyReady) Stimulus.SupplyReady p (running_in p) by_supply_ready
  on_event Event.Yes = happening (event Event.Yes) Stimulus.Yes p (running_in p) by_yes
  on_event Event.No = happening (event Event.No) Stimulus.No p (running_in p) by_no

  on_judged : (limit : ℕ) (o : Offer) (good : Bool) → good_offer limit o ≡ good → Shape p (new_offer limit o) (offer_judged good p o)
  on_judged limit o true h = happening (new_offer limit o) Stimulus.NewOffer (replaced p o) (running_in p) (by_offer_lem limit o h)
  on_judged limit o false h = refused (new_offer limit o) BadOffer

  -- ---- packets
  module _ (s : List ℕ) (n : ℕ) (f : Fields) (e : read_of s ≡ message_with n f) (l : listens (state_of p) ≡ true) where
    abbrev fit : Option Asked
    fit = fit_in p n s

    led_by_lem : (m : Meaning) → New p s n f m → (l : Option Way) → on_packet (state_of p) (heard_as m f.message_type fit) ≡ l → Shape p (packet s) (led_by p f m fit l)
    led_by_lem m k None h = refused (packet s) NotAwaited
    led_by_lem m k (Some way) h = heard s n f m way k h

    on_other_by : (m : Meaning) → meaning_in n f ≡ m → (b : Bool) → (is_repeat p.channel f.message_id && not (is_soft_reset m)) ≡ b →
        Shape p (packet s) (cond b (nothing_done (crc_for f) p) (new_packet p f m fit))
    unfolding new_packet
    on_other_by m g true b-is = idle (packet s) refl (crc_for f)
    on_other_by m g false b-is =
        led_by_lem m (record { read = e; listening = l; meaning = g; fresh = b-is }) (on_packet (state_of p) (heard_as m f.message_type fit)) refl

    on_other : (m : Meaning) → meaning_in n f ≡ m → Shape p (packet s) (other_packet p f m fit)
    unfolding other_packet
    on_other m g = on_other_by m g (is_repeat p.channel f.message_id && not (is_soft_reset m)) refl

    on_good_crc_lem : Shape p (packet s) (good_crc_heard p f)
    unfolding good_crc_heard on_good_crc
    on_good_crc_lem =
        outcome (packet s) refl (on_good_crc p.channel f.message_id) (nothing_done no_crc p)
        (told (pending_in p) (eqb (pending_id p.channel) f.message_id) (ltb p.channel.pending.retries most_retries) refl refl)
        (idle (packet s) refl no_crc)

    on_meaning : (m : Meaning) → meaning_in n f ≡ m → Shape p (packet s) (by_meaning m p f fit)
    unfolding by_meaning
    on_meaning Meaning.GoodCrc g = on_good_crc_lem
    on_meaning m g = on_other m g

  on_message : (s : List ℕ) (n : ℕ) (f : Fields) → read_of s ≡ message_with n f → (b : Bool) → listens (state_of p) ≡ b →
      Shape p (packet s) (cond b (by_meaning (meaning_in n f) p f (fit_in p n s)) (refused_by NotAwaited p))
  on_message s n f e true l = on_meaning s n f e l (meaning_in n f) refl
  on_message s n f e false l = refused (packet s) NotAwaited

  on_read : (s : List ℕ) (r : Result Message Refusal) → read_of s ≡ r → Shape p (packet s) (read_to r p s)
  unfolding message_of
  on_read s (Ok m) e = on_message s m.objects m.fields e (listens (state_of p)) refl
  on_read s (Err r) e = refused (packet s) r

  pub shape : (c : Call) → Shape p c (step p c)
  unfolding step packet_of new_offer_of
  shape (event e) = on_event e
  shape (packet s) = on_read s (read_of s) refl
  shape (new_offer limit o) = on_judged limit o (good_offer limit o) refl
