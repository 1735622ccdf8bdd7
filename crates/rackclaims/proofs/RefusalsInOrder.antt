-- "An event tries 9, then 1 to 4 or 7, then 8": an event at a port of the rack is refused with just the number that the table gives it, and is fine where the table
-- gives none. For every rack, number and event. Assumes nothing.
use Prim.Native.Nat.{ℕ}
use mathlib.Core.Path.{◌≡◌, refl, sym, ap, ◌∙◌}
use mathlib.Core.Bool.{Bool, true, false, not, cond, ◌&&◌, ◌||◌}
use mathlib.Core.List.{List}
use lib.Dec.{T, ltb}
use Rattle.ground.specs.declared.Refusal.TheVariants.{BadOffer, NotAwaited, NotInRack}
use Rattle.message.specs.declared.Fields.{Fields}
use Rattle.meaning.specs.declared.Meaning.{Meaning}
use Rattle.reading.specs.Reading.{read_of}
use Rattle.offers.specs.declared.Offer.{Offer}
use Rattle.offers.specs.Offers.{good_offer}
use Rattle.channel.specs.declared.Outcome.{Outcome}
use Rattle.channel.specs.Channel.{is_repeat, most_retries}
use Rattle.channel.specs.Outcomes.{outcome_of, on_good_crc, on_expiry}
use Rattle.source.specs.declared.Stimulus.{Stimulus}
use Rattle.source.specs.declared.Timer.{Timer}
use Rattle.source.specs.declared.Heard.{Heard}
use Rattle.source.specs.declared.Facts.{Facts}
use Rattle.source.specs.declared.State.{State}
use Rattle.source.specs.States.{same, listens}
use Rattle.source.proofs.Finite.{everywhere, at_packets}
use Rattle.stimuli.specs.Leads.{leads}
use Rattle.hearing.specs.Packets.{on_packet}
use Rattle.port.specs.declared.Event.{Event}
use Rattle.port.specs.declared.Port.{Port}
use Rattle.port.specs.Memory.{state_of, facts_of, pending_in, no_crc, refused_by}
use Rattle.port.specs.Steps.{turn, led_to, happens, acknowledged, failed, resent, by_outcome, nothing_done, event_of, offer_judged, new_offer_of}
use Rattle.port.specs.Packets.{heard_as, is_soft_reset, crc_for, led_by, new_packet, other_packet, good_crc_heard, by_meaning, message_of, meaning_in, read_to, packet_of}
use Rattle.port.specs.Calls as Port
use Rattle.portclaims.specs.Between.{implies}
use Rattle.portclaims.proofs.Truth.{second, then, true_not_false}
use Rattle.portclaims.proofs.Shapes.{fit_in}
use Rattle.portclaims.proofs.RefusedChangesNothing.{the_same_port}
use Rattle.slot.specs.Answers.{has_asked}
use Rattle.rack.specs.declared.Rack.{Rack}
use Rattle.rack.specs.Ports.{at, in_rack, place_of}
use Rattle.rack.specs.Steps.{Happening, event, packet, new_offer, call_of, own_answer, answer_at, if_in_rack, step}
use Rattle.rackclaims.specs.Verdicts.{awaits, or_eight, of_packet, verdict_at, verdict_in}
use Rattle.rackclaims.proofs.Settling.{judge_is}
use Rattle.rackclaims.proofs.RefusedChangesNothing.{fine_in_judge}
use Rattle.rackclaims.proofs.Neighbours.{answers_by_itself, answers_by_the_rule}
use Rattle.ground.specs.Refusals.{Verdict}
use Rattle.std.specs.Prelude.{Some, None, Ok, Err, Option, Result}
use Rattle.reading.specs.declared.Message.{Message}
use Rattle.ground.specs.declared.Refusal.{Refusal}
use Rattle.source.specs.declared.Way.{Way}
use Rattle.offers.specs.declared.Asked.{Asked}

-- ---- the tables, tested: a stimulus leads somewhere exactly where it is awaited
abbrev pub is_to : Option Way → Bool
is_to None = false
is_to (Some way) = true

abbrev pub awaited_in : State → Stimulus → Facts → Bool
awaited_in s Stimulus.Attach f = same s State.Detached
awaited_in s Stimulus.Detach f = not (same s State.Detached)
awaited_in s Stimulus.HardReset f = listens s
awaited_in s Stimulus.Acknowledged f = true
awaited_in s Stimulus.Failed f = true
awaited_in s Stimulus.SenderResponse f = (same s State.Offer || same s State.Soft) && not f.pending
awaited_in s Stimulus.SourceCapability f = same s State.Discovery
awaited_in s Stimulus.PsHardReset f = same s State.Hard
awaited_in s Stimulus.SupplyReady f = same s State.Moving || same s State.Default
awaited_in s Stimulus.NewOffer f = true
awaited_in s Stimulus.Yes f = same s State.Judge
awaited_in s Stimulus.No f = same s State.Judge

abbrev agree : Bool → Bool → Bool
agree true b = b
agree false b = not b

agreed : (a b : Bool) → T (agree a b) → a ≡ b
agreed true true t = refl
agreed true false t = absurd t
agreed false true t = absurd t
agreed false false t = refl

stimuli_tested : (s : State) (e : Stimulus) (f : Facts) → T (agree (is_to (leads s e f)) (awaited_in s e f))
unfolding leads
stimuli_tested = everywhere (λ s e f. agree (is_to (leads s e f)) (awaited_in s e f)) tt

pub leads_where_awaited : (s : State) (e : Stimulus) (f : Facts) → is_to (leads s e f) ≡ awaited_in s e f
leads_where_awaited s e f = agreed (is_to (leads s e f)) (awaited_in s e f) (stimuli_tested s e f)

packets_tested : (s : State) (h : Heard) → T (implies (listens s) (is_to (on_packet s h)))
unfolding on_packet
packets_tested = at_packets (λ s h. implies (listens s) (is_to (on_packet s h))) tt

-- ---- a port by itself
module _ (p : Port) where
  led : (e : Stimulus) (q : Port) (t : Option Timer) (l : Option Way) → (led_to p e q t l).verdict ≡ or_eight (is_to l)
  unfolding turn
  led e q t None = refl
  led e q t (Some way) = refl

  happening : (e : Stimulus) (q : Port) (t : Option Timer) → (happens p e q t).verdict ≡ or_eight (awaited_in (state_of p) e (facts_of p))
  unfolding happens
  happening e q t = led e q t (leads (state_of p) e (facts_of p)) ∙ ap or_eight (leads_where_awaited (state_of p) e (facts_of p))

  expiry : (pending more : Bool) → (by_outcome (outcome_of pending false more) (refused_by NotAwaited p) p).verdict ≡ or_eight pending
  unfolding by_outcome failed resent
  expiry false more = refl
  expiry true true = refl
  expiry true false = happening Stimulus.Failed _ _

  on_event : (e : Event) → (event_of p e).verdict ≡ or_eight (awaits p e)
  unfolding event_of on_expiry
  on_event Event.Attach = happening Stimulus.Attach _ _
  on_event Event.Detach = happening Stimulus.Detach _ _
  on_event Event.HardReset = happening Stimulus.HardReset _ _
  on_event Event.Acknowledgement = expiry (pending_in p) (ltb p.channel.pending.retries most_retries)
  on_event Event.SenderResponse = happening Stimulus.SenderResponse _ _
  on_event Event.SourceCapability = happening Stimulus.SourceCapability _ _
  on_event Event.PsHardReset = happening Stimulus.PsHardReset _ _
  on_event Event.SupplyReady = happening Stimulus.SupplyReady _ _
  on_event Event.Yes = happening Stimulus.Yes _ _
  on_event Event.No = happening Stimulus.No _ _

  -- while the port listens
  module _ (listening : listens (state_of p) ≡ true) where
    good_crc_lem : (o : Outcome) → (by_outcome o (nothing_done no_crc p) p).verdict ≡ Ok tt
    unfolding by_outcome acknowledged failed resent nothing_done
    good_crc_lem Outcome.NonePending = refl
    good_crc_lem Outcome.Acknowledged = happening Stimulus.Acknowledged _ _
    good_crc_lem Outcome.Again = refl
    good_crc_lem Outcome.Failed = happening Stimulus.Failed _ _

    heard : (f : Fields) (m : Meaning) (fit : Option Asked) (l : Option Way) → (led_by p f m fit l).verdict ≡ or_eight (is_to l)
    unfolding turn
    heard f m fit None = refl
    heard f m fit (Some way) = refl

    other : (f : Fields) (m : Meaning) (fit : Option Asked) (b : Bool) → (cond b (nothing_done (crc_for f) p) (new_packet p f m fit)).verdict ≡ Ok tt
    unfolding nothing_done new_packet
    other f m fit true = refl
    other f m fit false =
        let h = heard_as m f.message_type fit in
        heard f m fit (on_packet (state_of p) h) ∙ ap or_eight (then (listens (state_of p)) (is_to (on_packet (state_of p) h)) (packets_tested (state_of p) h) listening)

    other_packet_lem : (f : Fields) (m : Meaning) (fit : Option Asked) → (other_packet p f m fit).verdict ≡ Ok tt
    unfolding other_packet
    other_packet_lem f m fit = other f m fit (is_repeat p.channel f.message_id && not (is_soft_reset m))

    by_meaning_lem : (m : Meaning) (f : Fields) (fit : Option Asked) → (by_meaning m p f fit).verdict ≡ Ok tt
    unfolding by_meaning good_crc_heard
    by_meaning_lem Meaning.GoodCrc f fit = good_crc_lem (on_good_crc p.channel f.message_id)
    by_meaning_lem Meaning.Unsupported f fit = other_packet_lem f Meaning.Unsupported fit
    by_meaning_lem Meaning.Reply f fit = other_packet_lem f Meaning.Reply fit
    by_meaning_lem Meaning.GetSourceCap f fit = other_packet_lem f Meaning.GetSourceCap fit
    by_meaning_lem Meaning.SoftReset f fit = other_packet_lem f Meaning.SoftReset fit
    by_meaning_lem Meaning.Quiet f fit = other_packet_lem f Meaning.Quiet fit
    by_meaning_lem Meaning.Request f fit = other_packet_lem f Meaning.Request fit

  on_message : (b : Bool) → listens (state_of p) ≡ b → (m : Meaning) (f : Fields) (fit : Option Asked) → (cond b (by_meaning m p f fit) (refused_by NotAwaited p)).verdict ≡ or_eight b
  on_message true l m f fit = by_meaning_lem l m f fit
  on_message false l m f fit = refl

  on_reading : (r : Result Message Refusal) (s : List ℕ) → (read_to r p s).verdict ≡ of_packet r p
  unfolding message_of
  on_reading (Ok m) s = on_message (listens (state_of p)) refl (meaning_in m.objects m.fields) m.fields (fit_in p m.objects s)
  on_reading (Err no') s = refl

  on_packet_lem : (s : List ℕ) → (packet_of p s).verdict ≡ of_packet (read_of s) p
  unfolding packet_of
  on_packet_lem s = on_reading (read_of s) s

  on_offer : (b : Bool) (o : Offer) → (offer_judged b p o).verdict ≡ cond b (Ok tt) (Err BadOffer)
  on_offer true o = happening Stimulus.NewOffer _ _
  on_offer false o = refl

-- ---- in the rack
pub never_twice : (b : Bool) → (not b && b) ≡ false
never_twice true = refl
never_twice false = refl

module _ (r : Rack) (i : ℕ) where
  own_verdict : (h : Happening) → (own_answer r i h).verdict ≡ verdict_at (at r i) h
  unfolding Port.step new_offer_of
  own_verdict (event e) = on_event (at r i).port e
  own_verdict (packet s) = on_packet_lem (at r i).port s
  own_verdict (new_offer o) = on_offer (at r i).port (good_offer (at r i).limit o) o

  -- a port that has asked was not refused
  asked_is_fine : (h : Happening) → has_asked (at r i).port (own_answer r i h).port ≡ true → (v : Verdict) → (own_answer r i h).verdict ≡ v → (own_answer r i h).verdict ≡ Ok tt
  asked_is_fine h e (Ok _) g = g
  asked_is_fine h e (Err no') g =
      true_not_false
      (sym e
      ∙ ap (has_asked (at r i).port) (the_same_port (at r i).port (call_of (at r i).limit h) no' g)
      ∙ never_twice (same (state_of (at r i).port) State.Judge))

  by_asking : (h : Happening) (b : Bool) → has_asked (at r i).port (own_answer r i h).port ≡ b → (answer_at r i h).verdict ≡ (own_answer r i h).verdict
  by_asking h false e = ap (λ a. a.verdict) (answers_by_itself r i h e)
  by_asking h true e =
      ap (λ a. a.verdict) (answers_by_the_rule r i h e)
      ∙ fine_in_judge _ (own_answer r i h) (judge_is _ (second (not (same (state_of (at r i).port) State.Judge)) _ e))
      ∙ sym (asked_is_fine h e (own_answer r i h).verdict refl)

  verdict_here : (h : Happening) → (answer_at r i h).verdict ≡ verdict_at (at r i) h
  verdict_here h = by_asking h (has_asked (at r i).port (own_answer r i h).port) refl ∙ own_verdict h

by_number : (b : Bool) (r : Rack) (i : ℕ) (h : Happening) → (if_in_rack b r i h).verdict ≡ cond b (verdict_at (at r i) h) (Err NotInRack)
by_number true r i h = verdict_here r i h
by_number false r i h = refl

-- THE CLAIM
pub refused_just_so : (r : Rack) (number : ℕ) (h : Happening) → (step r number h).verdict ≡ verdict_in r number h
unfolding step
refused_just_so r number h = by_number (in_rack r number) r (place_of number) h
