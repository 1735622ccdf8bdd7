-- The five slips of the old firmware, each ruled out by a claim of its own. Assumes nothing.
use Prim.Native.Nat.{ℕ, ◌≤◌}
use native.Mathlib.Omega.{arith}
use mathlib.Core.Path.{◌≡◌, refl, sym, ap, ◌∙◌}
use mathlib.Core.Bool.{Bool, true, false, not, ◌&&◌}
use mathlib.Core.List.{List}
use lib.Dec.{T, ltb, leb}
use Rattle.message.specs.declared.Fields.{Fields}
use Rattle.message.specs.Types as Types
use Rattle.meaning.specs.declared.Meaning.{Meaning}
use Rattle.reading.specs.Reading.{read_of, part_of, message_with}
use Rattle.offers.specs.declared.Offer.{Offer}
use Rattle.offers.specs.Requests.{asked}
use Rattle.outgoing.specs.Packets.{no_packet, control_of, data_of}
use Rattle.channel.specs.Channel.{is_pending, is_repeat, next_id, most_retries, fresh, ended, heard as hears, sends}
use Rattle.power.specs.declared.Change.{Change}
use Rattle.power.specs.Power.{nothing_asked}
use Rattle.source.specs.declared.State.{State}
use Rattle.source.specs.declared.Stimulus.{Stimulus}
use Rattle.source.specs.declared.Heard.{Heard}
use Rattle.source.specs.declared.Facts.{Facts}
use Rattle.source.specs.declared.Way.{Way}
use Rattle.source.specs.States.{same, listens}
use Rattle.stimuli.specs.Leads.{leads}
use Rattle.hearing.specs.Packets.{on_packet}
use Rattle.source.specs.Changes.{change_of}
use Rattle.source.proofs.Finite.{everywhere}
use Rattle.port.specs.declared.Port.{Port}
use Rattle.port.specs.declared.Answer.{Answer}
use Rattle.port.specs.declared.Event.{Event}
use Rattle.port.specs.Memory.{state_of, pending_in, facts_of, most_offers}
use Rattle.port.specs.Entering.{enter}
use Rattle.port.specs.Steps.{turn, happens, failed, nothing_done, resent, event_of, replaced}
use Rattle.port.specs.Packets.{first_object, meaning_in, crc_for, heard_as, other_packet, new_packet, by_meaning, message_of, packet_of}
use Rattle.port.specs.Calls.{Call, event, packet, step}
use Rattle.portclaims.specs.Between.{implies, is_reset, Between}
use Rattle.portclaims.proofs.Groups.{is_sending}
pub use Rattle.portclaims.proofs.Groups.{is_stricter}
use Rattle.portclaims.proofs.Truth.{true_not_false, then, first, not_true}
use Rattle.portclaims.proofs.Ways as Ways
use Rattle.portclaims.proofs.Led.{at_way, is_same}
use Rattle.portclaims.proofs.Between.{step_keeps}
use Rattle.portclaims.specs.Held.{held_after}
use Rattle.portclaims.specs.Leading.{ToHard}
use Rattle.portclaims.specs.Messages.{Unheard}
use Rattle.portclaims.proofs.HeldByChange.{held_by_change}
use Rattle.portclaims.proofs.AcceptExactly.{FittingRequest, comes_to_ask, AskedBy, by_packet, asks_only_so}
use Rattle.portclaims.proofs.FailedSends.{again_or_failed, offer_fails_unconnected}
use Rattle.portclaims.proofs.Shapes.{Shape, refused, idle, again, led, heard, shape}
use Rattle.std.specs.Prelude.{Some, None, Option}

-- ---- "Old power let go when the new Accept goes out, though the output has not moved."
-- power is let go where the new contract is in force, or all is given up, and nowhere else
abbrev pub lets_go : Change → Bool
lets_go Change.Nothing = false
lets_go Change.Accepted = false
lets_go Change.InForce = true
lets_go Change.GivenUp = true

no_less : (c : Change) (held want : ℕ) → lets_go c ≡ false → held ≤ held_after c held want
no_less Change.Nothing held want e = omega arith
no_less Change.Accepted held want e = omega arith
no_less Change.InForce held want e = true_not_false e
no_less Change.GivenUp held want e = true_not_false e

-- THE CLAIM
pub old_power_is_kept : (p : Port) → Between p → (c : Call) → lets_go (step p c).held ≡ false → p.power.held ≤ (step p c).port.power.held
old_power_is_kept p k c e = rw (held_by_change p k c) (no_less (step p c).held p.power.held p.power.accepted.worth e)

-- ---- "A Request judged by the newest offer, not the last on the wire."
still_fits : (p : Port) (o : Offer) (s : List ℕ) → FittingRequest p s → FittingRequest (replaced p o) s
still_fits p o s r =
    record {
      objects = r.objects;
      fields = r.fields;
      new = record { read = r.new.read; listening = r.new.listening; meaning = r.new.meaning; fresh = r.new.fresh };
      awaited = r.awaited;
      fitting = r.fitting;
    }

-- THE CLAIM: with any newest offer that has not gone out, a Request that fits the last offer is judged by the last offer
pub judged_by_the_last_offer : (p : Port) (o : Offer) (s : List ℕ) → FittingRequest p s →
    (state_of (step (replaced p o) (packet s)).port ≡ State.Judge)
    × ((step (replaced p o) (packet s)).port.power.accepted ≡ asked (first_object (part_of s)) p.last)
judged_by_the_last_offer p o s r = comes_to_ask (replaced p o) s (still_fits p o s r)

fits_as_before : (p : Port) (o : Offer) (s : List ℕ) → FittingRequest (replaced p o) s → FittingRequest p s
fits_as_before p o s r =
    record {
      objects = r.objects;
      fields = r.fields;
      new = record { read = r.new.read; listening = r.new.listening; meaning = r.new.meaning; fresh = r.new.fresh };
      awaited = r.awaited;
      fitting = r.fitting;
    }

the_packet : (p : Port) (s : List ℕ) → AskedBy p (packet s) → FittingRequest p s
the_packet p s (by_packet t r) = r

-- THE CLAIM: and only a Request that fits the last offer is: whatever the newest offer is, a port that comes to ask at a packet came to it by such a Request
pub judged_by_no_other_offer : (p : Port) (o : Offer) (s : List ℕ) → same (state_of p) State.Judge ≡ false →
    state_of (step (replaced p o) (packet s)).port ≡ State.Judge → FittingRequest p s
judged_by_no_other_offer p o s elsewhere e = fits_as_before p o s (the_packet (replaced p o) s (asks_only_so (replaced p o) elsewhere (packet s) e))

-- ---- "Soft_Reset taken for a repeat."
-- every state that listens, but for those three (Groups.is_stricter)
abbrev pub answers_soft_reset : State → Bool
answers_soft_reset s = listens s && not (is_stricter s)

to_answering : (s : State) → answers_soft_reset s ≡ true → on_packet s Heard.SoftReset ≡ Some Way.Answering
unfolding on_packet
to_answering State.Offer e = refl
to_answering s e = cc

never_a_repeat : (b : Bool) → (b && false) ≡ false
never_a_repeat true = refl
never_a_repeat false = refl

to_hard : (s : State) → is_stricter s ≡ true → (listens s ≡ true) × (on_packet s Heard.SoftReset ≡ Some Way.Hard)
unfolding on_packet
to_hard State.Accepting e = (refl, refl)
to_hard s e = (cc, cc)

-- THE CLAIM: whatever MessageID is stored, a Soft_Reset is answered with Accept from counter 0, and its MessageID stored
pub soft_reset_is_no_repeat : (p : Port) (s : List ℕ) (n : ℕ) (f : Fields) → read_of s ≡ message_with n f → meaning_in n f ≡ Meaning.SoftReset →
    answers_soft_reset (state_of p) ≡ true →
    (state_of (step p (packet s)).port ≡ State.Answering)
    × ((step p (packet s)).actions.transmit ≡ control_of Types.Accept 0)
    × ((step p (packet s)).port.channel.stored ≡ Some f.message_id)
unfolding step packet_of message_of by_meaning other_packet new_packet heard_as turn enter hears sends
soft_reset_is_no_repeat p s n f e m a =
    rw (e, first (listens (state_of p)) (not (is_stricter (state_of p))) a, m, never_a_repeat (is_repeat p.channel f.message_id), to_answering (state_of p) a) (refl, refl, refl)

-- THE CLAIM: and from Accepting, Moving and Telling, whatever MessageID is stored, it leads to Hard, with GoodCRC and a signal of our own
pub soft_reset_while_power_moves : (p : Port) (s : List ℕ) (n : ℕ) (f : Fields) → read_of s ≡ message_with n f → meaning_in n f ≡ Meaning.SoftReset →
    is_stricter (state_of p) ≡ true →
    ToHard (step p (packet s)) × ((step p (packet s)).actions.good_crc ≡ crc_for f)
unfolding step packet_of message_of by_meaning other_packet new_packet heard_as turn enter
soft_reset_while_power_moves p s n f e m a =
    let there = to_hard (state_of p) a in
    rw (e, there.0, m, never_a_repeat (is_repeat p.channel f.message_id), there.1)
    (record { state = refl; channel = refl; signal = refl; silent = refl; timer = refl }, refl)

-- ---- "A retry surviving Hard Reset."
-- THE CLAIM: a port that comes to Hard has nothing pending, counter 0 and nothing stored
pub no_retry_survives : (p : Port) → Between p → (c : Call) → state_of (step p c).port ≡ State.Hard → (step p c).port.channel ≡ fresh
no_retry_survives p k c e = (step_keeps p k c).reset (ap is_reset e)

abbrev is_silent : Way → Bool
is_silent w = not (is_sending w)

abbrev hard_test : State → Option Way → Bool
hard_test s None = true
hard_test s (Some way) = implies (same s State.Hard) (is_silent way)

hard_is_silent : (s : State) (e : Stimulus) (f : Facts) → T (hard_test s (leads s e f))
unfolding leads
hard_is_silent = everywhere (λ s e f. hard_test s (leads s e f)) tt

module _ (p : Port) (k : Between p) (hard : state_of p ≡ State.Hard) where
  by_shape : (c : Call) (a : Answer) → Shape p c a → a.actions.transmit ≡ no_packet
  unfolding turn nothing_done resent
  by_shape c a (refused d r) = refl
  by_shape c a (idle d u crc) = refl
  by_shape c a (again d u on few) = true_not_false (sym on ∙ ap is_pending (k.reset (ap is_reset hard)))
  by_shape c a (led d e q t way rule l) =
      (Ways.goes way nothing_asked _).quiet (not_true (is_sending way) (then (same (state_of p) State.Hard) (is_silent way) (at_way (hard_test (state_of p)) (leads (state_of p) e (facts_of p)) way l (hard_is_silent (state_of p) e (facts_of p))) (is_same (state_of p) State.Hard hard refl)))
  by_shape c a (heard s n f m way new l) = true_not_false (sym new.listening ∙ ap listens hard)

  -- THE CLAIM: and while it is there, nothing is sent, whatever comes
  pub silent_in_hard : (c : Call) → (step p c).actions.transmit ≡ no_packet
  silent_in_hard c = by_shape c (step p c) (shape p c)

-- ---- "A failed send that leaves the counter as it was."
-- an offer to a receiver that is not known to be there, gone out again twice, and told unheard once more
module _ (p : Port) (offers : state_of p ≡ State.Offer) (alone : p.connected ≡ false)
    (on : pending_in p ≡ true) (more : ltb p.channel.pending.retries most_retries ≡ false) (c : Call) (u : Unheard p c) where
  abbrev unheard : Port
  unheard = (step p c).port

  it_fails : unheard ≡ (failed p).port
  it_fails = ap (λ (a : Answer). a.port) (again_or_failed p c u on false more)

  -- THE CLAIM: it is given up, whether the timer tells so or a GoodCRC with another MessageID, and the counter goes one on
  pub a_failed_send_counts :
      (state_of unheard ≡ State.Discovery)
      × (unheard.channel.counter ≡ next_id p.channel.counter)
      × (pending_in unheard ≡ false)
  a_failed_send_counts =
      let k = offer_fails_unconnected p offers alone in
      rw it_fails (k.0, k.1, k.2)

  abbrev next_offer : Answer
  next_offer = step unheard (event Event.SourceCapability)

  -- THE CLAIM: and the next one goes out with the next MessageID, once SourceCapability has expired
  pub the_next_offer_counts_on : leb most_offers p.count ≡ false →
      (state_of next_offer.port ≡ State.Offer)
      × (next_offer.actions.transmit ≡ data_of Types.SourceCapabilities (next_id p.channel.counter) p.newest.objects p.newest.count)
  unfolding step event_of failed happens leads change_of turn enter ended
  the_next_offer_counts_on few = rw (it_fails, offers, alone, few) (refl, refl)
