-- The wire shows a port's last offer: the last offer put on it has, at every position of the port's last offer, that object's voltage; and an offer that is
-- pending is the one put on it, so that sending it again shows nothing new. So it is for a port that nothing is attached to, and every step keeps it so.
-- Assumes nothing.
use Prim.Native.Nat.{ℕ, ◌≤◌}
use native.Mathlib.Omega.{arith}
use mathlib.Core.Path.{◌≡◌, refl, sym, ◌∙◌}
use mathlib.Core.Bool.{Bool, true, false, cond, ◌&&◌}
use mathlib.Core.List.{List, []}
use lib.Dec.{leb}
use borrow.Author.Tests.{leb-true}
use Rattle.message.specs.Types as Types
use Rattle.offers.specs.declared.Asked.{Asked}
use Rattle.offers.specs.declared.Offer.{Offer}
use Rattle.offers.specs.Objects.{voltage_of}
use Rattle.offers.specs.Offers.{has, object_at, good_offer}
use Rattle.outgoing.specs.declared.Packet.{Packet}
use Rattle.outgoing.specs.Packets.{on_wire, no_packet, control_of}
use Rattle.channel.specs.Channel.{ended, again, heard, sends}
use Rattle.power.specs.declared.Change.{Change}
use Rattle.power.specs.Power.{nothing_asked}
use Rattle.source.specs.declared.State.{State}
use Rattle.source.specs.declared.Stimulus.{Stimulus}
use Rattle.source.specs.declared.Timer.{Timer}
use Rattle.source.specs.declared.Way.{Way}
use Rattle.source.specs.Changes.{change_of}
use Rattle.port.specs.declared.Port.{Port}
use Rattle.port.specs.declared.Answer.{Answer}
use Rattle.port.specs.Parts.{to}
use Rattle.port.specs.Memory.{state_of, detached_port, running_in, no_crc}
use Rattle.port.specs.Entering.{transmits, tells, capabilities, offering, unchannelled, enter}
use Rattle.port.specs.Steps.{with_change, turn, nothing_done, resent}
use Rattle.port.specs.Packets.{asked_by, is_soft_reset, crc_for, hearing}
use Rattle.port.specs.Calls.{Call, step}
use Rattle.portclaims.proofs.Truth.{true_not_false, first, second}
use Rattle.portclaims.proofs.Shapes.{Rule, by_attach, by_detach, by_hard_reset, by_acknowledgement, by_failure, by_sender_response, by_source_capability, by_ps_hard_reset, by_supply_ready, by_yes, by_no, by_offer_lem, fit_in, Shape, refused, idle, again as sent_again, led, heard as is-heard, shape}
use Rattle.rackclaims.specs.Wire.{is_offer, last_offer, object_on}
use Rattle.rackclaims.proofs.WireOffers.{no_offer_lem, nothing_sent, control_no_offer, control_sent, offer_is_one, voltage_on_wire}
use Rattle.std.specs.Prelude.{Option}

pub record Wired (p : Port) (offer : List ℕ) : Type 0 where
  pub shows : (i : ℕ) → has p.last i ≡ true → voltage_of (object_on offer i) ≡ voltage_of (object_at p.last i)
  pub again : is_offer (on_wire p.channel.pending.packet) ≡ true → on_wire p.channel.pending.packet ≡ offer
  pub some : 1 ≤ p.newest.count
  pub few : p.newest.count ≤ 7

-- a number from 1 on, and not over another: a position that an offer has, and how many objects a good offer has
within : (n most : ℕ) → (leb 1 n && leb n most) ≡ true → (1 ≤ n) × (n ≤ most)
within n most h = (leb-true 1 n (first (leb 1 n) (leb n most) h), leb-true n most (second (leb 1 n) (leb n most) h))

counted : (limit : ℕ) (o : Offer) → good_offer limit o ≡ true → (1 ≤ o.count) × (o.count ≤ 7)
unfolding good_offer
counted limit o good = within o.count 7 (first (leb 1 o.count && leb o.count 7) _ good)

-- ---- what is pending: if it is an offer, it is the last one put on the wire
abbrev Again : Packet → List ℕ → Type 0
Again m offer = is_offer (on_wire m) ≡ true → on_wire m ≡ offer

no_offer_pending : (m : Packet) (offer : List ℕ) → is_offer (on_wire m) ≡ false → Again m offer
no_offer_pending m offer e h = true_not_false (sym h ∙ e)

nothing_pending : (offer : List ℕ) → Again no_packet offer
nothing_pending offer = no_offer_pending no_packet offer no_offer_lem

-- so when it goes out once more the last offer stays
repeated : (m : Packet) (offer : List ℕ) → Again m offer → last_offer m offer ≡ offer
repeated m offer h = by_test (is_offer (on_wire m)) h
  where
    by_test : (b : Bool) → (b ≡ true → on_wire m ≡ offer) → cond b (on_wire m) offer ≡ offer
    by_test true e = e refl
    by_test false e = refl

-- ---- a port with the same offers
kept : {q r : Port} {offer : List ℕ} → r.last ≡ q.last → r.newest ≡ q.newest → Again r.channel.pending.packet offer → Wired q offer → Wired r offer
kept same-last same-newest pending k = record { shows = rw same-last k.shows; again = pending; some = rw same-newest k.some; few = rw same-newest k.few }

-- nothing goes out, and what was pending still is or is gone
silent : {q r : Port} {offer : List ℕ} → r.last ≡ q.last → r.newest ≡ q.newest → Again r.channel.pending.packet offer → Wired q offer → Wired r (last_offer no_packet offer)
silent {offer = offer} same-last same-newest pending k = rw (nothing_sent offer) (kept same-last same-newest pending k)

-- a control message goes out, which is no offer
telling : {q : Port} {offer : List ℕ} (type : ℕ) (r : Port) → r.last ≡ q.last → r.newest ≡ q.newest → Wired q offer →
    Wired (tells type r).port (last_offer (tells type r).transmit offer)
unfolding sends
telling {offer = offer} type r same-last same-newest k =
    rw (control_sent type r.channel.counter offer)
    (kept same-last same-newest (no_offer_pending (control_of type r.channel.counter) offer (control_no_offer type r.channel.counter)) k)

-- the newest offer goes out, and becomes the last
offered : (q : Port) (offer : List ℕ) → Wired q offer → Wired (transmits (capabilities q) (to State.Offer (offering q))).port (last_offer (capabilities q) offer)
unfolding sends
offered q offer k =
    rw (offer_is_one q.channel.counter q.newest.count q.newest.objects k.some k.few)
    record {
      shows = λ i h. let at = within i q.newest.count h in voltage_on_wire q.channel.counter q.newest.count q.newest.objects i k.few at.0 at.1;
      again = λ h. refl;
      some = k.some;
      few = k.few;
    }

wired_enters : (w : Way) (a : Asked) (q : Port) (offer : List ℕ) → Wired q offer → Wired (enter w a q).port (last_offer (enter w a q).transmit offer)
unfolding enter
wired_enters Way.Stay a q offer k = silent refl refl k.again k
wired_enters Way.Offered a q offer k = silent refl refl k.again k
wired_enters Way.Softened a q offer k = silent refl refl k.again k
wired_enters Way.Offer a q offer k = offered q offer k
wired_enters Way.Discovery a q offer k = silent refl refl k.again k
wired_enters Way.Disabled a q offer k = silent refl refl k.again k
wired_enters Way.Judge a q offer k = silent refl refl k.again k
wired_enters Way.Accepting a q offer k = telling Types.Accept (to State.Accepting q) refl refl k
wired_enters Way.Moving a q offer k = silent refl refl k.again k
wired_enters Way.Telling a q offer k = telling Types.PsRdy (to State.Telling q) refl refl k
wired_enters Way.Ready a q offer k = silent refl refl k.again k
wired_enters Way.Declining a q offer k = telling Types.NotSupported (to State.Declining q) refl refl k
wired_enters Way.Refusing a q offer k = telling Types.Reject (to State.Refusing q) refl refl k
wired_enters Way.Waiting a q offer k = silent refl refl k.again k
wired_enters Way.Soft a q offer k = telling Types.SoftReset (to State.Soft (unchannelled q)) refl refl k
wired_enters Way.Answering a q offer k = telling Types.Accept (to State.Answering q) refl refl k
wired_enters Way.Hard a q offer k = silent refl refl (nothing_pending offer) k
wired_enters Way.HardHeard a q offer k = silent refl refl (nothing_pending offer) k
wired_enters Way.Default a q offer k = silent refl refl k.again k
wired_enters Way.Detached a q offer k = silent refl refl k.again k

wired_change : (c : Change) (q : Port) (offer : List ℕ) → Wired q offer → Wired (with_change c q) offer
wired_change Change.Nothing q offer k = k
wired_change Change.Accepted q offer k = kept refl refl k.again k
wired_change Change.InForce q offer k = kept refl refl k.again k
wired_change Change.GivenUp q offer k = kept refl refl k.again k

wired_turn : (q : Port) (offer : List ℕ) (s : State) (crc : Option (List ℕ)) (t : Option Timer) (c : Change) (w : Way) (a : Asked) → Wired q offer →
    Wired (turn q s crc t c w a).port (last_offer (turn q s crc t c w a).actions.transmit offer)
unfolding turn
wired_turn q offer s crc t c w a k = wired_enters w a (with_change c q) offer (wired_change c q offer k)

-- ---- a port that nothing is attached to has no last offer to show
detached : (o : Offer) (offer : List ℕ) → 1 ≤ o.count → o.count ≤ 7 → Wired (detached_port o) offer
detached o offer some few =
    record { shows = λ i h. let at = within i 0 h in absurd (omega arith); again = nothing_pending offer; some = some; few = few }

-- THE CLAIM: at first, with no offer on the wire yet
pub wired_first : (o : Offer) (limit : ℕ) → good_offer limit o ≡ true → Wired (detached_port o) []
wired_first o limit good = let n = counted limit o good in detached o [] n.0 n.1

module _ (p : Port) (offer : List ℕ) (k : Wired p offer) where
  -- what the protocol rules do before the states lead on: a port is cleared, its pending message is gone, its newest offer is replaced by a good one, or nothing
  wired_ruled : (c : Call) (e : Stimulus) (q : Port) (t : Option Timer) → Rule p c e q t → Wired q offer
  unfolding ended
  wired_ruled c e q t by_attach = detached p.newest offer k.some k.few
  wired_ruled c e q t by_detach = detached p.newest offer k.some k.few
  wired_ruled c e q t by_hard_reset = k
  wired_ruled c e q t (by_acknowledgement d u on) = kept refl refl (nothing_pending offer) k
  wired_ruled c e q t (by_failure d u on) = kept refl refl (nothing_pending offer) k
  wired_ruled c e q t by_sender_response = k
  wired_ruled c e q t by_source_capability = k
  wired_ruled c e q t by_ps_hard_reset = k
  wired_ruled c e q t by_supply_ready = k
  wired_ruled c e q t by_yes = k
  wired_ruled c e q t by_no = k
  wired_ruled c e q t (by_offer_lem limit o good) = let n = counted limit o good in record { shows = k.shows; again = k.again; some = n.0; few = n.1 }

  wired_hearing : (id : ℕ) (soft : Bool) → Wired (hearing p id soft) offer
  unfolding heard
  wired_hearing id soft = kept refl refl (nothing_pending offer) k

  by_shape : (c : Call) (a : Answer) → Shape p c a → Wired a.port (last_offer a.actions.transmit offer)
  unfolding nothing_done resent again
  by_shape c a (refused d r) = silent refl refl k.again k
  by_shape c a (idle d u crc) = silent refl refl k.again k
  by_shape c a (sent_again d u on few) = rw (repeated p.channel.pending.packet offer k.again) (kept refl refl k.again k)
  by_shape c a (led d e q t way rule l) = wired_turn q offer (state_of p) no_crc t (change_of (state_of p) e) way nothing_asked (wired_ruled d e q t rule)
  by_shape c a (is-heard s n f m way new l) =
      wired_turn (hearing p f.message_id (is_soft_reset m)) offer (state_of p) (crc_for f) (running_in p) Change.Nothing way (asked_by (fit_in p n s))
      (wired_hearing f.message_id (is_soft_reset m))

-- THE CLAIM: every step keeps it so
pub wired_step : (p : Port) (offer : List ℕ) (c : Call) → Wired p offer → Wired (step p c).port (last_offer (step p c).actions.transmit offer)
wired_step p offer c k = by_shape p offer k c (step p c) (shape p c)
