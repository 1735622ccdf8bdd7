-- A port never sleeps: in every state that listens, and while a Hard Reset lasts, it is at rest with a receiver that may ask, or it waits for something that comes by itself
-- (an acknowledgement or its timer, a timer that runs, the power answer, the supply); and each of these leads it on as the paper says: timers, supply and acknowledgements
-- here, failed sends in FailedSends, offers that have not gone out in OffersGoOut, the power answer and Requests in AcceptExactly and UnfitIsRejected. Assumes nothing.
use Prim.Native.Nat.{ℕ}
use mathlib.Core.Path.{◌≡◌, refl}
use mathlib.Core.Bool.{Bool, true, false, not, cond, ◌&&◌, ◌||◌}
use mathlib.Core.List.{List}
use lib.Dec.{T, ltb, leb, eqb}
use Rattle.message.specs.declared.Fields.{Fields}
use Rattle.meaning.specs.declared.Meaning.{Meaning}
use Rattle.reading.specs.Reading.{read_of, message_with}
use Rattle.channel.specs.Channel.{pending_id, most_retries}
use Rattle.channel.specs.Outcomes.{on_good_crc}
use Rattle.power.specs.declared.Standing.{Standing}
use Rattle.power.specs.Power.{standing_of, changed}
use Rattle.source.specs.declared.State.{State}
use Rattle.source.specs.declared.Timer.{Timer}
use Rattle.source.specs.declared.Timer.TheVariants.{SenderResponse}
use Rattle.source.specs.States.{same, listens, running}
use Rattle.stimuli.specs.Leads.{leads}
use Rattle.hearing.specs.Packets.{on_packet}
use Rattle.source.specs.Changes.{change_of}
use Rattle.source.proofs.Finite.{state}
use Rattle.port.specs.declared.Port.{Port}
use Rattle.port.specs.declared.Event.{Event}
use Rattle.port.specs.declared.Supply.TheVariants.{Position}
use Rattle.port.specs.Memory.{state_of, pending_in, most_offers, detached_port}
use Rattle.port.specs.Entering.{enter}
use Rattle.port.specs.Steps.{turn, happens, acknowledged, failed, resent, by_outcome, event_of}
use Rattle.port.specs.Packets.{meaning_in, heard_as, other_packet, new_packet, good_crc_heard, by_meaning, message_of, packet_of}
use Rattle.port.specs.Calls.{event, packet, step}
use Rattle.portclaims.specs.Between.{implies, pends, Between}
use Rattle.portclaims.specs.Messages.{by_timer}
use Rattle.portclaims.proofs.Shapes.{New}
use Rattle.portclaims.proofs.Truth.{then, and, first}
use Rattle.portclaims.proofs.FailedSends.{again_or_failed}
use Rattle.std.specs.Prelude.{Some, None, Option}

-- ---- what a port waits for
abbrev at_rest : State → Bool
at_rest s = same s State.Ready || same s State.Waiting

abbrev runs : Option Timer → Bool
runs None = false
runs (Some t) = true

abbrev pub waits : State → Bool → Bool
waits s pending = at_rest s || (pending || (runs (running s pending) || (same s State.Judge || (same s State.Moving || same s State.Default))))

-- every state but the two that only attach and detach lead out of
abbrev pub is_on : State → Bool
is_on s = not (same s State.Detached || same s State.Disabled)

waiting_pending : (s : State) → T (implies (is_on s && pends s true) (waits s true))
waiting_pending = state (λ s. implies (is_on s && pends s true) (waits s true)) tt

waiting_none : (s : State) → T (implies (is_on s && pends s false) (waits s false))
waiting_none = state (λ s. implies (is_on s && pends s false) (waits s false)) tt

-- THE CLAIM
pub never_sleeps : (p : Port) → Between p → is_on (state_of p) ≡ true → waits (state_of p) (pending_in p) ≡ true
never_sleeps p k on = by_pending (pending_in p) (first (pends (state_of p) (pending_in p)) _ k.calmly)
  where
    by_pending : (b : Bool) → pends (state_of p) b ≡ true → waits (state_of p) b ≡ true
    by_pending true e = then (is_on (state_of p) && pends (state_of p) true) _ (waiting_pending (state_of p)) (and (is_on (state_of p)) (pends (state_of p) true) on e)
    by_pending false e = then (is_on (state_of p) && pends (state_of p) false) _ (waiting_none (state_of p)) (and (is_on (state_of p)) (pends (state_of p) false) on e)

-- THE CLAIMS: where each of these leads
-- ---- a timer that runs
module _ (p : Port) where
  pub offer_unanswered : state_of p ≡ State.Offer → pending_in p ≡ false →
      state_of (step p (event Event.SenderResponse)).port ≡ State.Hard
  unfolding step event_of happens leads change_of turn enter
  offer_unanswered s n = rw (s, n) refl

  pub soft_unanswered : state_of p ≡ State.Soft → pending_in p ≡ false →
      state_of (step p (event Event.SenderResponse)).port ≡ State.Hard
  unfolding step event_of happens leads change_of turn enter
  soft_unanswered s n = rw (s, n) refl

  pub offers_again : state_of p ≡ State.Discovery → leb most_offers p.count ≡ false →
      state_of (step p (event Event.SourceCapability)).port ≡ State.Offer
  unfolding step event_of happens leads change_of turn enter
  offers_again s n = rw (s, n) refl

  pub offers_no_more : state_of p ≡ State.Discovery → leb most_offers p.count ≡ true →
      state_of (step p (event Event.SourceCapability)).port ≡ State.Disabled
  unfolding step event_of happens leads change_of turn enter
  offers_no_more s n = rw (s, n) refl

  pub hard_is_over : state_of p ≡ State.Hard → state_of (step p (event Event.PsHardReset)).port ≡ State.Default
  unfolding step event_of happens leads change_of turn enter
  hard_is_over s = rw s refl

  -- ---- the supply
  pub moved : state_of p ≡ State.Moving → state_of (step p (event Event.SupplyReady)).port ≡ State.Telling
  unfolding step event_of happens leads change_of turn enter
  moved s = rw s refl

  pub begins_anew : state_of p ≡ State.Default →
      (state_of (step p (event Event.SupplyReady)).port ≡ State.Offer)
      × ((step p (event Event.SupplyReady)).port.power.held ≡ 0)
      × ((step p (event Event.SupplyReady)).port.count ≡ 1)
      × ((step p (event Event.SupplyReady)).port.connected ≡ false)
  unfolding step event_of happens leads change_of turn enter changed
  begins_anew s = rw s (refl, refl, refl, refl)

  -- ---- the pending message: its acknowledgement timer
  pub sent_again_or_failed : pending_in p ≡ true → (few : Bool) → ltb p.channel.pending.retries most_retries ≡ few →
      step p (event Event.Acknowledgement) ≡ cond few (resent p) (failed p)
  sent_again_or_failed on few e = again_or_failed p (event Event.Acknowledgement) by_timer on few e

  -- its GoodCRC
  pub acknowledged_by_its_good_crc : (s : List ℕ) (n : ℕ) (f : Fields) →
      listens (state_of p) ≡ true → read_of s ≡ message_with n f → meaning_in n f ≡ Meaning.GoodCrc →
      pending_in p ≡ true → eqb (pending_id p.channel) f.message_id ≡ true →
      step p (packet s) ≡ acknowledged p
  unfolding step packet_of message_of by_meaning good_crc_heard on_good_crc by_outcome
  acknowledged_by_its_good_crc s n f l e m on i = rw (e, l, m, on, i) refl

  -- where an acknowledgement leads
  pub offer_heard : state_of p ≡ State.Offer →
      (state_of (acknowledged p).port ≡ State.Offer)
      × ((acknowledged p).port.count ≡ 0)
      × ((acknowledged p).port.connected ≡ true)
      × ((acknowledged p).actions.start ≡ Some SenderResponse)
  unfolding acknowledged happens leads change_of turn enter
  offer_heard s = rw s (refl, refl, refl, refl)

  pub soft_reset_heard : state_of p ≡ State.Soft →
      (state_of (acknowledged p).port ≡ State.Soft)
      × ((acknowledged p).actions.start ≡ Some SenderResponse)
  unfolding acknowledged happens leads change_of turn enter
  soft_reset_heard s = rw s (refl, refl)

  pub accept_heard : state_of p ≡ State.Accepting →
      (state_of (acknowledged p).port ≡ State.Moving)
      × ((acknowledged p).actions.supply ≡ Some (Position p.power.accepted.position))
  unfolding acknowledged happens leads change_of turn enter
  accept_heard s = rw s (refl, refl)

  pub ready_told : state_of p ≡ State.Telling → p.gone_out ≡ true →
      (state_of (acknowledged p).port ≡ State.Ready)
      × ((acknowledged p).port.power.contract ≡ Some p.power.accepted)
      × ((acknowledged p).port.power.held ≡ p.power.accepted.worth)
  unfolding acknowledged happens leads change_of turn enter changed
  ready_told s g = rw (s, g) (refl, refl, refl)

  pub declined : state_of p ≡ State.Declining → p.gone_out ≡ true → state_of (acknowledged p).port ≡ State.Ready
  unfolding acknowledged happens leads change_of turn enter
  declined s g = rw (s, g) refl

  pub rejected_without_contract : state_of p ≡ State.Refusing → p.gone_out ≡ true → standing_of p.power.contract p.last ≡ Standing.NoContract →
      state_of (acknowledged p).port ≡ State.Waiting
  unfolding acknowledged happens leads change_of turn enter
  rejected_without_contract s g c = rw (s, c, g) refl

  pub rejected_with_contract : state_of p ≡ State.Refusing → p.gone_out ≡ true → standing_of p.power.contract p.last ≡ Standing.Honoured →
      state_of (acknowledged p).port ≡ State.Ready
  unfolding acknowledged happens leads change_of turn enter
  rejected_with_contract s g c = rw (s, c, g) refl

  pub rejected_and_broken : state_of p ≡ State.Refusing → standing_of p.power.contract p.last ≡ Standing.Broken →
      state_of (acknowledged p).port ≡ State.Hard
  unfolding acknowledged happens leads change_of turn enter
  rejected_and_broken s c = rw (s, c) refl

  pub soft_reset_answered : state_of p ≡ State.Answering → state_of (acknowledged p).port ≡ State.Offer
  unfolding acknowledged happens leads change_of turn enter
  soft_reset_answered s = rw s refl

  -- ---- at any time: a heard Hard Reset, without a signal of our own
  pub hard_reset_heard : listens (state_of p) ≡ true →
      (state_of (step p (event Event.HardReset)).port ≡ State.Hard)
      × ((step p (event Event.HardReset)).actions.hard_reset ≡ false)
  unfolding step event_of happens leads change_of turn enter
  hard_reset_heard l = rw l (refl, refl)

  -- ---- detach: "takes any other state to Detached and clears everything but the newest offer"
  pub detached : same (state_of p) State.Detached ≡ false → (step p (event Event.Detach)).port ≡ detached_port p.newest
  unfolding step event_of happens leads change_of turn enter changed
  detached e = rw e refl

  -- ---- at rest: a receiver asks for the offer (and in Ready for power: AcceptExactly)
  pub asked_in_ready : (s : List ℕ) (n : ℕ) (f : Fields) → New p s n f Meaning.GetSourceCap → state_of p ≡ State.Ready →
      state_of (step p (packet s)).port ≡ State.Offer
  unfolding step packet_of message_of by_meaning other_packet new_packet heard_as on_packet turn enter
  asked_in_ready s n f k r = rw (k.read, k.meaning, k.fresh, r) refl

  pub asked_in_waiting : (s : List ℕ) (n : ℕ) (f : Fields) → New p s n f Meaning.GetSourceCap → state_of p ≡ State.Waiting →
      state_of (step p (packet s)).port ≡ State.Offer
  unfolding step packet_of message_of by_meaning other_packet new_packet heard_as on_packet turn enter
  asked_in_waiting s n f k r = rw (k.read, k.meaning, k.fresh, r) refl
