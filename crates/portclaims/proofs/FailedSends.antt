-- A send that is not acknowledged the third time has failed, told by the acknowledgement timer or by a GoodCRC with another MessageID; and where that leads each state
-- that sends. Assumes nothing.
use mathlib.Core.Path.{◌≡◌, refl}
use mathlib.Core.Bool.{Bool, true, false, cond}
use lib.Dec.{ltb}
use Rattle.channel.specs.Channel.{next_id, most_retries, ended, sends}
use Rattle.channel.specs.Outcomes.{on_good_crc, on_expiry}
use Rattle.source.specs.declared.State.{State}
use Rattle.source.specs.declared.Timer.TheVariants.{SourceCapability}
use Rattle.stimuli.specs.Leads.{leads}
use Rattle.source.specs.Changes.{change_of}
use Rattle.port.specs.declared.Port.{Port}
use Rattle.port.specs.Memory.{state_of, pending_in}
use Rattle.port.specs.Entering.{enter}
use Rattle.port.specs.Steps.{turn, happens, failed, resent, by_outcome, event_of}
use Rattle.port.specs.Packets.{good_crc_heard, by_meaning, message_of, packet_of}
use Rattle.port.specs.Calls.{Call, step}
use Rattle.portclaims.specs.Messages.{Unheard, by_timer, by_another_good_crc}
use Rattle.portclaims.specs.Leading.{ToSoft, ToHard}
use Rattle.std.specs.Prelude.{Some}

module _ (p : Port) where
  -- THE CLAIM: the same bytes go out again, and once they have gone out again twice the send has failed
  pub again_or_failed : (c : Call) → Unheard p c → pending_in p ≡ true → (few : Bool) → ltb p.channel.pending.retries most_retries ≡ few →
      step p c ≡ cond few (resent p) (failed p)
  unfolding step event_of packet_of message_of by_meaning good_crc_heard on_good_crc on_expiry by_outcome
  again_or_failed c by_timer on true e = rw (on, e) refl
  again_or_failed c by_timer on false e = rw (on, e) refl
  again_or_failed c (by_another_good_crc s n f l r m i) on true e = rw (r, l, m, on, e, i) refl
  again_or_failed c (by_another_good_crc s n f l r m i) on false e = rw (r, l, m, on, e, i) refl

  -- THE CLAIMS: where a failed send leads
  -- ---- "Offer: failed: Discovery, or Soft if connected."
  pub offer_fails_unconnected : state_of p ≡ State.Offer → p.connected ≡ false →
      (state_of (failed p).port ≡ State.Discovery)
      × ((failed p).port.channel.counter ≡ next_id p.channel.counter)
      × (pending_in (failed p).port ≡ false)
      × ((failed p).actions.start ≡ Some SourceCapability)
  unfolding failed happens leads change_of turn enter ended
  offer_fails_unconnected s c = rw (s, c) (refl, refl, refl, refl)

  pub offer_fails_connected : state_of p ≡ State.Offer → p.connected ≡ true → ToSoft (failed p)
  unfolding failed happens leads change_of turn enter sends
  offer_fails_connected s c = rw (s, c) (record { state = refl; sent = refl; counter = refl; stored = refl })

  -- ---- "In these three, any new packet or failed send: Hard." (Moving sends nothing)
  pub accept_fails : state_of p ≡ State.Accepting → ToHard (failed p)
  unfolding failed happens leads change_of turn enter
  accept_fails s = rw s (record { state = refl; channel = refl; signal = refl; silent = refl; timer = refl })

  pub ps_rdy_fails : state_of p ≡ State.Telling → ToHard (failed p)
  unfolding failed happens leads change_of turn enter
  ps_rdy_fails s = rw s (record { state = refl; channel = refl; signal = refl; silent = refl; timer = refl })

  -- ---- "Refusing, Declining: a failed send: Soft."
  pub reject_fails : state_of p ≡ State.Refusing → ToSoft (failed p)
  unfolding failed happens leads change_of turn enter sends
  reject_fails s = rw s (record { state = refl; sent = refl; counter = refl; stored = refl })

  pub not_supported_fails : state_of p ≡ State.Declining → ToSoft (failed p)
  unfolding failed happens leads change_of turn enter sends
  not_supported_fails s = rw s (record { state = refl; sent = refl; counter = refl; stored = refl })

  -- ---- "Soft: failure: Hard"; "Answering: failure: Hard"
  pub soft_reset_fails : state_of p ≡ State.Soft → ToHard (failed p)
  unfolding failed happens leads change_of turn enter
  soft_reset_fails s = rw s (record { state = refl; channel = refl; signal = refl; silent = refl; timer = refl })

  pub answer_fails : state_of p ≡ State.Answering → ToHard (failed p)
  unfolding failed happens leads change_of turn enter
  answer_fails s = rw s (record { state = refl; channel = refl; signal = refl; silent = refl; timer = refl })
