-- An offer that has not gone out goes out as soon as the port would rest: at once from Ready and Waiting, and wherever a state would lead to one of them; else it is
-- kept. And attach, and a Soft_Reset of ours that is accepted, lead to Offer. (Discovery, Default, Answering and Get_Source_Cap: NeverSleeps.) Assumes nothing.
use Prim.Native.Nat.{ℕ}
use mathlib.Core.Path.{◌≡◌, refl}
use mathlib.Core.Bool.{Bool, true, false, ◌||◌}
use mathlib.Core.List.{List}
use Rattle.message.specs.declared.Fields.{Fields}
use Rattle.message.specs.Types as Types
use Rattle.meaning.specs.declared.Meaning.{Meaning}
use Rattle.offers.specs.declared.Offer.{Offer}
use Rattle.offers.specs.Offers.{good_offer}
use Rattle.outgoing.specs.Packets.{no_packet}
use Rattle.channel.specs.Channel.{sends}
use Rattle.power.specs.declared.Standing.{Standing}
use Rattle.power.specs.Power.{standing_of, changed}
use Rattle.source.specs.declared.State.{State}
use Rattle.source.specs.States.{same}
use Rattle.stimuli.specs.Leads.{leads}
use Rattle.hearing.specs.Packets.{on_packet}
use Rattle.source.specs.Changes.{change_of}
use Rattle.port.specs.declared.Port.{Port}
use Rattle.port.specs.declared.Event.{Event}
use Rattle.port.specs.Memory.{state_of}
use Rattle.port.specs.Entering.{enter}
use Rattle.port.specs.Steps.{turn, happens, acknowledged, event_of, replaced, new_offer_of}
use Rattle.port.specs.Packets.{heard_as, other_packet, new_packet, by_meaning, message_of, packet_of}
use Rattle.port.specs.Calls.{event, packet, new_offer, step}
use Rattle.portclaims.specs.Leading.{ToOffer}
use Rattle.portclaims.proofs.Shapes.{New}
use Rattle.portclaims.proofs.Truth.{true_not_false}
use Rattle.std.specs.Prelude.{Some}

neither : (a b : Bool) → (a || b) ≡ false → (a ≡ false) × (b ≡ false)
neither true b e = true_not_false e
neither false b e = (refl, e)

-- THE CLAIMS
-- ---- "A new offer replaces the newest. From Ready and Waiting it leads to Offer; elsewhere it is kept."
module _ (p : Port) (limit : ℕ) (o : Offer) (good : good_offer limit o ≡ true) where
  pub new_offer_in_ready : state_of p ≡ State.Ready → ToOffer o (step p (new_offer limit o))
  unfolding step new_offer_of happens leads change_of turn enter sends
  new_offer_in_ready s = rw (good, s) (record { state = refl; sent = refl; newest = refl; last = refl; gone_out = refl })

  pub new_offer_in_waiting : state_of p ≡ State.Waiting → ToOffer o (step p (new_offer limit o))
  unfolding step new_offer_of happens leads change_of turn enter sends
  new_offer_in_waiting s = rw (good, s) (record { state = refl; sent = refl; newest = refl; last = refl; gone_out = refl })

  pub new_offer_is_kept : (same (state_of p) State.Ready || same (state_of p) State.Waiting) ≡ false →
      ((step p (new_offer limit o)).port ≡ replaced p o) × ((step p (new_offer limit o)).actions.transmit ≡ no_packet)
  unfolding step new_offer_of happens leads change_of turn enter
  new_offer_is_kept e =
      let each = neither (same (state_of p) State.Ready) (same (state_of p) State.Waiting) e in
      rw (good, each.0, each.1) (refl, refl)

-- ---- "Entering either with a newest offer that hasn't gone out leads to Offer at once."
module _ (p : Port) (waits : p.gone_out ≡ false) where
  -- with the new contract in force all the same
  pub ready_told_and_offered : state_of p ≡ State.Telling →
      ToOffer p.newest (acknowledged p)
      × ((acknowledged p).port.power.contract ≡ Some p.power.accepted)
      × ((acknowledged p).port.power.held ≡ p.power.accepted.worth)
  unfolding acknowledged happens leads change_of turn enter changed sends
  ready_told_and_offered s = rw (s, waits) (record { state = refl; sent = refl; newest = refl; last = refl; gone_out = refl }, refl, refl)

  pub declined_and_offered : state_of p ≡ State.Declining → ToOffer p.newest (acknowledged p)
  unfolding acknowledged happens leads change_of turn enter sends
  declined_and_offered s = rw (s, waits) (record { state = refl; sent = refl; newest = refl; last = refl; gone_out = refl })

  pub rejected_and_offered : state_of p ≡ State.Refusing → standing_of p.power.contract p.last ≡ Standing.NoContract →
      ToOffer p.newest (acknowledged p)
  unfolding acknowledged happens leads change_of turn enter sends
  rejected_and_offered s c = rw (s, c, waits) (record { state = refl; sent = refl; newest = refl; last = refl; gone_out = refl })

  pub rejected_with_contract_and_offered : state_of p ≡ State.Refusing → standing_of p.power.contract p.last ≡ Standing.Honoured →
      ToOffer p.newest (acknowledged p)
  unfolding acknowledged happens leads change_of turn enter sends
  rejected_with_contract_and_offered s c = rw (s, c, waits) (record { state = refl; sent = refl; newest = refl; last = refl; gone_out = refl })

-- ---- "Soft: Accept: Offer."
pub soft_reset_accepted : (p : Port) (s : List ℕ) (n : ℕ) (f : Fields) → New p s n f Meaning.Reply → f.message_type ≡ Types.Accept → state_of p ≡ State.Soft →
    ToOffer p.newest (step p (packet s))
unfolding step packet_of message_of by_meaning other_packet new_packet heard_as on_packet turn enter sends
soft_reset_accepted p s n f k t soft = rw (k.read, k.meaning, k.fresh, t, soft) (record { state = refl; sent = refl; newest = refl; last = refl; gone_out = refl })

-- ---- "Detached takes attach, to Offer."
pub attached : (p : Port) → state_of p ≡ State.Detached → ToOffer p.newest (step p (event Event.Attach))
unfolding step event_of happens leads change_of turn enter sends
attached p s = rw s (record { state = refl; sent = refl; newest = refl; last = refl; gone_out = refl })
