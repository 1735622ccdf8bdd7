-- A worked case for each claim that has a condition, so that none of them speaks of nothing: a port of the night desk, with 5 V 3 A and 9 V 3 A to offer, brought to its
-- states by events alone. Each case is a type of equations, and one claim at the end has the checker compute them all. Assumes nothing.
use Prim.Native.Nat.{ℕ, zero, suc}
use mathlib.Core.Path.{◌≡◌, refl}
use mathlib.Core.Bool.{true, false}
use mathlib.Core.List.{List, [], ◌∷◌, ◌++◌}
use lib.Dec.{ltb, leb, eqb}
use Rattle.ground.specs.declared.Refusal.TheVariants.{NotAwaited}
use Rattle.ground.specs.Refusals.{refuse_if}
use Rattle.message.specs.Header.{fields_of, objects_of, header_of}
use Rattle.message.specs.Bytes.{word_of, is_chunked, bytes_of}
use Rattle.message.specs.Types as Types
use Rattle.message.specs.declared.Fields.{Fields}
use Rattle.meaning.specs.declared.Meaning.{Meaning}
use Rattle.meaning.specs.Meaning.{meaning_of}
use Rattle.reading.specs.Reading.{read_of, reading_tried, part_of, message_with}
use Rattle.offers.specs.declared.Offer.{Offer}
use Rattle.offers.specs.Offers.{object_at, good_object, good_from, good_offer}
use Rattle.offers.specs.Requests.{fits, asked, fit_of, is_honoured}
use Rattle.outgoing.specs.Packets.{no_packet, on_wire, control_of, data_of}
use Rattle.channel.specs.Channel.{pending_id, is_repeat, most_retries, fresh, ended, again, heard, sends}
use Rattle.channel.specs.Outcomes.{on_good_crc, on_expiry}
use Rattle.power.specs.declared.Change.{Change}
use Rattle.power.specs.declared.Standing.{Standing}
use Rattle.power.specs.Power.{changed, standing_of}
use Rattle.source.specs.declared.State.{State}
use Rattle.source.specs.States.{listens}
use Rattle.stimuli.specs.Leads.{leads}
use Rattle.hearing.specs.Packets.{on_packet}
use Rattle.source.specs.Changes.{change_of}
use Rattle.port.specs.declared.Actions.{Actions}
use Rattle.port.specs.declared.Port.{Port}
use Rattle.port.specs.declared.Event.{Event}
use Rattle.port.specs.Memory.{state_of, pending_in, detached_port, most_offers}
use Rattle.port.specs.Entering.{enter}
use Rattle.port.specs.Steps.{turn, happens, acknowledged, failed, resent, by_outcome, nothing_done, event_of, new_offer_of}
use Rattle.port.specs.Packets.{first_object, meaning_in, heard_as, new_packet, other_packet, good_crc_heard, by_meaning, message_of, packet_of}
use Rattle.port.specs.Calls.{Call, event, packet, new_offer, step, run}
use Rattle.portclaims.specs.Awaited.{awaits_request}
use Rattle.portclaims.specs.Messages.{Unheard, by_timer, by_another_good_crc}
use Rattle.portclaims.specs.OfferCount.{offers_since}
use Rattle.portclaims.specs.Repeats.{only_good_crc, aside}
use Rattle.portclaims.proofs.Shapes.{New}
use Rattle.portclaims.proofs.AcceptExactly.{FittingRequest}
use Rattle.portclaims.proofs.Groups.{is_stricter}
use Rattle.portclaims.proofs.SlipsOfTheOldFirmware.{answers_soft_reset}
use Rattle.std.specs.Prelude.{Some, None, Err}

-- ---- offers: both objects, and 5 V 1 A alone, after which a contract for 3 A no longer stands
abbrev both : Offer
both = record { objects = 0x0001912C ∷ 0x0002D12C ∷ 0 ∷ 0 ∷ 0 ∷ 0 ∷ 0 ∷ []; count = 2 }

abbrev less : Offer
less = record { objects = 0x00019064 ∷ 0 ∷ 0 ∷ 0 ∷ 0 ∷ 0 ∷ 0 ∷ []; count = 1 }

-- ---- a receiver's packets: their header fields, from MessageID and type
abbrev theirs : ℕ → ℕ → Fields
theirs id type = record { extended = false; message_id = id; power_role = 0; revision = 2; data_role = 0; message_type = type }

-- its GoodCRCs for our MessageIDs 0 to 4
abbrev good_crc0 : List ℕ
good_crc0 = 0x81 ∷ 0x00 ∷ []

abbrev good_crc1 : List ℕ
good_crc1 = 0x81 ∷ 0x02 ∷ []

abbrev good_crc2 : List ℕ
good_crc2 = 0x81 ∷ 0x04 ∷ []

abbrev good_crc3 : List ℕ
good_crc3 = 0x81 ∷ 0x06 ∷ []

abbrev good_crc4 : List ℕ
good_crc4 = 0x81 ∷ 0x08 ∷ []

-- its Requests: 5 V with MessageID 0 and with 2; example 7's; and for position 3, which is not offered, with 0 and with 1
abbrev asks_5v : List ℕ
asks_5v = 0x82 ∷ 0x10 ∷ 0x2C ∷ 0xB1 ∷ 0x04 ∷ 0x10 ∷ []

abbrev asks_5v_later : List ℕ
asks_5v_later = 0x82 ∷ 0x14 ∷ 0x2C ∷ 0xB1 ∷ 0x04 ∷ 0x10 ∷ []

abbrev asks_9v : List ℕ
asks_9v = 0x82 ∷ 0x12 ∷ 0x2C ∷ 0xB1 ∷ 0x04 ∷ 0x20 ∷ []

abbrev asks_too_high0 : List ℕ
asks_too_high0 = 0x82 ∷ 0x10 ∷ 0x2C ∷ 0xB1 ∷ 0x04 ∷ 0x30 ∷ []

abbrev asks_too_high1 : List ℕ
asks_too_high1 = 0x82 ∷ 0x12 ∷ 0x2C ∷ 0xB1 ∷ 0x04 ∷ 0x30 ∷ []

-- its control messages, and a data message that is not supported
abbrev accept1 : List ℕ
accept1 = 0x83 ∷ 0x02 ∷ []

abbrev get_source_cap1 : List ℕ
get_source_cap1 = 0x87 ∷ 0x02 ∷ []

abbrev soft_reset0 : List ℕ
soft_reset0 = 0x8D ∷ 0x00 ∷ []

abbrev soft_reset1 : List ℕ
soft_reset1 = 0x8D ∷ 0x02 ∷ []

abbrev unsupported1 : List ℕ
unsupported1 = 0x82 ∷ 0x02 ∷ []

-- ---- calls that lead to each state
unfoldable pub at : List Call → Port
at cs = run (detached_port both) cs

abbrev attached : List Call
attached = event Event.Attach ∷ []

abbrev unheard_once : List Call
unheard_once = attached ++ (event Event.Acknowledgement ∷ [])

-- the offer has gone out three times
abbrev unheard_twice : List Call
unheard_twice = attached ++ (event Event.Acknowledgement ∷ event Event.Acknowledgement ∷ [])

abbrev unheard : List Call
unheard = event Event.Acknowledgement ∷ event Event.Acknowledgement ∷ event Event.Acknowledgement ∷ []

-- so often: no one hears the offer, and SourceCapability expires
abbrev offers_unheard : ℕ → List Call
offers_unheard zero = []
offers_unheard (suc n) = unheard ++ (event Event.SourceCapability ∷ offers_unheard n)

abbrev in_offer : List Call
in_offer = attached ++ (packet good_crc0 ∷ [])

abbrev in_discovery : List Call
in_discovery = attached ++ unheard

abbrev in_discovery_at_fifty : List Call
in_discovery_at_fifty = attached ++ (offers_unheard 49 ++ unheard)

abbrev in_disabled : List Call
in_disabled = attached ++ offers_unheard 50

abbrev in_moving : List Call
in_moving = in_offer ++ (packet asks_5v ∷ event Event.Yes ∷ packet good_crc1 ∷ [])

abbrev in_telling : List Call
in_telling = in_moving ++ (event Event.SupplyReady ∷ [])

abbrev in_ready : List Call
in_ready = in_telling ++ (packet good_crc2 ∷ [])

abbrev in_judge : List Call
in_judge = in_ready ++ (packet asks_9v ∷ [])

abbrev in_accepting : List Call
in_accepting = in_judge ++ (event Event.Yes ∷ [])

-- Ready again, with 9 V in force
abbrev in_ready_at_9v : List Call
in_ready_at_9v = in_accepting ++ (packet good_crc3 ∷ event Event.SupplyReady ∷ packet good_crc4 ∷ [])

abbrev in_declining : List Call
in_declining = in_ready ++ (packet unsupported1 ∷ [])

abbrev in_refusing : List Call
in_refusing = in_offer ++ (packet asks_too_high0 ∷ [])

abbrev in_refusing_with_contract : List Call
in_refusing_with_contract = in_ready ++ (packet asks_too_high1 ∷ [])

abbrev in_refusing_broken : List Call
in_refusing_broken = in_ready ++ (new_offer 120000 less ∷ packet good_crc3 ∷ packet asks_too_high1 ∷ [])

abbrev in_waiting : List Call
in_waiting = in_refusing ++ (packet good_crc1 ∷ [])

abbrev in_soft : List Call
in_soft = in_ready ++ (packet accept1 ∷ [])

abbrev in_answering : List Call
in_answering = in_ready ++ (packet soft_reset0 ∷ [])

-- from Accepting, whose Accept is pending
abbrev in_hard : List Call
in_hard = in_accepting ++ (event Event.HardReset ∷ [])

abbrev in_default : List Call
in_default = in_hard ++ (event Event.PsHardReset ∷ [])

abbrev pub EveryState : Type 0
EveryState =
    (state_of (at []) ≡ State.Detached)
    × (state_of (at in_offer) ≡ State.Offer)
    × (state_of (at in_discovery) ≡ State.Discovery)
    × (state_of (at in_disabled) ≡ State.Disabled)
    × (state_of (at in_judge) ≡ State.Judge)
    × (state_of (at in_accepting) ≡ State.Accepting)
    × (state_of (at in_moving) ≡ State.Moving)
    × (state_of (at in_telling) ≡ State.Telling)
    × (state_of (at in_ready) ≡ State.Ready)
    × (state_of (at in_declining) ≡ State.Declining)
    × (state_of (at in_refusing) ≡ State.Refusing)
    × (state_of (at in_waiting) ≡ State.Waiting)
    × (state_of (at in_soft) ≡ State.Soft)
    × (state_of (at in_answering) ≡ State.Answering)
    × (state_of (at in_hard) ≡ State.Hard)
    × (state_of (at in_default) ≡ State.Default)

-- ---- example 7, whole
-- "Port in Ready, counter 3, stored 0, contract 5 V 3 A, both objects offered"
abbrev pub Example7Begins : Type 0
Example7Begins =
    (state_of (at in_ready) ≡ State.Ready)
    × ((at in_ready).channel.counter ≡ 3)
    × ((at in_ready).channel.stored ≡ Some 0)
    × ((at in_ready).power.contract ≡ Some (record { position = 1; voltage = 100; current = 300; worth = 30000 }))
    × ((at in_ready).last ≡ both)

-- "Actions, whole: GoodCRC A1 03; transmit A3 07.": those of the Request, and those of the power answer
abbrev at_the_request : Actions
at_the_request =
    record {
      good_crc = Some (0xA1 ∷ 0x03 ∷ []);
      stop = None;
      transmit = no_packet;
      hard_reset = false;
      supply = None;
      start = None;
    }

abbrev at_yes : Actions
at_yes =
    record {
      good_crc = None;
      stop = None;
      transmit = control_of Types.Accept 3;
      hard_reset = false;
      supply = None;
      start = None;
    }

-- "Accepting, stored 1, held 54,000."
abbrev pub Example7Answers : Type 0
Example7Answers =
    ((step (at in_ready) (packet asks_9v)).actions ≡ at_the_request)
    × ((step (at in_judge) (event Event.Yes)).actions ≡ at_yes)
    × (on_wire (control_of Types.Accept 3) ≡ 0xA3 ∷ 0x07 ∷ [])
    × (state_of (at in_accepting) ≡ State.Accepting)
    × ((at in_accepting).channel.stored ≡ Some 1)
    × ((at in_accepting).power.held ≡ 54000)

-- "Same packet again: GoodCRC only" (RepeatChangesNothing), and that it meets that claim's conditions
abbrev pub Example7Repeats : Type 0
Example7Repeats =
    (step (at in_accepting) (packet asks_9v) ≡ only_good_crc (theirs 1 2) (at in_accepting))
    × ((only_good_crc (theirs 1 2) (at in_accepting)).actions.good_crc ≡ Some (0xA1 ∷ 0x03 ∷ []))
    × (read_of asks_9v ≡ message_with 1 (theirs 1 2))
    × (listens (state_of (at in_accepting)) ≡ true)
    × (is_repeat (at in_accepting).channel 1 ≡ true)
    × (aside (meaning_in 1 (theirs 1 2)) ≡ false)

-- ---- Requests: one that fits (AcceptExactly.comes_to_ask, SlipsOfTheOldFirmware.judged_by_the_last_offer), one that does not (UnfitIsRejected)
abbrev pub Requests : Type 0
Requests =
    FittingRequest (at in_ready) asks_9v
    × New (at in_offer) asks_too_high0 1 (theirs 0 2) Meaning.Request
    × (awaits_request (state_of (at in_offer)) ≡ true)
    × (fits 1 (first_object (part_of asks_too_high0)) (at in_offer).last ≡ false)

-- a refusal (RefusedChangesNothing)
abbrev pub ARefusal : Type 0
ARefusal = (step (at in_ready) (event Event.Attach)).verdict ≡ Err NotAwaited

-- ---- messages (Transmissions): one offer goes out three times, the same bytes, and no more
abbrev pub ThreeTransmissions : Type 0
ThreeTransmissions =
    (pending_in (at []) ≡ false)
    × (on_wire (step (at []) (event Event.Attach)).actions.transmit ≡ 0xA1 ∷ 0x21 ∷ 0x2C ∷ 0x91 ∷ 0x01 ∷ 0x00 ∷ 0x2C ∷ 0xD1 ∷ 0x02 ∷ 0x00 ∷ [])
    × ((step (at attached) (event Event.Acknowledgement)).actions.transmit ≡ (step (at []) (event Event.Attach)).actions.transmit)
    × ((step (at unheard_once) (event Event.Acknowledgement)).actions.transmit ≡ (step (at []) (event Event.Attach)).actions.transmit)
    × ((step (at unheard_twice) (event Event.Acknowledgement)).actions.transmit ≡ no_packet)
    × ((at unheard_twice).channel.pending.retries ≡ 2)
    × (pending_in (at in_discovery) ≡ false)

-- a new offer that is kept while a message is pending takes none of its retries back
abbrev pub AKeptOffer : Type 0
AKeptOffer =
    (state_of (at (in_accepting ++ (event Event.Acknowledgement ∷ new_offer 120000 less ∷ []))) ≡ State.Accepting)
    × ((at (in_accepting ++ (event Event.Acknowledgement ∷ new_offer 120000 less ∷ []))).newest ≡ less)
    × ((at (in_accepting ++ (event Event.Acknowledgement ∷ new_offer 120000 less ∷ []))).channel.pending ≡ record { packet = control_of Types.Accept 3; retries = 1 })

-- the GoodCRC of a pending offer; the same offer acknowledged (NeverSleeps)
abbrev pub APendingOffer : Type 0
APendingOffer =
    (pending_in (at attached) ≡ true)
    × (ltb (at attached).channel.pending.retries most_retries ≡ true)
    × (read_of good_crc0 ≡ message_with 0 (theirs 0 1))
    × (meaning_in 0 (theirs 0 1) ≡ Meaning.GoodCrc)
    × (eqb (pending_id (at attached).channel) 0 ≡ true)
    × (pending_in (at in_offer) ≡ false)

-- the last transmission of an offer that no one hears, to a receiver that is not known to be there, told by the timer or by another GoodCRC (FailedSends, the slips)
abbrev pub ASendAboutToFail : Type 0
ASendAboutToFail =
    (state_of (at unheard_twice) ≡ State.Offer)
    × ((at unheard_twice).connected ≡ false)
    × (pending_in (at unheard_twice) ≡ true)
    × (ltb (at unheard_twice).channel.pending.retries most_retries ≡ false)
    × (leb most_offers (at unheard_twice).count ≡ false)
    × Unheard (at unheard_twice) (event Event.Acknowledgement)
    × Unheard (at unheard_twice) (packet good_crc1)

-- an offer to a receiver that is known to be there (FailedSends)
abbrev pub AnOfferToOneThatIsThere : Type 0
AnOfferToOneThatIsThere =
    (state_of (at (in_ready ++ (packet get_source_cap1 ∷ []))) ≡ State.Offer)
    × ((at (in_ready ++ (packet get_source_cap1 ∷ []))).connected ≡ true)
    × (pending_in (at (in_ready ++ (packet get_source_cap1 ∷ []))) ≡ true)

-- ---- Discovery below fifty offers and at fifty (NeverSleeps, OfferCount)
abbrev pub FewerAndFifty : Type 0
FewerAndFifty =
    (leb most_offers (at in_discovery).count ≡ false)
    × (state_of (at in_discovery_at_fifty) ≡ State.Discovery)
    × (leb most_offers (at in_discovery_at_fifty).count ≡ true)
    × (state_of (step (at in_discovery_at_fifty) (event Event.SourceCapability)).port ≡ State.Disabled)
    × (offers_since 0 (detached_port both) in_discovery_at_fifty ≡ 50)

-- ---- the slips
-- old power is kept: 9 V in force, 5 V asked and approved
abbrev pub OldPowerIsKept : Type 0
OldPowerIsKept =
    (state_of (at in_ready_at_9v) ≡ State.Ready)
    × ((at in_ready_at_9v).power.contract ≡ Some (record { position = 2; voltage = 180; current = 300; worth = 54000 }))
    × ((at in_ready_at_9v).power.held ≡ 54000)
    × (state_of (at (in_ready_at_9v ++ (packet asks_5v_later ∷ event Event.Yes ∷ []))) ≡ State.Accepting)
    × ((step (at (in_ready_at_9v ++ (packet asks_5v_later ∷ []))) (event Event.Yes)).held ≡ Change.Accepted)
    × ((at (in_ready_at_9v ++ (packet asks_5v_later ∷ event Event.Yes ∷ []))).power.accepted.worth ≡ 30000)
    × ((at (in_ready_at_9v ++ (packet asks_5v_later ∷ event Event.Yes ∷ []))).power.held ≡ 54000)

-- a Soft_Reset with the MessageID that is stored: in Ready, and in Accepting, where it leads to Hard
abbrev pub SoftResetsLikeRepeats : Type 0
SoftResetsLikeRepeats =
    (read_of soft_reset0 ≡ message_with 0 (theirs 0 13))
    × (meaning_in 0 (theirs 0 13) ≡ Meaning.SoftReset)
    × (is_repeat (at in_ready).channel 0 ≡ true)
    × (answers_soft_reset (state_of (at in_ready)) ≡ true)
    × (read_of soft_reset1 ≡ message_with 0 (theirs 1 13))
    × (meaning_in 0 (theirs 1 13) ≡ Meaning.SoftReset)
    × (is_repeat (at in_accepting).channel 1 ≡ true)
    × (is_stricter (state_of (at in_accepting)) ≡ true)
    × (state_of (at (in_accepting ++ (packet soft_reset1 ∷ []))) ≡ State.Hard)
    × ((step (at in_accepting) (packet soft_reset1)).actions.hard_reset ≡ true)
    × ((at (in_accepting ++ (packet soft_reset1 ∷ []))).channel ≡ fresh)

-- a retry that is dropped at a Hard Reset: Accept is pending, and may go out twice more
abbrev pub ADroppedRetry : Type 0
ADroppedRetry =
    (pending_in (at in_accepting) ≡ true)
    × (ltb (at in_accepting).channel.pending.retries most_retries ≡ true)
    × ((at in_hard).channel ≡ fresh)
    × ((step (at in_hard) (event Event.Acknowledgement)).verdict ≡ Err NotAwaited)

-- ---- where acknowledgements lead (NeverSleeps, OffersGoOut)
-- a contract that is honoured, one that no longer is, and none
abbrev pub ThreeStandings : Type 0
ThreeStandings =
    (standing_of (at in_refusing).power.contract (at in_refusing).last ≡ Standing.NoContract)
    × (standing_of (at in_refusing_with_contract).power.contract (at in_refusing_with_contract).last ≡ Standing.Honoured)
    × (state_of (at in_refusing_broken) ≡ State.Refusing)
    × (standing_of (at in_refusing_broken).power.contract (at in_refusing_broken).last ≡ Standing.Broken)

-- newest offers that have gone out
abbrev pub GoneOut : Type 0
GoneOut =
    ((at in_telling).gone_out ≡ true)
    × ((at in_declining).gone_out ≡ true)
    × ((at in_refusing).gone_out ≡ true)
    × ((at in_refusing_with_contract).gone_out ≡ true)

-- and some that have not, each kept until the message there is acknowledged
abbrev after_offer : List Call → Port
after_offer cs = at (cs ++ (new_offer 120000 less ∷ []))

abbrev pub NotGoneOut : Type 0
NotGoneOut =
    (good_offer 120000 less ≡ true)
    × (state_of (after_offer in_telling) ≡ State.Telling)
    × ((after_offer in_telling).gone_out ≡ false)
    × (state_of (after_offer in_declining) ≡ State.Declining)
    × ((after_offer in_declining).gone_out ≡ false)
    × (state_of (after_offer in_refusing) ≡ State.Refusing)
    × ((after_offer in_refusing).gone_out ≡ false)
    × (state_of (after_offer in_refusing_with_contract) ≡ State.Refusing)
    × ((after_offer in_refusing_with_contract).gone_out ≡ false)

-- Soft once its Soft_Reset is acknowledged; and the Accept that it waits for
abbrev pub InSoft : Type 0
InSoft =
    (state_of (at (in_soft ++ (packet good_crc0 ∷ []))) ≡ State.Soft)
    × (pending_in (at (in_soft ++ (packet good_crc0 ∷ []))) ≡ false)
    × New (at (in_soft ++ (packet good_crc0 ∷ []))) accept1 0 (theirs 1 3) Meaning.Reply

-- a Get_Source_Cap that is new, in Ready and in Waiting
abbrev pub AsksForTheOffer : Type 0
AsksForTheOffer =
    New (at in_ready) get_source_cap1 0 (theirs 1 7) Meaning.GetSourceCap
    × New (at in_waiting) get_source_cap1 0 (theirs 1 7) Meaning.GetSourceCap

-- ---- THE CLAIM: all of them
pub record Worked : Type 0 where
  pub every_state_is_reached : EveryState
  pub example_7_begins : Example7Begins
  pub example_7_answers : Example7Answers
  pub example_7_repeats : Example7Repeats
  pub requests : Requests
  pub a_refusal : ARefusal
  pub three_transmissions : ThreeTransmissions
  pub a_kept_offer : AKeptOffer
  pub a_pending_offer : APendingOffer
  pub a_send_about_to_fail : ASendAboutToFail
  pub an_offer_to_one_that_is_there : AnOfferToOneThatIsThere
  pub fewer_and_fifty : FewerAndFifty
  pub old_power_is_kept : OldPowerIsKept
  pub soft_resets_like_repeats : SoftResetsLikeRepeats
  pub a_dropped_retry : ADroppedRetry
  pub three_standings : ThreeStandings
  pub gone_out : GoneOut
  pub not_gone_out : NotGoneOut
  pub in_soft_lem : InSoft
  pub asks_for_the_offer : AsksForTheOffer

pub worked : Worked
unfolding at step event_of packet_of read_of reading_tried refuse_if word_of fields_of objects_of part_of is_chunked message_of meaning_in meaning_of by_meaning other_packet new_packet good_crc_heard by_outcome on_good_crc on_expiry pending_id is_repeat acknowledged failed resent nothing_done happens leads on_packet change_of heard_as first_object fit_of fits asked object_at turn enter changed standing_of is_honoured ended again heard sends control_of data_of header_of bytes_of new_offer_of good_offer good_from good_object
worked =
    record {
      every_state_is_reached = (refl, refl, refl, refl, refl, refl, refl, refl, refl, refl, refl, refl, refl, refl, refl, refl);
      example_7_begins = (refl, refl, refl, refl, refl);
      example_7_answers = (refl, refl, refl, refl, refl, refl);
      example_7_repeats = (refl, refl, refl, refl, refl, refl);
      requests = (
        record { objects = 1; fields = theirs 1 2; new = record { read = refl; listening = refl; meaning = refl; fresh = refl }; awaited = refl; fitting = refl },
        record { read = refl; listening = refl; meaning = refl; fresh = refl },
        refl,
        refl,
      );
      a_refusal = refl;
      three_transmissions = (refl, refl, refl, refl, refl, refl, refl);
      a_kept_offer = (refl, refl, refl);
      a_pending_offer = (refl, refl, refl, refl, refl, refl);
      a_send_about_to_fail = (refl, refl, refl, refl, refl, by_timer, by_another_good_crc good_crc1 0 (theirs 1 1) refl refl refl refl);
      an_offer_to_one_that_is_there = (refl, refl, refl);
      fewer_and_fifty = (refl, refl, refl, refl, refl);
      old_power_is_kept = (refl, refl, refl, refl, refl, refl, refl);
      soft_resets_like_repeats = (refl, refl, refl, refl, refl, refl, refl, refl, refl, refl, refl);
      a_dropped_retry = (refl, refl, refl, refl);
      three_standings = (refl, refl, refl, refl);
      gone_out = (refl, refl, refl, refl);
      not_gone_out = (refl, refl, refl, refl, refl, refl, refl, refl, refl);
      in_soft_lem = (refl, refl, record { read = refl; listening = refl; meaning = refl; fresh = refl });
      asks_for_the_offer = (
        record { read = refl; listening = refl; meaning = refl; fresh = refl },
        record { read = refl; listening = refl; meaning = refl; fresh = refl },
      );
    }
