-- Worked cases of the demands' conditions, computed by the checker: at the night desk, when ports 1 and 2 have got 120,000 and 54,000, port 3's Request for 36,000
-- is acceptable (Demand2), and one for 30,000 is new, awaited, fits and is within its share (Demand3). And request 01's, on each side. Assumes nothing.
use Prim.Native.Nat.{ℕ, ◌<◌, ◌≤◌}
use native.Mathlib.Omega.{arith}
use mathlib.Core.Path.{◌≡◌, refl}
use mathlib.Core.Bool.{Bool, true, false, ◌&&◌}
use mathlib.Core.List.{List, [], ◌∷◌, ◌++◌}
use borrow.Author.Tests.{leb-true}
use Rattle.ground.specs.Refusals.{refuse_if}
use Rattle.message.specs.declared.Fields.{Fields}
use Rattle.message.specs.Header.{fields_of, objects_of, header_of}
use Rattle.message.specs.Bytes.{word_of, is_chunked, bytes_of}
use Rattle.meaning.specs.declared.Meaning.{Meaning}
use Rattle.meaning.specs.Meaning.{meaning_of}
use Rattle.reading.specs.Reading.{read_of, reading_tried, part_of, message_with}
use Rattle.offers.specs.Objects.{position_of, is_mismatch, operating_of, maximum_of}
use Rattle.offers.specs.Offers.{object_at, good_object, good_from, good_offer}
use Rattle.offers.specs.Requests.{operating_fits, maximum_fits, fits, asked, fit_of}
use Rattle.outgoing.specs.Packets.{on_wire, control_of, data_of}
use Rattle.channel.specs.Channel.{pending_id, is_repeat, ended, heard, sends}
use Rattle.channel.specs.Outcomes.{on_good_crc}
use Rattle.power.specs.Power.{changed, standing_of}
use Rattle.stimuli.specs.Leads.{leads}
use Rattle.hearing.specs.Packets.{on_packet}
use Rattle.source.specs.Changes.{change_of}
use Rattle.port.specs.Memory.{state_of}
use Rattle.port.specs.Entering.{enter}
use Rattle.port.specs.Steps.{turn, happens, acknowledged, by_outcome, nothing_done, event_of}
use Rattle.port.specs.Packets.{first_object, meaning_in, heard_as, new_packet, other_packet, good_crc_heard, by_meaning, message_of, packet_of}
use Rattle.port.specs.Calls as Port
use Rattle.portclaims.specs.Awaited.{awaits_request}
use Rattle.slot.specs.Load.{approves}
use Rattle.slot.specs.Answers.{judged, settled}
use Rattle.rack.specs.declared.Rack.{Rack}
use Rattle.rack.specs.Ports.{at, others}
use Rattle.rack.specs.Steps.{packet, answer_at, step}
use Rattle.rack.specs.Runs.{Happens, run_by}
use Rattle.setup.specs.SetUps.{setting, good_setting, good_set_up, accepted_set_up}
use Rattle.rackclaims.specs.NightDesk as Desk
use Rattle.rackclaims.specs.Wire.{is_offer}
use Rattle.rackclaims.specs.History.{history_by, held_by}
use Rattle.demands.specs.Programs.{rack_now}
use Rattle.demands.specs.Ours.{ours}
use Rattle.demands.specs.Demand2.{Acceptable}
use Rattle.demands.specs.StarredExamples.{answer_of}
use Rattle.demands.specs.Fitting.{sets_mismatch, NoneSetsIt}

-- what came before, and the rack as it then is
abbrev events : List Happens
events = Desk.asked (record { number = 1; bytes = Desk.for120000 } ∷ (record { number = 2; bytes = Desk.for54000 } ∷ [])) ++ Desk.attached 3

abbrev now' : Rack
now' = rack_now ours Desk.night_desk events

-- the fields of a receiver's first Request
abbrev pub first : Fields
first = record { extended = false; message_id = 0; power_role = 0; revision = 2; data_role = 0; message_type = 2 }

pub read : (read_of Desk.for36000 ≡ message_with 1 first) × (read_of Desk.for30000 ≡ message_with 1 first) × (meaning_in 1 first ≡ Meaning.Request)
unfolding read_of reading_tried refuse_if word_of fields_of objects_of is_chunked meaning_in meaning_of
read = (refl, refl, refl)

pub here : 2 < 4
here = omega arith

pub an_acceptable_request : Acceptable ours Desk.night_desk events 2 Desk.for36000 1 first
unfolding read_of reading_tried refuse_if word_of fields_of objects_of header_of is_chunked meaning_of bytes_of part_of object_at good_object good_from good_offer fits asked fit_of control_of data_of pending_id is_repeat ended heard sends on_good_crc changed standing_of leads on_packet change_of enter turn happens acknowledged by_outcome nothing_done event_of first_object meaning_in heard_as new_packet other_packet good_crc_heard by_meaning message_of packet_of Port.step approves judged settled others answer_at step run_by history_by held_by is_offer good_setting good_set_up accepted_set_up
an_acceptable_request = record { new = refl; awaited_or_in_ready = refl; fits_the_last_offer = refl; within_the_limit = leb-true 36000 120000 refl; within_the_supply = leb-true 240000 240000 refl }

pub a_request_within_the_share :
    (is_repeat (at now' 2).port.channel first.message_id ≡ false)
    × (awaits_request (state_of (at now' 2).port) ≡ true)
    × (fits 1 (first_object (part_of Desk.for30000)) (at now' 2).port.last ≡ true)
    × ((asked (first_object (part_of Desk.for30000)) (at now' 2).port.last).worth ≤ (setting Desk.night_desk 2).share)
unfolding read_of reading_tried refuse_if word_of fields_of objects_of header_of is_chunked meaning_of bytes_of part_of object_at good_object good_from good_offer fits asked fit_of control_of data_of pending_id is_repeat ended heard sends on_good_crc changed standing_of leads on_packet change_of enter turn happens acknowledged by_outcome nothing_done event_of first_object meaning_in heard_as new_packet other_packet good_crc_heard by_meaning message_of packet_of Port.step approves judged settled others answer_at step run_by history_by held_by is_offer good_setting good_set_up accepted_set_up
a_request_within_the_share = (refl, refl, refl, leb-true 30000 30000 refl)

-- ---- request 01: 9 V 2 A, at most 4 A of the 3 A that is offered; and 9 V 3.01 A, at most 4 A. In the highest byte stand the position, 2, and bits 27..24
abbrev pub wanting : ℕ → List ℕ
wanting highest = 0x82 ∷ 0x10 ∷ 0x90 ∷ 0x21 ∷ 0x03 ∷ highest ∷ []

abbrev pub drawing : ℕ → List ℕ
drawing highest = 0x82 ∷ 0x10 ∷ 0x90 ∷ 0xB5 ∷ 0x04 ∷ highest ∷ []

-- what such a Request comes to at port 3: whether it fits, and Accept or Reject on the wire
pub record ComesTo (s : List ℕ) (fitting : Bool) : Type 0 where
  pub read : read_of s ≡ message_with 1 first
  pub fit : fits 1 (first_object (part_of s)) (at now' 2).port.last ≡ fitting
  pub answer : on_wire (step now' 3 (packet s)).actions.transmit ≡ answer_of fitting

-- taken with bit 26 and rejected without it; with it, an operating current over the offer is still rejected; bit 27 beside each changes nothing
pub mismatches :
    ComesTo (wanting 0x24) true
    × ComesTo (wanting 0x20) false
    × ComesTo (drawing 0x24) false
    × ComesTo (wanting 0x2C) true
    × ComesTo (wanting 0x28) false
    × ComesTo (drawing 0x2C) false
unfolding read_of reading_tried refuse_if word_of fields_of objects_of header_of is_chunked meaning_of bytes_of part_of object_at good_object good_from good_offer fits asked fit_of control_of data_of pending_id is_repeat ended heard sends on_good_crc changed standing_of leads on_packet change_of enter turn happens acknowledged by_outcome nothing_done event_of first_object meaning_in heard_as new_packet other_packet good_crc_heard by_meaning message_of packet_of Port.step approves judged settled others answer_at step run_by history_by held_by is_offer good_setting good_set_up accepted_set_up
mismatches = (
  record { read = refl; fit = refl; answer = refl },
  record { read = refl; fit = refl; answer = refl },
  record { read = refl; fit = refl; answer = refl },
  record { read = refl; fit = refl; answer = refl },
  record { read = refl; fit = refl; answer = refl },
  record { read = refl; fit = refl; answer = refl },
)

-- and the conditions of offers' CapabilityMismatch and portclaims' MismatchSaysNothingMore are met: with the bit and without it the same is asked; bit 27 is in none of
-- the four fields
abbrev object : List ℕ → ℕ
object s = first_object (part_of s)

pub asked_alike :
    (is_mismatch (object Desk.for36000) ≡ false)
    × ((operating_fits 1 (object Desk.for36000) (at now' 2).port.last && maximum_fits (object Desk.for36000) (at now' 2).port.last) ≡ true)
    × (is_mismatch (object (wanting 0x24)) ≡ true)
    × (position_of (object Desk.for36000) ≡ position_of (object (wanting 0x24)))
    × (operating_of (object Desk.for36000) ≡ operating_of (object (wanting 0x24)))
    × (position_of (object (wanting 0x24)) ≡ position_of (object (wanting 0x2C)))
    × (operating_of (object (wanting 0x24)) ≡ operating_of (object (wanting 0x2C)))
    × (is_mismatch (object (wanting 0x24)) ≡ is_mismatch (object (wanting 0x2C)))
    × (maximum_of (object (wanting 0x24)) ≡ maximum_of (object (wanting 0x2C)))
unfolding read_of reading_tried refuse_if word_of fields_of objects_of header_of is_chunked meaning_of bytes_of part_of object_at good_object good_from good_offer fits asked fit_of control_of data_of pending_id is_repeat ended heard sends on_good_crc changed standing_of leads on_packet change_of enter turn happens acknowledged by_outcome nothing_done event_of first_object meaning_in heard_as new_packet other_packet good_crc_heard by_meaning message_of packet_of Port.step approves judged settled others answer_at step run_by history_by held_by is_offer good_setting good_set_up accepted_set_up
asked_alike = (refl, refl, refl, refl, refl, refl, refl, refl, refl)

-- none of what came before sets the bit (AsBeforeWithoutMismatch), and this one does
pub none_sets_it : NoneSetsIt events × (sets_mismatch (packet (wanting 0x24)) ≡ true)
unfolding read_of reading_tried refuse_if word_of fields_of objects_of is_chunked meaning_in meaning_of part_of first_object
none_sets_it = ((refl, (refl, (refl, (refl, (refl, (refl, (refl, (refl, tt)))))))), refl)
