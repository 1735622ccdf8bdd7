-- The starred night-desk examples hold: one claim over the whole table, which the checker computes. Assumes nothing.
use mathlib.Core.Path.{refl}
use Rattle.ground.specs.Refusals.{refuse_if}
use Rattle.message.specs.Header.{fields_of, objects_of, header_of}
use Rattle.message.specs.Bytes.{word_of, is_chunked, bytes_of}
use Rattle.meaning.specs.Meaning.{meaning_of}
use Rattle.reading.specs.Reading.{read_of, reading_tried, part_of}
use Rattle.offers.specs.Offers.{object_at, good_object, good_from, good_offer}
use Rattle.offers.specs.Requests.{fits, asked, fit_of}
use Rattle.outgoing.specs.Packets.{control_of, data_of}
use Rattle.channel.specs.Channel.{pending_id, is_repeat, ended, heard, sends}
use Rattle.channel.specs.Outcomes.{on_good_crc}
use Rattle.power.specs.Power.{changed, standing_of}
use Rattle.stimuli.specs.Leads.{leads}
use Rattle.hearing.specs.Packets.{on_packet}
use Rattle.source.specs.Changes.{change_of}
use Rattle.port.specs.Entering.{enter}
use Rattle.port.specs.Steps.{turn, happens, acknowledged, by_outcome, nothing_done, event_of}
use Rattle.port.specs.Packets.{first_object, meaning_in, heard_as, new_packet, other_packet, good_crc_heard, by_meaning, message_of, packet_of}
use Rattle.port.specs.Calls as Port
use Rattle.slot.specs.Load.{approves}
use Rattle.slot.specs.Answers.{judged, settled}
use Rattle.rack.specs.Ports.{others, power_rule}
use Rattle.rack.specs.Steps.{answer_at, step}
use Rattle.rack.specs.Runs.{run_by}
use Rattle.setup.specs.SetUps.{good_setting, good_set_up, accepted_set_up}
use Rattle.rackclaims.specs.NightDesk.{rack_after}
use Rattle.demands.specs.StarredExamples.{table, All}

-- THE CLAIM
pub starred_examples : All table
unfolding table read_of reading_tried refuse_if word_of fields_of objects_of header_of is_chunked meaning_of bytes_of part_of object_at good_object good_from good_offer fits asked fit_of control_of data_of pending_id is_repeat ended heard sends on_good_crc changed standing_of leads on_packet change_of enter turn happens acknowledged by_outcome nothing_done event_of first_object meaning_in heard_as new_packet other_packet good_crc_heard by_meaning message_of packet_of Port.step approves judged settled others power_rule answer_at step run_by good_setting good_set_up accepted_set_up rack_after
starred_examples =
    (refl, (refl, (refl, (refl, (refl, (refl, (refl, (record { worth = refl; total = refl; rule = refl; answer = refl }, (record { worth = refl; total = refl; rule = refl; answer = refl }, (record { worth = refl; total = refl; rule = refl; answer = refl }, (record { worth = refl; total = refl; rule = refl; answer = refl }, tt)))))))))))
