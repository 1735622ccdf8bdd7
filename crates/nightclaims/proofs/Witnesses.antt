-- A worked case for each claim that has a condition or a cut, so that none of them speaks of nothing: the night of docs/NIGHT.md, and behind it a Request that takes
-- all of the supply. The checker computes each. Assumes nothing.
use Prim.Native.Nat.{ℕ}
use mathlib.Core.Path.{◌≡◌, refl}
use mathlib.Core.Bool.{true, false}
use mathlib.Core.List.{List, [], ◌∷◌, ◌++◌}
use lib.ListN.{take, drop}
use Rattle.ground.specs.Refusals.{refuse_if}
use Rattle.message.specs.Header.{fields_of, objects_of, header_of}
use Rattle.message.specs.Bytes.{word_of, is_chunked, bytes_of}
use Rattle.meaning.specs.Meaning.{meaning_of}
use Rattle.reading.specs.Reading.{reading_tried, part_of}
use Rattle.reading.specs.Reading as Reading
use Rattle.offers.specs.Offers.{object_at, good_object, good_from, good_offer}
use Rattle.offers.specs.Requests.{fits, asked, fit_of, is_honoured}
use Rattle.outgoing.specs.Packets.{control_of, data_of}
use Rattle.channel.specs.Channel.{pending_id, is_repeat, ended, again, heard, sends}
use Rattle.channel.specs.Outcomes.{on_good_crc, on_expiry}
use Rattle.power.specs.Power.{changed, standing_of}
use Rattle.stimuli.specs.Leads.{leads}
use Rattle.hearing.specs.Packets.{on_packet}
use Rattle.source.specs.Changes.{change_of}
use Rattle.port.specs.declared.Event.{Event}
use Rattle.port.specs.Entering.{enter}
use Rattle.port.specs.Steps.{turn, happens, acknowledged, failed, resent, by_outcome, nothing_done, new_offer_of}
use Rattle.port.specs.Steps as Steps
use Rattle.port.specs.Packets.{first_object, meaning_in, heard_as, new_packet, other_packet, good_crc_heard, by_meaning, message_of, packet_of}
use Rattle.port.specs.Calls as Port
use Rattle.slot.specs.Load.{approves}
use Rattle.slot.specs.Answers.{judged, settled}
use Rattle.rack.specs.Ports.{at, in_rack, others, power_rule}
use Rattle.rack.specs.Steps.{event, packet, answer_at, step}
use Rattle.setup.specs.SetUps.{good_setting, good_set_up, no_rack, accepted_set_up, verdict_of}
use Rattle.night.specs.Fields.{tag_of, length_of, size_of, is_whole, value_of, number_at, offer_in}
use Rattle.night.specs.Events.{event_of, kind_of, next_of, behind_of}
use Rattle.night.specs.SetUps.{head_is, is_setting, setting_of, is_port, is_supply, placed, group_in, set_up_in}
use Rattle.night.specs.Layout.{PortGroup, four_bytes, object_bytes, field_bytes, port_value, rack_value, rack_bytes, set_up_for, Fit}
use Rattle.night.proofs.Example.{it_fits}
use Rattle.fields.specs.declared.Ending.{Ending}
use Rattle.fields.specs.Endings.{ending_of}
use Rattle.fields.specs.Keeping.{goes_on}
use Rattle.fields.specs.PortAlone.{alone_of}
use Rattle.tally.specs.declared.Tally.{Tally}
use Rattle.playing.specs.declared.Played.{Played}
use Rattle.playing.specs.Nights.{begun, answered, event_done, set_up_done, night_in}
use Rattle.nightclaims.specs.Pieces.{played, left_of, in_pieces, joined, read_of}
use Rattle.nightclaims.specs.Happened.{happened_in, no_set_up_in}
use Rattle.nightclaims.specs.InSupply.{held_in}
use Rattle.std.specs.Prelude.{Ok, is_ok}

-- docs/NIGHT.md, "An example": 34 bytes of set-up, attach at port 1, the packet `81 00`; and the Request of 5 V 3 A
abbrev night : List ℕ
night =
    0x10 ∷ 0x1F ∷ 0x00
    ∷ 0x11 ∷ 0x15 ∷ 0x00
    ∷ 0x13 ∷ 0x04 ∷ 0x00 ∷ 0x30 ∷ 0x75 ∷ 0x00 ∷ 0x00
    ∷ 0x14 ∷ 0x04 ∷ 0x00 ∷ 0x30 ∷ 0x75 ∷ 0x00 ∷ 0x00
    ∷ 0x15 ∷ 0x04 ∷ 0x00 ∷ 0x2C ∷ 0x91 ∷ 0x01 ∷ 0x00
    ∷ 0x12 ∷ 0x04 ∷ 0x00 ∷ 0x30 ∷ 0x75 ∷ 0x00 ∷ 0x00
    ∷ 0x20 ∷ 0x01 ∷ 0x00 ∷ 0x01
    ∷ 0x22 ∷ 0x03 ∷ 0x00 ∷ 0x01 ∷ 0x81 ∷ 0x00
    ∷ 0x22 ∷ 0x07 ∷ 0x00 ∷ 0x01 ∷ 0x82 ∷ 0x10 ∷ 0x2C ∷ 0xB1 ∷ 0x04 ∷ 0x10
    ∷ []

-- SetUpComesFirst, SupplyHoldsThroughTheNight: it begins with a set-up that is laid out as it must be (it fits: `night`'s Example) and is accepted
abbrev port : PortGroup
port = record { share = 30000; limit = 30000; objects = 0x0001912C ∷ [] }

pub it_is_laid_out : (rack_bytes (port ∷ []) 30000 ++ drop 34 night ≡ night) × Fit (port ∷ []) 30000
unfolding rack_bytes rack_value port_value field_bytes object_bytes four_bytes
it_is_laid_out = (refl, it_fits)

pub it_is_accepted : verdict_of (accepted_set_up (set_up_for (port ∷ []) 30000)) ≡ Ok tt
unfolding accepted_set_up good_set_up good_setting good_offer good_from good_object object_at
it_is_accepted = refl

-- EventByEvent: behind the set-up there is none, and what happened is what the page says
pub events_alone : (no_set_up_in 20 (drop 34 night) ≡ true) × (no_set_up_in 54 night ≡ false)
unfolding no_set_up_in next_of kind_of set_up_in group_in is_supply is_port is_setting setting_of head_is placed offer_in number_at value_of is_whole size_of length_of tag_of word_of
events_alone = (refl, refl)

pub what_happened :
    happened_in 20 (drop 34 night)
    ≡ (record { number = 1; happening = event Event.Attach }
    ∷ record { number = 1; happening = packet (0x81 ∷ 0x00 ∷ []) }
    ∷ record { number = 1; happening = packet (0x82 ∷ 0x10 ∷ 0x2C ∷ 0xB1 ∷ 0x04 ∷ 0x10 ∷ []) }
    ∷ [])
unfolding happened_in next_of kind_of event_of behind_of value_of is_whole size_of length_of tag_of word_of
what_happened = refl

module _ (t : Tally) where
  abbrev first : Played
  first = begun no_rack t

  -- PiecesChangeNothing: a cut within the set-up, and one within the field behind it; what is read before the cut, and what is left over
  pub cut_within_the_set_up : ((played first (take 20 night)).at ≡ 0) × (left_of first (take 20 night) ≡ take 20 night)
  unfolding night_in next_of is_whole size_of length_of word_of
  cut_within_the_set_up = (refl, refl)

  pub cut_within_an_event : ((played first (take 36 night)).at ≡ 34) × (left_of first (take 36 night) ≡ 0x20 ∷ 0x01 ∷ []) × (read_of 36 (take 36 night) ≡ 34)
  unfolding night_in read_of set_up_done next_of kind_of set_up_in group_in is_supply is_port is_setting setting_of head_is placed offer_in number_at value_of is_whole size_of length_of tag_of word_of
  cut_within_an_event = (refl, refl, refl)

  -- WhereItStops: of such a piece the ending is a cut, and the night may go on with what is kept; behind the last field nothing is left
  pub cut_and_on : (ending_of (left_of first (take 36 night)) ≡ Ending.Cut) × (goes_on (ending_of (left_of first (take 36 night))) ≡ true) × (ending_of (drop 54 night) ≡ Ending.Whole)
  unfolding ending_of night_in set_up_done next_of kind_of set_up_in group_in is_supply is_port is_setting setting_of head_is placed offer_in number_at value_of is_whole size_of length_of tag_of word_of
  cut_and_on = (refl, refl, refl)

  -- in three pieces, with both cuts: the port holds all of the supply
  abbrev pieces : List (List ℕ)
  pieces = take 20 night ∷ take 16 (drop 20 night) ∷ drop 36 night ∷ []

  pub in_three_pieces : (joined pieces ≡ night) × ((in_pieces first [] pieces).at ≡ 54) × (held_in (in_pieces first [] pieces).rack 0 ≡ 30000) × ((in_pieces first [] pieces).rack.supply ≡ 30000)
  unfolding joined in_pieces night_in event_done answered set_up_done accepted_set_up good_set_up good_setting good_offer good_from good_object object_at next_of kind_of event_of
      behind_of set_up_in group_in is_supply is_port is_setting setting_of head_is placed offer_in number_at value_of is_whole size_of length_of tag_of word_of step answer_at
      settled judged approves power_rule others Port.step Steps.event_of packet_of Reading.read_of reading_tried refuse_if fields_of objects_of part_of is_chunked
      message_of meaning_in meaning_of by_meaning other_packet new_packet good_crc_heard by_outcome on_good_crc on_expiry pending_id is_repeat acknowledged failed resent
      nothing_done happens leads on_packet change_of heard_as first_object fit_of fits asked turn enter changed standing_of is_honoured ended again heard sends
      control_of data_of header_of bytes_of new_offer_of
  in_three_pieces = (refl, refl, refl, refl)

  -- PortAlone (in `fields`): the port answers the attach by itself; at the Request it asks for power, and the rack is to be asked
  pub by_itself :
      (in_rack (played first (take 34 night)).rack 1 ≡ true)
      × (is_ok (alone_of (at (played first (take 34 night)).rack 0) 1 (drop 34 night)) ≡ true)
      × (is_ok (alone_of (at (played first (take 44 night)).rack 0) 1 (drop 44 night)) ≡ false)
  unfolding night_in alone_of event_done answered set_up_done accepted_set_up good_set_up good_setting good_offer good_from good_object object_at next_of kind_of event_of
      behind_of set_up_in group_in is_supply is_port is_setting setting_of head_is placed offer_in number_at value_of is_whole size_of length_of tag_of word_of step answer_at
      settled judged approves power_rule others Port.step Steps.event_of packet_of Reading.read_of reading_tried refuse_if fields_of objects_of part_of is_chunked
      message_of meaning_in meaning_of by_meaning other_packet new_packet good_crc_heard by_outcome on_good_crc on_expiry pending_id is_repeat acknowledged failed resent
      nothing_done happens leads on_packet change_of heard_as first_object fit_of fits asked turn enter changed standing_of is_honoured ended again heard sends
      control_of data_of header_of bytes_of new_offer_of
  by_itself = (refl, refl, refl)
