-- A worked case for each claim that has a condition, so that none of them speaks of nothing: the rack of the night desk's example 8, brought there by events
-- alone. The checker computes each. Assumes nothing.
use Prim.Native.Nat.{ℕ, ◌*◌}
use mathlib.Core.Path.{◌≡◌, refl, sym, ap, subst}
use mathlib.Core.Bool.{Bool, true, false}
use mathlib.Core.List.{List, [], ◌∷◌, ◌++◌}
use lib.Dec.{eqb}
use borrow.Author.Tests.{eqb-true, eqb-false}
use Rattle.ground.specs.declared.Refusal.TheVariants.{TooShort, BadOffer, NotAwaited, NotInRack, BadSetUp}
use Rattle.ground.specs.Refusals.{refuse_if}
use Rattle.message.specs.declared.Fields.{Fields}
use Rattle.message.specs.Header.{fields_of, objects_of, header_of}
use Rattle.message.specs.Bytes.{word_of, is_chunked, bytes_of}
use Rattle.meaning.specs.Meaning.{meaning_of}
use Rattle.reading.specs.Reading.{read_of, reading_tried, part_of, message_with}
use Rattle.offers.specs.Offers.{object_at, good_object, good_from, good_offer}
use Rattle.offers.specs.Requests.{fits, asked, fit_of, is_honoured}
use Rattle.outgoing.specs.Packets.{control_of, data_of}
use Rattle.channel.specs.Channel.{pending_id, is_repeat, ended, again, heard, sends}
use Rattle.channel.specs.Outcomes.{on_good_crc, on_expiry}
use Rattle.power.specs.declared.Change.{Change}
use Rattle.power.specs.Power.{changed, standing_of}
use Rattle.source.specs.declared.State.{State}
use Rattle.source.specs.States.{listens}
use Rattle.stimuli.specs.Leads.{leads}
use Rattle.hearing.specs.Packets.{on_packet}
use Rattle.source.specs.Changes.{change_of}
use Rattle.port.specs.declared.Event.{Event}
use Rattle.port.specs.Memory.{state_of, pending_in, no_offer}
use Rattle.port.specs.Entering.{enter}
use Rattle.port.specs.Steps.{turn, happens, acknowledged, failed, resent, by_outcome, nothing_done, event_of, new_offer_of}
use Rattle.port.specs.Packets.{first_object, meaning_in, heard_as, new_packet, other_packet, good_crc_heard, by_meaning, message_of, packet_of}
use Rattle.port.specs.Calls as Port
use Rattle.portclaims.specs.Repeats.{aside}
use Rattle.portclaims.proofs.AcceptExactly.{FittingRequest}
use Rattle.slot.specs.Load.{load_of, approves}
use Rattle.slot.specs.Answers.{has_asked, judged, settled}
use Rattle.rack.specs.declared.Rack.{Rack}
use Rattle.rack.specs.Ports.{at, ports_in, others, power_rule}
use Rattle.rack.specs.Steps.{Happening, event, packet, new_offer, own_answer, answer_at, step}
use Rattle.rack.specs.Runs.{Happens, run_by, run}
use Rattle.setup.specs.declared.SetUp.{SetUp}
use Rattle.setup.specs.SetUps.{good_setting, good_set_up, accepted_set_up, verdict_of, rack_or_none}
use Rattle.rackclaims.specs.Wire.{is_offer}
use Rattle.rackclaims.specs.History.{history_by, history, held_by}
use Rattle.rackclaims.specs.NightDesk as Desk
use Rattle.rackclaims.proofs.Settling.{asks}
use Rattle.rackclaims.proofs.Neighbours.{others_stay}
use Rattle.std.specs.Prelude.{Ok, Err}

-- the fields of a receiver's first Request
abbrev asks_once : Fields
asks_once = record { extended = false; message_id = 0; power_role = 0; revision = 2; data_role = 0; message_type = 2 }

-- ports 1 and 2 have asked for 120,000 and 54,000, and the receiver at port 3 has its offer
abbrev before : List Desk.Asking
before = record { number = 1; bytes = Desk.for120000 } ∷ (record { number = 2; bytes = Desk.for54000 } ∷ [])

abbrev pub desk : Rack
desk = Desk.rack_after before 3

-- the events that led there, and port 3's Request for 36,000 behind them
abbrev night : List Happens
night = Desk.asked before ++ (Desk.attached 3 ++ (Desk.asking 3 Desk.for36000 ∷ []))

-- port 1, in the end: 120,000 are in force, and it asks for 30,000; that is accepted, and put in force; and it is detached
abbrev to1 : Happening → Happens
to1 h = record { number = 1; happening = h }

abbrev acknowledged1 : ℕ → Happens
acknowledged1 id = to1 (packet (0x81 ∷ (2 * id ∷ [])))

abbrev asks_less : List Happens
asks_less = night ++ (acknowledged1 1 ∷ (to1 (event Event.SupplyReady) ∷ (acknowledged1 2 ∷ (to1 (packet (0x82 ∷ 0x12 ∷ 0x2C ∷ 0xB1 ∷ 0x04 ∷ 0x10 ∷ [])) ∷ []))))

abbrev has_less : List Happens
has_less = asks_less ++ (acknowledged1 3 ∷ (to1 (event Event.SupplyReady) ∷ (acknowledged1 4 ∷ [])))

abbrev is_gone : List Happens
is_gone = has_less ++ (to1 (event Event.Detach) ∷ [])

abbrev held_at : ℕ → List Happens → ℕ
held_at number es = held_by number (history (rack_or_none (accepted_set_up Desk.night_desk)) es)

-- port 1 hears a Hard Reset, and Default is reached; or its PS_RDY goes out
abbrev resetting : Rack
resetting = run desk (to1 (event Event.HardReset) ∷ (to1 (event Event.PsHardReset) ∷ []))

abbrev telling : Rack
telling = run desk (acknowledged1 1 ∷ (to1 (event Event.SupplyReady) ∷ []))

-- set-ups that are not good: the shares of its ports add to more than its supply; no objects are offered at first
abbrev too_little : SetUp
too_little = record { settings = (Desk.night_desk).settings; count = 4; supply = 119999 }

abbrev nothing_offered : SetUp
nothing_offered = record { settings = record { share = 30000; limit = 120000; offer = no_offer } ∷ []; count = 1; supply = 240000 }

-- the same rack but for a receiver that is attached to port 4: its memory is another, and every port takes the load that it took
abbrev beside : Rack
beside = (step desk 4 (event Event.Attach)).rack

pub record Worked : Type 0 where
  -- a set-up that is accepted, and two that are not
  pub set_ups : (verdict_of (accepted_set_up Desk.night_desk) ≡ Ok tt) × (verdict_of (accepted_set_up too_little) ≡ Err BadSetUp) × (verdict_of (accepted_set_up nothing_offered) ≡ Err BadSetUp)
  -- SupplyHolds, HeldByHistory: what the ports hold by the history of that night; and what port 1 then holds: the larger, what is in force, nothing
  pub held_that_night : (held_at 1 night ≡ 120000) × (held_at 2 night ≡ 54000) × (held_at 3 night ≡ 36000) × (held_at 4 night ≡ 0)
  pub held_in_the_end : (held_at 1 asks_less ≡ 120000) × (held_at 1 has_less ≡ 30000) × (held_at 1 is_gone ≡ 0)
  -- AcceptExactly: port 3's Requests fit; the rule approves 36,000 and not 36,180; 30,000 is no more than its share
  pub fitting : FittingRequest (at desk 2).port Desk.for36000 × FittingRequest (at desk 2).port Desk.for36180 × FittingRequest (at desk 2).port Desk.for30000
  pub approved :
      (power_rule desk 2 (asks (at desk 2).port Desk.for36000) ≡ true)
      × (power_rule desk 2 (asks (at desk 2).port Desk.for36180) ≡ false)
      × (asks (at desk 2).port Desk.for30000 ≡ 30000)
  -- AcceptExactly.accepted_only_so, Neighbours: an answer that accepts, a port that has asked, and one that has not
  pub answers :
      ((answer_at desk 2 (packet Desk.for36000)).held ≡ Change.Accepted)
      × (has_asked (at desk 2).port (own_answer desk 2 (packet Desk.for36000)).port ≡ true)
      × (has_asked (at desk 2).port (own_answer desk 2 (event Event.Detach)).port ≡ false)
  -- RefusalsInOrder, RefusedChangesNothing: a port that is not there, a packet that cannot be read, a bad offer, an event that is not awaited
  pub refusals :
      ((step desk 5 (event Event.Detach)).verdict ≡ Err NotInRack)
      × ((step desk 0 (event Event.Detach)).verdict ≡ Err NotInRack)
      × ((step desk 3 (packet (0x82 ∷ []))).verdict ≡ Err TooShort)
      × ((step desk 3 (new_offer no_offer)).verdict ≡ Err BadOffer)
      × ((step desk 3 (event Event.Attach)).verdict ≡ Err NotAwaited)
  -- RepeatChangesNothing: port 2's Request again, while it is Accepting
  pub a_repeat :
      (listens (state_of (at desk 1).port) ≡ true)
      × (read_of Desk.for54000 ≡ message_with 1 asks_once)
      × (is_repeat (at desk 1).port.channel 0 ≡ true)
      × (aside (meaning_in 1 asks_once) ≡ false)
  -- NothingDroppedIsRetried: port 1's Accept is pending, and goes out again
  pub sent_again : (pending_in (at desk 0).port ≡ true) × ((answer_at desk 0 (event Event.Acknowledgement)).actions.transmit ≡ (at desk 0).port.channel.pending.packet)
  -- HeldIsToldExactly: port 1 acknowledges its PS_RDY; it is detached; and Default is ready after a Hard Reset
  pub told :
      ((answer_at telling 0 (packet (0x81 ∷ 0x04 ∷ []))).held ≡ Change.InForce)
      × ((answer_at desk 0 (event Event.Detach)).held ≡ Change.GivenUp)
      × ((answer_at resetting 0 (event Event.SupplyReady)).held ≡ Change.GivenUp)
  -- Neighbours: another neighbour, of the same load
  pub another_neighbour :
      (state_of (at desk 3).port ≡ State.Detached)
      × (state_of (at beside 3).port ≡ State.Offer)
      × (beside.supply ≡ desk.supply)
      × (ports_in desk ≡ ports_in beside)
      × (at desk 2 ≡ at beside 2)
      × (load_of (at desk 3) ≡ load_of (at beside 3))

-- THE CLAIM
pub worked : Worked
unfolding Desk.rack_after run_by history_by held_by step answer_at settled judged approves power_rule others accepted_set_up good_set_up good_setting good_offer good_from good_object object_at is_offer Port.step event_of packet_of read_of reading_tried refuse_if word_of fields_of objects_of part_of is_chunked message_of meaning_in meaning_of by_meaning other_packet new_packet good_crc_heard by_outcome on_good_crc on_expiry pending_id is_repeat acknowledged failed resent nothing_done happens leads on_packet change_of heard_as first_object fit_of fits asked turn enter changed standing_of is_honoured ended again heard sends control_of data_of header_of bytes_of new_offer_of
worked =
    record {
      set_ups = (refl, refl, refl);
      held_that_night = (refl, refl, refl, refl);
      held_in_the_end = (refl, refl, refl);
      fitting = (
        record { objects = 1; fields = asks_once; new = record { read = refl; listening = refl; meaning = refl; fresh = refl }; awaited = refl; fitting = refl },
        record { objects = 1; fields = asks_once; new = record { read = refl; listening = refl; meaning = refl; fresh = refl }; awaited = refl; fitting = refl },
        record { objects = 1; fields = asks_once; new = record { read = refl; listening = refl; meaning = refl; fresh = refl }; awaited = refl; fitting = refl },
      );
      approved = (refl, refl, refl);
      answers = (refl, refl, refl);
      refusals = (refl, refl, refl, refl, refl);
      a_repeat = (refl, refl, refl, refl);
      sent_again = (refl, refl);
      told = (refl, refl, refl);
      another_neighbour = (refl, refl, refl, refl, refl, refl);
    }

pub the_same_loads : (k : ℕ) → load_of (at desk k) ≡ load_of (at beside k)
the_same_loads k = by_test (eqb k 3) refl
  where
    by_test : (b : Bool) → eqb k 3 ≡ b → load_of (at desk k) ≡ load_of (at beside k)
    by_test true e = subst (λ m. load_of (at desk m) ≡ load_of (at beside m)) (sym (eqb-true k 3 e)) worked.another_neighbour.5
    by_test false e = sym (ap load_of (others_stay desk 4 k (event Event.Attach) (eqb-false k 3 e)))
