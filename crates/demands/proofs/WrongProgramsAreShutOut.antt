-- Wrong programs miss the demands: each of specs/WrongPrograms is led, at the night desk, to where it lies, and what the demand says of it there is false. So the
-- demands shut out what "What may not be left loose" names, and are more than any total program meets. The checker computes each case. Assumes nothing.
use Prim.Native.Nat.{ℕ, suc, max, ◌<◌, ◌≤◌}
use native.Mathlib.Omega.{arith}
use mathlib.Core.Path.{◌≡◌, refl, sym, ap, ◌∙◌}
use mathlib.Core.Bool.{Bool, true, false}
use mathlib.Core.List.{List, [], ◌∷◌, ◌++◌}
use lib.Dec.{leb, ltb, eqb}
use lib.ListN.{length}
use borrow.Author.Tests.{leb-true, le-leb, eq-eqb}
use Rattle.ground.specs.declared.Refusal.TheVariants.{OutOfRange}
use Rattle.ground.specs.Refusals.{refuse_if, any_of, Verdict}
use Rattle.message.specs.declared.Fields.{Fields}
use Rattle.message.specs.Header.{fields_of, objects_of, header_of}
use Rattle.message.specs.Bytes.{word_of, is_chunked, bytes_of}
use Rattle.message.proofs.Bytes.{are_bytes}
use Rattle.meaning.specs.declared.Meaning.{Meaning}
use Rattle.meaning.specs.Meaning.{meaning_of}
use Rattle.reading.specs.Reading.{read_of, reading_tried, part_of, message_with}
use Rattle.writing.specs.Writing.{writing_tried}
use Rattle.offers.specs.Offers.{object_at, good_object, good_from, good_offer}
use Rattle.offers.specs.Requests.{fits, asked, fit_of, is_honoured}
use Rattle.outgoing.specs.declared.Packet.{Packet}
use Rattle.outgoing.specs.Packets.{on_wire, control_of, data_of}
use Rattle.channel.specs.declared.Pending.{Pending}
use Rattle.channel.specs.Channel.{pending_id, is_repeat, ended, again, heard, sends}
use Rattle.channel.specs.Outcomes.{on_good_crc, on_expiry}
use Rattle.power.specs.declared.Change.{Change}
use Rattle.power.specs.Power.{changed, standing_of}
use Rattle.stimuli.specs.Leads.{leads}
use Rattle.hearing.specs.Packets.{on_packet}
use Rattle.source.specs.declared.State.{State}
use Rattle.source.specs.States.{same}
use Rattle.source.specs.Changes.{change_of}
use Rattle.port.specs.declared.Event.{Event}
use Rattle.port.specs.declared.Port.{Port}
use Rattle.port.specs.declared.Answer.{Answer}
use Rattle.port.specs.Memory.{state_of, pending_in}
use Rattle.port.specs.Entering.{enter}
use Rattle.port.specs.Steps.{turn, happens, acknowledged, failed, resent, by_outcome, nothing_done, event_of}
use Rattle.port.specs.Packets.{first_object, meaning_in, heard_as, new_packet, other_packet, good_crc_heard, by_meaning, message_of, packet_of}
use Rattle.port.specs.Calls as Port
use Rattle.portclaims.specs.Messages.{Fate, kept, goes_again, made, gone}
use Rattle.portclaims.proofs.Truth.{true_not_false}
use Rattle.slot.specs.Load.{approves}
use Rattle.slot.specs.Answers.{has_asked, judged, settled}
use Rattle.rack.specs.declared.RackAnswer.{RackAnswer}
use Rattle.rack.specs.Ports.{at, total, others}
use Rattle.rack.specs.Steps.{Happening, event, packet, call_of, turned, answer_at, step}
use Rattle.rack.specs.Runs.{Happens, run_by}
use Rattle.setup.specs.declared.SetUp.{SetUp}
use Rattle.setup.specs.SetUps.{setting, good_setting, good_set_up, rack_of, accepted_set_up, verdict_of}
use Rattle.rackclaims.specs.NightDesk as Desk
use Rattle.rackclaims.specs.Wire.{is_offer, is_accept}
use Rattle.rackclaims.specs.History.{history_by, held_by}
use Rattle.rackclaims.specs.Told.{told_of}
use Rattle.rackclaims.specs.Verdicts.{verdict_in}
use Rattle.demands.specs.Programs.{Program, rack_now, history}
use Rattle.demands.specs.Demand1.{Demand1}
use Rattle.demands.specs.Demand2.{Acceptable, seen, Demand2}
use Rattle.demands.specs.Demand3.{Demand3}
use Rattle.demands.specs.WrongPrograms as Wrong
use Rattle.demands.proofs.WorkedRequests.{first, wanting, drawing}
use Rattle.demands.proofs.ThirtyTwoPorts as Large
use Rattle.std.specs.Prelude.{Ok, Err}

-- ---- the night desk, and what came to it
abbrev u : SetUp
u = Desk.night_desk

-- a receiver is attached to port 1; three ask for 120,000 each
abbrev one : List Happens
one = Desk.attached 1

abbrev asking : ℕ → Desk.Asking
asking number = record { number = number; bytes = Desk.for120000 }

abbrev two : List Happens
two = Desk.asked (asking 1 ∷ (asking 2 ∷ []))

abbrev three : List Happens
three = Desk.asked (asking 1 ∷ (asking 2 ∷ (asking 3 ∷ [])))

-- port 1 has 120,000 in force, and then asks for 30,000
abbrev to1 : Happening → Happens
to1 h = record { number = 1; happening = h }

abbrev less : List Happens
less =
    Desk.asked (asking 1 ∷ [])
    ++ (to1 (packet (0x81 ∷ 0x02 ∷ [])) ∷ (to1 (event Event.SupplyReady) ∷ (to1 (packet (0x81 ∷ 0x04 ∷ [])) ∷ (to1 (packet (0x82 ∷ 0x12 ∷ 0x2C ∷ 0xB1 ∷ 0x04 ∷ 0x10 ∷ [])) ∷ []))))

-- port 1 has got its Accept, and hears a Hard Reset
abbrev promised : List Happens
promised = Desk.asked (asking 1 ∷ [])

abbrev reset : List Happens
reset = promised ++ (to1 (event Event.HardReset) ∷ [])

-- ---- what is seen of a program
abbrev at1 : Program → List Happens → Port
at1 P es = (at (rack_now P u es) 0).port

abbrev answer : Program → List Happens → Happening → RackAnswer
answer P es h = P.step (rack_now P u es) 1 h

abbrev after : Program → List Happens → Happening → Port
after P es h = (at (answer P es h).rack 0).port

-- what the port itself would do
abbrev own : Program → List Happens → Happening → Answer
own P es h = Port.step (at1 P es) (call_of 120000 h)

-- and the port after that
abbrev led : Program → List Happens → Happening → Port
led P es h = (at (turned (rack_now P u es) 0 (own P es h)).rack 0).port

abbrev is_fine : Verdict → Bool
is_fine (Ok _) = true
is_fine (Err no') = false

abbrev is_nothing : Change → Bool
is_nothing Change.Nothing = true
is_nothing Change.Accepted = false
is_nothing Change.InForce = false
is_nothing Change.GivenUp = false

-- the fields that all packets are read as, and fields that are never written
abbrev alike : Fields
alike = record { extended = false; message_id = 0; power_role = 0; revision = 2; data_role = 0; message_type = 1 }

abbrev reserved : Fields
reserved = record { extended = false; message_id = 0; power_role = 1; revision = 3; data_role = 0; message_type = 1 }

-- ---- the cases, computed
record Cases : Type 0 where
  set_up_lem : verdict_of (accepted_set_up u) ≡ Ok tt
  good : good_set_up u ≡ true
  read : (read_of Desk.for30000 ≡ message_with 1 first) × (read_of Desk.for54000 ≡ message_with 1 first) × (meaning_in 1 first ≡ Meaning.Request)
  refusing : Acceptable Wrong.rejects_everything u one 0 Desk.for30000 1 first
  little : (asked (first_object (part_of Desk.for30000)) (at1 Wrong.rejects_everything one).last).worth ≤ 30000
  refuses : is_accept (on_wire (answer Wrong.rejects_everything one (packet Desk.for30000)).actions.transmit) ≡ false
  comparing : Acceptable Wrong.compares_with_the_wrong_limit u one 0 Desk.for54000 1 first
  compares : is_accept (on_wire (answer Wrong.compares_with_the_wrong_limit one (packet Desk.for54000)).actions.transmit) ≡ false
  mismatches : (read_of (wanting 0x24) ≡ message_with 1 first) × (read_of (wanting 0x20) ≡ message_with 1 first) × (read_of (drawing 0x24) ≡ message_with 1 first)
  mismatched : Acceptable Wrong.hears_no_mismatch u one 0 (wanting 0x24) 1 first
  hears_none : is_accept (on_wire (answer Wrong.hears_no_mismatch one (packet (wanting 0x24))).actions.transmit) ≡ false
  hears_all :
      (is_accept (on_wire (answer Wrong.hears_a_mismatch_in_every_request one (packet (wanting 0x20))).actions.transmit) ≡ true)
      × (fits 1 (first_object (part_of (wanting 0x20))) (at1 Wrong.hears_a_mismatch_in_every_request one).last ≡ false)
  compares_none :
      (is_accept (on_wire (answer Wrong.compares_no_current_of_a_mismatch one (packet (drawing 0x24))).actions.transmit) ≡ true)
      × (fits 1 (first_object (part_of (drawing 0x24))) (at1 Wrong.compares_no_current_of_a_mismatch one).last ≡ false)
  accepts : leb (total (λ i. held_by (suc i) (history Wrong.accepts_everything u three)) 4) 240000 ≡ false
  counts : leb (total (λ i. held_by (suc i) (history Wrong.counts_only_its_own_port u three)) 4) 240000 ≡ false
  forgets : leb (total (λ i. max (setting u i).share (held_by (suc i) (history Wrong.forgets_the_shares_of_idle_ports u two))) 4) 240000 ≡ false
  lets_go : eqb (at1 Wrong.lets_go_of_old_power_at_accept less).power.held (held_by 1 (history Wrong.lets_go_of_old_power_at_accept u less)) ≡ false
  keeps :
      (is_nothing (answer Wrong.keeps_held_power_after_detach promised (event Event.Detach)).held ≡ true)
      × (is_nothing (told_of (at1 Wrong.keeps_held_power_after_detach promised) (answer Wrong.keeps_held_power_after_detach promised (event Event.Detach)).actions (event Event.Detach)) ≡ false)
  silent :
      (is_nothing (answer Wrong.says_nothing_of_held_power one (packet Desk.for30000)).held ≡ true)
      × (is_nothing (told_of (at1 Wrong.says_nothing_of_held_power one) (answer Wrong.says_nothing_of_held_power one (packet Desk.for30000)).actions (packet Desk.for30000)) ≡ false)
  idle : is_fine (verdict_in (rack_now Wrong.does_nothing u []) 1 (event Event.Attach)) ≡ true
  sleeps :
      (has_asked (at1 Wrong.answers_once_and_then_sleeps one) (own Wrong.answers_once_and_then_sleeps one (event Event.HardReset)).port ≡ false)
      × (is_fine (answer Wrong.answers_once_and_then_sleeps one (event Event.HardReset)).verdict ≡ false)
      × (is_fine (own Wrong.answers_once_and_then_sleeps one (event Event.HardReset)).verdict ≡ true)
  detached_first : same (state_of (at (rack_now Wrong.answers_another_port u []) 1).port) State.Detached ≡ true
  another : same (state_of (at (answer Wrong.answers_another_port [] (event Event.Attach)).rack 1).port) State.Detached ≡ false
  uncounted :
      (has_asked (at1 Wrong.counts_no_offer []) (own Wrong.counts_no_offer [] (event Event.Attach)).port ≡ false)
      × (eqb (after Wrong.counts_no_offer [] (event Event.Attach)).count 1 ≡ false)
      × (eqb (led Wrong.counts_no_offer [] (event Event.Attach)).count 1 ≡ true)
  survives :
      (has_asked (at1 Wrong.keeps_the_retry_through_a_hard_reset promised) (own Wrong.keeps_the_retry_through_a_hard_reset promised (event Event.HardReset)).port ≡ false)
      × (pending_in (after Wrong.keeps_the_retry_through_a_hard_reset promised (event Event.HardReset)) ≡ true)
      × (pending_in (led Wrong.keeps_the_retry_through_a_hard_reset promised (event Event.HardReset)) ≡ false)
  reads_nothing : eqb (length (bytes_of alike [])) 0 ≡ false
  refused_write : (Wrong.changes_the_buffer_of_a_refused_write).write reserved [] (7 ∷ []) 0 ≡ Err OutOfRange
  invents :
      (ltb 0 (answer Wrong.invents_a_retry reset (event Event.Acknowledgement)).actions.transmit.length ≡ true)
      × (pending_in (after Wrong.invents_a_retry reset (event Event.Acknowledgement)) ≡ false)
      × (pending_in (at1 Wrong.invents_a_retry reset) ≡ false)

cases : Cases
unfolding read_of reading_tried refuse_if word_of fields_of objects_of header_of is_chunked meaning_of bytes_of part_of object_at good_object good_from good_offer fits asked fit_of control_of data_of pending_id is_repeat ended heard sends on_good_crc changed standing_of leads on_packet change_of enter turn happens acknowledged by_outcome nothing_done event_of first_object meaning_in heard_as new_packet other_packet good_crc_heard by_meaning message_of packet_of Port.step approves judged settled others answer_at step run_by history_by held_by is_offer good_setting good_set_up accepted_set_up is_accept on_expiry again failed resent is_honoured writing_tried any_of
cases =
    record {
      set_up_lem = refl;
      good = refl;
      read = (refl, refl, refl);
      refusing = record { new = refl; awaited_or_in_ready = refl; fits_the_last_offer = refl; within_the_limit = leb-true 30000 120000 refl; within_the_supply = leb-true 120000 240000 refl };
      little = leb-true 30000 30000 refl;
      refuses = refl;
      comparing = record { new = refl; awaited_or_in_ready = refl; fits_the_last_offer = refl; within_the_limit = leb-true 54000 120000 refl; within_the_supply = leb-true 144000 240000 refl };
      compares = refl;
      mismatches = (refl, refl, refl);
      mismatched = record { new = refl; awaited_or_in_ready = refl; fits_the_last_offer = refl; within_the_limit = leb-true 36000 120000 refl; within_the_supply = leb-true 126000 240000 refl };
      hears_none = refl;
      hears_all = (refl, refl);
      compares_none = (refl, refl);
      accepts = refl;
      counts = refl;
      forgets = refl;
      lets_go = refl;
      keeps = (refl, refl);
      silent = (refl, refl);
      idle = refl;
      sleeps = (refl, refl, refl);
      detached_first = refl;
      another = refl;
      uncounted = (refl, refl, refl);
      reads_nothing = refl;
      refused_write = refl;
      survives = (refl, refl, refl);
      invents = (refl, refl, refl);
    }

-- ---- each of them misses a demand
at_first : 0 < 4
at_first = omega arith

too_much : {A : Type 0} (a b : ℕ) → leb a b ≡ false → a ≤ b → A
too_much a b over within = true_not_false (sym (le-leb a b within) ∙ over)

-- THE CLAIMS
-- a program that rejects everything: "shut out by demand 3's share and 2's exactly"
pub rejects_everything_lem : Demand3 Wrong.rejects_everything → ⊥
rejects_everything_lem d =
    let a = cases.refusing in
    true_not_false
    (sym ((d.share u cases.set_up_lem one 0 at_first).granted Desk.for30000 1 first cases.read.0 cases.read.2 a.new a.awaited_or_in_ready a.fits_the_last_offer cases.little)
    ∙ cases.refuses)

pub rejects_everything_2 : Demand2 Wrong.rejects_everything → ⊥
rejects_everything_2 d =
    true_not_false (sym ((d.accepts u cases.set_up_lem one 0 at_first).accepted_when Desk.for30000 1 first cases.read.0 cases.read.2 cases.refusing) ∙ cases.refuses)

-- one that accepts everything: "3's supply"
pub accepts_everything_lem : Demand3 Wrong.accepts_everything → ⊥
accepts_everything_lem d = too_much _ 240000 cases.accepts (d.supply u cases.set_up_lem three).supply_is_never_exceeded

pub counts_only_its_own_port_lem : Demand3 Wrong.counts_only_its_own_port → ⊥
counts_only_its_own_port_lem d = too_much _ 240000 cases.counts (d.supply u cases.set_up_lem three).supply_is_never_exceeded

pub forgets_the_shares_of_idle_ports_lem : Demand3 Wrong.forgets_the_shares_of_idle_ports → ⊥
forgets_the_shares_of_idle_ports_lem d = too_much _ 240000 cases.forgets (d.supply u cases.set_up_lem two).shares_stay_free

pub compares_with_the_wrong_limit_lem : Demand2 Wrong.compares_with_the_wrong_limit → ⊥
compares_with_the_wrong_limit_lem d =
    true_not_false (sym ((d.accepts u cases.set_up_lem one 0 at_first).accepted_when Desk.for54000 1 first cases.read.1 cases.read.2 cases.comparing) ∙ cases.compares)

-- capability mismatch: not heard, as before request 01; heard in every Request; and its operating current not compared either
pub hears_no_mismatch_lem : Demand2 Wrong.hears_no_mismatch → ⊥
hears_no_mismatch_lem d =
    true_not_false (sym ((d.accepts u cases.set_up_lem one 0 at_first).accepted_when (wanting 0x24) 1 first cases.mismatches.0 cases.read.2 cases.mismatched) ∙ cases.hears_none)

pub hears_a_mismatch_in_every_request_lem : Demand2 Wrong.hears_a_mismatch_in_every_request → ⊥
hears_a_mismatch_in_every_request_lem d =
    let c = cases.hears_all in
    true_not_false (sym ((d.accepts u cases.set_up_lem one 0 at_first).accepted_only_when (wanting 0x20) 1 first cases.mismatches.1 cases.read.2 c.0).fits_the_last_offer ∙ c.1)

pub compares_no_current_of_a_mismatch_lem : Demand2 Wrong.compares_no_current_of_a_mismatch → ⊥
compares_no_current_of_a_mismatch_lem d =
    let c = cases.compares_none in
    true_not_false (sym ((d.accepts u cases.set_up_lem one 0 at_first).accepted_only_when (drawing 0x24) 1 first cases.mismatches.2 cases.read.2 c.0).fits_the_last_offer ∙ c.1)

-- held power: let go at Accept, kept after detach, or not told at all
pub lets_go_of_old_power_at_accept_lem : Demand3 Wrong.lets_go_of_old_power_at_accept → ⊥
lets_go_of_old_power_at_accept_lem d = true_not_false (sym (eq-eqb _ _ (d.history u cases.set_up_lem less 0 at_first).program_keeps_it) ∙ cases.lets_go)

pub keeps_held_power_after_detach_lem : Demand3 Wrong.keeps_held_power_after_detach → ⊥
keeps_held_power_after_detach_lem d =
    true_not_false (sym cases.keeps.0 ∙ ap is_nothing ((d.history u cases.set_up_lem promised 0 at_first).told_exactly (event Event.Detach)) ∙ cases.keeps.1)

pub says_nothing_of_held_power_lem : Demand3 Wrong.says_nothing_of_held_power → ⊥
says_nothing_of_held_power_lem d =
    true_not_false (sym cases.silent.0 ∙ ap is_nothing ((d.history u cases.set_up_lem one 0 at_first).told_exactly (packet Desk.for30000)) ∙ cases.silent.1)

-- an event that does nothing, a port that answers once and then sleeps, one that answers for another
pub does_nothing_lem : Demand1 Wrong.does_nothing → ⊥
does_nothing_lem d = true_not_false (sym cases.idle ∙ sym (ap is_fine (d.every_event_is_answered (rack_now Wrong.does_nothing u []) 1 (event Event.Attach))))

pub answers_once_and_then_sleeps_lem : Demand2 Wrong.answers_once_and_then_sleeps → ⊥
answers_once_and_then_sleeps_lem d =
    let c = cases.sleeps in
    true_not_false (sym c.2 ∙ sym (ap (λ a. is_fine a.verdict) ((d.steps u cases.set_up_lem one 0 at_first).by_itself (event Event.HardReset) c.0)) ∙ c.1)

pub answers_another_port_lem : Demand2 Wrong.answers_another_port → ⊥
answers_another_port_lem d =
    true_not_false
    (sym cases.detached_first ∙ sym (ap (λ s. same (state_of s.port) State.Detached) ((d.steps u cases.set_up_lem [] 0 at_first).no_other_port (event Event.Attach) 1 (λ e. true_not_false (sym (ap (λ n. eqb n 0) e)))))
    ∙ cases.another)

-- an invented offer count, a retry that survives, an invented retry: "each transmit ties to it"
pub counts_no_offer_lem : Demand2 Wrong.counts_no_offer → ⊥
counts_no_offer_lem d =
    let c = cases.uncounted in
    true_not_false (sym c.2 ∙ sym (ap (λ a. eqb (at a.rack 0).port.count 1) ((d.steps u cases.set_up_lem [] 0 at_first).by_itself (event Event.Attach) c.0)) ∙ c.1)

pub keeps_the_retry_through_a_hard_reset_lem : Demand2 Wrong.keeps_the_retry_through_a_hard_reset → ⊥
keeps_the_retry_through_a_hard_reset_lem d =
    let c = cases.survives in
    true_not_false (sym c.1 ∙ ap (λ a. pending_in (at a.rack 0).port) ((d.steps u cases.set_up_lem promised 0 at_first).by_itself (event Event.HardReset) c.0) ∙ c.2)

by_fate : (a : Answer) → ltb 0 a.actions.transmit.length ≡ true → pending_in a.port ≡ false → (p : Port) → pending_in p ≡ false → Fate p a → ⊥
by_fate a some none p nothing (kept e same counter) = true_not_false (sym some ∙ ap (λ (m : Packet). ltb 0 m.length) e)
by_fate a some none p nothing (gone e left) = true_not_false (sym some ∙ ap (λ (m : Packet). ltb 0 m.length) e)
by_fate a some none p nothing (made f) =
    true_not_false (sym some ∙ sym (ap (λ (x : Pending). ltb 0 x.packet.length) f.pending) ∙ none)
by_fate a some none p nothing (goes_again x) = true_not_false (sym x.was_pending ∙ nothing)

pub invents_a_retry_lem : Demand2 Wrong.invents_a_retry → ⊥
invents_a_retry_lem d =
    let c = cases.invents in
    by_fate (seen Wrong.invents_a_retry u reset 0 (event Event.Acknowledgement)) c.0 c.1 (at1 Wrong.invents_a_retry reset) c.2 ((d.retries u cases.set_up_lem reset 0 at_first).fate (event Event.Acknowledgement))

-- one constant reading, a refused write that changes a byte, a set-up that is never accepted
pub reads_all_alike_lem : Demand2 Wrong.reads_all_alike → ⊥
reads_all_alike_lem d = true_not_false (sym (ap (λ (l : List ℕ). eqb (length l) 0) (d.messages.nothing_else_is_read [] (are_bytes [] tt) 0 alike refl)) ∙ cases.reads_nothing)

pub changes_the_buffer_of_a_refused_write_lem : Demand1 Wrong.changes_the_buffer_of_a_refused_write → ⊥
changes_the_buffer_of_a_refused_write_lem d =
    true_not_false (ap (λ (l : List ℕ). eqb (length l) 0) (d.no_lent_byte_is_different reserved [] (7 ∷ []) 0 OutOfRange cases.refused_write))

pub refuses_every_set_up_lem : Demand1 Wrong.refuses_every_set_up → ⊥
refuses_every_set_up_lem d = true_not_false (sym (ap is_fine (d.good_is_set_up u cases.good).0))

-- ---- other limits, each by the sentence about a set-up that it breaks, and by the one about events: nine ports are good, and a port or a unit over the most is not; a
-- rack of nine has a port 9, and one of 33 no port 33
abbrev nine : SetUp
nine = Large.alike 9 30000 6400000

abbrev port_over : SetUp
port_over = Large.alike 33 30000 6400000

abbrev unit_over : SetUp
unit_over = Large.alike 32 30000 6400001

-- what a program answers to an attach at the port of a number, in the rack of a set-up
abbrev attach : Program → SetUp → ℕ → Verdict
attach P set_up_lem number = (P.step (rack_of set_up_lem) number (event Event.Attach)).verdict

pub record Limits : Type 0 where
  pub nine_ports : good_set_up nine ≡ true
  pub port_over_lem : good_set_up port_over ≡ false
  pub unit_over_lem : good_set_up unit_over ≡ false
  pub port_9 : (is_fine (attach Wrong.stays_at_eight_ports nine 9) ≡ false) × (is_fine (verdict_in (rack_of nine) 9 (event Event.Attach)) ≡ true)
  pub port_33 : (is_fine (attach Wrong.has_thirty_three_ports port_over 33) ≡ true) × (is_fine (verdict_in (rack_of port_over) 33 (event Event.Attach)) ≡ false)

limits : Limits
unfolding object_at good_object good_from good_offer data_of standing_of leads change_of enter turn happens event_of Port.step settled good_setting good_set_up
limits = record { nine_ports = refl; port_over_lem = refl; unit_over_lem = refl; port_9 = (refl, refl); port_33 = (refl, refl) }

pub stays_at_eight_ports_lem : Demand1 Wrong.stays_at_eight_ports → ⊥
stays_at_eight_ports_lem d = true_not_false (sym (ap is_fine (d.good_is_set_up nine limits.nine_ports).0))

pub stays_at_eight_ports_2 : Demand1 Wrong.stays_at_eight_ports → ⊥
stays_at_eight_ports_2 d = true_not_false (sym limits.port_9.1 ∙ sym (ap is_fine (d.every_event_is_answered (rack_of nine) 9 (event Event.Attach))) ∙ limits.port_9.0)

pub has_thirty_three_ports_lem : Demand1 Wrong.has_thirty_three_ports → ⊥
unfolding object_at good_object good_from good_offer good_setting
has_thirty_three_ports_lem d = true_not_false (ap is_fine (d.bad_is_ten port_over limits.port_over_lem).0)

pub has_thirty_three_ports_2 : Demand1 Wrong.has_thirty_three_ports → ⊥
has_thirty_three_ports_2 d = true_not_false (sym limits.port_33.0 ∙ ap is_fine (d.every_event_is_answered (rack_of port_over) 33 (event Event.Attach)) ∙ limits.port_33.1)

pub takes_one_unit_more_lem : Demand1 Wrong.takes_one_unit_more → ⊥
unfolding object_at good_object good_from good_offer good_setting
takes_one_unit_more_lem d = true_not_false (ap is_fine (d.bad_is_ten unit_over limits.unit_over_lem).0)
