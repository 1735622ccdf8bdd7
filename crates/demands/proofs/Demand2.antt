-- Ours meets demand 2 (specs/Demand2). Assumes nothing.
use Prim.Native.Nat.{ℕ, suc, max, ◌+◌, ◌<◌}
use native.Mathlib.Nat.{le_trans, le_of_eq}
use mathlib.Core.Path.{◌≡◌, refl, sym, ap, subst, ◌∙◌}
use mathlib.Core.Bool.{true, false, cond}
use mathlib.Core.List.{List}
use lib.Dec.{eqb}
use lib.ListN.{length}
use Rattle.message.specs.declared.Fields.{Fields}
use Rattle.message.specs.Bytes.{bytes_of}
use Rattle.meaning.specs.declared.Meaning.{Meaning}
use Rattle.reading.specs.Reading.{read_of, part_of, message_with}
use Rattle.reading.proofs.ReadsExactlyMessages.{read_is, part_is, bytes_are}
use Rattle.writing.specs.Writing.{Wrote, writing_tried}
use Rattle.writing.proofs.Fine.{writable, fine}
use Rattle.offers.specs.Requests.{asked}
use Rattle.outgoing.specs.Packets.{on_wire}
use Rattle.port.specs.declared.Answer.{Answer}
use Rattle.port.specs.Packets.{first_object, meaning_in}
use Rattle.port.specs.Calls as Port
use Rattle.portclaims.specs.Messages.{Fate}
use Rattle.portclaims.proofs.AcceptExactly.{fitting_request, its_parts}
use Rattle.slot.specs.Load.{load_of}
use Rattle.slot.specs.Answers.{has_asked, judged}
use Rattle.rack.specs.declared.Rack.{Rack}
use Rattle.rack.specs.declared.RackAnswer.{RackAnswer}
use Rattle.rack.specs.Ports.{at, total, others, power_rule}
use Rattle.rack.specs.Steps.{Happening, packet, call_of, answer_at, turned, step}
use Rattle.rack.specs.Runs.{Happens, run}
use Rattle.setup.specs.declared.SetUp.{SetUp}
use Rattle.setup.specs.SetUps.{setting, good_set_up, accepted_set_up, verdict_of, rack_or_none}
use Rattle.rackclaims.specs.Wire.{is_accept}
use Rattle.rackclaims.specs.History.{held_by}
use Rattle.rackclaims.proofs.GoodSetUps.{accepted_is_good}
use Rattle.rackclaims.proofs.Reached.{Reached, within_limit, within_supply, within_both, comes_to_it, at_its_place}
use Rattle.rackclaims.proofs.SupplyHolds as Supply
use Rattle.rackclaims.proofs.AcceptExactly.{AcceptedBy, by_request, accept_where_approved}
use Rattle.rackclaims.proofs.AcceptOnTheWire.{accept_is_sent, sent_only_so}
use Rattle.rackclaims.proofs.Neighbours.{put_other, answers_by_itself, answers_by_the_rule}
use Rattle.rackclaims.proofs.RepeatChangesNothing as Repeat
use Rattle.rackclaims.proofs.NothingDroppedIsRetried.{fate_in_the_rack}
use Rattle.demands.specs.Programs.{history}
use Rattle.demands.specs.Ours.{ours}
use Rattle.demands.specs.Demand2.{ReadAndWritten, StepsByTheRules, Acceptable, AcceptsExactly, RepeatsChangeNothing, NothingDroppedIsRetried, Demand2}
use Rattle.demands.proofs.WrittenReadsBack as Written
use Rattle.demands.proofs.ReadWritesBack as Read
use Rattle.std.specs.Prelude.{Ok}

-- ---- messages
wrote : (f : Fields) (o buf : List ℕ) (place : ℕ) → Wrote f o buf place (ours.write f o buf place) (ours.buffer f o buf place)
wrote f o buf place = record { result = refl; buffer = refl }

read_and_written : ReadAndWritten ours
read_and_written =
    record {
      message_is_read = λ f o m. (read_is f o m, part_is f o m);
      nothing_else_is_read = λ s b n f e. bytes_are s b n f e;
      message_is_written = λ f o buf place w. let can = fine f o (length buf) place w in (rw can refl, rw can refl);
      nothing_else_is_written = λ f o buf place k e. writable f o (length buf) place (Written.was_fine (writing_tried f o (length buf) place) (bytes_of f o) k (sym e)).0;
      reserved_is_never_written = λ f o buf place h. Read.reserved_never_written f o buf place (ours.write f o buf place) (ours.buffer f o buf place) h (wrote f o buf place);
      written_reads_back =
          λ f o buf place k e.
          let back = Written.written_reads_back f o buf place k (ours.buffer f o buf place) (record { result = sym e; buffer = refl }) in (back.message, back.objects);
      read_writes_back =
          λ s b n f e revision buf place within room.
          Read.read_writes_back s b n f e buf place (ours.write f (part_of s) buf place) (ours.buffer f (part_of s) buf place) revision within room (wrote f (part_of s) buf place);
    }

-- ---- a port, after an accepted set-up and through any events
module _ (u : SetUp) (accepted : verdict_of (accepted_set_up u) ≡ Ok tt) (es : List Happens) (i : ℕ) (here : i < u.count) where
  abbrev r : Rack
  r = run (rack_or_none (accepted_set_up u)) es

  good : good_set_up u ≡ true
  good = accepted_is_good u accepted

  k : Reached u r
  k = Supply.reached u accepted es

  it_comes : (h : Happening) → step r (suc i) h ≡ turned r i (answer_at r i h)
  it_comes h = comes_to_it u good r k i here h

  -- ---- the rules
  by_limit : (h : Happening) (limit : ℕ) → (at r i).limit ≡ limit → has_asked (at r i).port (Port.step (at r i).port (call_of limit h)).port ≡ false → step r (suc i) h ≡ turned r i (Port.step (at r i).port (call_of limit h))
  by_limit h limit same =
      subst (λ l. has_asked (at r i).port (Port.step (at r i).port (call_of l h)).port ≡ false → step r (suc i) h ≡ turned r i (Port.step (at r i).port (call_of l h))) same
      (λ e. it_comes h ∙ ap (turned r i) (answers_by_itself r i h e))

  by_limit_and_rule : (h : Happening) (limit : ℕ) → (at r i).limit ≡ limit → has_asked (at r i).port (Port.step (at r i).port (call_of limit h)).port ≡ true →
      step r (suc i) h ≡ turned r i (judged (power_rule r i (Port.step (at r i).port (call_of limit h)).port.power.accepted.worth) (Port.step (at r i).port (call_of limit h)))
  by_limit_and_rule h limit same =
      subst
      (λ l. has_asked (at r i).port (Port.step (at r i).port (call_of l h)).port ≡ true →
      step r (suc i) h ≡ turned r i (judged (power_rule r i (Port.step (at r i).port (call_of l h)).port.power.accepted.worth) (Port.step (at r i).port (call_of l h))))
      same
      (λ e. it_comes h ∙ ap (turned r i) (answers_by_the_rule r i h e))

  steps : StepsByTheRules ours u es i
  steps =
      record {
        by_itself = λ h e. by_limit h (setting u i).limit (k.limit i here) e;
        with_the_power_answer = λ h e. by_limit_and_rule h (setting u i).limit (k.limit i here) e;
        no_other_port = λ h j d. ap (λ a. at a.rack j) (it_comes h) ∙ put_other r i j (answer_at r i h).port d;
      }

  -- ---- Accept, exactly
  module _ (s : List ℕ) (n : ℕ) (f : Fields) (read : read_of s ≡ message_with n f) (request : meaning_in n f ≡ Meaning.Request) where
    abbrev worth : ℕ
    worth = (asked (first_object (part_of s)) (at r i).port.last).worth

    -- the paper's sum over the history, and the rack's over its memory
    abbrev taken : ℕ → ℕ
    taken j = max (setting u j).share (held_by (suc j) (history ours u es))

    same_sum : total (λ j. cond (eqb j i) 0 (taken j)) u.count + max (taken i) worth ≡ others r i + max (load_of (at r i)) worth
    same_sum = rw (Supply.others_are u accepted es i, Supply.load_is u accepted es i here) refl

    approved : Acceptable ours u es i s n f → power_rule r i worth ≡ true
    unfolding power_rule
    approved a =
        within_both (at r i) (others r i) r.supply worth
        (le_trans a.within_the_limit (le_of_eq (sym (k.limit i here))))
        (le_trans (le_of_eq (sym same_sum)) (le_trans a.within_the_supply (le_of_eq (sym k.supply))))

    accepted_when : Acceptable ours u es i s n f → is_accept (on_wire (step r (suc i) (packet s)).actions.transmit) ≡ true
    accepted_when a =
        let q = fitting_request (at r i).port s n f read request a.new a.awaited_or_in_ready a.fits_the_last_offer in
        ap (λ x. is_accept (on_wire x.actions.transmit)) (it_comes (packet s)) ∙ accept_is_sent (answer_at r i (packet s)) (accept_where_approved u good r k i here s q (approved a))

    acceptable : AcceptedBy r i (packet s) → Acceptable ours u es i s n f
    unfolding power_rule
    acceptable (by_request t q e) =
        let parts = its_parts (at r i).port t n f read q in
        record {
          new = parts.0;
          awaited_or_in_ready = parts.1;
          fits_the_last_offer = parts.2;
          within_the_limit = le_trans (within_limit (at r i) (others r i) r.supply worth e) (le_of_eq (k.limit i here));
          within_the_supply = le_trans (le_of_eq same_sum) (le_trans (within_supply (at r i) (others r i) r.supply worth e) (le_of_eq k.supply));
        }

    accepted_only_when : is_accept (on_wire (step r (suc i) (packet s)).actions.transmit) ≡ true → Acceptable ours u es i s n f
    accepted_only_when w =
        acceptable (sent_only_so u good r k i here s n f read request (sym (ap (λ x. is_accept (on_wire x.actions.transmit)) (it_comes (packet s))) ∙ w))

  accepts : AcceptsExactly ours u es i
  accepts = record { accepted_when = accepted_when; accepted_only_when = accepted_only_when }

  -- ---- repeats, and what was dropped
  repeats : RepeatsChangeNothing ours u es i
  repeats =
      record {
        changes_nothing = λ s n f listening read repeated new. ap (λ a. a.rack) (it_comes (packet s)) ∙ Repeat.repeat_changes_no_port r i s n f listening read repeated new;
        gets_its_good_crc = λ s n f listening read repeated new. ap (λ a. a.actions) (it_comes (packet s)) ∙ Repeat.repeat_gets_good_crc r i s n f listening read repeated new;
      }

  -- an event seen from the port is the port's answer
  abbrev from : RackAnswer → Answer
  from a = record { verdict = a.verdict; port = (at a.rack i).port; actions = a.actions; held = a.held }

  seen_is : (h : Happening) → from (step r (suc i) h) ≡ answer_at r i h
  seen_is h =
      let a = answer_at r i h in
      ap from (it_comes h) ∙ ap (λ s. record { verdict = a.verdict; port = s.port; actions = a.actions; held = a.held }) (at_its_place u good r k i here a.port)

  retries : NothingDroppedIsRetried ours u es i
  retries = record { fate = λ h. subst (Fate (at r i).port) (sym (seen_is h)) (fate_in_the_rack u r k i here h) }

-- THE CLAIM
pub ours_meets_demand_2 : Demand2 ours
ours_meets_demand_2 = record { messages = read_and_written; steps = steps; accepts = accepts; repeats = repeats; retries = retries }
