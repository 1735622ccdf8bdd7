-- DEMAND 2. "Messages are read and written as USB PD R3.2 lays them out, each undoing the other (the reserved revision is read, never written), and a port steps as
-- the Source rules say. An Accept answers a new Request exactly when it comes awaited or in Ready, fits the last offer put on the wire, and the power rule
-- approves. While a port listens, a readable packet that repeats the last stored MessageID, Soft_Reset and GoodCRC aside, gets its GoodCRC again and changes
-- nothing. A message once dropped isn't retried."
use Rattle.std.specs.Prelude.{ℕ, suc, max, ◌+◌, ◌-◌, ◌/◌, ◌<◌, ◌≤◌, ◌≡◌, true, false, cond, List, eqb, length, take, drop, Ok, Err}
use Rattle.ground.specs.declared.Refusal.TheVariants.{OutOfRange}
use Rattle.ground.specs.Buffers.{laid}
use Rattle.message.specs.declared.Fields.{Fields}
use Rattle.message.specs.Bytes.{AreBytes, Sound, bytes_of}
use Rattle.meaning.specs.declared.Meaning.{Meaning}
use Rattle.writing.specs.Writing.{Writable}
use Rattle.offers.specs.Requests.{fits, asked}
use Rattle.outgoing.specs.Packets.{on_wire}
use Rattle.channel.specs.Channel.{is_repeat}
use Rattle.source.specs.States.{listens}
use Rattle.port.specs.declared.Port.{Port}
use Rattle.port.specs.declared.Answer.{Answer}
use Rattle.port.specs.Memory.{state_of}
use Rattle.port.specs.Packets.{first_object, meaning_in}
use Rattle.port.specs.Calls as Port
use Rattle.portclaims.specs.Awaited.{awaits_request}
use Rattle.portclaims.specs.Messages.{Fate}
use Rattle.portclaims.specs.Repeats.{only_good_crc, aside}
use Rattle.slot.specs.Answers.{has_asked, judged}
use Rattle.rack.specs.declared.Rack.{Rack}
use Rattle.rack.specs.Ports.{at, total, power_rule}
use Rattle.rack.specs.Steps.{Happening, packet, call_of, turned}
use Rattle.rack.specs.Runs.{Happens}
use Rattle.setup.specs.declared.SetUp.{SetUp}
use Rattle.setup.specs.SetUps.{setting}
use Rattle.rackclaims.specs.Wire.{is_accept}
use Rattle.rackclaims.specs.History.{held_by}
use Rattle.demands.specs.Programs.{Program, rack_now, history, AtAnyPort}
use Rattle.reading.specs.Reading.{message_with}

-- ---- "Messages are read and written as USB PD R3.2 lays them out, each undoing the other (the reserved revision is read, never written)"
pub record ReadAndWritten (P : Program) : Type 0 where
  -- the bytes of a sound message, of whatever revision, are read as that message; and nothing else is read
  pub message_is_read : (f : Fields) (o : List ℕ) → Sound f o → (P.read (bytes_of f o) ≡ message_with (length o / 4) f) × (P.part (bytes_of f o) ≡ o)
  pub nothing_else_is_read : (s : List ℕ) → AreBytes s → (n : ℕ) (f : Fields) → P.read s ≡ message_with n f → bytes_of f (P.part s) ≡ s
  -- a sound message is written wherever there is room, unless its revision is 11b: its bytes from the place on, and no other byte; and nothing else is written
  pub message_is_written : (f : Fields) (o buf : List ℕ) (place : ℕ) → Writable f o (length buf) place →
      (P.write f o buf place ≡ Ok (length (bytes_of f o))) × (P.buffer f o buf place ≡ laid (bytes_of f o) place buf)
  pub nothing_else_is_written : (f : Fields) (o buf : List ℕ) (place k : ℕ) → P.write f o buf place ≡ Ok k → Writable f o (length buf) place
  pub reserved_is_never_written : (f : Fields) (o buf : List ℕ) (place : ℕ) → 3 ≤ f.revision → P.write f o buf place ≡ Err OutOfRange
  -- what was written, k bytes from the place on, reads back the same
  pub written_reads_back : (f : Fields) (o buf : List ℕ) (place k : ℕ) → P.write f o buf place ≡ Ok k →
      (P.read (take k (drop place (P.buffer f o buf place))) ≡ message_with (length o / 4) f) × (P.part (take k (drop place (P.buffer f o buf place))) ≡ o)
  -- what was read with a revision other than 11b writes back to the same bytes, wherever there is room
  pub read_writes_back : (s : List ℕ) → AreBytes s → (n : ℕ) (f : Fields) → P.read s ≡ message_with n f → f.revision < 3 →
      (buf : List ℕ) (place : ℕ) → place ≤ length buf → length s ≤ length buf - place →
      (P.write f (P.part s) buf place ≡ Ok (length s)) × (P.buffer f (P.part s) buf place ≡ laid s place buf)

-- ---- at a port, after a set-up and some events
module _ (P : Program) (u : SetUp) (es : List Happens) (i : ℕ) where
  abbrev r : Rack
  r = rack_now P u es

  abbrev port : Port
  port = (at r i).port

  -- what an event gives, seen from this port
  abbrev pub seen : Happening → Answer
  seen h =
      let a = P.step r (suc i) h in
      record { verdict = a.verdict; port = (at a.rack i).port; actions = a.actions; held = a.held }

  -- what the port does by itself, an offer judged by its limit
  abbrev own : Happening → Answer
  own h = Port.step port (call_of (setting u i).limit h)

  -- "a port steps as the Source rules say", at every event
  pub record StepsByTheRules : Type 0 where
    -- where it has not come to ask the power rule, the answer is what it does by itself
    pub by_itself : (h : Happening) → has_asked port (own h).port ≡ false → P.step r (suc i) h ≡ turned r i (own h)
    -- where it has, "the answer comes within the same event"
    pub with_the_power_answer : (h : Happening) → has_asked port (own h).port ≡ true → P.step r (suc i) h ≡ turned r i (judged (power_rule r i (own h).port.power.accepted.worth) (own h))
    -- no other port steps
    pub no_other_port : (h : Happening) (k : ℕ) → (k ≡ i → ⊥) → at (P.step r (suc i) h).rack k ≡ at r k

  -- what a Request asks of the last offer, and what a port takes: "max(share, held)", held by the history
  abbrev worth : List ℕ → ℕ
  worth s = (asked (first_object (P.part s)) port.last).worth

  abbrev load : ℕ → ℕ
  load k = max (setting u k).share (held_by (suc k) (history P u es))

  -- a Request that is new, comes awaited or in Ready, fits the last offer put on the wire, and that the power rule approves: "asked <= limit and the sum over the
  -- other ports of max(share, held) plus max(share, held, asked) of this port is at most the supply"
  pub record Acceptable (s : List ℕ) (n : ℕ) (f : Fields) : Type 0 where
    pub new : is_repeat port.channel f.message_id ≡ false
    pub awaited_or_in_ready : awaits_request (state_of port) ≡ true
    pub fits_the_last_offer : fits n (first_object (P.part s)) port.last ≡ true
    pub within_the_limit : worth s ≤ (setting u i).limit
    pub within_the_supply : total (λ k. cond (eqb k i) 0 (load k)) u.count + max (load i) (worth s) ≤ u.supply

  abbrev answered_with_accept : List ℕ → Type 0
  answered_with_accept s = is_accept (on_wire (P.step r (suc i) (packet s)).actions.transmit) ≡ true

  -- "An Accept answers a new Request exactly when ..": told from the bytes on the wire
  pub record AcceptsExactly : Type 0 where
    pub accepted_when : (s : List ℕ) (n : ℕ) (f : Fields) → P.read s ≡ message_with n f → meaning_in n f ≡ Meaning.Request → Acceptable s n f → answered_with_accept s
    pub accepted_only_when : (s : List ℕ) (n : ℕ) (f : Fields) → P.read s ≡ message_with n f → meaning_in n f ≡ Meaning.Request → answered_with_accept s → Acceptable s n f

  -- "While a port listens, a readable packet that repeats the last stored MessageID, Soft_Reset and GoodCRC aside, gets its GoodCRC again and changes nothing."
  pub record RepeatsChangeNothing : Type 0 where
    pub changes_nothing : (s : List ℕ) (n : ℕ) (f : Fields) → listens (state_of port) ≡ true → P.read s ≡ message_with n f → is_repeat port.channel f.message_id ≡ true →
        aside (meaning_in n f) ≡ false → (P.step r (suc i) (packet s)).rack ≡ r
    pub gets_its_good_crc : (s : List ℕ) (n : ℕ) (f : Fields) → listens (state_of port) ≡ true → P.read s ≡ message_with n f → is_repeat port.channel f.message_id ≡ true →
        aside (meaning_in n f) ≡ false → (P.step r (suc i) (packet s)).actions ≡ (only_good_crc f port).actions

  -- "A message once dropped isn't retried."
  pub record NothingDroppedIsRetried : Type 0 where
    -- what is pending stays so, just as it is, and nothing goes out; or it goes out again, after fewer than two retries; or a message is made in that very event, and goes
    -- out; or none is left, and nothing goes out
    pub fate : (h : Happening) → Fate port (seen h)

pub record Demand2 (P : Program) : Type 0 where
  pub messages : ReadAndWritten P
  pub steps : AtAnyPort P (StepsByTheRules P)
  pub accepts : AtAnyPort P (AcceptsExactly P)
  pub repeats : AtAnyPort P (RepeatsChangeNothing P)
  pub retries : AtAnyPort P (NothingDroppedIsRetried P)
