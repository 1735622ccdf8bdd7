-- DEMAND 1. "Every packet and every event gets an answer, whatever came before. A refusal carries its number from the table, and no port, no held power and no
-- lent byte is different afterwards."
use Rattle.std.specs.Prelude.{ℕ, ◌≡◌, true, false, List, [], length, Ok, Err}
use Rattle.ground.specs.declared.Refusal.{Refusal}
use Rattle.ground.specs.declared.Refusal.TheVariants.{BadSetUp}
use Rattle.message.specs.declared.Fields.{Fields}
use Rattle.reading.specs.Reading.{reading_tried}
use Rattle.writing.specs.Writing.{writing_tried}
use Rattle.power.specs.declared.Change.{Change}
use Rattle.port.specs.Memory.{no_actions}
use Rattle.rack.specs.declared.Rack.{Rack}
use Rattle.rack.specs.Steps.{Happening}
use Rattle.setup.specs.declared.SetUp.{SetUp}
use Rattle.setup.specs.SetUps.{good_set_up, rack_of, no_rack, verdict_of, rack_or_none}
use Rattle.rackclaims.specs.Verdicts.{verdict_in}
use Rattle.demands.specs.Programs.{Program}

pub record Demand1 (P : Program) : Type 0 where
  -- every event gets an answer, whatever came before, so in any rack: the table's number where the table gives one ("9, then 1 to 4 or 7, then 8"), else it is fine
  pub every_event_is_answered : (r : Rack) (number : ℕ) (h : Happening) → (P.step r number h).verdict ≡ verdict_in r number h
  -- and so does every packet that is read, and every message that is to be written: reading tries 1, 2, 3, 4, 3, writing 6, 4, 5
  pub every_packet_is_answered : (s : List ℕ) (no' : Refusal) → reading_tried s ≡ Err no' → (P.read s ≡ Err no') × (P.part s ≡ [])
  pub every_message_is_answered : (f : Fields) (o buf : List ℕ) (place : ℕ) (no' : Refusal) → writing_tried f o (length buf) place ≡ Err no' → P.write f o buf place ≡ Err no'
  -- refused, no port and no held power is different afterwards, and nothing is done
  pub no_port_is_different : (r : Rack) (number : ℕ) (h : Happening) (no' : Refusal) → (P.step r number h).verdict ≡ Err no' → (P.step r number h).rack ≡ r
  pub nothing_is_done : (r : Rack) (number : ℕ) (h : Happening) (no' : Refusal) → (P.step r number h).verdict ≡ Err no' →
      ((P.step r number h).actions ≡ no_actions) × ((P.step r number h).held ≡ Change.Nothing)
  -- nor is any lent byte; events and reading are lent nothing that they could change
  pub no_lent_byte_is_different : (f : Fields) (o buf : List ℕ) (place : ℕ) (no' : Refusal) → P.write f o buf place ≡ Err no' → P.buffer f o buf place ≡ buf
  -- a set-up: good, it is set up; bad, it is 10, and nothing is set up
  pub good_is_set_up : (u : SetUp) → good_set_up u ≡ true → (verdict_of (P.accepted_set_up u) ≡ Ok tt) × (rack_or_none (P.accepted_set_up u) ≡ rack_of u)
  pub bad_is_ten : (u : SetUp) → good_set_up u ≡ false → (verdict_of (P.accepted_set_up u) ≡ Err BadSetUp) × (rack_or_none (P.accepted_set_up u) ≡ no_rack)
