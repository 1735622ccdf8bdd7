-- A program over the paper's memory, whatever it answers to each call. The three demands are said of any such program: ours is one that meets them, and wrong ones
-- are shown to miss them.
use Rattle.std.specs.Prelude.{ℕ, ◌<◌, ◌≡◌, List, Ok, Result}
use Rattle.message.specs.declared.Fields.{Fields}
use Rattle.rack.specs.declared.Rack.{Rack}
use Rattle.rack.specs.Runs.{Stepping, Happens, run_by}
use Rattle.setup.specs.declared.SetUp.{SetUp}
use Rattle.rackclaims.specs.History.{Entry, history_by}
use Rattle.reading.specs.declared.Message.{Message}
use Rattle.ground.specs.declared.Refusal.{Refusal}
use Rattle.setup.specs.SetUps.{verdict_of, rack_or_none}

pub record Program : Type 0 where
  -- reading a packet: the fields or the refusal, and the object bytes that are handed back
  pub read : List ℕ → Result Message Refusal
  pub part : List ℕ → List ℕ
  -- writing fields and object bytes into a buffer from a place on: the result, and the buffer afterwards
  pub write : Fields → List ℕ → List ℕ → ℕ → Result ℕ Refusal
  pub buffer : Fields → List ℕ → List ℕ → ℕ → List ℕ
  -- a set-up; and an event at the port of a number
  pub accepted_set_up : SetUp → Result Rack Refusal
  pub step : Stepping

-- after a set-up and some events: the rack; and the history, what came and what was answered
abbrev pub rack_now : Program → SetUp → List Happens → Rack
rack_now P u es = run_by P.step (rack_or_none (P.accepted_set_up u)) es

abbrev pub history : Program → SetUp → List Happens → List Entry
history P u es = history_by P.step (rack_or_none (P.accepted_set_up u)) es

-- "After an accepted set-up and through any events at any ports", of each port
abbrev pub AtAnyPort : Program → (SetUp → List Happens → ℕ → Type 0) → Type 0
AtAnyPort P D = (u : SetUp) → verdict_of (P.accepted_set_up u) ≡ Ok tt → (es : List Happens) (i : ℕ) → i < u.count → D u es i
