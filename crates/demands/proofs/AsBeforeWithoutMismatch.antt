-- Where no Request sets capability mismatch, everything is as before request 01: in any rack each such event gets the answer of the program that compares both
-- currents of every Request; and through any list of them the rack and the history are the same. Assumes nothing.
use mathlib.Core.Path.{◌≡◌}
use mathlib.Core.List.{List, [], ◌∷◌}
use Rattle.rack.specs.declared.Rack.{Rack}
use Rattle.rack.specs.Runs.{Happens}
use Rattle.setup.specs.declared.SetUp.{SetUp}
use Rattle.demands.specs.Programs.{rack_now, history}
use Rattle.demands.specs.Ours.{ours}
use Rattle.demands.specs.Fitting.{NoneSetsIt}
use Rattle.demands.specs.WrongPrograms.{hears_no_mismatch}
use Rattle.demands.proofs.AnswerAlike.{Alike, lead_alike}
pub use Rattle.demands.proofs.AnswersWithoutMismatch.{answers_as_before}
use Rattle.setup.specs.SetUps.{rack_or_none}

-- ---- and through any list of events
alike : (r : Rack) (es : List Happens) → NoneSetsIt es → Alike hears_no_mismatch.step ours.step r es
alike r [] none = tt
alike r (e ∷ es) none = (answers_as_before r e.number e.happening none.0, alike (ours.step r e.number e.happening).rack es none.1)

-- THE CLAIM: after any set-up
pub nights_as_before : (u : SetUp) (es : List Happens) → NoneSetsIt es →
    (rack_now hears_no_mismatch u es ≡ rack_now ours u es) × (history hears_no_mismatch u es ≡ history ours u es)
nights_as_before u es none = lead_alike hears_no_mismatch.step ours.step (rack_or_none (ours.accepted_set_up u)) es (alike (rack_or_none (ours.accepted_set_up u)) es none)
