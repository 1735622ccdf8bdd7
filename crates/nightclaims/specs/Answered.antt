-- The answers of a night, one by one: what each adds to what was played, and what stepping the rack event by event answers.
use Rattle.std.specs.Prelude.{ℕ, ◌+◌, cond, List, [], ◌∷◌}
use Rattle.port.specs.declared.Actions.{Actions}
use Rattle.rack.specs.declared.Rack.{Rack}
use Rattle.rack.specs.declared.RackAnswer.{RackAnswer}
use Rattle.rack.specs.Steps.{step}
use Rattle.rack.specs.Runs.{Happens}
use Rattle.fields.specs.declared.Field.{Field}
use Rattle.tally.specs.declared.Tally.{Tally}
use Rattle.tally.specs.Counts.{told, set_up_told}
use Rattle.playing.specs.declared.Played.{Played}
use Rattle.playing.specs.Nights.{state_at, held_at, is_set_up, number_in}
use Rattle.ground.specs.Refusals.{Verdict}

-- an answer, at which port, of a rack before and after it
abbrev pub told_at : Tally → ℕ → Verdict → Actions → Rack → Rack → Tally
told_at t number v a before after = told t number v a (state_at before number) (state_at after number) (held_at after number)

-- ---- the fields' answers
abbrev pub tally_with : Played → Field → Tally
tally_with p f = cond (is_set_up f.found) (set_up_told p.tally f.verdict) (told_at p.tally (number_in f.found) f.verdict f.actions p.rack f.rack)

abbrev pub answer_told : Played → Field → Played
answer_told p f = record { rack = f.rack; tally = tally_with p f; at = p.at + f.size }

unfoldable pub answers_told : Played → List Field → Played
answers_told p [] = p
answers_told p (f ∷ fields) = answers_told (answer_told p f) fields

-- ---- stepping the rack event by event
-- an event's answer
pub record Said : Type 0 where
  pub number : ℕ
  pub verdict : Verdict
  pub actions : Actions
  pub rack : Rack

abbrev pub said_by : Field → Said
said_by f = record { number = number_in f.found; verdict = f.verdict; actions = f.actions; rack = f.rack }

abbrev pub said_in : ℕ → RackAnswer → Said
said_in number a = record { number = number; verdict = a.verdict; actions = a.actions; rack = a.rack }

unfoldable pub said_to : Rack → List Happens → List Said
said_to r [] = []
said_to r (e ∷ es) = said_in e.number (step r e.number e.happening) ∷ said_to (step r e.number e.happening).rack es

-- the tally of those answers
abbrev pub tally_of : Tally → Rack → ℕ → RackAnswer → Tally
tally_of t r number a = told_at t number a.verdict a.actions r a.rack

unfoldable pub tallied : Tally → Rack → List Happens → Tally
tallied t r [] = t
tallied t r (e ∷ es) = tallied (tally_of t r e.number (step r e.number e.happening)) (step r e.number e.happening).rack es
