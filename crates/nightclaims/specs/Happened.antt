-- What came to the ports, as a night's file has it: field by field, up to the first that is no event.
use Rattle.std.specs.Prelude.{ℕ, zero, suc, Bool, true, cond, not, ◌&&◌, List, [], ◌∷◌, drop}
use Rattle.rack.specs.Runs.{Happens}
use Rattle.night.specs.declared.Found.{Found}
use Rattle.night.specs.Fields.{size_of}
use Rattle.night.specs.Events.{next_of}
use Rattle.playing.specs.Nights.{is_readable, is_event, is_set_up, number_in, happening_in}

-- an event's field: what comes to the port of which number
abbrev pub happens_by : Found → List ℕ → Happens
happens_by found l = record { number = number_in found; happening = happening_in found l }

-- at most so many fields
unfoldable pub happened_in : ℕ → List ℕ → List Happens
happened_in zero l = []
happened_in (suc n) l = cond (is_event (next_of l)) (happens_by (next_of l) l ∷ happened_in n (drop (size_of l) l)) []

-- whether no set-up is among the fields that are read
unfoldable pub no_set_up_in : ℕ → List ℕ → Bool
no_set_up_in zero l = true
no_set_up_in (suc n) l = cond (is_readable (next_of l) l) (not (is_set_up (next_of l)) && no_set_up_in n (drop (size_of l) l)) true
