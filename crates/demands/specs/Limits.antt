-- Programs with other limits than ours, and in all else ours: so the rack of before request 08, of at most 8 ports and 1,600,000 units, can be set beside it.
use Rattle.std.specs.Prelude.{ℕ, min, Bool, cond, ◌&&◌, leb, eqb, Result}
use Rattle.ground.specs.declared.Refusal.TheVariants.{NotInRack}
use Rattle.slot.specs.Load.{load_of}
use Rattle.slot.specs.Answers.{settled}
use Rattle.rack.specs.declared.Rack.{Rack}
use Rattle.rack.specs.declared.RackAnswer.{RackAnswer}
use Rattle.rack.specs.Ports.{at, place_of, total}
use Rattle.rack.specs.Steps.{Happening, own_answer, turned, refused_by}
use Rattle.rack.specs.Runs.{Stepping}
use Rattle.setup.specs.declared.SetUp.{SetUp}
use Rattle.setup.specs.SetUps.{least, setting, good_setting, everywhere, shares, judged}
use Rattle.ground.specs.declared.Refusal.{Refusal}

-- ---- a rack of at most so many ports
abbrev pub ports_up_to : ℕ → Rack → ℕ
ports_up_to most r = min r.count most

abbrev pub in_rack_up_to : ℕ → Rack → ℕ → Bool
in_rack_up_to most r number = leb 1 number && leb number (ports_up_to most r)

abbrev pub others_up_to : ℕ → Rack → ℕ → ℕ
others_up_to most r i = total (λ k. cond (eqb k i) 0 (load_of (at r k))) (ports_up_to most r)

abbrev pub answer_up_to : ℕ → Rack → ℕ → Happening → RackAnswer
answer_up_to most r i h = turned r i (settled (at r i) (others_up_to most r i) r.supply (own_answer r i h))

abbrev pub stepped_up_to : ℕ → Stepping
stepped_up_to most r number h = cond (in_rack_up_to most r number) (answer_up_to most r (place_of number) h) (refused_by NotInRack r)

-- ---- and of at most so large a supply
abbrev pub good_up_to : ℕ → ℕ → SetUp → Bool
good_up_to most largest u =
    (leb 1 u.count && leb u.count most)
    && (everywhere (λ k. good_setting (setting u k)) u.count && ((leb least u.supply && leb u.supply largest) && leb (shares u u.count) u.supply))

abbrev pub set_up_up_to : ℕ → ℕ → SetUp → Result Rack Refusal
set_up_up_to most largest u = judged (good_up_to most largest u) u
