-- Req 08: "The new shelf has 32 ports and a supply up to 6,400,000 units." The largest rack, with seven objects at each port and every share and limit 200,000: it is set up,
-- its last port answers, and no port past it is there; with a port or a unit more, or a unit less than the shares, nothing is set up. The checker computes each case. Assumes nothing.
use Prim.Native.Nat.{ℕ, max}
use mathlib.Core.Path.{◌≡◌, refl}
use mathlib.Core.List.{[], ◌∷◌}
use lib.ListN.{replicate}
use Rattle.ground.specs.declared.Refusal.TheVariants.{NotInRack, BadSetUp}
use Rattle.offers.specs.declared.Offer.{Offer}
use Rattle.offers.specs.Offers.{object_at, good_object, good_from, good_offer}
use Rattle.outgoing.specs.Packets.{data_of}
use Rattle.power.specs.Power.{standing_of}
use Rattle.stimuli.specs.Leads.{leads}
use Rattle.source.specs.Changes.{change_of}
use Rattle.port.specs.declared.Event.{Event}
use Rattle.port.specs.Entering.{enter}
use Rattle.port.specs.Steps.{turn, happens, event_of}
use Rattle.port.specs.Calls as Port
use Rattle.slot.specs.Answers.{settled}
use Rattle.rack.specs.Steps.{event, answer_at, step}
use Rattle.setup.specs.declared.SetUp.{SetUp}
use Rattle.setup.specs.SetUps.{good_setting, good_set_up, accepted_set_up, verdict_of, rack_or_none}
use Rattle.demands.specs.Ours.{ours}
use Rattle.ground.specs.Refusals.{Verdict}
use Rattle.std.specs.Prelude.{Ok, Err}

-- 5 V, 9 V, 10 V, 12 V, 15 V, 18 V and 20 V, each with 5 A
abbrev seven_objects : Offer
seven_objects = record { objects = 0x000191F4 ∷ 0x0002D1F4 ∷ 0x000321F4 ∷ 0x0003C1F4 ∷ 0x0004B1F4 ∷ 0x0005A1F4 ∷ 0x000641F4 ∷ []; count = 7 }

-- so many ports, all alike, in the 32 places of a set-up; of more, each in a place of its own
abbrev pub alike : ℕ → ℕ → ℕ → SetUp
alike ports share supply = record { settings = replicate (max 32 ports) (record { share = share; limit = 200000; offer = seven_objects }); count = ports; supply = supply }

abbrev pub largest : SetUp
largest = alike 32 200000 6400000

-- what is answered to an attach at the port of a number
abbrev attach : ℕ → Verdict
attach number = (ours.step (rack_or_none (ours.accepted_set_up largest)) number (event Event.Attach)).verdict

pub record Cases : Type 0 where
  pub set_up_lem : verdict_of (ours.accepted_set_up largest) ≡ Ok tt
  pub last_port : attach 32 ≡ Ok tt
  pub past_the_last : (attach 33 ≡ Err NotInRack) × (attach 255 ≡ Err NotInRack)
  pub port_more : (verdict_of (ours.accepted_set_up (alike 33 30000 6400000)) ≡ Err BadSetUp) × (verdict_of (ours.accepted_set_up (alike 255 30000 6400000)) ≡ Err BadSetUp)
  pub unit_more : verdict_of (ours.accepted_set_up (alike 32 30000 6400001)) ≡ Err BadSetUp
  pub unit_less : verdict_of (ours.accepted_set_up (alike 32 200000 6399999)) ≡ Err BadSetUp

pub cases : Cases
unfolding object_at good_object good_from good_offer data_of standing_of leads change_of enter turn happens event_of Port.step settled answer_at step good_setting good_set_up accepted_set_up
cases = record { set_up_lem = refl; last_port = refl; past_the_last = (refl, refl); port_more = (refl, refl); unit_more = refl; unit_less = refl }
