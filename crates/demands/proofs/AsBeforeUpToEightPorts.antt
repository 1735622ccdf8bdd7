-- Up to 8 ports and 1,600,000 units everything is as before request 08: each such set-up gets the verdict and the rack of the program with those limits, each event in a
-- rack of at most 8 ports its answer; and through any list of events the rack and the history are the same. Assumes nothing.
use Prim.Native.Nat.{ℕ, ◌≤◌}
use native.Mathlib.Omega.{arith}
use mathlib.Core.Path.{◌≡◌, refl, sym, ap, subst, ◌∙◌}
use mathlib.Core.Bool.{Bool, true, false, cond, ◌&&◌}
use mathlib.Core.List.{List, [], ◌∷◌}
use lib.Dec.{leb}
use borrow.Author.Tests.{leb-true}
use Rattle.ground.specs.declared.Refusal.TheVariants.{NotInRack}
use Rattle.rack.specs.declared.Rack.{Rack}
use Rattle.rack.specs.Ports.{in_rack, place_of, others}
use Rattle.rack.specs.Steps.{Happening, answer_at, if_in_rack, refused_by, step}
use Rattle.rack.specs.Runs.{Happens, run_by}
use Rattle.setup.specs.declared.SetUp.{SetUp}
use Rattle.setup.specs.SetUps.{good_set_up, judged, accepted_set_up, rack_or_none}
use Rattle.rackclaims.specs.NightDesk as Desk
use Rattle.rackclaims.specs.History.{history_by}
use Rattle.rackclaims.proofs.Neighbours.{count_stays}
use Rattle.demands.specs.Programs.{rack_now, history}
use Rattle.demands.specs.Ours.{ours}
use Rattle.demands.specs.Limits.{answer_up_to}
use Rattle.demands.specs.WrongPrograms.{stays_at_eight_ports}
use Rattle.demands.proofs.AnswerAlike.{Alike, lead_alike}
use Rattle.demands.proofs.SmallRacks.{same_judgement, same_ports}

-- ---- a set-up
-- THE CLAIM: of any set-up of at most 8 ports and 1,600,000 units
pub set_up_as_before : (u : SetUp) → u.count ≤ 8 → u.supply ≤ 1600000 → stays_at_eight_ports.accepted_set_up u ≡ ours.accepted_set_up u
unfolding accepted_set_up
set_up_as_before u few small = ap (λ (good : Bool). judged good u) (same_judgement u few small)

-- ---- an event
in_its_place : (here : Bool) (r : Rack) (i : ℕ) (h : Happening) → r.count ≤ 8 → cond here (answer_up_to 8 r i h) (refused_by NotInRack r) ≡ if_in_rack here r i h
unfolding answer_at others
in_its_place true r i h few = rw (same_ports r few) refl
in_its_place false r i h few = refl

-- THE CLAIM: of any rack of at most 8 ports
pub answers_as_before : (r : Rack) (number : ℕ) (h : Happening) → r.count ≤ 8 → stays_at_eight_ports.step r number h ≡ ours.step r number h
unfolding step
answers_as_before r number h few =
    ap (λ (n : ℕ). cond (leb 1 number && leb number n) (answer_up_to 8 r (place_of number) h) (refused_by NotInRack r)) (same_ports r few)
    ∙ in_its_place (in_rack r number) r (place_of number) h few

-- ---- and through any list of events
alike : (r : Rack) (es : List Happens) → r.count ≤ 8 → Alike stays_at_eight_ports.step ours.step r es
alike r [] few = tt
alike r (e ∷ es) few =
    (answers_as_before r e.number e.happening few, alike (ours.step r e.number e.happening).rack es (subst (λ (n : ℕ). n ≤ 8) (sym (count_stays r e.number e.happening)) few))

started_with : (good : Bool) (u : SetUp) → u.count ≤ 8 → (rack_or_none (judged good u)).count ≤ 8
started_with true u few = few
started_with false u few = omega arith

-- THE CLAIM: after any set-up of at most 8 ports and 1,600,000 units
pub nights_as_before : (u : SetUp) (es : List Happens) → u.count ≤ 8 → u.supply ≤ 1600000 →
    (rack_now stays_at_eight_ports u es ≡ rack_now ours u es) × (history stays_at_eight_ports u es ≡ history ours u es)
unfolding accepted_set_up
nights_as_before u es few small =
    let same = ap rack_or_none (set_up_as_before u few small) in
    let rest = lead_alike stays_at_eight_ports.step ours.step (rack_or_none (ours.accepted_set_up u)) es (alike (rack_or_none (ours.accepted_set_up u)) es (started_with (good_set_up u) u few)) in (
      ap (λ (r : Rack). run_by stays_at_eight_ports.step r es) same ∙ rest.0,
      ap (λ (r : Rack). history_by stays_at_eight_ports.step r es) same ∙ rest.1,
    )

-- the night desk is such a rack
pub a_rack_of_four : ((Desk.night_desk).count ≤ 8) × ((Desk.night_desk).supply ≤ 1600000)
a_rack_of_four = (leb-true 4 8 refl, leb-true 240000 1600000 refl)
