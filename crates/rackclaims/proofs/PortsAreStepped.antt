-- A port of the rack is a port that events, packets, new offers and power answers lead to: so what holds of a port after any list of calls holds of every port
-- of the rack. Assumes nothing.
use Prim.Native.Nat.{ℕ, suc, ◌<◌}
use mathlib.Core.Path.{◌≡◌, refl, sym, ap, subst, ◌∙◌}
use mathlib.Core.Bool.{Bool, true, false}
use mathlib.Core.List.{List, [], ◌∷◌, ◌++◌}
use lib.Dec.{eqb}
use borrow.Author.Tests.{eqb-true, eqb-false}
use Rattle.port.specs.declared.Port.{Port}
use Rattle.port.specs.Memory.{detached_port}
use Rattle.port.specs.Calls.{Call, event, step, run}
use Rattle.slot.specs.Answers.{has_asked, answer_of, judged}
use Rattle.rack.specs.declared.Rack.{Rack}
use Rattle.rack.specs.Ports.{at, power_rule}
use Rattle.rack.specs.Steps as Rack
use Rattle.rack.specs.Runs as Runs
use Rattle.setup.specs.declared.SetUp.{SetUp}
use Rattle.setup.specs.SetUps.{setting, good_set_up, rack_of}
use Rattle.rackclaims.specs.Leads.{Leads}
use Rattle.rackclaims.proofs.Neighbours.{answers_by_itself, answers_by_the_rule}
use Rattle.rackclaims.proofs.GoodSetUps.{set_up_so}
use Rattle.rackclaims.proofs.Reached.{Reached, reached_first, step_reached, at_its_place, comes_to_it, comes_to_another}

run_more : (p : Port) (cs : List Call) (c : Call) → run p (cs ++ (c ∷ [])) ≡ (step (run p cs) c).port
run_more p [] c = refl
run_more p (d ∷ cs) c = run_more (step p d).port cs c

one_more : (p q : Port) (c : Call) → Leads p q → Leads p (step q c).port
one_more p q c k = record { calls = k.calls ++ (c ∷ []); there = run_more p k.calls c ∙ ap (λ x. (step x c).port) k.there }

module _ (p : Port) (r : Rack) (i : ℕ) (h : Rack.Happening) (k : Leads p (at r i).port) where
  own : Leads p (Rack.own_answer r i h).port
  own = one_more p (at r i).port (Rack.call_of (at r i).limit h) k

  by_asking : (b : Bool) → has_asked (at r i).port (Rack.own_answer r i h).port ≡ b → Leads p (Rack.answer_at r i h).port
  unfolding judged step
  by_asking false e = subst (λ a. Leads p a.port) (sym (answers_by_itself r i h e)) own
  by_asking true e = subst (λ a. Leads p a.port) (sym (answers_by_the_rule r i h e)) (one_more p (Rack.own_answer r i h).port (event (answer_of (power_rule r i (Rack.own_answer r i h).port.power.accepted.worth))) own)

  answer : Leads p (Rack.answer_at r i h).port
  answer = by_asking (has_asked (at r i).port (Rack.own_answer r i h).port) refl

module _ (u : SetUp) (good : good_set_up u ≡ true) (i : ℕ) (here : i < u.count) (p : Port) where
  module _ (r : Rack) (k : Reached u r) (l : Leads p (at r i).port) where
    by_test : (number : ℕ) (h : Rack.Happening) (b : Bool) → eqb number (suc i) ≡ b → Leads p (at (Rack.step r number h).rack i).port
    by_test number h false e = subst (λ s. Leads p s.port) (sym (comes_to_another u good r k i here number h (eqb-false number (suc i) e))) l
    by_test number h true e =
        subst (λ n. Leads p (at (Rack.step r n h).rack i).port) (sym (eqb-true number (suc i) e))
        (rw (comes_to_it u good r k i here h) (subst (λ s. Leads p s.port) (sym (at_its_place u good r k i here (Rack.answer_at r i h).port)) (answer p r i h l)))

  stepped : (es : List Runs.Happens) (r : Rack) → Reached u r → Leads p (at r i).port → Leads p (at (Runs.run r es) i).port
  unfolding Runs.run_by
  stepped [] r k l = l
  stepped (e ∷ es) r k l =
      stepped es (Rack.step r e.number e.happening).rack (step_reached u good r k e.number e.happening) (by_test r k l e.number e.happening (eqb e.number (suc i)) refl)

-- THE CLAIM
pub a_port_is_stepped : (u : SetUp) (good : good_set_up u ≡ true) (es : List Runs.Happens) (i : ℕ) → i < u.count → Leads (detached_port (setting u i).offer) (at (Runs.run (rack_of u) es) i).port
a_port_is_stepped u good es i h =
    stepped u good i h (detached_port (setting u i).offer) es (rack_of u) (reached_first u good)
    (subst (λ s. Leads (detached_port (setting u i).offer) s.port) (sym (set_up_so u good i h)) (record { calls = []; there = refl }))
