-- An event at one port leaves every other port as it was, and acts on none of them: the actions are those of the port that it came to. What passes between
-- ports is the power answer alone, and the others enter it through their loads alone. For any rack, any two ports. Assumes nothing.
use Prim.Native.Nat.{ℕ, ◌<◌}
use mathlib.Core.Path.{◌≡◌, refl, ap, ◌∙◌}
use mathlib.Core.Bool.{Bool, true, false, cond, ◌&&◌}
use lib.Dec.{leb, eqb}
use lib.Seq.{get_or-set_other, set-get_or}
use borrow.Author.Tests.{eqb-false}
use Rattle.port.specs.declared.Port.{Port}
use Rattle.slot.specs.Load.{load_of}
use Rattle.slot.specs.Answers.{has_asked, judged, settled}
use Rattle.rack.specs.declared.Rack.{Rack}
use Rattle.rack.specs.declared.RackAnswer.{RackAnswer}
use Rattle.rack.specs.Ports.{nobody, at, ports_in, in_rack, place_of, others, power_rule, put}
use Rattle.rack.specs.Steps.{Happening, own_answer, answer_at, turned, if_in_rack, step}
use Rattle.rack.proofs.Totals.{total_same}

-- the rack with its own port put in again
pub put_same : (r : Rack) (i : ℕ) → put r i (at r i).port ≡ r
put_same r i = ap (λ l. record { slots = l; count = r.count; supply = r.supply }) (set-get_or r.slots i nobody)

pub put_other : (r : Rack) (i k : ℕ) (p : Port) → (k ≡ i → ⊥) → at (put r i p) k ≡ at r k
put_other r i k p d = get_or-set_other r.slots i k (record { port = p; share = (at r i).share; limit = (at r i).limit }) nobody d

-- ---- an event leaves the others as they were
by_number : (b : Bool) (r : Rack) (i k : ℕ) (h : Happening) → (k ≡ i → ⊥) → at (if_in_rack b r i h).rack k ≡ at r k
by_number true r i k h d = put_other r i k _ d
by_number false r i k h d = refl

-- THE CLAIM: the port at another place, with its share and its limit, is the very same
pub others_stay : (r : Rack) (number k : ℕ) (h : Happening) → (k ≡ place_of number → ⊥) → at (step r number h).rack k ≡ at r k
unfolding step
others_stay r number k h d = by_number (in_rack r number) r (place_of number) k h d

same_supply : (b : Bool) (r : Rack) (i : ℕ) (h : Happening) → (if_in_rack b r i h).rack.supply ≡ r.supply
same_supply true r i h = refl
same_supply false r i h = refl

same_count : (b : Bool) (r : Rack) (i : ℕ) (h : Happening) → (if_in_rack b r i h).rack.count ≡ r.count
same_count true r i h = refl
same_count false r i h = refl

pub supply_stays : (r : Rack) (number : ℕ) (h : Happening) → (step r number h).rack.supply ≡ r.supply
unfolding step
supply_stays r number h = same_supply (in_rack r number) r (place_of number) h

pub count_stays : (r : Rack) (number : ℕ) (h : Happening) → (step r number h).rack.count ≡ r.count
unfolding step
count_stays r number h = same_count (in_rack r number) r (place_of number) h

-- ---- what a port's answer depends on
-- THE CLAIM: where it does not ask, it answers by itself, whatever the others are
pub answers_by_itself : (r : Rack) (i : ℕ) (h : Happening) → has_asked (at r i).port (own_answer r i h).port ≡ false → answer_at r i h ≡ own_answer r i h
unfolding answer_at settled
answers_by_itself r i h e = rw e refl

-- THE CLAIM: where it asks, the power answer is all that is added
pub answers_by_the_rule : (r : Rack) (i : ℕ) (h : Happening) → has_asked (at r i).port (own_answer r i h).port ≡ true →
    answer_at r i h ≡ judged (power_rule r i (own_answer r i h).port.power.accepted.worth) (own_answer r i h)
unfolding answer_at settled power_rule
answers_by_the_rule r i h e = rw e refl

-- two answers of racks that say the same
pub record Alike (a b : RackAnswer) : Type 0 where
  pub verdict : a.verdict ≡ b.verdict
  pub actions : a.actions ≡ b.actions
  pub held : a.held ≡ b.held

-- THE CLAIM: in two racks with the same supply and the same number of ports, where the same port stands at a place, and each other port takes the same load, the
-- port gives the same answer
module _ (r q : Rack) (i : ℕ) (supply : r.supply ≡ q.supply) (ports : ports_in r ≡ ports_in q) (here : at r i ≡ at q i)
    (loads : (k : ℕ) → k < ports_in r → (k ≡ i → ⊥) → load_of (at r k) ≡ load_of (at q k)) where
  load_of_other : (k : ℕ) → k < ports_in r → cond (eqb k i) 0 (load_of (at r k)) ≡ cond (eqb k i) 0 (load_of (at q k))
  load_of_other k l = by_test (eqb k i) refl
    where
      by_test : (b : Bool) → eqb k i ≡ b → cond b 0 (load_of (at r k)) ≡ cond b 0 (load_of (at q k))
      by_test true e = refl
      by_test false e = loads k l (eqb-false k i e)

  pub others_by_their_loads : others r i ≡ others q i
  unfolding others
  others_by_their_loads = total_same (λ k. cond (eqb k i) 0 (load_of (at r k))) (λ k. cond (eqb k i) 0 (load_of (at q k))) (ports_in r) load_of_other ∙ rw ports

  pub answers_by_their_loads : (h : Happening) → answer_at r i h ≡ answer_at q i h
  unfolding answer_at
  answers_by_their_loads h = rw (here, others_by_their_loads, supply) refl

  alike : (b : Bool) (h : Happening) → Alike (if_in_rack b r i h) (if_in_rack b q i h)
  alike true h =
      let same = answers_by_their_loads h in
      record { verdict = ap (λ a. a.verdict) same; actions = ap (λ a. a.actions) same; held = ap (λ a. a.held) same }
  alike false h = record { verdict = refl; actions = refl; held = refl }

  -- THE CLAIM: and so the two racks answer alike for it
  pub racks_answer_alike : (number : ℕ) (h : Happening) → place_of number ≡ i → Alike (step r number h) (step q number h)
  unfolding step
  racks_answer_alike number h e = rw (e, ← ports) (alike (leb 1 number && leb number (ports_in r)) h)

-- ---- acts on none of the others: the actions, and what is said of held power, are those of the port that the event came to
-- THE CLAIM
pub acts_on_this_alone : (r : Rack) (number : ℕ) (h : Happening) → in_rack r number ≡ true → step r number h ≡ turned r (place_of number) (answer_at r (place_of number) h)
unfolding step
acts_on_this_alone r number h e = rw e refl
