-- The supply holds through the night. First as a night is meant: a set-up that is accepted, and then events. Then for any bytes at all, with any set-ups among
-- them, damaged or cut: the rack that they come to keeps its own supply, shares and limits. Assumes nothing.
use Prim.Native.Nat.{ℕ, zero, suc, max, ◌<◌, ◌≤◌}
use native.Mathlib.Nat.{le_trans, le_of_eq}
use native.Mathlib.Omega.{arith}
use mathlib.Core.Path.{◌≡◌, refl, sym, ap, subst, ◌∙◌}
use mathlib.Core.Bool.{Bool, true, false, cond}
use mathlib.Core.List.{List, ◌++◌}
use lib.ListN.{length, drop}
use Rattle.rack.specs.declared.Rack.{Rack}
use Rattle.rack.specs.Ports.{at, ports_in, in_rack, place_of, total, loads}
use Rattle.rack.specs.Steps.{Happening, if_in_rack, step}
use Rattle.rack.specs.Runs.{Happens, run}
use Rattle.rack.proofs.Totals.{total_same, total_larger}
use Rattle.rack.proofs.Loads.{place_in}
use Rattle.setup.specs.declared.SetUp.{SetUp}
use Rattle.setup.specs.SetUps.{setting, good_set_up, judged, accepted_set_up, verdict_of, rack_or_none}
use Rattle.rackclaims.specs.History.{history, held_by}
use Rattle.rackclaims.proofs.Reached.{Reached, reached_first, step_reached, ports_are}
use Rattle.rackclaims.proofs.SupplyHolds as Supply
use Rattle.night.specs.declared.Found.{Found}
use Rattle.night.specs.Fields.{size_of}
use Rattle.night.specs.Events.{next_of}
use Rattle.night.specs.SetUps.{set_up_in, set_up_or_none}
use Rattle.night.specs.Layout.{PortGroup, rack_bytes, set_up_for, Fit}
use Rattle.playing.specs.declared.Played.{Played}
use Rattle.playing.specs.Nights.{answered, event_done, rack_after, set_up_done, field_done, is_readable, night_in}
use Rattle.nightclaims.specs.Pieces.{played}
use Rattle.nightclaims.specs.Happened.{happened_in, no_set_up_in}
use Rattle.nightclaims.specs.InSupply.{held_in, InSupply}
use Rattle.nightclaims.proofs.EventByEvent.{event_by_event}
use Rattle.nightclaims.proofs.SetUpComesFirst.{set_up_played, set_up_comes_first, its_rack}
use Rattle.std.specs.Prelude.{Ok}

-- ---- an accepted set-up u, and then events: whatever bytes, as long as no set-up is read
module _ (u : SetUp)
    (accepted : verdict_of (accepted_set_up u) ≡ Ok tt)
    (p : Played)
    (is_set_up_lem : p.rack ≡ rack_or_none (accepted_set_up u))
    (l : List ℕ)
    (events : no_set_up_in (length l) l ≡ true) where
  abbrev es : List Happens
  es = happened_in (length l) l

  rack_is : (played p l).rack ≡ run (rack_or_none (accepted_set_up u)) es
  rack_is = event_by_event (length l) p l events ∙ ap (λ (r : Rack). run r es) is_set_up_lem

  abbrev held_after : ℕ → ℕ
  held_after = held_in (played p l).rack

  by_history : (i : ℕ) → i < u.count → held_after i ≡ held_by (suc i) (history (rack_or_none (accepted_set_up u)) es)
  by_history i h = ap (λ (r : Rack). held_in r i) rack_is ∙ Supply.program_keeps_the_history u accepted es i h

  -- THE CLAIM: no port holds more than its limit
  pub limit_holds : (i : ℕ) → i < u.count → held_after i ≤ (setting u i).limit
  limit_holds i h = le_trans (le_of_eq (by_history i h)) (Supply.limit_holds u accepted es i h)

  -- THE CLAIM: what a port has not taken of its share stays free for it
  pub shares_stay_free : total (λ i. max (setting u i).share (held_after i)) u.count ≤ u.supply
  shares_stay_free =
      le_trans
      (le_of_eq (total_same (λ i. max (setting u i).share (held_after i)) _ u.count (λ i h. ap (max (setting u i).share) (by_history i h))))
      (Supply.shares_stay_free u accepted es)

  -- THE CLAIM: the power held by all ports is at most the supply
  pub supply_holds : total held_after u.count ≤ u.supply
  supply_holds = le_trans (total_larger held_after (λ i. max (setting u i).share (held_after i)) u.count (λ i h. omega arith)) shares_stay_free

-- ---- the same of a file: the bytes of a set-up as docs/NIGHT.md lays them out, and then events; whatever was played before
module _ (ports : List PortGroup) (supply : ℕ)
    (fit : Fit ports supply)
    (accepted : verdict_of (accepted_set_up (set_up_for ports supply)) ≡ Ok tt)
    (p : Played)
    (l : List ℕ)
    (events : no_set_up_in (length l) l ≡ true) where
  abbrev laid : SetUp
  laid = set_up_for ports supply

  abbrev then' : Played
  then' = set_up_played ports supply p

  there : then'.rack ≡ rack_or_none (accepted_set_up laid)
  there = its_rack ports supply p accepted

  -- the rack that the file comes to
  abbrev rack : Rack
  rack = (played p (rack_bytes ports supply ++ l)).rack

  of_the_file : (P : Rack → Type 0) → P (played then' l).rack → P rack
  of_the_file P = subst (λ (q : Played). P q.rack) (sym (set_up_comes_first ports supply fit p l))

  -- THE CLAIM: the power held by all ports is at most the supply
  pub file_supply_holds : total (held_in rack) (length ports) ≤ supply
  file_supply_holds = of_the_file (λ r. total (held_in r) (length ports) ≤ supply) (supply_holds laid accepted then' there l events)

  -- THE CLAIM: no port holds more than its limit
  pub file_limit_holds : (i : ℕ) → i < length ports → held_in rack i ≤ (setting laid i).limit
  file_limit_holds i h = of_the_file (λ r. held_in r i ≤ (setting laid i).limit) (limit_holds laid accepted then' there l events i h)

  -- THE CLAIM: what a port has not taken of its share stays free for it
  pub file_shares_stay_free : total (λ i. max (setting laid i).share (held_in rack i)) (length ports) ≤ supply
  file_shares_stay_free =
      of_the_file (λ r. total (λ i. max (setting laid i).share (held_in r i)) (length ports) ≤ supply) (shares_stay_free laid accepted then' there l events)

-- ---- any bytes at all
-- a rack of a night: there is none yet, or a good set-up and events led to it
pub data Stands (r : Rack) : Type 0 where
  none_yet : r.count ≡ 0 → Stands r
  led_to_lem : (u : SetUp) → good_set_up u ≡ true → Reached u r → Stands r

by_number : (r : Rack) → r.count ≡ 0 → (number : ℕ) (h : Happening) (b : Bool) → in_rack r number ≡ b → Stands (if_in_rack b r (place_of number) h).rack
by_number r e number h true k = absurd (omega (arith, e, place_in r number k))
by_number r e number h false k = none_yet e

event_stands : (r : Rack) (number : ℕ) (h : Happening) → Stands r → Stands (step r number h).rack
event_stands r number h (none_yet e) = unfold step in by_number r e number h (in_rack r number) refl
event_stands r number h (led_to_lem u good k) = led_to_lem u good (step_reached u good r k number h)

by_goodness : (r : Rack) (u : SetUp) (b : Bool) → good_set_up u ≡ b → Stands r → Stands (rack_after (verdict_of (judged b u)) (rack_or_none (judged b u)) r)
by_goodness r u true e k = led_to_lem u e (reached_first u e)
by_goodness r u false e k = k

field_stands : (found : Found) (p : Played) (l : List ℕ) → Stands p.rack → Stands (field_done found p l).rack
unfolding event_done answered set_up_done accepted_set_up
field_stands Found.Cut p l k = k
field_stands Found.UnknownTag p l k = k
field_stands Found.WrongLength p l k = k
field_stands Found.SetUp p l k = by_goodness p.rack (set_up_or_none (set_up_in l)) (good_set_up (set_up_or_none (set_up_in l))) refl k
field_stands (Found.Event number e) p l k = event_stands p.rack number _ k
field_stands (Found.Packet number) p l k = event_stands p.rack number _ k
field_stands (Found.NewOffer number) p l k = event_stands p.rack number _ k

if_stands : (c : Bool) (p q : Played) → Stands q.rack → Stands p.rack → Stands (cond c q p).rack
if_stands true p q k l = k
if_stands false p q k l = l

night_stands : (n : ℕ) (p : Played) (l : List ℕ) → Stands p.rack → Stands (night_in n p l).rack
unfolding night_in
night_stands zero p l k = k
night_stands (suc n) p l k =
    if_stands (is_readable (next_of l) l) p _ (night_stands n (field_done (next_of l) p l) (drop (size_of l) l) (field_stands (next_of l) p l k)) k

pub holds_in : (r : Rack) → Stands r → InSupply r
unfolding loads
holds_in r (none_yet e) =
    let none : ports_in r ≡ 0 = omega (arith, e) in
    record { held = rw none (omega arith); limits = λ i h. absurd (omega (arith, h, none)); shares = rw none (omega arith) }
holds_in r (led_to_lem u good k) =
    record {
      held = le_trans (total_larger (λ i. held_in r i) (λ i. max (at r i).share (held_in r i)) (ports_in r) (λ i h. omega arith)) k.fits;
      limits = λ i h. k.within i (subst (λ (n : ℕ). i < n) (ports_are u good r k) h);
      shares = k.fits;
    }

-- THE CLAIM: whatever bytes a file has, from where there is no rack yet
pub supply_holds_through_the_night : (p : Played) (l : List ℕ) → p.rack.count ≡ 0 → InSupply (played p l).rack
supply_holds_through_the_night p l e = holds_in (played p l).rack (night_stands (length l) p l (none_yet e))
