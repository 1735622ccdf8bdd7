-- What holds of every rack that an accepted set-up and any list of events lead to: its ports are steady, none holds more than its limit, and all together take
-- no more than the supply. Assumes nothing.
use Prim.Native.Nat.{ℕ, suc, max, ◌+◌, ◌<◌, ◌≤◌}
use native.Mathlib.Nat.{le_trans, le_of_eq}
use native.Mathlib.Omega.{arith}
use mathlib.Core.Path.{◌≡◌, refl, sym, ap, subst, ◌∙◌}
use mathlib.Core.Bool.{Bool, true, false}
use mathlib.Core.List.{List, [], ◌∷◌}
use lib.Dec.{leb, eqb}
use lib.ListN.{length, length-set, length-map}
use lib.Seq.{get_or-set_same}
use borrow.Author.Tests.{leb-true, le-leb, eqb-true, eqb-false}
use Rattle.port.specs.declared.Answer.{Answer}
use Rattle.port.specs.declared.Port.{Port}
use Rattle.port.specs.Calls.{Call, packet}
use Rattle.portclaims.proofs.Truth.{first, second}
use Rattle.portclaims.proofs.AcceptExactly.{comes_to_ask, asks_quietly}
use Rattle.slot.specs.declared.Slot.{Slot}
use Rattle.slot.specs.Load.{load_of, approves}
use Rattle.slot.specs.Answers.{judged, settled}
use Rattle.port.specs.Calls as Port
use Rattle.rack.specs.declared.Rack.{Rack}
use Rattle.rack.specs.Ports.{nobody, at, ports_in, in_rack, place_of, total, loads, others, put}
use Rattle.rack.specs.Steps.{Happening, call_of, answer_at, turned, if_in_rack, step}
use Rattle.rack.specs.Runs.{Happens, run_by, run}
use Rattle.rack.proofs.Totals.{total_change}
use Rattle.rack.proofs.Loads.{others_and_this, from_one, place_in}
use Rattle.setup.specs.declared.SetUp.{SetUp}
use Rattle.setup.specs.SetUps.{setting, good_set_up, rack_of}
use Rattle.rackclaims.proofs.OwnSteps.{at_yes_lem, at_no}
use Rattle.rackclaims.proofs.Settling.{asks, asked_is, Settles, by_itself, granted, denied, settles, Steady, steady_first, own_holds_less, stays_steady}
use Rattle.rackclaims.proofs.Neighbours.{put_other}
use Rattle.rackclaims.proofs.GoodSetUps.{few, shares_fit, is_there, set_up_so, first_loads}

pub record Reached (u : SetUp) (r : Rack) : Type 0 where
  pub count : r.count ≡ u.count
  pub supply : r.supply ≡ u.supply
  pub there : (i : ℕ) → i < u.count → i < length r.slots
  pub share : (i : ℕ) → i < u.count → (at r i).share ≡ (setting u i).share
  pub limit : (i : ℕ) → i < u.count → (at r i).limit ≡ (setting u i).limit
  pub steady : (i : ℕ) → i < u.count → Steady (at r i).port
  pub within : (i : ℕ) → i < u.count → (at r i).port.power.held ≤ (at r i).limit
  pub fits : loads r ≤ r.supply

-- ---- one port: what it holds after an event, in the rack
-- where the power rule approves, the worth is within the limit and all of it within the supply
module _ (s : Slot) (others supply : ℕ) where
  pub within_limit : (w : ℕ) → approves s others supply w ≡ true → w ≤ s.limit
  unfolding approves
  within_limit w e = leb-true w s.limit (first (leb w s.limit) _ e)

  pub within_supply : (w : ℕ) → approves s others supply w ≡ true → others + max (load_of s) w ≤ supply
  unfolding approves
  within_supply w e = leb-true _ _ (second (leb w s.limit) _ e)

  pub within_both : (w : ℕ) → w ≤ s.limit → others + max (load_of s) w ≤ supply → approves s others supply w ≡ true
  unfolding approves
  within_both w h l = rw (le-leb w s.limit h, le-leb (others + max (load_of s) w) supply l) refl

module _ (s : Slot) (others supply : ℕ) (k : Steady s.port) where
  -- what it holds is no more than before, or what the rule approved
  pub data Holds : ℕ → Type 0 where
    no_more : (held : ℕ) → held ≤ s.port.power.held → Holds held
    approved : (w : ℕ) → approves s others supply w ≡ true → Holds (max s.port.power.held w)

  same_power : (c : Call) → (n : ℕ) → n ≡ (Port.step s.port c).port.power.held → Holds n
  same_power c n e = no_more n (le_trans (le_of_eq e) (own_holds_less s.port k c))

  by_view : (c : Call) (a : Answer) → Settles s others supply c a → Holds a.port.power.held
  unfolding judged
  by_view c a (by_itself d e) = same_power d _ refl
  by_view c a (granted bytes q e) =
      let j = (Port.step s.port (packet bytes)).port in
      let kept : j.power.held ≡ s.port.power.held = (asks_quietly s.port bytes q).1 in
      let now : max s.port.power.held (asks s.port bytes) ≡ (judged true (Port.step s.port (packet bytes))).port.power.held =
      sym ((at_yes_lem j (comes_to_ask s.port bytes q).0).held_is ∙ rw (kept, asked_is s.port bytes q)) in
      subst Holds now (approved (asks s.port bytes) e)
  by_view c a (denied bytes q e) = same_power (packet bytes) _ (at_no (Port.step s.port (packet bytes)).port (comes_to_ask s.port bytes q).0).held_is

  pub holds : (c : Call) → Holds (settled s others supply (Port.step s.port c)).port.power.held
  holds c = by_view c _ (settles s others supply k.elsewhere c)

  pub holds_within_limit : (held : ℕ) → Holds held → s.port.power.held ≤ s.limit → held ≤ s.limit
  holds_within_limit held (no_more n h) l = le_trans h l
  holds_within_limit held (approved w e) l = omega (arith, within_limit s others supply w e)

  pub holds_within_supply : (held : ℕ) → Holds held → others + load_of s ≤ supply → others + max s.share held ≤ supply
  holds_within_supply held (no_more n h) l = omega arith
  holds_within_supply held (approved w e) l = omega (arith, within_supply s others supply w e)

-- ---- the whole rack
-- at first
module _ (u : SetUp) (good : good_set_up u ≡ true) where
  pub reached_first : Reached u (rack_of u)
  reached_first =
      record {
        count = refl;
        supply = refl;
        there = λ i h. subst (λ n. i < n) (sym (length-map u.settings _)) (is_there u good i h);
        share = λ i h. ap (λ s. s.share) (set_up_so u good i h);
        limit = λ i h. ap (λ s. s.limit) (set_up_so u good i h);
        steady = λ i h. subst (λ s. Steady s.port) (sym (set_up_so u good i h)) (steady_first (setting u i).offer);
        within = λ i h. rw (set_up_so u good i h) (omega arith);
        fits = subst (λ n. n ≤ u.supply) (sym (first_loads u good)) (shares_fit u good);
      }

  -- and after an event: the port that it came to, and the others
  module _ (r : Rack) (k : Reached u r) where
    pub ports_are : ports_in r ≡ u.count
    ports_are = omega (arith, k.count, few u good)

    module _ (i : ℕ) (here : i < u.count) (p : Port) where
      pub at_its_place : at (put r i p) i ≡ record { port = p; share = (at r i).share; limit = (at r i).limit }
      at_its_place = get_or-set_same r.slots i _ nobody (k.there i here)

      -- what holds of the new port, and of every other, holds of each
      each_port : (P : ℕ → Slot → Type 0) → P i (record { port = p; share = (at r i).share; limit = (at r i).limit }) → ((j : ℕ) → j < u.count → P j (at r j)) → (j : ℕ) → j < u.count → P j (at (put r i p) j)
      each_port P new old j h = by_test (eqb j i) refl
        where
          by_test : (b : Bool) → eqb j i ≡ b → P j (at (put r i p) j)
          by_test true e = subst (λ m. P m (at (put r i p) m)) (sym (eqb-true j i e)) (subst (P i) (sym at_its_place) new)
          by_test false e = subst (P j) (sym (put_other r i j p (eqb-false j i e))) (old j h)

      loads_after : loads (put r i p) ≡ others r i + max (at r i).share p.power.held
      unfolding loads
      loads_after =
          let within : i < ports_in r = subst (λ n. i < n) (sym ports_are) here in
          let changed : total (λ m. load_of (at (put r i p) m)) (ports_in r) + load_of (at r i) ≡ total (λ m. load_of (at r m)) (ports_in r) + load_of (at (put r i p) i) =
          total_change (λ m. load_of (at (put r i p) m)) (λ m. load_of (at r m)) (ports_in r) i within (λ m d. ap load_of (put_other r i m p d)) in
          omega (arith, changed, ap load_of at_its_place, others_and_this r i within)

    turned_reached : (i : ℕ) (h : Happening) → i < u.count → Reached u (put r i (answer_at r i h).port)
    unfolding answer_at
    turned_reached i h here =
        let s = at r i in
        let p = (answer_at r i h).port in
        let c = call_of s.limit h in
        let now = holds s (others r i) r.supply (k.steady i here) c in
        let room : others r i + load_of s ≤ r.supply = le_trans (le_of_eq (others_and_this r i (subst (λ n. i < n) (sym ports_are) here))) k.fits in
        record {
          count = k.count;
          supply = k.supply;
          there = λ j l. subst (λ n. j < n) (sym (length-set r.slots i _)) (k.there j l);
          share = each_port i here p (λ j t. t.share ≡ (setting u j).share) (k.share i here) k.share;
          limit = each_port i here p (λ j t. t.limit ≡ (setting u j).limit) (k.limit i here) k.limit;
          steady = each_port i here p (λ j t. Steady t.port) (stays_steady s (others r i) r.supply (k.steady i here) c) k.steady;
          within = each_port i here p (λ j t. t.port.power.held ≤ t.limit) (holds_within_limit s (others r i) r.supply (k.steady i here) _ now (k.within i here)) k.within;
          fits = le_trans (le_of_eq (loads_after i here p)) (holds_within_supply s (others r i) r.supply (k.steady i here) _ now room);
        }

    -- a number in the rack is that of a port
    pub place_below : (number : ℕ) → in_rack r number ≡ true → place_of number < u.count
    place_below number e = subst (λ n. place_of number < n) ports_are (place_in r number e)

    -- ---- an event, seen from the port at a place: it comes to this port, or to another or none
    module _ (i : ℕ) (here : i < u.count) where
      in_rack_lem : in_rack r (suc i) ≡ true
      in_rack_lem = let last : suc i ≤ ports_in r = subst (λ n. i < n) (sym ports_are) here in rw (le-leb 1 (suc i) (omega arith), le-leb (suc i) (ports_in r) last) refl

      place_is : place_of (suc i) ≡ i
      place_is = omega arith

      pub comes_to_it : (h : Happening) → step r (suc i) h ≡ turned r i (answer_at r i h)
      unfolding step
      comes_to_it h = rw (in_rack_lem, place_is) refl

      elsewhere : (number : ℕ) (h : Happening) → (number ≡ suc i → ⊥) → (b : Bool) → in_rack r number ≡ b → at (if_in_rack b r (place_of number) h).rack i ≡ at r i
      elsewhere number h d false e = refl
      elsewhere number h d true e = put_other r (place_of number) i _ (λ q. d (omega (arith, q, from_one r number e)))

      pub comes_to_another : (number : ℕ) (h : Happening) → (number ≡ suc i → ⊥) → at (step r number h).rack i ≡ at r i
      unfolding step
      comes_to_another number h d = elsewhere number h d (in_rack r number) refl

    by_number : (number : ℕ) (h : Happening) (b : Bool) → in_rack r number ≡ b → Reached u (if_in_rack b r (place_of number) h).rack
    by_number number h true e = turned_reached (place_of number) h (place_below number e)
    by_number number h false e = k

    pub step_reached : (number : ℕ) (h : Happening) → Reached u (step r number h).rack
    unfolding step
    step_reached number h = by_number number h (in_rack r number) refl

  pub run_reached : (es : List Happens) (r : Rack) → Reached u r → Reached u (run r es)
  unfolding run_by
  run_reached [] r k = k
  run_reached (e ∷ es) r k = run_reached es (step r e.number e.happening).rack (step_reached r k e.number e.happening)

  -- THE CLAIM
  pub always_reached : (es : List Happens) → Reached u (run (rack_of u) es)
  always_reached es = run_reached es (rack_of u) reached_first
