-- What a good set-up says of each of its ports, and of the rack that it sets up. Assumes nothing.
use Prim.Native.Nat.{ℕ, zero, suc, ◌<◌, ◌≤◌}
use native.Mathlib.Nat.{not-suc-le-zero, le_of_suc-le-suc}
use native.Mathlib.Omega.{arith}
use mathlib.Core.Path.{◌≡◌, refl, sym, ap, ◌∙◌}
use mathlib.Core.Bool.{Bool, true, false, ◌&&◌}
use mathlib.Core.List.{List, [], ◌∷◌, map}
use lib.Dec.{eqb, leb, ltb}
use lib.ListN.{length, get_or, get_or-eq_default}
use borrow.Author.Tests.{leb-true, eqb-true, eqb-false, ltb-true, ltb-false}
use Rattle.offers.specs.Offers.{good_offer}
use Rattle.slot.specs.Load.{load_of}
use Rattle.rack.specs.Ports.{most_ports, nobody, at, ports_in, loads}
use Rattle.rack.proofs.Totals.{below, total_same}
use Rattle.setup.specs.declared.SetUp.{SetUp}
use Rattle.setup.specs.SetUps.{least, largest_limit, no_setting, setting, good_setting, everywhere, shares, good_count, good_supply, good_set_up, slot_of, rack_of, judged, accepted_set_up, verdict_of, rack_or_none}
use Rattle.portclaims.proofs.Truth.{true_not_false, first, second}
use Rattle.std.specs.Prelude.{Ok}

-- something that holds everywhere holds at each place
each : (f : ℕ → Bool) (n i : ℕ) → everywhere f n ≡ true → i < n → f i ≡ true
each f zero i e h = absurd (not-suc-le-zero h)
each f (suc n) i e h = by_test (eqb i n) refl (λ l. each f n i (first (everywhere f n) (f n) e) l)
  where
    by_test : (b : Bool) → eqb i n ≡ b → (i < n → f i ≡ true) → f i ≡ true
    by_test true q rest = ap f (eqb-true i n q) ∙ second (everywhere f n) (f n) e
    by_test false q rest = rest (below n i h (eqb-false i n q))

-- an element of a list that is made of another's
made : {A B : Type 0} (f : A → B) (l : List A) (i : ℕ) (d : A) (b : B) → i < length l → get_or (map f l) i b ≡ f (get_or l i d)
made f [] i d b h = absurd (not-suc-le-zero h)
made f (x ∷ l) zero d b h = refl
made f (x ∷ l) (suc i) d b h = made f l i d b (le_of_suc-le-suc h)

-- a set-up that is accepted is good, and sets up its rack
module _ (u : SetUp) where
  by_test : (b : Bool) → good_set_up u ≡ b → verdict_of (judged b u) ≡ Ok tt → good_set_up u ≡ true
  by_test true e f = e
  by_test false e f = cc

  pub accepted_is_good : verdict_of (accepted_set_up u) ≡ Ok tt → good_set_up u ≡ true
  unfolding accepted_set_up
  accepted_is_good e = by_test (good_set_up u) refl e

  pub good_is_set_up : good_set_up u ≡ true → rack_or_none (accepted_set_up u) ≡ rack_of u
  unfolding accepted_set_up
  good_is_set_up e = rw e refl

module _ (u : SetUp) (good : good_set_up u ≡ true) where
  abbrev good_ports : Bool
  good_ports = everywhere (λ k. good_setting (setting u k)) u.count

  behind : (good_ports && (good_supply u.supply && leb (shares u u.count) u.supply)) ≡ true
  unfolding good_set_up
  behind = second (good_count u.count) _ good

  pub few : u.count ≤ most_ports
  unfolding good_set_up
  few = leb-true u.count most_ports (second (leb 1 u.count) _ (first (good_count u.count) _ good))

  pub shares_fit : shares u u.count ≤ u.supply
  shares_fit = leb-true _ _ (second (good_supply u.supply) _ (second good_ports _ behind))

  module _ (i : ℕ) (h : i < u.count) where
    good_here : good_setting (setting u i) ≡ true
    good_here = each (λ k. good_setting (setting u k)) u.count i (first good_ports _ behind) h

    numbers : ((leb least (setting u i).share && leb (setting u i).share (setting u i).limit) && leb (setting u i).limit largest_limit) ≡ true
    unfolding good_setting
    numbers = first _ _ good_here

    pub share_within_limit : (setting u i).share ≤ (setting u i).limit
    share_within_limit = leb-true _ _ (second (leb least (setting u i).share) _ (first _ (leb (setting u i).limit largest_limit) numbers))

    pub first_offer_good : good_offer (setting u i).limit (setting u i).offer ≡ true
    unfolding good_setting
    first_offer_good = second ((leb least (setting u i).share && leb (setting u i).share (setting u i).limit) && leb (setting u i).limit largest_limit) _ good_here

    -- past the end stands a port that is not good
    pub is_there : i < length u.settings
    unfolding good_setting
    is_there = by_place (ltb i (length u.settings)) refl
      where
        bad_past : setting u i ≡ no_setting → {A : Type 0} → A
        bad_past e = true_not_false (sym good_here ∙ ap good_setting e)

        by_place : (b : Bool) → ltb i (length u.settings) ≡ b → i < length u.settings
        by_place true e = ltb-true _ _ e
        by_place false e = bad_past (get_or-eq_default u.settings no_setting (ltb-false _ _ e))

    pub set_up_so : at (rack_of u) i ≡ slot_of (setting u i)
    set_up_so = made slot_of u.settings i no_setting nobody is_there

  pub all_ports : ports_in (rack_of u) ≡ u.count
  all_ports = omega (arith, few)

  -- at first each port takes its share
  pub first_loads : loads (rack_of u) ≡ shares u u.count
  unfolding loads
  first_loads = rw all_ports (total_same (λ k. load_of (at (rack_of u) k)) (λ k. (setting u k).share) u.count (λ k h. ap load_of (set_up_so k h) ∙ zero_held (setting u k).share))
    where
      zero_held : (n : ℕ) → load_of (slot_of (record { share = n; limit = 0; offer = record { objects = []; count = 0 } })) ≡ n
      zero_held n = omega arith
