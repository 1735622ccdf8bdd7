-- Laws of a good set-up, port by port. Assumes nothing.
use Prim.Native.Nat.{ℕ, zero, suc, ◌<◌, ◌≤◌}
use native.Mathlib.Nat.{not-suc-le-zero}
use native.Mathlib.Omega.{arith}
use mathlib.Core.Path.{◌≡◌, refl, sym, ap, ◌∙◌}
use mathlib.Core.Bool.{Bool, true, false, ◌&&◌}
use lib.Dec.{eqb, leb}
use borrow.Author.Tests.{le-leb, lt-leb, eqb-true, eqb-false}
use Rattle.rack.specs.Ports.{most_ports}
use Rattle.rack.proofs.Totals.{below}
use Rattle.setup.specs.declared.SetUp.{SetUp}
use Rattle.setup.specs.SetUps.{setting, good_setting, everywhere, shares, good_count, good_supply, good_set_up}

and_false : (b : Bool) → (b && false) ≡ false
and_false true = refl
and_false false = refl

-- ---- something that does not hold at one place
module _ (f : ℕ → Bool) where
  pub not_everywhere : (n i : ℕ) → i < n → f i ≡ false → everywhere f n ≡ false
  not_everywhere zero i h e = absurd (not-suc-le-zero h)
  not_everywhere (suc n) i h e = by_test (eqb i n) refl (λ l. not_everywhere n i l e)
    where
      by_test : (b : Bool) → eqb i n ≡ b → (i < n → everywhere f n ≡ false) → everywhere f (suc n) ≡ false
      by_test true q rest = rw (← eqb-true i n q, e) (and_false (everywhere f i))
      by_test false q rest = rw (rest (below n i h (eqb-false i n q))) refl

-- ---- a count
no_more : (n : ℕ) → most_ports < n → good_count n ≡ false
no_more n h = rw (lt-leb n most_ports h) (and_false (leb 1 n))

module _ (u : SetUp) where
  abbrev good_ports : ℕ → Bool
  good_ports n = everywhere (λ k. good_setting (setting u k)) n

  pub too_few : u.count < 1 → false ≡ good_set_up u
  unfolding good_set_up
  too_few h = rw (lt-leb 1 u.count h) refl

  pub too_many : most_ports < u.count → false ≡ good_set_up u
  unfolding good_set_up
  too_many h = rw (no_more u.count h) refl

  pub one_is_bad : (i : ℕ) → i < u.count → good_setting (setting u i) ≡ false → false ≡ good_set_up u
  unfolding good_set_up
  one_is_bad i h e = rw (not_everywhere (λ k. good_setting (setting u k)) u.count i h e, and_false (good_count u.count)) refl

  -- all ports are good: what is left to test
  pub all_are_good : (i sum : ℕ) → 1 ≤ u.count → u.count ≤ most_ports → i ≤ u.count → u.count ≤ i → good_ports i ≡ true → sum ≡ shares u i →
      (good_supply u.supply && leb sum u.supply) ≡ good_set_up u
  unfolding good_set_up
  all_are_good i sum least most h l good e =
      let all : i ≡ u.count = omega arith in
      let whole : good_ports u.count ≡ true = ap good_ports (sym all) ∙ good in
      let added : sum ≡ shares u u.count = e ∙ ap (shares u) all in
      rw (le-leb 1 u.count least, le-leb u.count most_ports most, whole, added) refl
