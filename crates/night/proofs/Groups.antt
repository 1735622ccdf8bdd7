-- Laws of a rack group, group by group: what is left of it after each. Assumes nothing.
use Prim.Native.Nat.{ℕ, zero, suc, ◌+◌, ◌-◌, ◌<◌, ◌≤◌}
use native.Mathlib.Nat.{not-suc-le-zero}
use native.Mathlib.Omega.{arith}
use mathlib.Core.Path.{◌≡◌, refl, sym, ap, ◌∙◌}
use mathlib.Core.Bool.{Bool, true, false}
use mathlib.Core.List.{List}
use lib.Dec.{eqb}
use lib.ListN.{length, drop, length-drop}
use lib.Seq.{drop-drop}
use borrow.Author.Tests.{leb-true}
use Rattle.ground.proofs.Rows.{first, second}
use Rattle.setup.specs.declared.SetUp.{SetUp}
use Rattle.night.specs.Fields.{tag_of, size_of, is_whole, value_of, number_at}
use Rattle.night.specs.SetUps.{is_setting, setting_of, is_port, is_supply, placed, no_set_up, not_laid, supplied, group_in}

-- ---- one group more
module _ (u : SetUp) (f : List ℕ) where
  none_left : (left : ℕ) → left ≤ 0 → group_in left u f ≡ not_laid
  unfolding group_in
  none_left zero h = refl
  none_left (suc left) h = absurd (not-suc-le-zero h)

  pub by_supply : (left : ℕ) → 0 < left → is_supply f ≡ true → group_in left u f ≡ supplied u (number_at f 3)
  unfolding group_in
  by_supply zero h s = absurd (not-suc-le-zero h)
  by_supply (suc left) h s = rw s

  pub by_port : (left : ℕ) → 0 < left → is_supply f ≡ false → is_port f ≡ true → group_in left u f ≡ group_in (left - 1) (placed u (setting_of (value_of f))) (drop (size_of f) f)
  unfolding group_in
  by_port zero h s p = absurd (not-suc-le-zero h)
  by_port (suc left) h s p = let e : suc left - 1 ≡ left = omega arith in rw (s, p, e)

  by_neither : (left : ℕ) → 0 < left → is_supply f ≡ false → is_port f ≡ false → group_in left u f ≡ not_laid
  unfolding group_in
  by_neither zero h s p = absurd (not-suc-le-zero h)
  by_neither (suc left) h s p = rw (s, p)

-- ---- a port group is whole: where a field is not, it has no value
module _ (f : List ℕ) (p : is_port f ≡ true) where
  long : 17 ≤ length (value_of f)
  unfolding is_port is_setting
  long = leb-true _ _ (first _ _ (first _ _ (second (eqb (tag_of f) 17) _ p)))

  pub port_fits : size_of f ≤ length f
  unfolding is_whole value_of
  port_fits = by_test (is_whole f) refl
    where
      by_test : (b : Bool) → is_whole f ≡ b → size_of f ≤ length f
      by_test true e = leb-true _ _ e
      by_test false e = absurd (not-suc-le-zero (rw e at long))

-- ---- a group's value s, of which what is left from a place on says what it all says
module _ (s : List ℕ) (u : SetUp) (at left : ℕ) (inv : group_in (length s) no_set_up s ≡ group_in left u (drop at s)) where
  pub ended : left ≤ 0 → not_laid ≡ group_in (length s) no_set_up s
  ended h = sym (inv ∙ none_left u (drop at s) left h)

  module _ (more : 0 < left) (f : List ℕ) (there : f ≡ drop at s) where
    here : group_in (length s) no_set_up s ≡ group_in left u f
    here = inv ∙ ap (group_in left u) (sym there)

    pub at_supply : is_supply f ≡ true → supplied u (number_at f 3) ≡ group_in (length s) no_set_up s
    at_supply e = sym (here ∙ by_supply u f left more e)

    pub at_neither : is_supply f ≡ false → is_port f ≡ false → not_laid ≡ group_in (length s) no_set_up s
    at_neither e p = sym (here ∙ by_neither u f left more e p)

    pub at_port_lem : is_supply f ≡ false → is_port f ≡ true → group_in (length s) no_set_up s ≡ group_in (left - 1) (placed u (setting_of (value_of f))) (drop (at + size_of f) s)
    at_port_lem e p = here ∙ by_port u f left more e p ∙ ap (group_in (left - 1) (placed u (setting_of (value_of f)))) (ap (drop (size_of f)) there ∙ drop-drop (size_of f) at s)

-- the next place is still within the value
pub within : (s : List ℕ) (at : ℕ) (f : List ℕ) → f ≡ drop at s → at ≤ length s → is_port f ≡ true → at + size_of f ≤ length s
within s at f there h p = omega (arith, port_fits f p, ap length there ∙ length-drop at s)
