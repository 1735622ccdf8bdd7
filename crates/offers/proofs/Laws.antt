-- Laws of objects and offers. Assumes nothing.
use Prim.Native.Nat.{ℕ, zero, suc, ◌+◌, ◌*◌, ◌-◌, ◌^◌, ◌<◌, ◌≤◌}
use native.Mathlib.Nat.{le_of_suc-le-suc, not-suc-le-zero, lt_of_le_of_lt, le_of_lt, mul-le-mul_left, mul-lt-mul_of_pos_right, lt_trans}
use native.Mathlib.Numerals.{add-one}
use native.Mathlib.Omega.{arith}
use mathlib.Core.Path.{◌≡◌, refl, sym, ap}
use mathlib.Core.Bool.{Bool, true, false, ◌&&◌}
use mathlib.Core.List.{List, ◌∷◌}
use lib.Dec.{lit<, ltb}
use lib.ListN.{length, drop, get_or, get_or-eq_default, drop_of_length-le}
use lib.Seq.{drop-cons}
use Rattle.offers.specs.Objects.{voltage_of, current_of, operating_of}
use Rattle.offers.specs.Offers.{good_object, good_from}

-- ---- fields of ten bits
pub voltage< : (x : ℕ) → voltage_of x < 1024
voltage< x = omega arith

pub current< : (x : ℕ) → current_of x < 1024
current< x = omega arith

pub operating< : (x : ℕ) → operating_of x < 1024
operating< x = omega arith

pub product : (a b : ℕ) → a < 1024 → b < 1024 → a * b < 2 ^ 32
product a b h k = lt_trans (lt_of_le_of_lt (mul-le-mul_left a (le_of_lt k)) (mul-lt-mul_of_pos_right h (lit< tt))) (lit< tt)

-- ---- what is left of an offer decides
module _ (limit before : ℕ) (l : List ℕ) (i : ℕ) where
  abbrev passes : Bool
  passes = good_object limit (get_or l i 0) && ltb before (voltage_of (get_or l i 0))

  pub go_on : i < length l → passes ≡ true → good_from limit before (drop i l) ≡ good_from limit (voltage_of (get_or l i 0)) (drop (i + 1) l)
  unfolding good_from
  go_on h e = rw (add-one i, drop-cons l i 0 h, e) refl

  pub stop : i < length l → passes ≡ false → good_from limit before (drop i l) ≡ false
  unfolding good_from
  stop h e = rw (drop-cons l i 0 h, e) refl

  pub all_done : length l ≤ i → good_from limit before (drop i l) ≡ true
  unfolding good_from
  all_done h = rw (drop_of_length-le l h) refl

-- ---- positions are counted from 1
pub before_first : (l : List ℕ) (p : ℕ) → p < 1 → 0 ≡ get_or (0 ∷ l) p 0
before_first l zero h = refl
before_first l (suc p) h = absurd (not-suc-le-zero (le_of_suc-le-suc h))

pub past_last : (l : List ℕ) (p : ℕ) → length l ≡ 7 → 7 < p → 0 ≡ get_or (0 ∷ l) p 0
past_last l zero e h = absurd (not-suc-le-zero h)
past_last l (suc p) e h = sym (get_or-eq_default l 0 (omega arith))

pub at_position : (l : List ℕ) (p : ℕ) → 1 ≤ p → get_or l (p - 1) 0 ≡ get_or (0 ∷ l) p 0
at_position l zero h = absurd (not-suc-le-zero h)
at_position l (suc p) h = ap (λ (i : ℕ). get_or l i 0) (omega arith)
