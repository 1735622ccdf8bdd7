-- Asking for more than we have (000, 6.4.2.3): with bit 26 clear a Request fits exactly as before, with it set by its operating current alone; what it asks is the
-- same either way; and every bit outside its four fields is ignored, GiveBack (bit 27) among them. Assumes nothing.
use Prim.Native.Nat.{ℕ}
use mathlib.Core.Path.{◌≡◌, refl, ap}
use mathlib.Core.Bool.{Bool, true, false, ◌&&◌, ◌||◌}
use Rattle.offers.specs.declared.Offer.{Offer}
use Rattle.offers.specs.Objects.{position_of, is_mismatch, operating_of, maximum_of}
use Rattle.offers.specs.Requests.{operating_fits, maximum_fits, fits, asked, fit_of}
use Rattle.std.specs.Prelude.{Some}

module _ (count r : ℕ) (o : Offer) where
  -- THE CLAIM: with the bit clear both currents are compared, as before
  pub clear_as_before : is_mismatch r ≡ false → fits count r o ≡ (operating_fits count r o && maximum_fits r o)
  unfolding fits
  clear_as_before clear = rw clear refl

  -- THE CLAIM: with the bit set the operating current alone is
  pub set_by_operating_alone : is_mismatch r ≡ true → fits count r o ≡ operating_fits count r o
  unfolding fits
  set_by_operating_alone set = rw set (and_true (operating_fits count r o))
    where
      and_true : (b : Bool) → (b && true) ≡ b
      and_true true = refl
      and_true false = refl

  -- THE CLAIM: what fitted before fits still, whatever the bit
  pub what_fitted_fits : (operating_fits count r o && maximum_fits r o) ≡ true → fits count r o ≡ true
  unfolding fits
  what_fitted_fits = still (operating_fits count r o) (maximum_fits r o) (is_mismatch r)
    where
      still : (a b m : Bool) → (a && b) ≡ true → (a && (m || b)) ≡ true
      still true true true e = refl
      still true true false e = refl
      still true false true e = refl
      still true false false e = e
      still false b m e = e

module _ (r q : ℕ) (o : Offer) (position : position_of r ≡ position_of q) (operating : operating_of r ≡ operating_of q) where
  -- THE CLAIM: what a Request asks is told by position and operating current, whatever it says of a mismatch and a maximum
  pub asks_the_same : asked r o ≡ asked q o
  unfolding asked
  asks_the_same = rw (position, operating) refl

  pub fit_the_same : (count : ℕ) → fits count r o ≡ true → fits count q o ≡ true → fit_of count r o ≡ fit_of count q o
  unfolding fit_of
  fit_the_same count fitting fitting-too = rw (fitting, fitting-too) (ap Some asks_the_same)

  -- THE CLAIM: and no other bit tells, so neither does GiveBack
  pub other_bits_are_ignored : (count : ℕ) → is_mismatch r ≡ is_mismatch q → maximum_of r ≡ maximum_of q → fit_of count r o ≡ fit_of count q o
  unfolding fit_of fits asked
  other_bits_are_ignored count mismatch maximum = rw (position, operating, mismatch, maximum) refl
