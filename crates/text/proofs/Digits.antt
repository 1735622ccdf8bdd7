-- Laws of the digits of a number that come from the last to the first, into ten places. Assumes nothing.
use Prim.Native.Nat.{ℕ, zero, suc, ◌-◌, ◌/◌, ◌%◌, ◌<◌, ◌≤◌}
use native.Mathlib.Nat.{not-suc-le-zero, le_refl, suc-sub-suc, sub-zero}
use native.Mathlib.Omega.{arith}
use mathlib.Core.Path.{◌≡◌, refl, sym, ◌∙◌}
use mathlib.Core.List.{List, ◌∷◌}
use borrow.Author.Tests.{lt-ltb, le-ltb}
use lib.ListN.{length, take, drop, set, length-set, length-drop}
use lib.Seq.{drop-cons, drop-set-lt, get_or-set_same, lt-length-set, take_all}
use Rattle.text.specs.Text.{glyph_of, digits_before}

-- a digit takes its place in front of those from the next place on
stored : (l : List ℕ) (j d : ℕ) → j < length l → drop j (set l j d) ≡ d ∷ drop (suc j) l
stored l j d h = rw (drop-cons (set l j d) j 0 (lt-length-set l j d h), get_or-set_same l j d 0 h, drop-set-lt (suc j) l j d (le_refl (suc j)))

-- a digit, and more in front of it
pub further : (l : List ℕ) (i n : ℕ) → 0 < i → i ≤ length l → 10 ≤ n → digits_before i n (drop i l) ≡ digits_before (i - 1) (n / 10) (drop (i - 1) (set l (i - 1) (glyph_of (n % 10))))
unfolding digits_before
further l zero n some h large = absurd (not-suc-le-zero some)
further l (suc j) n some h large = rw (suc-sub-suc j 0, sub-zero j, le-ltb _ _ large, stored l j (glyph_of (n % 10)) h)

-- the first digit
leading : (l : List ℕ) (i n : ℕ) → 0 < i → i ≤ length l → n < 10 → digits_before i n (drop i l) ≡ drop (i - 1) (set l (i - 1) (glyph_of (n % 10)))
unfolding digits_before
leading l zero n some h small = absurd (not-suc-le-zero some)
leading l (suc j) n some h small = rw (suc-sub-suc j 0, sub-zero j, lt-ltb _ _ small, stored l j (glyph_of (n % 10)) h)

-- so it stands in the part that is put
pub first : (l : List ℕ) (i n : ℕ) → 0 < i → length l ≡ 10 → i ≤ 10 → n < 10 → digits_before i n (drop i l) ≡ take (10 - (i - 1)) (drop (i - 1) (set l (i - 1) (glyph_of (n % 10))))
first l i n some long h small =
    let whole : length (drop (i - 1) (set l (i - 1) (glyph_of (n % 10)))) ≤ 10 - (i - 1) = simp (length-drop, length-set) (omega arith) in
    leading l i n some (omega arith) small ∙ sym (take_all (10 - (i - 1)) (drop (i - 1) (set l (i - 1) (glyph_of (n % 10)))) whole)

-- no place is left in front
pub full : (l : List ℕ) (i n : ℕ) → i ≤ 0 → digits_before i n (drop i l) ≡ l
unfolding digits_before
full l zero n none = refl
full l (suc j) n none = absurd (not-suc-le-zero none)
