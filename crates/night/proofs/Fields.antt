-- Laws of a field's parts, where its size was read: its value, and what stands behind the port's number. Assumes nothing.
use Prim.Native.Nat.{ℕ, zero, suc, ◌-◌, ◌<◌, ◌≤◌}
use native.Mathlib.Omega.{arith}
use mathlib.Core.Path.{◌≡◌, refl, sym}
use mathlib.Core.Bool.{Bool, true, false, cond}
use mathlib.Core.List.{List, [], ◌∷◌}
use lib.ListN.{length, take, drop}
use lib.Seq.{take-nil, drop-drop}
use borrow.Author.Tests.{le-leb, lt-leb}
use Rattle.night.specs.Fields.{length_of, size_of, is_whole, value_of}
use Rattle.night.specs.Events.{behind_of, behind_start}

-- the first element left out, before or behind the cut
drop_one_take : (n : ℕ) (l : List ℕ) → drop 1 (take n l) ≡ take (n - 1) (drop 1 l)
drop_one_take zero l = refl
drop_one_take (suc n) [] = sym (take-nil (suc n - 1))
drop_one_take (suc n) (x ∷ l) = let e : suc n - 1 ≡ n = omega arith in rw e

-- no value where there is no length, whole or not
no_length : (b : Bool) (n : ℕ) (l : List ℕ) → n ≡ 0 → cond b (take n l) [] ≡ []
no_length true n l e = rw e
no_length false n l e = refl

module _ (l : List ℕ) (n : ℕ) (e : n ≡ size_of l) where
  -- ---- all of it is there
  module _ (h : n ≤ length l) where
    whole : is_whole l ≡ true
    unfolding is_whole
    whole = rw (← e) (le-leb n (length l) h)

    pub value_is : take (n - 3) (drop 3 l) ≡ value_of l
    unfolding value_of size_of
    value_is = let k : n - 3 ≡ length_of l = omega (arith, e) in rw (whole, k)

    pub behind_is : take (n - 4) (drop 4 l) ≡ behind_of l
    unfolding behind_of value_of size_of
    behind_is =
        let k : n - 4 ≡ length_of l - 1 = omega (arith, e) in
        rw (whole, drop_one_take (length_of l) (drop 3 l), drop-drop 1 3 l, k)

    pub start_is : 4 ≤ n → behind_start l ≡ 4
    unfolding behind_start
    start_is four = rw (← e, le-leb 4 n four, whole)

  -- ---- it is cut
  module _ (h : length l < n) where
    cut : is_whole l ≡ false
    unfolding is_whole
    cut = rw (← e) (lt-leb n (length l) h)

    pub cut_value : [] ≡ value_of l
    unfolding value_of
    cut_value = rw cut

    pub cut_behind : [] ≡ behind_of l
    unfolding behind_of value_of
    cut_behind = rw cut

    pub cut_start : 4 ≤ n → behind_start l ≡ 0
    unfolding behind_start
    cut_start four = rw (← e, le-leb 4 n four, cut)

  -- ---- it has no port's number
  module _ (h : n < 4) where
    pub none_behind : [] ≡ behind_of l
    unfolding behind_of value_of size_of
    none_behind = let k : length_of l ≡ 0 = omega (arith, e) in rw (no_length (is_whole l) (length_of l) (drop 3 l) k)

    pub no_start : behind_start l ≡ 0
    unfolding behind_start
    no_start = rw (← e, lt-leb 4 n h)
