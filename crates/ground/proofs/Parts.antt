-- Laws of a part of a slice, from a place to the end, as it is lent and as it comes back. Assumes nothing.
use Prim.Native.Nat.{ℕ, ◌-◌}
use native.Mathlib.Nat.{le_of_eq}
use mathlib.Core.Path.{◌≡◌}
use mathlib.Core.List.{List, [], ◌++◌, append-nil}
use lib.ListN.{length, take, drop, length-drop, drop_of_length-le}
use lib.Seq.{take_all}

-- the part from a to the end, as it is lent, is the rest of the list
pub rest : (a : ℕ) (l : List ℕ) → take (length l - a) (drop a l) ≡ drop a l
rest a l = take_all (length l - a) (drop a l) (le_of_eq (length-drop a l))

-- nothing stands behind it
pub none_behind : (a : ℕ) (l : List ℕ) → drop (length l - a) (drop a l) ≡ []
none_behind a l = drop_of_length-le (drop a l) (le_of_eq (length-drop a l))

-- a part that was lent and came back as ys, put back
pub lent_back : (ys : List ℕ) (a : ℕ) (l : List ℕ) → take a l ++ (ys ++ drop (length l - a) (drop a l)) ≡ take a l ++ ys
lent_back ys a l = rw (none_behind a l, append-nil)
