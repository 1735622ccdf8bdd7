-- An array that is filled from the front with what a function makes of another's elements. Assumes nothing.
use Prim.Native.Nat.{ℕ, ◌+◌, ◌<◌, ◌≤◌}
use native.Mathlib.Numerals.{add-one}
use mathlib.Core.Path.{◌≡◌, refl, sym, ap, ◌∙◌, subst}
use mathlib.Core.List.{List, map, map-append}
use lib.ListN.{length, take, set, get_or}
use lib.Seq.{take-suc, take-suc-set, take_all}

module _ {A B : Type 0} (f : A → B) (l : List A) (out : List B) (i : ℕ) where
  pub filled_more : (d : A) (b : B) → b ≡ f (get_or l i d) → i < length l → i < length out → take i out ≡ map f (take i l) → take (i + 1) (set out i b) ≡ map f (take (i + 1) l)
  filled_more d b q h k e = rw (add-one i, take-suc-set out i b k, take-suc l i d h, map-append, e, q) refl

  pub filled : (n : ℕ) → length l ≡ n → length out ≡ n → n ≤ i → take i out ≡ map f (take i l) → out ≡ map f l
  filled n a b h e = sym (take_all i out (subst (λ (k : ℕ). k ≤ i) (sym b) h)) ∙ e ∙ ap (map f) (take_all i l (subst (λ (k : ℕ). k ≤ i) (sym a) h))
