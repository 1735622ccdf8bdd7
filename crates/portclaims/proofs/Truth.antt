-- Tests that hold, and equations with true and false. Assumes nothing.
use Prim.Native.Nat.{ℕ, ◌<◌}
use mathlib.Core.Path.{◌≡◌, refl, sym, subst}
use mathlib.Core.Bool.{Bool, true, false, not, ◌&&◌}
use lib.Dec.{T, ltb, ltb→lt}
pub use Rattle.ground.proofs.Rows.{first, second}
use Rattle.portclaims.specs.Between.{implies}

pub so : (b : Bool) → b ≡ true → T b
so b e = subst T (sym e) tt

pub holds : (b : Bool) → T b → b ≡ true
holds true t = refl
holds false t = absurd t

pub true_not_false : {A : Type 0} → true ≡ false → A
true_not_false e = absurd (subst T e tt)

pub below : (m n : ℕ) → ltb m n ≡ true → m < n
below m n e = ltb→lt m n (so (ltb m n) e)

-- what follows from a test of the form "a, so b"
pub then : (a b : Bool) → T (implies a b) → a ≡ true → b ≡ true
then true b t e = holds b t
then false b t e = true_not_false (sym e)

pub and : (a b : Bool) → a ≡ true → b ≡ true → (a && b) ≡ true
and true b e h = h
and false b e h = e

pub not_true : (b : Bool) → not b ≡ true → b ≡ false
not_true true e = sym e
not_true false e = refl

pub not_false : (b : Bool) → b ≡ false → not b ≡ true
not_false true e = sym e
not_false false e = refl
