-- Laws of a row of tests: a row that refuses nothing passed each test, and the other way round. Assumes nothing.
use mathlib.Core.Path.{◌≡◌, refl, ap}
use mathlib.Core.Bool.{Bool, true, false, not, ◌&&◌}
use mathlib.Core.List.{List, [], ◌∷◌}
use lib.Dec.{T}
use borrow.Author.Tests.{not-false}
use Rattle.ground.specs.declared.Refusal.{Refusal}
use Rattle.ground.specs.Refusals.{refuse_if, any_of, Verdict}
use Rattle.std.specs.Prelude.{Ok, Err}

pub passed : (t : Bool) (r : Refusal) (v : Verdict) → refuse_if t r v ≡ Ok tt → (t ≡ false) × (v ≡ Ok tt)
unfolding refuse_if
passed true r v e = (cc, cc)
passed false r v e = (refl, e)

pub pass : (t : Bool) (r : Refusal) (v : Verdict) → t ≡ false → v ≡ Ok tt → refuse_if t r v ≡ Ok tt
unfolding refuse_if
pass true r v t-false e = cc
pass false r v t-false e = e

-- a test that holds refuses, whatever comes behind it
pub refuse : (t : Bool) (r : Refusal) (v : Verdict) → t ≡ true → refuse_if t r v ≡ Err r
unfolding refuse_if
refuse true r v h = refl
refuse false r v h = cc

-- where none of several things holds, the first does not and none of the others does; and the other way round
pub neither : (t : Bool) (ts : List Bool) → any_of (t ∷ ts) ≡ false → (t ≡ false) × (any_of ts ≡ false)
unfolding any_of
neither true ts e = (e, cc)
neither false ts e = (refl, e)

pub none : any_of [] ≡ false
unfolding any_of
none = refl

pub nor : (t : Bool) (ts : List Bool) → t ≡ false → any_of ts ≡ false → any_of (t ∷ ts) ≡ false
unfolding any_of
nor true ts h e = cc
nor false ts h e = e

-- one of several things holds
pub here : (t : Bool) (ts : List Bool) → t ≡ true → any_of (t ∷ ts) ≡ true
unfolding any_of
here true ts h = refl
here false ts h = cc

pub later : (t : Bool) (ts : List Bool) → any_of ts ≡ true → any_of (t ∷ ts) ≡ true
unfolding any_of
later true ts h = refl
later false ts h = h

-- a test that is put only to some fails for each of them; and the other way round
pub spared : (a b : Bool) → (a && b) ≡ false → a ≡ true → b ≡ false
spared true b e a-true = e
spared false b e a-true = cc

pub spare : (a b : Bool) → (a ≡ true → b ≡ false) → (a && b) ≡ false
spare true b h = h refl
spare false b h = refl

-- so, of something that must not be missing
pub has : (a b : Bool) → (a && not b) ≡ false → a ≡ true → b ≡ true
has a b e a-true = not-false b (spared a (not b) e a-true)

pub hold : (a b : Bool) → (a ≡ true → b ≡ true) → (a && not b) ≡ false
hold a b h = spare a (not b) (λ a-true. ap not (h a-true))

-- a test of two things that passes
pub both : (a b : Bool) → T (a && b) → T a × T b
both true b t = (tt, t)
both false b t = absurd t

pub first : (a b : Bool) → (a && b) ≡ true → a ≡ true
first true b e = refl
first false b e = e

pub second : (a b : Bool) → (a && b) ≡ true → b ≡ true
second true b e = e
second false b e = cc
