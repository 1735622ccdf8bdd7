-- A loop that goes through the fields one by one: what holds at its head, and how a turn keeps it. Assumes nothing.
use Prim.Native.Nat.{ℕ, zero, suc, ◌+◌, ◌-◌, ◌<◌, ◌≤◌}
use native.Mathlib.Omega.{arith}
use native.Mathlib.Nat.{not-suc-le-zero}
use mathlib.Core.Path.{◌≡◌, refl, sym, ap, subst, ◌∙◌}
use mathlib.Core.Bool.{Bool, true, false}
use mathlib.Core.List.{List, [], ◌∷◌}
use lib.ListN.{length, drop, length-drop}
use lib.Seq.{drop-drop}
use borrow.Author.Tests.{leb-true}
use Rattle.std.specs.Prelude.{Option, Some, None, Result, Ok, Err, IfOk}
use Rattle.rack.specs.declared.Rack.{Rack}
use Rattle.setup.specs.declared.SetUp.{SetUp}
use Rattle.night.specs.declared.Found.{Found}
use Rattle.night.specs.Fields.{size_of, is_whole}
use Rattle.night.specs.Events.{next_of}
use Rattle.night.specs.SetUps.{set_up_in}
use Rattle.fields.specs.declared.Field.{Field}
use Rattle.fields.specs.Answers.{laid_field, field_by, field_of, fields_in, last_rack, size_of_all, Through}

-- ---- a field does not reach past the end
abbrev NotCut : Found → Type 0
NotCut Found.Cut = ⊥
NotCut Found.UnknownTag = Unit {0}
NotCut Found.WrongLength = Unit {0}
NotCut Found.SetUp = Unit {0}
NotCut (Found.Event number e) = Unit {0}
NotCut (Found.Packet number) = Unit {0}
NotCut (Found.NewOffer number) = Unit {0}

whole_found : (l : List ℕ) (b : Bool) → is_whole l ≡ b → NotCut (next_of l) → size_of l ≤ length l
unfolding is_whole next_of
whole_found l true e h = leb-true (size_of l) (length l) e
whole_found l false e h = absurd (rw e at h)

module _ (r : Rack) (l : List ℕ) where
  abbrev Fits : Result Field Found → Type 0
  Fits o = IfOk o (λ (f : Field). f.size ≤ length l)

  by_laid : (laid : Option SetUp) (size : ℕ) → size ≤ length l → Fits (laid_field r laid size)
  by_laid None size h = tt
  by_laid (Some u) size h = h

  by_found : (found : Found) → found ≡ next_of l → Fits (field_by found r l)
  by_found Found.Cut e = tt
  by_found Found.UnknownTag e = tt
  by_found Found.WrongLength e = tt
  by_found Found.SetUp e = by_laid (set_up_in l) (size_of l) (whole_found l (is_whole l) refl (subst NotCut e tt))
  by_found (Found.Event number x) e = whole_found l (is_whole l) refl (subst NotCut e tt)
  by_found (Found.Packet number) e = whole_found l (is_whole l) refl (subst NotCut e tt)
  by_found (Found.NewOffer number) e = whole_found l (is_whole l) refl (subst NotCut e tt)

  pub fits : (f : Field) → field_of r l ≡ Ok f → f.size ≤ length l
  unfolding field_of
  fits f e = subst Fits e (by_found (next_of l) refl)

-- ---- the definition, a field at a time
on : (n : ℕ) (r : Rack) (l : List ℕ) (f : Field) → 0 < n → field_of r l ≡ Ok f → fields_in n r l ≡ f ∷ fields_in (n - 1) f.rack (drop f.size l)
unfolding fields_in
on zero r l f h e = absurd (not-suc-le-zero h)
on (suc n) r l f h e = let one_less : suc n - 1 ≡ n = omega arith in rw (e, one_less) refl

no_more : (n : ℕ) (r : Rack) (l : List ℕ) (found : Found) → field_of r l ≡ Err found → fields_in n r l ≡ []
unfolding fields_in
no_more zero r l found e = refl
no_more (suc n) r l found e = rw e refl

none_left : (n : ℕ) (r : Rack) (l : List ℕ) → n ≤ 0 → fields_in n r l ≡ []
unfolding fields_in
none_left zero r l h = refl
none_left (suc n) r l h = absurd (not-suc-le-zero h)

-- ---- what holds at the loop's head: what is left, gone through from here, is the whole
pub record Going (r : Rack) (l : List ℕ) (rack : Rack) (place left : ℕ) : Type 0 where
  pub within : place ≤ length l
  pub rack_still : last_rack r (fields_in (length l) r l) ≡ last_rack rack (fields_in left rack (drop place l))
  pub place_still : size_of_all (fields_in (length l) r l) ≡ place + size_of_all (fields_in left rack (drop place l))

pub begins : (r : Rack) (l : List ℕ) → Going r l r 0 (length l)
begins r l = record { within = omega arith; rack_still = refl; place_still = omega arith }

module _ {r : Rack} {l : List ℕ} {rack : Rack} {place left : ℕ} (g : Going r l rack place left) where
  ends : fields_in left rack (drop place l) ≡ [] → Through r l rack place
  unfolding last_rack size_of_all
  ends e =
      let none : size_of_all (fields_in left rack (drop place l)) ≡ 0 = ap size_of_all e in
      record { rack_is = sym (g.rack_still ∙ ap (last_rack rack) e); place_is = omega (arith, g.place_still, none) }

  pub used_up : left ≤ 0 → Through r l rack place
  used_up h = ends (none_left left rack (drop place l) h)

  module _ (s : List ℕ) (is : s ≡ drop place l) (o : Result Field Found) (iso : o ≡ field_of rack s) where
    pub stops : (found : Found) → o ≡ Err found → Through r l rack place
    stops found e = ends (ap (fields_in left rack) (sym is) ∙ no_more left rack s found (sym iso ∙ e))

    module _ (f : Field) (isf : o ≡ Ok f) where
      pub reaches : place + f.size ≤ length l
      reaches = omega (arith, g.within, fits rack s f (sym iso ∙ isf), ap length is ∙ length-drop place l)

      rest_is : 0 < left → fields_in left rack (drop place l) ≡ f ∷ fields_in (left - 1) f.rack (drop (place + f.size) l)
      rest_is h =
          ap (fields_in left rack) (sym is)
          ∙ on left rack s f h (sym iso ∙ isf)
          ∙ ap (λ (rest : List ℕ). f ∷ fields_in (left - 1) f.rack rest) (ap (drop f.size) is ∙ drop-drop f.size place l)

      pub goes_on : 0 < left → Going r l f.rack (place + f.size) (left - 1)
      unfolding last_rack size_of_all
      goes_on h =
          let sizes : size_of_all (fields_in left rack (drop place l)) ≡ f.size + size_of_all (fields_in (left - 1) f.rack (drop (place + f.size) l)) = ap size_of_all (rest_is h) in
          record {
            within = reaches;
            rack_still = g.rack_still ∙ ap (last_rack rack) (rest_is h);
            place_still = omega (arith, g.place_still, sizes);
          }
