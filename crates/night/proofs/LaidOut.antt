-- Laws of a field that was laid out, with any bytes behind it, and of what a port group and the supply then are. Assumes nothing.
use Prim.Native.Nat.{ℕ, zero, suc, ◌+◌, ◌-◌, ◌*◌, ◌/◌, ◌%◌, min, ◌≤◌}
use native.Mathlib.Nat.{div-add-mod'}
use native.Mathlib.Omega.{arith}
use mathlib.Core.Path.{◌≡◌, refl, ap, ◌∙◌}
use mathlib.Core.Bool.{true, false, and-false}
use mathlib.Core.List.{List, [], ◌∷◌, ◌++◌}
use lib.Dec.{eqb}
use lib.ListN.{length, drop, length-append}
use lib.Seq.{take-append_seam, drop_at, drop-drop}
use borrow.Author.Tests.{le-leb, eq-eqb}
use Rattle.message.specs.Bytes.{word_of}
use Rattle.message.proofs.Bytes.{word_of_two}
use Rattle.night.specs.Fields.{tag_of, length_of, size_of, is_whole, value_of, number_at, offer_in}
use Rattle.night.specs.SetUps.{head_is, is_setting, setting_of, is_port, is_supply}
use Rattle.night.specs.Layout.{PortGroup, four_bytes, object_bytes, field_bytes, port_value, firsts, setting_for}

-- ---- numbers of four bytes
pub number_back : (n : ℕ) (l : List ℕ) → number_at (four_bytes n ++ l) 0 ≡ n
unfolding number_at four_bytes
number_back n l = rw (word_of_two (n % 65536), word_of_two (n / 65536) l) (omega (arith, div-add-mod' n 65536))

-- ---- a field, with any bytes behind it
pub field_length : (tag : ℕ) (v : List ℕ) → length (field_bytes tag v) ≡ 3 + length v
unfolding field_bytes
field_length tag v = omega arith

module _ (tag : ℕ) (v rest : List ℕ) where
  pub tag_back : tag_of (field_bytes tag v ++ rest) ≡ tag
  unfolding tag_of field_bytes
  tag_back = refl

  pub length_back : length_of (field_bytes tag v ++ rest) ≡ length v
  unfolding length_of field_bytes
  length_back = word_of_two (length v) (v ++ rest)

  pub size_back : size_of (field_bytes tag v ++ rest) ≡ length (field_bytes tag v)
  unfolding size_of
  size_back = rw (length_back, field_length tag v)

  pub whole_back : is_whole (field_bytes tag v ++ rest) ≡ true
  unfolding is_whole
  whole_back = rw (size_back, length-append (field_bytes tag v) rest) (le-leb (length (field_bytes tag v)) (length (field_bytes tag v) + length rest) (omega arith))

  pub value_back : value_of (field_bytes tag v ++ rest) ≡ v
  unfolding value_of field_bytes
  value_back = rw (whole_back, length_back) (take-append_seam v rest)

  pub rest_back : drop (size_of (field_bytes tag v ++ rest)) (field_bytes tag v ++ rest) ≡ rest
  rest_back = rw size_back (drop_at (field_bytes tag v) rest (length (field_bytes tag v)) refl)

-- ---- the objects of an offer
pub objects_length : (os : List ℕ) → length (object_bytes os) ≡ 4 * length os
unfolding object_bytes four_bytes
objects_length [] = refl
objects_length (o ∷ os) = omega (arith, objects_length os)

abbrev numbers : ℕ → List ℕ → List ℕ
numbers zero l = []
numbers (suc n) l = number_at l 0 ∷ numbers n (drop 4 l)

none_there : number_at [] 0 ≡ 0
unfolding number_at word_of
none_there = refl

numbers_back : (n : ℕ) (os : List ℕ) → numbers n (object_bytes os) ≡ firsts 0 n os
unfolding object_bytes four_bytes
numbers_back zero os = refl
numbers_back (suc n) [] = rw (none_there, numbers_back n [])
numbers_back (suc n) (o ∷ os) = rw (number_back o (object_bytes os), numbers_back n os)

objects_are : (l : List ℕ) → (offer_in l).objects ≡ numbers 7 l
unfolding offer_in number_at
objects_are l = simp drop-drop

pub offer_back : (os : List ℕ) → length os ≤ 7 → offer_in (object_bytes os) ≡ record { objects = firsts 0 7 os; count = length os }
unfolding offer_in
offer_back os few =
    λ i. record { objects = (objects_are (object_bytes os) ∙ numbers_back 7 os) i; count = counted i }
  where
    counted : min (length (object_bytes os) / 4) 255 ≡ length os
    counted = rw (objects_length os) (omega arith)

-- ---- a port group
module _ (p : PortGroup) where
  pub value_length : length (port_value p) ≡ 17 + 4 * length p.objects
  unfolding port_value field_bytes four_bytes
  value_length = omega (arith, objects_length p.objects)

  heads : (head_is (port_value p) 0 19 4 ≡ true) × (head_is (port_value p) 7 20 4 ≡ true)
  unfolding head_is tag_of length_of word_of port_value field_bytes four_bytes
  heads = (refl, refl)

  last_head : (n : ℕ) → length (object_bytes p.objects) ≡ n → head_is (port_value p) 14 21 n ≡ true
  unfolding head_is tag_of length_of port_value field_bytes four_bytes
  last_head n e = eq-eqb _ n (word_of_two (length (object_bytes p.objects)) (object_bytes p.objects) ∙ e)

  is_setting_lem : is_setting (port_value p) ≡ true
  unfolding is_setting
  is_setting_lem =
      let k : ℕ = length p.objects in
      rw (value_length, le-leb 17 (17 + 4 * k) (omega arith), eq-eqb ((17 + 4 * k - 17) % 4) 0 (omega arith), heads.0, heads.1)
      (last_head (17 + 4 * k - 17) (omega (arith, objects_length p.objects)))

  share_back : number_at (port_value p) 3 ≡ p.share
  unfolding number_at port_value field_bytes four_bytes
  share_back = number_back p.share _

  limit_back : number_at (port_value p) 10 ≡ p.limit
  unfolding number_at port_value field_bytes four_bytes
  limit_back = number_back p.limit _

  objects_behind : drop 17 (port_value p) ≡ object_bytes p.objects
  unfolding port_value field_bytes four_bytes
  objects_behind = refl

  pub setting_back : length p.objects ≤ 7 → setting_of (port_value p) ≡ setting_for p
  unfolding setting_of
  setting_back few =
      λ i. record { share = share_back i; limit = limit_back i; offer = (ap offer_in objects_behind ∙ offer_back p.objects few) i }

  module _ (rest : List ℕ) where
    pub is_port_lem : is_port (field_bytes 17 (port_value p) ++ rest) ≡ true
    unfolding is_port
    is_port_lem = rw (tag_back 17 (port_value p) rest, value_back 17 (port_value p) rest, is_setting_lem)

    pub no_supply : is_supply (field_bytes 17 (port_value p) ++ rest) ≡ false
    unfolding is_supply head_is
    no_supply = rw (tag_back 17 (port_value p) rest) (and-false (eqb (length (field_bytes 17 (port_value p) ++ rest)) 7))

-- ---- the supply
pub is_supply_lem : (supply : ℕ) → is_supply (field_bytes 18 (four_bytes supply)) ≡ true
unfolding is_supply head_is tag_of length_of word_of field_bytes four_bytes
is_supply_lem supply = refl

pub supply_back : (supply : ℕ) → number_at (field_bytes 18 (four_bytes supply)) 3 ≡ supply
unfolding number_at field_bytes four_bytes
supply_back supply = number_back supply []
