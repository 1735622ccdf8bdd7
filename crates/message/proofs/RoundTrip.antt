-- A header of sixteen bits is its fields and back, for all 65,536 headers and all fields that fit. Assumes nothing.
use Prim.Native.Nat.{ℕ, zero, suc, ◌+◌, ◌*◌, ◌/◌, ◌%◌, ◌<◌}
use native.Mathlib.Nat.{div-add-mod', div-div-eq-div-mul, div-one, mod-mod, mod-eq_of_lt, mul-one}
use native.Mathlib.Omega.{arith}
use mathlib.Core.Path.{◌≡◌, refl, sym, ap, subst, ◌∙◌}
use mathlib.Core.Bool.{Bool, true, false}
use lib.Dec.{eqb}
use Rattle.message.specs.Header.{bit_of, fields_of, objects_of, header_of, Fits}
use Rattle.message.specs.declared.Fields.{Fields}

-- ---- seven digits, each below its field's number of values, and the word that they make
module _ (e o i p r d t : ℕ) (e< : e < 2) (o< : o < 8) (i< : i < 8) (p< : p < 2) (r< : r < 4) (d< : d < 2) (t< : t < 32) where
  abbrev word : ℕ
  word = e * 32768 + o * 4096 + i * 512 + p * 256 + r * 64 + d * 32 + t * 1

  word< : word < 65536
  word< = omega arith

  e_is : word / 32768 % 2 ≡ e
  e_is = omega arith

  o_is : word / 4096 % 8 ≡ o
  o_is = omega arith

  i_is : word / 512 % 8 ≡ i
  i_is = omega arith

  p_is : word / 256 % 2 ≡ p
  p_is = omega arith

  r_is : word / 64 % 4 ≡ r
  r_is = omega arith

  d_is : word / 32 % 2 ≡ d
  d_is = omega arith

  t_is : word / 1 % 32 ≡ t
  t_is = omega arith

bit< : (b : Bool) → bit_of b % 2 < 2
bit< true = omega arith
bit< false = omega arith

bit_back : (b : Bool) → eqb (bit_of b % 2) 1 ≡ b
bit_back true = refl
bit_back false = refl

-- what a law of seven digits says of a header's
module _ (f : Fields) (n : ℕ) where
  of_digits : {A : (e o i p r d t : ℕ) → Type 0} → ((e o i p r d t : ℕ) → e < 2 → o < 8 → i < 8 → p < 2 → r < 4 → d < 2 → t < 32 → A e o i p r d t) →
      A (bit_of f.extended % 2) (n % 8) (f.message_id % 8) (f.power_role % 2) (f.revision % 4) (f.data_role % 2) (f.message_type % 32)
  of_digits law =
      law _ _ _ _ _ _ _ (bit< f.extended) (omega arith) (omega arith) (omega arith) (omega arith) (omega arith) (omega arith)

  pub header< : header_of f n < 65536
  unfolding header_of
  header< = of_digits word<

  pub objects_packed : objects_of (header_of f n) ≡ n % 8
  unfolding header_of objects_of
  objects_packed = of_digits o_is

  -- THE CLAIM: fields that fit come back out of their header
  pub unpack_pack : Fits f → fields_of (header_of f n) ≡ f
  unfolding header_of fields_of
  unpack_pack w =
      λ j. record {
        extended = (ap (λ (x : ℕ). eqb x 1) (of_digits e_is) ∙ bit_back f.extended) j;
        message_id = (of_digits i_is ∙ mod-eq_of_lt w.message_id) j;
        power_role = (of_digits p_is ∙ mod-eq_of_lt w.power_role) j;
        revision = (of_digits r_is ∙ mod-eq_of_lt w.revision) j;
        data_role = (of_digits d_is ∙ mod-eq_of_lt w.data_role) j;
        message_type = (of_digits t_is ∙ mod-eq_of_lt w.message_type) j;
      }

-- THE CLAIM: a number of objects that fits comes back out of its header
pub objects_pack : (f : Fields) (n : ℕ) → n < 8 → objects_of (header_of f n) ≡ n
objects_pack f n n< = objects_packed f n ∙ mod-eq_of_lt n<

-- ---- a word, and the digits that it makes
fold : (h q₅ q₆ q₈ q₉ q₁₂ q₁₅ e o i p r d t : ℕ) → h ≡ q₅ * 32 + t → q₅ ≡ q₆ * 2 + d → q₆ ≡ q₈ * 4 + r → q₈ ≡ q₉ * 2 + p → q₉ ≡ q₁₂ * 8 + i → q₁₂ ≡ q₁₅ * 8 + o → q₁₅ ≡ e →
    e * 32768 + o * 4096 + i * 512 + p * 256 + r * 64 + d * 32 + t ≡ h
fold h q₅ q₆ q₈ q₉ q₁₂ q₁₅ e o i p r d t = omega arith

-- what lies above a field, times its number of values, and the field
digit : (h a b n : ℕ) → h / a / b ≡ h / n → h / a ≡ h / n * b + h / a % b
digit h a b n g = subst (λ (x : ℕ). h / a ≡ x * b + h / a % b) g (sym (div-add-mod' (h / a) b))

bit_is : (x : ℕ) → x < 2 → bit_of (eqb x 1) % 2 ≡ x
bit_is zero x< = refl
bit_is (suc zero) x< = refl
bit_is (suc (suc x)) x< = absurd (omega arith)

-- THE CLAIM: a header comes back out of its fields
pub pack_unpack : (h : ℕ) → h < 65536 → header_of (fields_of h) (objects_of h) ≡ h
unfolding header_of fields_of objects_of
pack_unpack h h< =
    simp (bit_is (h / 32768 % 2) (omega arith), mod-mod, div-one, mul-one)
    (fold h (h / 32) (h / 64) (h / 256) (h / 512) (h / 4096) (h / 32768) _ _ _ _ _ _ _
    (sym (div-add-mod' h 32))
    (digit h 32 2 64 (div-div-eq-div-mul h 32 2))
    (digit h 64 4 256 (div-div-eq-div-mul h 64 4))
    (digit h 256 2 512 (div-div-eq-div-mul h 256 2))
    (digit h 512 8 4096 (div-div-eq-div-mul h 512 8))
    (digit h 4096 8 32768 (div-div-eq-div-mul h 4096 8))
    (omega arith))

-- what comes out of a header fits
pub fields_fit : (h : ℕ) → Fits (fields_of h)
unfolding fields_of
fields_fit h = record { message_id = omega arith; power_role = omega arith; revision = omega arith; data_role = omega arith; message_type = omega arith }

pub objects< : (h : ℕ) → objects_of h < 8
unfolding objects_of
objects< h = omega arith
