-- An object goes out in four bytes, least first, and is read back from them. Assumes nothing.
use Prim.Native.Nat.{ℕ, ◌+◌, ◌*◌, ◌/◌, ◌%◌, ◌<◌}
use native.Mathlib.Nat.{div-add-mod', div-div-eq-div-mul, mod-eq_of_lt}
use native.Mathlib.Omega.{arith}
use mathlib.Core.Path.{◌≡◌, sym, subst}
use mathlib.Core.List.{List, ◌++◌}
use Rattle.message.specs.Bytes.{word_of}
use Rattle.outgoing.specs.Packets.{four_bytes}
use Rattle.port.specs.Packets.{first_object}

-- digits to the base 256, put together
fold : (x p q r a b c d : ℕ) → x ≡ p * 256 + a → p ≡ q * 256 + b → q ≡ r * 256 + c → r ≡ d → a + b * 256 + (c + d * 256) * 65536 ≡ x
fold x p q r a b c d = omega arith

digit : (x a n : ℕ) → x / a / 256 ≡ x / n → x / a ≡ x / n * 256 + x / a % 256
digit x a n g = subst (λ (y : ℕ). x / a ≡ y * 256 + x / a % 256) g (sym (div-add-mod' (x / a) 256))

last : (x : ℕ) → x < 4294967296 → x / 16777216 < 256
last x h = omega arith

-- THE CLAIM
pub object_reads_back : (x : ℕ) (rest : List ℕ) → x < 4294967296 → first_object (four_bytes x ++ rest) ≡ x
unfolding first_object word_of
object_reads_back x rest h =
    fold x (x / 256) (x / 65536) (x / 16777216) (x % 256) (x / 256 % 256) (x / 65536 % 256) (x / 16777216 % 256) (sym (div-add-mod' x 256)) (digit x 256 65536 (div-div-eq-div-mul x 256 256))
    (digit x 65536 16777216 (div-div-eq-div-mul x 65536 256))
    (sym (mod-eq_of_lt (last x h)))
