-- Laws of a message's bytes: its header is its first word, its objects are the rest, and bytes are those of their first word and their rest.
-- Assumes nothing.
use Prim.Native.Nat.{ℕ, zero, suc, ◌+◌, ◌*◌, ◌/◌, ◌%◌, ◌<◌, ◌≤◌}
use native.Mathlib.Nat.{div-add-mod', le_of_suc-le-suc, not-suc-le-zero}
use native.Mathlib.Omega.{arith}
use mathlib.Core.Path.{◌≡◌, refl}
use mathlib.Core.Bool.{Bool, true, ◌&&◌}
use mathlib.Core.List.{List, [], ◌∷◌, ◌++◌}
use lib.Dec.{T, ltb, ltb→lt}
use lib.ListN.{length, drop}
use Rattle.ground.proofs.Rows.{both}
use Rattle.message.specs.declared.Fields.{Fields}
use Rattle.message.specs.Header.{header_of}
use Rattle.message.specs.Bytes.{two_bytes, bytes_of, word_of, is_chunked, AreBytes}

pub word_of_two : (w : ℕ) (o : List ℕ) → word_of (two_bytes w ++ o) ≡ w
unfolding word_of
word_of_two w o = omega (arith, div-add-mod' w 256)

module _ (f : Fields) (o : List ℕ) where
  pub header_first : word_of (bytes_of f o) ≡ header_of f (length o / 4)
  unfolding bytes_of
  header_first = word_of_two (header_of f (length o / 4)) o

  pub objects_rest : drop 2 (bytes_of f o) ≡ o
  unfolding bytes_of
  objects_rest = refl

  pub length_bytes : length (bytes_of f o) ≡ 2 + length o
  unfolding bytes_of
  length_bytes = omega arith

module _ (s : List ℕ) (b : AreBytes s) where
  pub word< : word_of s < 65536
  unfolding word_of
  word< = omega (arith, b 0, b 1)

low : (x y : ℕ) → x < 256 → (x + y * 256) % 256 ≡ x
low x y h = omega arith

high : (x y : ℕ) → x < 256 → (x + y * 256) / 256 ≡ y
high x y h = omega arith

pub two_of_word : (s : List ℕ) → AreBytes s → 2 ≤ length s → two_bytes (word_of s) ++ drop 2 s ≡ s
unfolding word_of
two_of_word [] b h = absurd (not-suc-le-zero h)
two_of_word (x ∷ []) b h = absurd (not-suc-le-zero (le_of_suc-le-suc h))
two_of_word (x ∷ (y ∷ s)) b h = rw (low x y (b 0), high x y (b 0)) refl

-- an extended header that says Chunked is there
pub chunked_there : (o : List ℕ) → is_chunked o ≡ true → 1 ≤ length o
unfolding is_chunked word_of
chunked_there [] e = let z : ◌≡◌ {A = ℕ} 0 1 = cc in absurd (omega arith)
chunked_there (x ∷ o) e = omega arith

-- a list is of bytes if one test, which the checker computes, says so
abbrev pub all_below256 : List ℕ → Bool
all_below256 [] = true
all_below256 (x ∷ s) = ltb x 256 && all_below256 s

pub are_bytes : (s : List ℕ) → T (all_below256 s) → AreBytes s
are_bytes [] t i = omega arith
are_bytes (x ∷ s) t zero = ltb→lt x 256 (both (ltb x 256) (all_below256 s) t).0
are_bytes (x ∷ s) t (suc i) = are_bytes s (both (ltb x 256) (all_below256 s) t).1 i
