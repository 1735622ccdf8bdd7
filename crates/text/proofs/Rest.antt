-- Laws of bytes typed one after the other: what is left falls by one at each turn. Assumes nothing.
use Prim.Native.Nat.{ℕ, ◌+◌, ◌-◌, ◌<◌, ◌≤◌}
use native.Mathlib.Nat.{not-suc-le-zero}
use native.Mathlib.Numerals.{add-one}
use native.Mathlib.Omega.{arith}
use mathlib.Core.Path.{◌≡◌, refl}
use mathlib.Core.List.{List, [], ◌∷◌}
use lib.ListN.{length, take, drop, get_or, drop_of_length-le}
use lib.Seq.{drop-cons}
use Rattle.ground.proofs.Parts.{rest}
use Rattle.text.specs.Text.{Line, typed, hex_of, typed_rest, typed_bytes}

-- no byte: a dash
pub nothing : (s : List ℕ) (l : Line) → length s < 1 → typed_bytes s l ≡ typed (45 ∷ []) l
unfolding typed_bytes
nothing [] l h = refl
nothing (b ∷ s) l h = absurd (omega arith)

-- at least one byte: it, and the rest
pub begun : (s : List ℕ) (l : Line) → 0 < length s → typed_bytes s l ≡ typed_rest (take (length s - 1) (drop 1 s)) (typed (hex_of (get_or s 0 0)) l)
unfolding typed_bytes
begun [] l h = absurd (not-suc-le-zero h)
begun (b ∷ s) l h = rw (rest 1 (b ∷ s))

-- one byte more
pub gone_on : (s : List ℕ) (i : ℕ) (l : Line) → i < length s → typed_rest (drop i s) l ≡ typed_rest (drop (i + 1) s) (typed (hex_of (get_or s i 0)) (typed (32 ∷ []) l))
unfolding typed_rest
gone_on s i l h = rw (add-one, drop-cons s i 0 h)

-- none left
pub ended : (s : List ℕ) (i : ℕ) (l : Line) → length s ≤ i → typed_rest (drop i s) l ≡ l
unfolding typed_rest
ended s i l h = rw (drop_of_length-le s h)
