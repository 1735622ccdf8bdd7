-- Laws of bytes laid over the front of a part, and into a buffer. Assumes nothing.
use Prim.Native.Nat.{ℕ, ◌+◌, ◌-◌, ◌<◌, ◌≤◌}
use native.Mathlib.Omega.{arith}
use mathlib.Core.Path.{◌≡◌, ap, subst, ◌∙◌}
use mathlib.Core.List.{List, ◌++◌, append_assoc}
use lib.ListN.{length, take, drop, get_or, get_or-append, length-append, length-drop}
use lib.Seq.{drop_at, drop-drop, length-take-le, take-append_seam, get_or-take, get_or-drop, get_or-append-add}
use Rattle.ground.specs.Buffers.{over, laid}
use Rattle.ground.proofs.Parts.{rest, lent_back}

-- a part to the end over whose front m was laid, put back
pub over_back : (m ys : List ℕ) (a : ℕ) (l : List ℕ) → ys ≡ over m (take (length l - a) (drop a l)) → take a l ++ (ys ++ drop (length l - a) (drop a l)) ≡ laid m a l
over_back m ys a l e = rw (lent_back ys a l, e, rest a l, drop-drop (length m) a l)

-- ---- where bytes m were laid into a buffer: there they stand, and nowhere else is a byte different
module _ (m buf : List ℕ) (place : ℕ) (within : place ≤ length buf) where
  front : length (take place buf) ≡ place
  front = length-take-le place buf within

  pub stands : take (length m) (drop place (laid m place buf)) ≡ m
  stands = rw (drop_at (take place buf) (m ++ drop (place + length m) buf) place front) (take-append_seam m (drop (place + length m) buf))

  pub before_it : (i : ℕ) → i < place → get_or (laid m place buf) i 0 ≡ get_or buf i 0
  before_it i h = get_or-append (take place buf) (m ++ drop (place + length m) buf) 0 i (rw front h) ∙ get_or-take place buf i 0 h

  seam : length (take place buf ++ m) ≡ place + length m
  seam = length-append (take place buf) m ∙ ap (λ (k : ℕ). k + length m) front

  behind : (j : ℕ) → get_or (laid m place buf) (place + length m + j) 0 ≡ get_or buf (place + length m + j) 0
  behind j = rw (← append_assoc (take place buf) m (drop (place + length m) buf), ← seam) (get_or-append-add (take place buf ++ m) (drop (length (take place buf ++ m)) buf) j 0 ∙ get_or-drop (length (take place buf ++ m)) buf j 0)

  pub behind_it : (i : ℕ) → place + length m ≤ i → get_or (laid m place buf) i 0 ≡ get_or buf i 0
  behind_it i h = subst (λ (k : ℕ). get_or (laid m place buf) k 0 ≡ get_or buf k 0) (omega arith) (behind (i - (place + length m)))

  pub as_long : length m ≤ length buf - place → length (laid m place buf) ≡ length buf
  as_long h = simp (length-append, length-drop) (omega (arith, front))
