-- A table whose every entry is given by a rule, so that one comparison, which the checker computes over all of it, settles each entry.
-- Assumes nothing.
use mathlib.Core.Path.{◌≡◌, ◌∙◌, ap, sym}
use mathlib.Core.List.{List, [], ◌∷◌}
use Prim.Native.Nat.{ℕ, zero, suc, ◌+◌, ◌<◌}
use native.Mathlib.Nat.{add-zero, zero-add, add-suc, suc-add, le_of_suc-le-suc, not-suc-le-zero}
use lib.ListN.{get_or}

module _ {A : Type 0} (rule : ℕ → A) where
  -- the n entries that the rule gives from place i on
  abbrev from : ℕ → ℕ → List A
  from i zero = []
  from i (suc n) = rule i ∷ from (suc i) n

  abbrev pub table : ℕ → List A
  table n = from 0 n

  from_at : (d : A) (i n k : ℕ) → k < n → get_or (from i n) k d ≡ rule (i + k)
  from_at d i zero k h = absurd (not-suc-le-zero h)
  from_at d i (suc n) zero h = ap rule (sym (add-zero i))
  from_at d i (suc n) (suc k) h = from_at d (suc i) n k (le_of_suc-le-suc h) ∙ ap rule (suc-add i k ∙ sym (add-suc i k))

  pub at : (d : A) (n k : ℕ) → k < n → get_or (table n) k d ≡ rule k
  at d n k h = from_at d 0 n k h ∙ ap rule (zero-add k)
