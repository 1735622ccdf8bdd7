-- Laws of a sum over the places 0 to n - 1: of two sums that differ at one place, of one that leaves a place out. Assumes nothing.
use Prim.Native.Nat.{ℕ, zero, suc, ◌+◌, ◌<◌, ◌≤◌}
use native.Mathlib.Nat.{not-suc-le-zero}
use native.Mathlib.Omega.{arith}
use mathlib.Core.Path.{◌≡◌, refl, sym, subst}
use mathlib.Core.Bool.{Bool, true, false, cond}
use lib.Dec.{eqb}
use borrow.Author.Tests.{eqb-true, eqb-false, eq-eqb, ne_eqb}
use Rattle.rack.specs.Ports.{total}

-- not the last of n + 1 places, so one of n
pub below : (n i : ℕ) → i < suc n → (i ≡ n → ⊥) → i < n
below n i h d = omega (arith, d)

above : (k n i : ℕ) → k < n → k ≡ i → i ≡ n → ⊥
above k n i h p q = omega arith

-- sums of the same numbers, and of larger ones
pub total_same : (f g : ℕ → ℕ) (n : ℕ) → ((k : ℕ) → k < n → f k ≡ g k) → total f n ≡ total g n
total_same f g zero h = refl
total_same f g (suc n) h = rw (total_same f g n (λ k l. h k (omega arith)), h n (omega arith)) refl

pub total_larger : (f g : ℕ → ℕ) (n : ℕ) → ((k : ℕ) → k < n → f k ≤ g k) → total f n ≤ total g n
total_larger f g zero h = omega arith
total_larger f g (suc n) h = omega (arith, total_larger f g n (λ k l. h k (omega arith)), h n (omega arith))

-- each number is at most the sum
pub total_part : (f : ℕ → ℕ) (n i : ℕ) → i < n → f i ≤ total f n
total_part f zero i h = absurd (not-suc-le-zero h)
total_part f (suc n) i h = by_test (eqb i n) refl (λ l. total_part f n i l)
  where
    by_test : (b : Bool) → eqb i n ≡ b → (i < n → f i ≤ total f n) → f i ≤ total f (suc n)
    by_test true e rest = subst (λ (k : ℕ). f k ≤ total f (suc n)) (sym (eqb-true i n e)) (omega arith)
    by_test false e rest = omega (arith, rest (below n i h (eqb-false i n e)))

-- two sums that differ at one place
pub total_change : (f g : ℕ → ℕ) (n i : ℕ) → i < n → ((k : ℕ) → (k ≡ i → ⊥) → f k ≡ g k) → total f n + g i ≡ total g n + f i
total_change f g zero i h same = absurd (not-suc-le-zero h)
total_change f g (suc n) i h same = by_test (eqb i n) refl (λ l. total_change f g n i l same)
  where
    by_test : (b : Bool) → eqb i n ≡ b → (i < n → total f n + g i ≡ total g n + f i) → total f (suc n) + g i ≡ total g (suc n) + f i
    by_test true e rest = rw (eqb-true i n e, total_same f g n (λ k l. same k (λ q. above k n i l q (eqb-true i n e)))) (omega arith)
    by_test false e rest = omega (arith, rest (below n i h (eqb-false i n e)), same n (λ q. eqb-false i n e (sym q)))

-- the sum that leaves a place out
module _ (f : ℕ → ℕ) (i : ℕ) where
  abbrev pub without : ℕ → ℕ
  without k = cond (eqb k i) 0 (f k)

  pub total_without : (n : ℕ) → i < n → total without n + f i ≡ total f n
  total_without n h = omega (arith, total_change without f n i h other, left_out)
    where
      other : (k : ℕ) → (k ≡ i → ⊥) → without k ≡ f k
      other k d = rw (ne_eqb k i d) refl

      left_out : without i ≡ 0
      left_out = rw (eq-eqb i i refl) refl
