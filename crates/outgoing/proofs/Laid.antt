-- Objects laid into a packet one behind the other: what its first bytes are after so many of them. Assumes nothing.
use Prim.Native.Nat.{ℕ, zero, suc, ◌+◌, ◌*◌, ◌<◌}
use native.Mathlib.Nat.{le_of_suc-le-suc, not-suc-le-zero}
use native.Mathlib.Numerals.{add-one}
use native.Mathlib.Omega.{arith}
use mathlib.Core.Path.{◌≡◌, refl, sym, ap, ◌∙◌}
use mathlib.Core.List.{List, [], ◌∷◌, ◌++◌, append_assoc}
use lib.ListN.{length, take, get_or}
use lib.Seq.{take_all}
use borrow.Rule.Slice.PartMut.{put_mid}
use Rattle.std.proofs.lemmas.Slice.{take-put_mid}
use Rattle.outgoing.specs.Packets.{four_bytes, object_bytes, seven}
use Rattle.outgoing.proofs.Whole.{seven_are}

one_more : (l : List ℕ) (i : ℕ) → i < length l → object_bytes (take (suc i) l) ≡ object_bytes (take i l) ++ four_bytes (get_or l i 0)
one_more [] i h = absurd (not-suc-le-zero h)
one_more (x ∷ l) zero h = refl
one_more (x ∷ l) (suc i) h = ap (λ (r : List ℕ). four_bytes x ++ r) (one_more l i (le_of_suc-le-suc h))

module _ (first l bytes : List ℕ) (i : ℕ) (laid : take (2 + 4 * i) bytes ≡ first ++ object_bytes (take i l)) where
  pub laid_more : (k : ℕ) (object : List ℕ) → length bytes ≡ 30 → length l ≡ 7 → i < length l → object ≡ four_bytes (get_or l i 0) →
      take (2 + 4 * (i + 1)) (put_mid (2 + 4 * i) k bytes object) ≡ first ++ object_bytes (take (i + 1) l)
  laid_more k object b n h e =
      let four : length object ≡ 4 = ap length e in
      take-put_mid (2 + 4 * i) k bytes object (2 + 4 * (i + 1)) (omega (arith, four)) (omega arith)
      ∙ ap (λ (r : List ℕ). r ++ object) laid
      ∙ append_assoc first (object_bytes (take i l)) object
      ∙ ap (λ (r : List ℕ). first ++ r) (ap (λ (r : List ℕ). object_bytes (take i l) ++ r) e ∙ sym (one_more l i h) ∙ ap (λ (k : ℕ). object_bytes (take k l)) (sym (add-one i)))

  pub laid_all : length bytes ≡ 30 → length l ≡ 7 → i ≡ 7 → bytes ≡ first ++ object_bytes (seven l)
  laid_all b n e =
      sym (take_all (2 + 4 * i) bytes (omega (arith, b, e))) ∙ laid ∙ ap (λ (r : List ℕ). first ++ object_bytes r) (take_all i l (omega (arith, n, e)) ∙ sym (seven_are l n))
