-- The table's places: a kind's entries are its types' meanings, and a type past them is unsupported. Assumes nothing.
use Prim.Native.Nat.{ℕ, ◌+◌, ◌*◌, ◌/◌, ◌%◌, ◌<◌, ◌≤◌}
use native.Mathlib.Omega.{arith}
use mathlib.Core.Path.{◌≡◌, refl}
use mathlib.Core.Bool.{Bool, true, ◌&&◌}
use mathlib.Core.List.{List, [], ◌∷◌}
use lib.Dec.{T, ltb, ltb→lt}
use borrow.Author.Tests.{ne_eqb}
use Rattle.ground.proofs.Rows.{both}
use Rattle.meaning.specs.declared.Kind.{Kind}
use Rattle.meaning.specs.declared.Kind.TheVariants.{Control, Data, Extended}
use Rattle.meaning.specs.declared.Meaning.TheVariants.{Unsupported}
use Rattle.meaning.specs.Meaning.{Named, named_of, found_in, meaning_of, first_of, entry_of}

-- ---- a kind's entries
row : (r t : ℕ) → t < 32 → (r * 32 + t) / 32 ≡ r
row r t h = omega arith

column : (r t : ℕ) → t < 32 → (r * 32 + t) % 32 ≡ t
column r t h = omega arith

pub entry_is : (k : Kind) (t : ℕ) → t < 32 → entry_of (first_of k + t) ≡ meaning_of k t
unfolding entry_of
entry_is Control t h = rw (row 0 t h, column 0 t h)
entry_is Data t h = rw (row 1 t h, column 1 t h)
entry_is Extended t h = rw (row 2 t h, column 2 t h)

-- ---- past them: every type that is named is below 32, which is one test
abbrev small : List Named → Bool
small [] = true
small (n ∷ ns) = ltb n.type 32 && small ns

not_found : (ns : List Named) (t : ℕ) → T (small ns) → 32 ≤ t → found_in ns t ≡ Unsupported
not_found [] t s h = refl
not_found (n ∷ ns) t s h =
    let here = ltb→lt n.type 32 (both (ltb n.type 32) (small ns) s).0 in
    rw (ne_eqb t n.type (λ e. omega arith)) (not_found ns t (both (ltb n.type 32) (small ns) s).1 h)

pub past : (k : Kind) (t : ℕ) → 32 ≤ t → meaning_of k t ≡ Unsupported
unfolding meaning_of
past Control t h = not_found (named_of Control) t tt h
past Data t h = not_found (named_of Data) t tt h
past Extended t h = refl
