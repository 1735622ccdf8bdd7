-- What is left of a supply: so much fits beside the others exactly when all of it together is at most the supply. Assumes nothing.
use Prim.Native.Nat.{ℕ, ◌+◌, ◌-◌, ◌≤◌, ◌<◌}
use native.Mathlib.Omega.{arith}
use mathlib.Core.Path.{◌≡◌, refl, sym}
use mathlib.Core.Bool.{Bool, true, false}
use lib.Dec.{leb}
use borrow.Author.Tests.{leb-true, leb-false, le-leb, lt-leb}

by_test : (others load supply : ℕ) (b : Bool) → leb load (supply - others) ≡ b → others ≤ supply → b ≡ leb (others + load) supply
by_test others load supply true e h = sym (le-leb (others + load) supply (omega (arith, leb-true load (supply - others) e)))
by_test others load supply false e h = sym (lt-leb (others + load) supply (omega (arith, leb-false load (supply - others) e)))

pub room : (others load supply : ℕ) → others ≤ supply → leb load (supply - others) ≡ leb (others + load) supply
room others load supply h = by_test others load supply (leb load (supply - others)) refl h

pub no_room : (others load supply : ℕ) → supply < others → false ≡ leb (others + load) supply
no_room others load supply h = sym (lt-leb (others + load) supply (omega (arith, h)))
