-- What all ports of a rack take of its supply, and what the others take. Assumes nothing.
use Prim.Native.Nat.{ℕ, ◌+◌, ◌-◌, ◌<◌, ◌≤◌}
use native.Mathlib.Omega.{arith}
use mathlib.Core.Path.{◌≡◌, sym, ap, ◌∙◌}
use mathlib.Core.Bool.{true}
use mathlib.Core.List.{List, map}
use lib.Dec.{leb}
use lib.ListN.{length, length-map}
use borrow.Author.Tests.{leb-true}
use Rattle.ground.proofs.Rows.{first, second}
use Rattle.slot.specs.declared.Slot.{Slot}
use Rattle.slot.specs.Load.{load_of}
use Rattle.rack.specs.declared.Rack.{Rack}
use Rattle.rack.specs.Ports.{most_ports, at, ports_in, in_rack, place_of, total, loads, others}
use Rattle.rack.proofs.Totals.{total_without}

-- ---- a number that is in the rack
module _ (r : Rack) (number : ℕ) (h : in_rack r number ≡ true) where
  pub from_one : 1 ≤ number
  from_one = leb-true 1 number (first (leb 1 number) (leb number (ports_in r)) h)

  pub to_the_last : number ≤ ports_in r
  to_the_last = leb-true number (ports_in r) (second (leb 1 number) (leb number (ports_in r)) h)

  pub place_in : place_of number < ports_in r
  place_in = omega (arith, from_one, to_the_last)

  pub place_in_slots : place_of number < most_ports
  place_in_slots = omega (arith, place_in)

-- ---- summing them up
module _ (r : Rack) (sum : ℕ) (i : ℕ) (passed : sum ≡ total (λ k. load_of (at r k)) i) where
  pub load_all : (n : ℕ) → n ≡ ports_in r → i ≤ n → n ≤ i → sum ≡ loads r
  unfolding loads
  load_all n e h l = let all : i ≡ ports_in r = omega (arith, e, h, l) in passed ∙ ap (total (λ k. load_of (at r k))) all

-- ---- the others and this port are all
pub others_and_this : (r : Rack) (i : ℕ) → i < ports_in r → others r i + load_of (at r i) ≡ loads r
unfolding others loads
others_and_this r i h = total_without (λ k. load_of (at r k)) i (ports_in r) h

pub all_but_this : (r : Rack) (i : ℕ) → i < ports_in r → loads r - load_of (at r i) ≡ others r i
all_but_this r i h = omega (arith, others_and_this r i h)

-- a port's load, where the port is told
pub loads_of : {load : ℕ} {s t : Slot} → load ≡ load_of s → s ≡ t → load ≡ load_of t
loads_of e h = e ∙ ap load_of h

-- so much may be taken away
pub less_than_all : (r : Rack) (i load sum : ℕ) → i < ports_in r → load ≡ load_of (at r i) → sum ≡ loads r → load ≤ sum
less_than_all r i load sum h e l = omega (arith, others_and_this r i h, e, l)

-- the length of an array whose elements are read as f gives them
pub long : (X Y : Type 0) (f : X → Y) (l : List X) (n : ℕ) → length (map f l) ≡ n → length l ≡ n
long X Y f l n e = sym (length-map l f) ∙ e
