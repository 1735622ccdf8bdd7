-- The sum of the loads, kept through a change of one port. Assumes nothing.
use Prim.Native.Nat.{ℕ, zero, suc, ◌+◌, ◌-◌, ◌*◌, ◌<◌, ◌≤◌}
use native.Mathlib.Omega.{arith}
use native.Mathlib.Decide.{ℕ_discrete}
use mathlib.Core.Path.{◌≡◌, sym, ap}
use mathlib.Core.List.{List}
use lib.ListN.{length, set}
use lib.Seq.{get_or-set_same, get_or-set_other}
use Rattle.slot.specs.declared.Slot.{Slot}
use Rattle.slot.specs.Load.{load_of}
use Rattle.rack.specs.declared.Rack.{Rack}
use Rattle.rack.specs.Ports.{most_ports, nobody, at, ports_in, total, loads}
use Rattle.rack.proofs.Totals.{total_part, total_change}
use Rattle.playing.specs.Meeting.{Small}

-- what the loop holds, as a rack
abbrev pub rack_in : List Slot → ℕ → ℕ → Rack
rack_in slots count supply = record { slots = slots; count = count; supply = supply }

total_below : (f : ℕ → ℕ) (n : ℕ) → ((k : ℕ) → k < n → f k < 4294967296) → total f n ≤ n * 4294967295
total_below f zero h = omega arith
total_below f (suc n) h = let a = h n (omega arith) in let b = total_below f n (λ k l. h k (omega arith)) in omega arith

-- a port's load can be taken out of the sum, and another fits in its place
pub weighs : (r : Rack) (sum i : ℕ) → sum ≡ loads r → Small r → i < ports_in r → (load_of (at r i) ≤ sum) × (sum ≤ most_ports * 4294967295)
unfolding loads
weighs r sum i e small h =
    let a : load_of (at r i) ≤ total (λ k. load_of (at r k)) (ports_in r) = total_part (λ k. load_of (at r k)) (ports_in r) i h in
    let b : total (λ k. load_of (at r k)) (ports_in r) ≤ ports_in r * 4294967295 = total_below (λ k. load_of (at r k)) (ports_in r) small in
    (omega (arith, e), omega (arith, e))

module _ (slots : List Slot) (count supply i : ℕ) (u : Slot) (inside : i < length slots) where
  same_there : at (rack_in (set slots i u) count supply) i ≡ u
  same_there = get_or-set_same slots i u nobody inside

  others_stay : (k : ℕ) → (k ≡ i → ⊥) → at (rack_in (set slots i u) count supply) k ≡ at (rack_in slots count supply) k
  others_stay k d = get_or-set_other slots i k u nobody d

  pub small_still : Small (rack_in slots count supply) → load_of u < 4294967296 → Small (rack_in (set slots i u) count supply)
  small_still small w k h =
      elim (ℕ_discrete k i) [
        | yes e ↦ rw (e, same_there) w
        | no d ↦ rw (others_stay k d) (small k h)
      ]

  pub sum_still : (sum : ℕ) → sum ≡ loads (rack_in slots count supply) → i < ports_in (rack_in slots count supply) → sum - load_of (at (rack_in slots count supply) i) + load_of u ≡ loads (rack_in (set slots i u) count supply)
  unfolding loads
  sum_still sum e h =
      let r = rack_in slots count supply in
      let q = rack_in (set slots i u) count supply in
      let f : (ℕ → ℕ) = λ k. load_of (at r k) in
      let g : (ℕ → ℕ) = λ k. load_of (at q k) in
      let a : total f (ports_in r) + g i ≡ total g (ports_in r) + f i = total_change f g (ports_in r) i h (λ k d. sym (ap load_of (others_stay k d))) in
      let b : load_of (at q i) ≡ load_of u = ap load_of same_there in
      let c : load_of (at r i) ≤ total (λ k. load_of (at r k)) (ports_in r) = total_part (λ k. load_of (at r k)) (ports_in r) i h in
      omega (arith, a, b, c, e)
