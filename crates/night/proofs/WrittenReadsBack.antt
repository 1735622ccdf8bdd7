-- A set-up that is laid out as docs/NIGHT.md says reads back, whatever bytes stand behind it: any ports, their numbers and objects, and the supply.
-- Assumes nothing.
use Prim.Native.Nat.{ℕ, zero, suc, ◌+◌, ◌-◌, min, ◌<◌, ◌≤◌}
use native.Mathlib.Omega.{arith}
use mathlib.Core.Path.{◌≡◌, refl, ap, ◌∙◌}
use mathlib.Core.Bool.{Bool, true, false, cond}
use mathlib.Core.List.{List, [], ◌∷◌, ◌++◌, map, map-append, append-nil}
use lib.Dec.{ltb}
use lib.ListN.{length, set, length-append, length-map}
use lib.Seq.{append_snoc}
use borrow.Author.Tests.{ltb-false}
use Rattle.message.specs.Bytes.{AreBytes}
use Rattle.rack.specs.Ports.{most_ports}
use Rattle.night.specs.declared.Found.{Found}
use Rattle.night.specs.Fields.{size_of}
use Rattle.night.specs.Events.{kind_of, next_of}
use Rattle.night.specs.SetUps.{nobody, placed, supplied, group_in, set_up_in}
use Rattle.night.specs.Layout.{PortGroup, four_bytes, field_bytes, port_value, rack_value, rack_bytes, firsts, setting_for, set_up_for, Every, FitGroup, Fit}
use Rattle.night.proofs.Groups.{by_supply, by_port}
use Rattle.night.proofs.LaidOutBytes.{rack_bytes_lem}
use Rattle.night.proofs.LaidOut.{field_length, tag_back, size_back, whole_back, value_back, rest_back, setting_back, is_port_lem, no_supply, is_supply_lem, supply_back}
use Rattle.std.specs.Prelude.{Some}

-- ---- one more behind the first n
module _ {A : Type 0} (d x : A) where
  one_more : (n : ℕ) (l : List A) → set (firsts d n l) (length l) x ≡ firsts d n (l ++ (x ∷ []))
  one_more zero l = refl
  one_more (suc n) [] = refl
  one_more (suc n) (y ∷ l) = ap (λ (k : List A). y ∷ k) (one_more n l)

  no_room : (n : ℕ) (l : List A) → n ≤ length l → firsts d n l ≡ firsts d n (l ++ (x ∷ []))
  no_room zero l h = refl
  no_room (suc n) [] h = absurd (omega arith)
  no_room (suc n) (y ∷ l) h = ap (λ (k : List A). y ∷ k) (no_room n l (omega arith))

placed_in : {A B : Type 0} (d : B) (f : A → B) (l : List A) (x : A) (n : ℕ) (b : Bool) → ltb (length l) n ≡ b →
    cond b (set (firsts d n (map f l)) (length l) (f x)) (firsts d n (map f l)) ≡ firsts d n (map f (l ++ (x ∷ [])))
placed_in d f l x n true e = rw (map-append, ← length-map l f) (one_more d (f x) n (map f l))
placed_in d f l x n false e = rw map-append (no_room d (f x) n (map f l) (omega (arith, ltb-false (length l) n e, length-map l f)))

placed_more : (before : List PortGroup) (p : PortGroup) → length before < 255 → placed (set_up_for before 0) (setting_for p) ≡ set_up_for (before ++ (p ∷ [])) 0
unfolding placed
placed_more before p h =
    λ i. record { settings = placed_in nobody setting_for before p most_ports (ltb (length before) most_ports) refl i; count = counted i; supply = 0 }
  where
    counted : min (length before + 1) 255 ≡ length (before ++ (p ∷ []))
    counted = rw (length-append before (p ∷ [])) (omega arith)

-- ---- the groups, from the ports before them on
groups_back : (ports : List PortGroup) (supply n : ℕ) (before : List PortGroup) → length ports < n → Every FitGroup ports → length before + length ports ≤ 255 →
    group_in n (set_up_for before 0) (rack_value ports supply) ≡ supplied (set_up_for (before ++ ports) 0) supply
unfolding rack_value
groups_back [] supply n before h fit few =
    by_supply (set_up_for before 0) (field_bytes 18 (four_bytes supply)) n h (is_supply_lem supply) ∙ rw (supply_back supply, append-nil before)
groups_back (p ∷ ports) supply n before h fit few =
    by_port (set_up_for before 0) (field_bytes 17 (port_value p) ++ rack_value ports supply) n (omega arith) (no_supply p (rack_value ports supply)) (is_port_lem p (rack_value ports supply))
    ∙ rw (value_back 17 (port_value p) (rack_value ports supply), setting_back p fit.0.few, rest_back 17 (port_value p) (rack_value ports supply), placed_more before p (omega arith))
    (groups_back ports supply (n - 1) (before ++ (p ∷ [])) (omega arith) fit.1 (omega (arith, length-append before (p ∷ []))) ∙ rw (append_snoc before p ports))

enough : (ports : List PortGroup) (supply : ℕ) → length ports < length (rack_value ports supply)
unfolding rack_value
enough [] supply = omega (arith, field_length 18 (four_bytes supply))
enough (p ∷ ports) supply = rw (length-append (field_bytes 17 (port_value p))) (omega (arith, field_length 17 (port_value p), enough ports supply))

module _ (ports : List PortGroup) (supply : ℕ) (fit : Fit ports supply) where
  -- THE CLAIM: a set-up can be laid out in a file: it is bytes
  pub is_bytes : AreBytes (rack_bytes ports supply)
  is_bytes = rack_bytes_lem ports supply fit

  module _ (rest : List ℕ) where
    -- THE CLAIM: it is found to be a set-up, of as many bytes as were laid out
    pub found : next_of (rack_bytes ports supply ++ rest) ≡ Found.SetUp
    unfolding next_of kind_of rack_bytes
    found = rw (whole_back 16 (rack_value ports supply) rest, tag_back 16 (rack_value ports supply) rest)

    pub all_of_it : size_of (rack_bytes ports supply ++ rest) ≡ length (rack_bytes ports supply)
    unfolding rack_bytes
    all_of_it = size_back 16 (rack_value ports supply) rest

    -- THE CLAIM: and exactly that set-up is read
    pub reads_back : set_up_in (rack_bytes ports supply ++ rest) ≡ Some (set_up_for ports supply)
    unfolding set_up_in rack_bytes
    reads_back =
        rw (value_back 16 (rack_value ports supply) rest)
        (groups_back ports supply (length (rack_value ports supply)) [] (enough ports supply) fit.groups (omega (arith, fit.few)))
