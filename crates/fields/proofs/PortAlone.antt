-- A field that a port answers by itself comes to just that over the whole rack, and a loop may go on with it. Assumes nothing.
use Prim.Native.Nat.{ℕ, ◌+◌, ◌-◌, ◌%◌, ◌<◌, ◌≤◌}
use native.Mathlib.Omega.{arith}
use mathlib.Core.Path.{◌≡◌, refl, sym, ap, ◌∙◌}
use mathlib.Core.Bool.{Bool, true, false, not, ◌&&◌}
use mathlib.Core.List.{List}
use lib.Dec.{eqb}
use lib.ListN.{length, drop, set}
use borrow.Author.Tests.{eqb-true, not-true}
use Rattle.ground.proofs.Rows.{first, second}
use Rattle.slot.specs.declared.Slot.{Slot}
use Rattle.slot.specs.Answers.{has_asked, settled}
use Rattle.std.specs.Prelude.{Result, Ok, Err}
use Rattle.std.proofs.lemmas.Result.{IfOk-at_ok}
use Rattle.rack.specs.declared.Rack.{Rack}
use Rattle.rack.specs.Ports.{most_ports, at, in_rack, place_of}
use Rattle.rack.specs.Steps.{Happening, event, packet, new_offer, own_answer, answer_at, turned, step}
use Rattle.rack.proofs.Loads.{from_one, place_in_slots}
use Rattle.night.specs.declared.Found.{Found}
use Rattle.night.specs.Fields.{size_of}
use Rattle.night.specs.Events.{next_of, behind_of, offer_of}
use Rattle.fields.specs.declared.Field.{Field}
use Rattle.fields.specs.declared.alone.Alone.{Alone}
use Rattle.fields.specs.Answers.{event_field, field_by, field_of}
use Rattle.fields.specs.PortAlone.{settled_where, elsewhere, answered_alone, own_to, alone_by, alone_of}
use Rattle.fields.proofs.Through.{Going, reaches, goes_on}

-- the rack with another port at a place
abbrev pub with : Rack → ℕ → Slot → Rack
with r i t = record { slots = set r.slots i t; count = r.count; supply = r.supply }

-- the field that such an answer is
abbrev field_with : Found → Rack → ℕ → Alone → Field
field_with found r i x = record { found = found; verdict = x.verdict; actions = x.actions; rack = with r i x.slot; size = x.size }

not_settled : (y x : Alone) → Err y ≡ Ok x → ⊥
not_settled y x e = IfOk-at_ok (λ (z : Alone). ⊥) e tt

-- where a port has answered by itself, that is its answer
is_settled : (b : Bool) (y x : Alone) → settled_where b y ≡ Ok x → (b ≡ true) × (y ≡ x)
is_settled true y x e = (refl, IfOk-at_ok (λ (z : Alone). y ≡ z) e refl)
is_settled false y x e = absurd (not_settled y x e)

module _ (r : Rack) (number : ℕ) (here : in_rack r number ≡ true) where
  -- nobody is asked, and so the port's own answer is the rack's
  not_asking : (h : Happening) → has_asked (at r (place_of number)).port (own_answer r (place_of number) h).port ≡ false → step r number h ≡ turned r (place_of number) (own_answer r (place_of number) h)
  unfolding step answer_at settled
  not_asking h e = rw (here, e) refl

  an_event : (found : Found) (n size : ℕ) (h : Happening) (x : Alone) → answered_alone (at r (place_of number)) (eqb n number) (own_to (at r (place_of number)) h) size ≡ Ok x →
      event_field found (step r n h) size ≡ field_with found r (place_of number) x
  an_event found n size h x e =
      let asked : Bool = has_asked (at r (place_of number)).port (own_answer r (place_of number) h).port in
      let (settled, answer) = is_settled (eqb n number && not asked) _ x e in
      let this : n ≡ number = eqb-true n number (first (eqb n number) (not asked) settled) in
      let none : asked ≡ false = not-true asked (second (eqb n number) (not asked) settled) in
      ap (λ (k : ℕ). event_field found (step r k h) size) this
      ∙ ap (λ a. event_field found a size) (not_asking h none)
      ∙ ap (field_with found r (place_of number)) answer

  by_found : (found : Found) (l : List ℕ) (x : Alone) → alone_by found (at r (place_of number)) number l ≡ Ok x → field_by found r l ≡ Ok (field_with found r (place_of number) x)
  by_found Found.Cut l x e = absurd (not_settled (elsewhere (at r (place_of number))) x e)
  by_found Found.UnknownTag l x e = absurd (not_settled (elsewhere (at r (place_of number))) x e)
  by_found Found.WrongLength l x e = absurd (not_settled (elsewhere (at r (place_of number))) x e)
  by_found Found.SetUp l x e = absurd (not_settled (elsewhere (at r (place_of number))) x e)
  by_found (Found.Event n v) l x e = ap Ok (an_event (Found.Event n v) n (size_of l) (event v) x e)
  by_found (Found.Packet n) l x e = ap Ok (an_event (Found.Packet n) n (size_of l) (packet (behind_of l)) x e)
  by_found (Found.NewOffer n) l x e = ap Ok (an_event (Found.NewOffer n) n (size_of l) (new_offer (offer_of l)) x e)

  -- THE CLAIM: where a port has answered by itself, that is what the field comes to
  pub comes_to_lem : (l : List ℕ) (x : Alone) → alone_of (at r (place_of number)) number l ≡ Ok x → field_of r l ≡ Ok (field_with (next_of l) r (place_of number) x)
  unfolding field_of alone_of
  comes_to_lem l x e = by_found (next_of l) l x e

-- ---- in a loop that goes through the fields one by one, and finds a port's place by a remainder, which is a place for any number
module _ {r : Rack} {l : List ℕ} {rack : Rack} {place left : ℕ} (g : Going r l rack place left) (s : List ℕ) (is : s ≡ drop place l)
    (number i : ℕ)
    (isi : i ≡ (number + most_ports - 1) % most_ports)
    (o : Result Alone Alone)
    (iso : o ≡ alone_of (at rack i) number s)
    (x : Alone)
    (isx : o ≡ Ok x)
    (here : in_rack rack number ≡ true) where
  there : i ≡ place_of number
  there = isi ∙ omega (arith, from_one rack number here, place_in_slots rack number here)

  this_field : Ok (field_with (next_of s) rack i x) ≡ field_of rack s
  this_field = rw there (sym (comes_to_lem rack number here s x (ap (λ (k : ℕ). alone_of (at rack k) number s) (sym there) ∙ sym iso ∙ isx)))

  pub reaches_alone : place + x.size ≤ length l
  reaches_alone = reaches g s is (Ok (field_with (next_of s) rack i x)) this_field (field_with (next_of s) rack i x) refl

  pub goes_on_alone : 0 < left → Going r l (with rack i x.slot) (place + x.size) (left - 1)
  goes_on_alone h = goes_on g s is (Ok (field_with (next_of s) rack i x)) this_field (field_with (next_of s) rack i x) refl h
