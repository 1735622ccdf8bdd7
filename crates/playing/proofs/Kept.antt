-- What holds at the loop's head, and how each field keeps it: what is left of the night, played over what the loop holds, is the whole. Assumes nothing.
use Prim.Native.Nat.{ℕ, zero, suc, ◌+◌, ◌-◌, ◌*◌, ◌<◌, ◌≤◌}
use native.Mathlib.Omega.{arith}
use native.Mathlib.Nat.{not-suc-le-zero}
use mathlib.Core.Path.{◌≡◌, refl, sym, ap, subst, ◌∙◌}
use mathlib.Core.Bool.{Bool, true, false}
use mathlib.Core.List.{List}
use lib.ListN.{length, drop, set, length-drop, length-set}
use lib.Seq.{drop-drop, get_or-set_same}
use borrow.Author.Tests.{leb-true}
use Rattle.ground.specs.declared.Refusal.TheVariants.{NotInRack}
use Rattle.source.specs.declared.State.{State}
use Rattle.port.specs.declared.Answer.{Answer}
use Rattle.port.specs.declared.Port.{Port}
use Rattle.port.specs.Memory.{state_of, no_actions}
use Rattle.portclaims.proofs.Truth.{true_not_false}
use Rattle.slot.specs.declared.Slot.{Slot}
use Rattle.slot.specs.Load.{load_of}
use Rattle.rack.specs.declared.Rack.{Rack}
use Rattle.rack.specs.Ports.{most_ports, nobody, at, ports_in, in_rack, place_of, loads, others, put}
use Rattle.rack.specs.Steps.{Happening, answer_at, turned, refused_by, step}
use Rattle.rack.proofs.Loads.{place_in, place_in_slots, all_but_this}
use Rattle.setup.specs.SetUps.{accepted_set_up, verdict_of, rack_or_none}
use Rattle.night.specs.declared.Found.{Found}
use Rattle.night.specs.Fields.{size_of, is_whole}
use Rattle.night.specs.Events.{next_of}
use Rattle.night.specs.SetUps.{set_up_in}
use Rattle.tally.specs.declared.Tally.{Tally}
use Rattle.tally.specs.Counts.{told, set_up_told}
use Rattle.playing.specs.declared.Played.{Played}
use Rattle.playing.specs.Nights.{begun, answered, event_done, rack_after, set_up_done, field_done, is_readable, night_in, is_set_up}
use Rattle.playing.specs.Meeting.{turn_in, coming_as, stepped_by, held_by, Small}
use Rattle.playing.specs.declared.turns.Turn.{Turn}
use Rattle.playing.proofs.Sums.{rack_in, weighs, small_still, sum_still}
use Rattle.std.specs.Prelude.{Ok, Err, is_some, Result, Some, None, Option, unwrap_or}
use Rattle.ground.specs.declared.Refusal.{Refusal}
use Rattle.setup.specs.declared.SetUp.{SetUp}

-- ---- one field of the definition
read_on : (n : ℕ) (p : Played) (l : List ℕ) → 0 < n → is_readable (next_of l) l ≡ true → night_in n p l ≡ night_in (n - 1) (field_done (next_of l) p l) (drop (size_of l) l)
unfolding night_in
read_on zero p l h e = absurd (not-suc-le-zero h)
read_on (suc n) p l h e = let one_less : suc n - 1 ≡ n = omega arith in rw (e, one_less) refl

read_no_more : (n : ℕ) (p : Played) (l : List ℕ) → is_readable (next_of l) l ≡ false → night_in n p l ≡ p
unfolding night_in
read_no_more zero p l e = refl
read_no_more (suc n) p l e = rw e refl

pub none_left : (n : ℕ) (p : Played) (l : List ℕ) → n ≤ 0 → night_in n p l ≡ p
unfolding night_in
none_left zero p l h = refl
none_left (suc n) p l h = absurd (not-suc-le-zero h)

-- ---- what is found
event_readable : (found : Found) (l : List ℕ) {turn : Turn} → turn_in found ≡ Some turn → is_readable found l ≡ true
event_readable Found.Cut l e = true_not_false (sym (ap is_some e))
event_readable Found.UnknownTag l e = true_not_false (sym (ap is_some e))
event_readable Found.WrongLength l e = true_not_false (sym (ap is_some e))
event_readable Found.SetUp l e = true_not_false (sym (ap is_some e))
event_readable (Found.Event number x) l e = refl
event_readable (Found.Packet number) l e = refl
event_readable (Found.NewOffer number) l e = refl

event_done_lem : (found : Found) (p : Played) (l : List ℕ) (turn : Turn) → turn_in found ≡ Some turn → field_done found p l ≡ event_done p turn.number (coming_as turn.coming l) l
event_done_lem Found.Cut p l turn e = true_not_false (sym (ap is_some e))
event_done_lem Found.UnknownTag p l turn e = true_not_false (sym (ap is_some e))
event_done_lem Found.WrongLength p l turn e = true_not_false (sym (ap is_some e))
event_done_lem Found.SetUp p l turn e = true_not_false (sym (ap is_some e))
event_done_lem (Found.Event n x) p l turn e = ap (λ (o : Option Turn). event_done p (unwrap_or o turn).number (coming_as (unwrap_or o turn).coming l) l) e
event_done_lem (Found.Packet n) p l turn e = ap (λ (o : Option Turn). event_done p (unwrap_or o turn).number (coming_as (unwrap_or o turn).coming l) l) e
event_done_lem (Found.NewOffer n) p l turn e = ap (λ (o : Option Turn). event_done p (unwrap_or o turn).number (coming_as (unwrap_or o turn).coming l) l) e

-- neither an event nor a set-up, or a set-up that is not laid out as it must be
unreadable : (found : Found) (l : List ℕ) → turn_in found ≡ None → (found ≡ Found.SetUp → ⊥) → is_readable found l ≡ false
unreadable Found.Cut l e k = refl
unreadable Found.UnknownTag l e k = refl
unreadable Found.WrongLength l e k = refl
unreadable Found.SetUp l e k = absurd (k refl)
unreadable (Found.Event number x) l e k = true_not_false (ap is_some e)
unreadable (Found.Packet number) l e k = true_not_false (ap is_some e)
unreadable (Found.NewOffer number) l e k = true_not_false (ap is_some e)

unlaid : (found : Found) (l : List ℕ) → found ≡ Found.SetUp → is_some (set_up_in l) ≡ false → is_readable found l ≡ false
unlaid found l e k = rw e k

-- a field that is found is whole
whole_found : (l : List ℕ) (b : Bool) → is_whole l ≡ b → (next_of l ≡ Found.Cut → ⊥) → size_of l ≤ length l
unfolding is_whole next_of
whole_found l true e h = leb-true (size_of l) (length l) e
whole_found l false e h = absurd (h (rw e refl))

event_whole : (l : List ℕ) {turn : Turn} → turn_in (next_of l) ≡ Some turn → size_of l ≤ length l
event_whole l e = whole_found l (is_whole l) refl (λ q. true_not_false (sym (ap is_some e) ∙ ap (λ (x : Found). is_some (turn_in x)) q))

set_up_whole : (l : List ℕ) → next_of l ≡ Found.SetUp → size_of l ≤ length l
set_up_whole l e = whole_found l (is_whole l) refl (λ q. true_not_false (ap is_set_up (sym e ∙ q)))

-- ---- an event's answer, as the definition has it
module _ (r : Rack) (tally : Tally) (place number : ℕ) (h : Happening) (f : List ℕ) where
  refused_step : in_rack r number ≡ false → step r number h ≡ refused_by NotInRack r
  unfolding step
  refused_step e = rw e refl

  answered_step : (a : Answer) → in_rack r number ≡ true → answer_at r (place_of number) h ≡ a → step r number h ≡ turned r (place_of number) a
  unfolding step
  answered_step a e q = rw (e, q) refl

  refused_there : in_rack r number ≡ false → event_done (record { rack = r; tally = tally; at = place }) number h f ≡ record { rack = r; tally = told tally number (Err NotInRack) no_actions State.Detached State.Detached 0; at = place + size_of f }
  unfolding event_done answered
  refused_there e = rw (refused_step e) (rw e refl)

  answered_there : (a : Answer) → in_rack r number ≡ true → place_of number < length r.slots → answer_at r (place_of number) h ≡ a →
      event_done (record { rack = r; tally = tally; at = place }) number h f
      ≡ record { rack = put r (place_of number) a.port; tally = told tally number a.verdict a.actions (state_of (at r (place_of number)).port) (state_of a.port) a.port.power.held; at = place + size_of f }
  unfolding event_done answered
  answered_there a e inside q = rw (answered_step a e q) (rw (e, get_or-set_same r.slots (place_of number) (record { port = a.port; share = (at r (place_of number)).share; limit = (at r (place_of number)).limit }) nobody inside) refl)

-- ---- what holds at the loop's head
pub record Kept (r : Rack) (t : Tally) (s : List ℕ) (slots : List Slot) (count supply sum : ℕ) (tally : Tally) (place left : ℕ) : Type 0 where
  pub within : place ≤ length s
  pub long : length slots ≡ most_ports
  pub small : Small (rack_in slots count supply)
  pub sum_is : sum ≡ loads (rack_in slots count supply)
  pub rest : night_in (length s) (begun r t) s ≡ night_in left (held_by slots count supply tally place) (drop place s)

module _ {r : Rack} {t : Tally} {s : List ℕ} {slots : List Slot} {count supply sum : ℕ} {tally : Tally} {place left : ℕ}
    (inv : Kept r t s slots count supply sum tally place left)
    (more : 0 < left)
    (f : List ℕ)
    (isf : f ≡ drop place s)
    (found : Found)
    (isfound : found ≡ next_of f) where
  reaches : size_of f ≤ length f → place + size_of f ≤ length s
  reaches h = omega (arith, inv.within, h, ap length isf ∙ length-drop place s)

  pub event_reaches : {turn : Turn} → turn_in found ≡ Some turn → place + size_of f ≤ length s
  event_reaches e = reaches (event_whole f (ap turn_in (sym isfound) ∙ e))

  pub set_up_reaches : found ≡ Found.SetUp → place + size_of f ≤ length s
  set_up_reaches e = reaches (set_up_whole f (sym isfound ∙ e))

  -- the loop ends here
  stops : is_readable found f ≡ false → held_by slots count supply tally place ≡ night_in (length s) (begun r t) s
  stops e = sym (inv.rest ∙ read_no_more left (held_by slots count supply tally place) (drop place s) (subst (λ (l : List ℕ). is_readable (next_of l) l ≡ false) isf (subst (λ (x : Found). is_readable x f ≡ false) isfound e)))

  pub stops_unlaid : found ≡ Found.SetUp → is_some (set_up_in f) ≡ false → held_by slots count supply tally place ≡ night_in (length s) (begun r t) s
  stops_unlaid e k = stops (unlaid found f e k)

  pub stops_unread : turn_in found ≡ None → (found ≡ Found.SetUp → ⊥) → held_by slots count supply tally place ≡ night_in (length s) (begun r t) s
  stops_unread e k = stops (unreadable found f e k)

  -- the loop goes on, with what the field came to
  goes_on : is_readable found f ≡ true → place + size_of f ≤ length s → (slots' : List Slot) (count' supply' sum' : ℕ) (tally' : Tally) →
      field_done found (held_by slots count supply tally place) f ≡ held_by slots' count' supply' tally' (place + size_of f) →
      length slots' ≡ most_ports → Small (rack_in slots' count' supply') → sum' ≡ loads (rack_in slots' count' supply') →
      Kept r t s slots' count' supply' sum' tally' (place + size_of f) (left - 1)
  goes_on e h slots' count' supply' sum' tally' done l k m =
      let readable : is_readable (next_of f) f ≡ true = subst (λ (x : Found). is_readable x f ≡ true) isfound e in
      record {
        within = h;
        long = l;
        small = k;
        sum_is = m;
        rest =
            inv.rest
            ∙ ap (night_in left (held_by slots count supply tally place)) (sym isf)
            ∙ read_on left (held_by slots count supply tally place) f more readable
            ∙ ap (λ (x : Found). night_in (left - 1) (field_done x (held_by slots count supply tally place) f) (drop (size_of f) f)) (sym isfound)
            ∙ ap (λ (p : Played). night_in (left - 1) p (drop (size_of f) f)) done
            ∙ ap (night_in (left - 1) (held_by slots' count' supply' tally' (place + size_of f))) (ap (drop (size_of f)) isf ∙ drop-drop (size_of f) place s);
      }

  -- an event at a number that is not in the rack
  module _ (turn : Turn) (e : turn_in found ≡ Some turn) (number : ℕ) (isnumber : number ≡ turn.number) where
    by_number : field_done found (held_by slots count supply tally place) f ≡ event_done (held_by slots count supply tally place) number (coming_as turn.coming f) f
    by_number = event_done_lem found (held_by slots count supply tally place) f turn e ∙ ap (λ (n : ℕ). event_done (held_by slots count supply tally place) n (coming_as turn.coming f) f) (sym isnumber)

    pub absent : in_rack (rack_in slots count supply) number ≡ false → (tally' : Tally) → tally' ≡ told tally number (Err NotInRack) no_actions State.Detached State.Detached 0 →
        Kept r t s slots count supply sum tally' (place + size_of f) (left - 1)
    absent k tally' q =
        goes_on (event_readable found f e) (event_reaches e) slots count supply sum tally'
        (by_number ∙ refused_there (rack_in slots count supply) tally place number (coming_as turn.coming f) f k ∙ ap (λ (x : Tally). held_by slots count supply x (place + size_of f)) (sym q))
        inv.long inv.small inv.sum_is

    -- an event at a port of the rack
    module _ (k : in_rack (rack_in slots count supply) number ≡ true) (i : ℕ) (isi : i ≡ place_of number) (slot : Slot) (isslot : slot ≡ at (rack_in slots count supply) i) where
      place_is_in : i < ports_in (rack_in slots count supply)
      place_is_in = omega (arith, place_in (rack_in slots count supply) number k, isi)

      inside : i < length slots
      inside = omega (arith, place_in_slots (rack_in slots count supply) number k, isi, inv.long)

      -- what is to be taken out of the sum, and what is left
      pub can_weigh : (load_of slot ≤ sum) × (sum ≤ most_ports * 4294967295)
      can_weigh = rw isslot (weighs (rack_in slots count supply) sum i inv.sum_is inv.small place_is_in)

      stepped : (a : Answer) → a ≡ stepped_by slot turn.coming f (sum - load_of slot) supply → (sum' : ℕ) (tally' : Tally) →
          sum' ≡ sum - load_of slot + load_of (record { port = a.port; share = slot.share; limit = slot.limit }) →
          load_of (record { port = a.port; share = slot.share; limit = slot.limit }) < 4294967296 →
          tally' ≡ told tally number a.verdict a.actions (state_of slot.port) (state_of a.port) a.port.power.held →
          Kept r t s (set slots i (record { port = a.port; share = slot.share; limit = slot.limit })) count supply sum' tally' (place + size_of f) (left - 1)
      unfolding stepped_by answer_at
      stepped a isa sum' tally' issum light istally =
          let rack = rack_in slots count supply in
          let u : Slot = record { port = a.port; share = slot.share; limit = slot.limit } in
          let others_are : sum - load_of slot ≡ others rack i = rw (isslot, inv.sum_is) (all_but_this rack i place_is_in) in
          let answer : answer_at rack (place_of number) (coming_as turn.coming f) ≡ a = rw (← isi, ← isslot, ← others_are) (sym isa) in
          goes_on (event_readable found f e) (event_reaches e) (set slots i u) count supply sum' tally'
          (by_number ∙ answered_there rack tally place number (coming_as turn.coming f) f a k (omega (arith, inside, isi)) answer ∙ rw (← isi, ← isslot, ← istally) refl)
          (length-set slots i u ∙ inv.long) (small_still slots count supply i u inside inv.small light)
          (issum ∙ ap (λ (x : Slot). sum - load_of x + load_of u) isslot ∙ sum_still slots count supply i u inside sum inv.sum_is place_is_in)

      -- the same with the port laid out anew
      pub present : (a : Answer) → a ≡ stepped_by slot turn.coming f (sum - load_of slot) supply → (q : Port) → q ≡ a.port → (sum' : ℕ) (tally' : Tally) →
          sum' ≡ sum - load_of slot + load_of (record { port = q; share = slot.share; limit = slot.limit }) →
          load_of (record { port = q; share = slot.share; limit = slot.limit }) < 4294967296 →
          tally' ≡ told tally number a.verdict a.actions (state_of slot.port) (state_of a.port) a.port.power.held →
          Kept r t s (set slots i (record { port = q; share = slot.share; limit = slot.limit })) count supply sum' tally' (place + size_of f) (left - 1)
      present a isa q isq sum' tally' issum light istally =
          let u : (Port → Slot) = λ p. record { port = p; share = slot.share; limit = slot.limit } in
          rw isq (stepped a isa sum' tally' (subst (λ (p : Port). sum' ≡ sum - load_of slot + load_of (u p)) isq issum) (subst (λ (p : Port). load_of (u p) < 4294967296) isq light) istally)

  -- a set-up that is laid out as it must be
  module _ (e : found ≡ Found.SetUp) (u : SetUp) (is_laid : set_up_in f ≡ Some u) where
    laid : is_readable found f ≡ true
    laid = rw (e, is_laid) refl

    set_up_there : (started : Result Rack Refusal) → accepted_set_up u ≡ started → (tally' : Tally) → tally' ≡ set_up_told tally (verdict_of started) →
        field_done found (held_by slots count supply tally place) f ≡ record { rack = rack_after (verdict_of started) (rack_or_none started) (rack_in slots count supply); tally = tally'; at = place + size_of f }
    unfolding set_up_done
    set_up_there started isstarted tally' istally = rw (e, is_laid, isstarted, istally) refl

    pub refused_set_up : (no' : Refusal) → accepted_set_up u ≡ Err no' → (tally' : Tally) → tally' ≡ set_up_told tally (Err no') → Kept r t s slots count supply sum tally' (place + size_of f) (left - 1)
    refused_set_up no' bad tally' istally = goes_on laid (set_up_reaches e) slots count supply sum tally' (set_up_there (Err no') bad tally' istally) inv.long inv.small inv.sum_is

    pub accepted_set_up_lem : (new : Rack) → accepted_set_up u ≡ Ok new → (tally' : Tally) → tally' ≡ set_up_told tally (Ok tt) → (sum' : ℕ) → length new.slots ≡ most_ports → (sum' ≡ loads new) × Small new →
        Kept r t s new.slots new.count new.supply sum' tally' (place + size_of f) (left - 1)
    accepted_set_up_lem new good tally' istally sum' l m = goes_on laid (set_up_reaches e) new.slots new.count new.supply sum' tally' (set_up_there (Ok new) good tally' istally) l m.1 m.0
