-- A program plays each piece from a place of 0 on. Rack and tally are those of the night so far, and the place is the piece's, counted on. Assumes nothing.
use Prim.Native.Nat.{ℕ, zero, suc, ◌+◌, ◌-◌}
use native.Mathlib.Omega.{arith}
use mathlib.Core.Path.{◌≡◌, refl, ap, ◌∙◌}
use mathlib.Core.Bool.{Bool, true, false, cond}
use mathlib.Core.List.{List}
use lib.ListN.{length, drop}
use Rattle.night.specs.declared.Found.{Found}
use Rattle.night.specs.Fields.{size_of}
use Rattle.night.specs.Events.{next_of}
use Rattle.playing.specs.declared.Played.{Played}
use Rattle.playing.specs.Nights.{begun, answered, event_done, set_up_done, field_done, is_readable, night_in}
use Rattle.nightclaims.specs.Pieces.{played, left_of}

-- the same, with so many bytes before it
abbrev pub behind : ℕ → Played → Played
behind k q = record { rack = q.rack; tally = q.tally; at = k + q.at }

module _ (k : ℕ) where
  moved : (p : Played) (size : ℕ) → k + p.at + size ≡ k + (p.at + size)
  moved p size = omega arith

  field_behind : (found : Found) (p : Played) (l : List ℕ) → field_done found (behind k p) l ≡ behind k (field_done found p l)
  unfolding set_up_done event_done answered
  field_behind Found.Cut p l = refl
  field_behind Found.UnknownTag p l = refl
  field_behind Found.WrongLength p l = refl
  field_behind Found.SetUp p l = rw (moved p (size_of l))
  field_behind (Found.Event number e) p l = rw (moved p (size_of l))
  field_behind (Found.Packet number) p l = rw (moved p (size_of l))
  field_behind (Found.NewOffer number) p l = rw (moved p (size_of l))

  if_behind : (c : Bool) (x y p : Played) → x ≡ behind k y → cond c x (behind k p) ≡ behind k (cond c y p)
  if_behind true x y p e = e
  if_behind false x y p e = refl

  night_behind : (n : ℕ) (p : Played) (l : List ℕ) → night_in n (behind k p) l ≡ behind k (night_in n p l)
  unfolding night_in
  night_behind zero p l = refl
  night_behind (suc n) p l =
      if_behind (is_readable (next_of l) l) _ _ p
      (ap (λ (q : Played). night_in n q (drop (size_of l) l)) (field_behind (next_of l) p l) ∙ night_behind n (field_done (next_of l) p l) (drop (size_of l) l))

-- THE CLAIM
pub place_counts_on : (p : Played) (l : List ℕ) → played p l ≡ behind p.at (played (begun p.rack p.tally) l)
place_counts_on p l =
    let all : p.at ≡ p.at + 0 = omega arith in
    ap (λ (k : ℕ). played (record { rack = p.rack; tally = p.tally; at = k }) l) all ∙ night_behind p.at (length l) (begun p.rack p.tally) l

-- THE CLAIM: and what is left over of the piece stands at the piece's own place
pub left_at_its_place : (p : Played) (l : List ℕ) → left_of p l ≡ drop (played (begun p.rack p.tally) l).at l
left_at_its_place p l =
    let own : (played p l).at - p.at ≡ (played (begun p.rack p.tally) l).at = omega (arith, ap (λ (q : Played). q.at) (place_counts_on p l)) in
    ap (λ (k : ℕ). drop k l) own
