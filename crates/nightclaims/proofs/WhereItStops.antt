-- From piece to piece: where a night stops no field stands that can be read, so that the ending has a reason; and what is kept of a piece
-- (`fields::carry_over`) is what was left over of it. Assumes nothing.
use Prim.Native.Nat.{ℕ, zero, suc, ◌+◌, ◌-◌, ◌≤◌}
use native.Mathlib.Omega.{arith}
use mathlib.Core.Path.{◌≡◌, refl, sym, ap, ◌∙◌}
use mathlib.Core.Bool.{Bool, true, false, cond}
use mathlib.Core.List.{List, ◌++◌}
use lib.Dec.{eqb}
use lib.ListN.{length, take, drop, length-drop}
use lib.Seq.{take-append-le, take-take, take-add, drop_at, length-take-le}
use Rattle.portclaims.proofs.Truth.{true_not_false}
use Rattle.rack.specs.declared.Rack.{Rack}
use Rattle.night.specs.declared.Found.{Found}
use Rattle.night.specs.Fields.{size_of}
use Rattle.night.specs.Events.{next_of}
use Rattle.night.specs.SetUps.{set_up_in}
use Rattle.fields.specs.declared.Ending.{Ending}
use Rattle.fields.specs.Endings.{ending_by, ending_of}
use Rattle.fields.specs.declared.Left.{Left}
use Rattle.fields.specs.Keeping.{kept_count, part_in, at_front, goes_on, CarriedOver}
use Rattle.tally.specs.declared.Tally.{Tally}
use Rattle.playing.specs.declared.Played.{Played}
use Rattle.playing.specs.Nights.{begun, field_done, is_readable}
use Rattle.nightclaims.specs.Pieces.{played, left_of, read_of}
use Rattle.nightclaims.proofs.WholeFields.{three_bytes}
use Rattle.nightclaims.proofs.PiecesChangeNothing.{read_fits, moves_on, first_field, place_is, left_is_left}
use Rattle.nightclaims.proofs.PlaceCountsOn.{left_at_its_place}
use Rattle.std.specs.Prelude.{Some, is_some}
use Rattle.fields.proofs.ThenSome.{is_there}

-- ---- why it stops
abbrev is_that : Ending → Bool
is_that Ending.Whole = false
is_that Ending.Cut = false
is_that Ending.UnknownTag = false
is_that Ending.WrongLength = false
is_that Ending.NotLaid = false
is_that Ending.Readable = true

laid_that : (laid : Bool) → is_that (cond laid Ending.Readable Ending.NotLaid) ≡ laid
laid_that true = refl
laid_that false = refl

that_by : (found : Found) (l : List ℕ) → is_that (ending_by found (is_some (set_up_in l))) ≡ is_readable found l
that_by Found.Cut l = refl
that_by Found.UnknownTag l = refl
that_by Found.WrongLength l = refl
that_by Found.SetUp l = laid_that (is_some (set_up_in l))
that_by (Found.Event number e) l = refl
that_by (Found.Packet number) l = refl
that_by (Found.NewOffer number) l = refl

not_that : (none : Bool) (e : Ending) → is_that e ≡ false → is_that (cond none Ending.Whole e) ≡ false
not_that true e h = refl
not_that false e h = h

module _ (p : Played) (l : List ℕ) where
  abbrev left : List ℕ
  left = left_of p l

  -- a field more would move the place on
  by_test : (c : Bool) → is_readable (next_of left) left ≡ c → is_readable (next_of left) left ≡ false
  by_test false e = e
  by_test true e =
      let q = played p l in
      let after = field_done (next_of left) q left in
      let more = drop (size_of left) left in
      let same : (played q left).at ≡ q.at = ap (λ (x : Played). x.at) (left_is_left p l) in
      let on : (played q left).at ≡ after.at + read_of (length more) more = ap (λ (x : Played). x.at) (first_field q left e) ∙ place_is (length more) after more in
      absurd (omega (arith, same, on, moves_on (next_of left) q left e, three_bytes left))

  -- THE CLAIM: what is left over does not begin with a field that can be read
  pub nothing_readable : is_readable (next_of left) left ≡ false
  nothing_readable = by_test (is_readable (next_of left) left) refl

  -- THE CLAIM: so the ending is none left, cut, or one of the damages
  pub has_a_reason : ending_of left ≡ Ending.Readable → ⊥
  unfolding ending_of
  has_a_reason e =
      true_not_false (sym (ap is_that e) ∙ not_that (eqb (length left) 0) (ending_by (next_of left) (is_some (set_up_in left))) (that_by (next_of left) left ∙ nothing_readable))

-- ---- what is kept
bounded : (c : Bool) (k m : ℕ) → (c ≡ true → k ≤ m) → cond c k 0 ≤ m
bounded true k m h = h refl
bounded false k m h = omega arith

read_within : (n : ℕ) (l : List ℕ) → read_of n l ≤ length l
unfolding read_of
read_within zero l = omega arith
read_within (suc n) l =
    bounded (is_readable (next_of l) l) (size_of l + read_of n (drop (size_of l) l)) (length l)
    (λ e. omega (arith, read_within n (drop (size_of l) l), length-drop (size_of l) l, read_fits l e))

module _ (l : List ℕ) (place end : ℕ) (h : end ≤ length l) where
  part_is : place ≤ end → part_in l place end ≡ drop place (take end l)
  part_is k =
      let s = drop place l in
      let count : kept_count l place end ≡ end - place = omega (arith, h) in
      let all : place + (end - place) ≡ end = omega (arith, k) in
      let part : take end l ≡ take place l ++ take (end - place) s = ap (λ (j : ℕ). take j l) (sym all) ∙ take-add place (end - place) l in
      ap (λ (j : ℕ). take j s) count ∙ sym (ap (drop place) part ∙ drop_at (take place l) (take (end - place) s) place (length-take-le place l (omega (arith, h, k))))

  -- of a piece that ends there and was played up to the place, the bytes between are those that were left over
  module _ (r : Rack) (t : Tally) (e : place ≡ (played (begun r t) (take end l)).at) where
    left_over : part_in l place end ≡ left_of (begun r t) (take end l)
    left_over =
        let piece = take end l in
        part_is (omega (arith, e, place_is (length piece) (begun r t) piece, read_within (length piece) piece, length-take-le end l h))
        ∙ ap (λ (k : ℕ). drop k piece) e
        ∙ sym (left_at_its_place (begun r t) piece)

    module _ (left : Left) (l' : List ℕ) (over : CarriedOver l place end left l') where
      -- THE CLAIM: the ending is that of what was left over
      pub ending_of_what_is_left : left.ending ≡ ending_of (left_of (begun r t) (take end l))
      ending_of_what_is_left = ap (λ (x : Left). x.ending) over.answer ∙ ap ending_of left_over

      -- THE CLAIM: where the night may go on, what is kept in front is what was left over
      pub kept_is_left : (kept : ℕ) → left.kept ≡ Some kept → take kept l' ≡ left_of (begun r t) (take end l)
      kept_is_left kept m =
          let n = kept_count l place end in
          let s = drop place l in
          let (goes, count) = is_there (goes_on (ending_of (part_in l place end))) n kept (sym (ap (λ (x : Left). x.kept) over.answer) ∙ m) in
          let front : l' ≡ at_front l place n = over.bytes ∙ rw goes refl in
          let fits : n ≤ length s = omega (arith, length-drop place l) in
          ap (λ (k : ℕ). take k l') (sym count)
          ∙ ap (take n) front
          ∙ take-append-le n (take n s) (drop n l) (omega (arith, length-take-le n s fits))
          ∙ take-take n n s (omega arith)
          ∙ left_over
