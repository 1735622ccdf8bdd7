-- A field that is whole does not look past its end: with any bytes behind it, it is found, read and answered as without. Assumes nothing.
use Prim.Native.Nat.{ℕ, ◌+◌, ◌≤◌}
use native.Mathlib.Omega.{arith}
use mathlib.Core.Path.{◌≡◌, refl, sym, ap, ◌∙◌}
use mathlib.Core.Bool.{Bool, true, false}
use mathlib.Core.List.{List, ◌++◌}
use lib.Dec.{eqb}
use lib.ListN.{length, drop, get_or, length-append, length-drop, get_or-append}
use lib.Seq.{take-append-le, drop-append-le}
use borrow.Author.Tests.{leb-true, le-leb, eqb-true, eqb-false}
use Rattle.message.specs.Bytes.{word_of}
use Rattle.portclaims.proofs.Truth.{true_not_false}
use Rattle.night.specs.declared.Found.{Found}
use Rattle.night.specs.Fields.{tag_of, length_of, size_of, is_whole, value_of}
use Rattle.night.specs.Events.{kind_of, next_of, behind_of, offer_of}
use Rattle.night.specs.SetUps.{set_up_in}
use Rattle.playing.specs.declared.Played.{Played}
use Rattle.playing.specs.Nights.{event_done, field_done, is_readable}
use Rattle.std.specs.Prelude.{is_some, Option}
use Rattle.setup.specs.declared.SetUp.{SetUp}

-- ---- a field that can be read is whole, and has at least three bytes
by_test : (l : List ℕ) (b : Bool) → is_whole l ≡ b → is_readable (next_of l) l ≡ true → is_whole l ≡ true
unfolding next_of
by_test l true e r = e
by_test l false e r = true_not_false (sym (rw e at r))

pub readable_is_whole : (l : List ℕ) → is_readable (next_of l) l ≡ true → is_whole l ≡ true
readable_is_whole l r = by_test l (is_whole l) refl r

pub whole_fits : (l : List ℕ) → is_whole l ≡ true → size_of l ≤ length l
unfolding is_whole
whole_fits l h = leb-true (size_of l) (length l) h

pub three_bytes : (l : List ℕ) → 3 ≤ size_of l
unfolding size_of
three_bytes l = omega arith

-- where a field has no value, the byte behind it counts for nothing
no_number : (tag x y : ℕ) → kind_of tag 0 x ≡ kind_of tag 0 y
unfolding kind_of
no_number tag x y = refl

module _ (l b : List ℕ) (h : is_whole l ≡ true) where
  long : 3 + length_of l ≤ length l
  unfolding size_of
  long = whole_fits l h

  tag_same : tag_of (l ++ b) ≡ tag_of l
  unfolding tag_of
  tag_same = get_or-append l b 0 0 (omega (arith, long))

  length_same : length_of (l ++ b) ≡ length_of l
  unfolding length_of word_of
  length_same =
      let two : 2 ≤ length (drop 1 l) = omega (arith, long, length-drop 1 l) in
      rw (drop-append-le 1 l b (omega (arith, long)), get_or-append (drop 1 l) b 0 0 (omega (arith, two)), get_or-append (drop 1 l) b 0 1 (omega (arith, two)))

  pub size_same : size_of (l ++ b) ≡ size_of l
  unfolding size_of
  size_same = ap (λ (n : ℕ). 3 + n) length_same

  whole_same : is_whole (l ++ b) ≡ true
  unfolding is_whole
  whole_same = le-leb (size_of (l ++ b)) (length (l ++ b)) (omega (arith, size_same, whole_fits l h, length-append l b))

  value_same : value_of (l ++ b) ≡ value_of l
  unfolding value_of
  value_same =
      rw (whole_same, h, length_same, drop-append-le 3 l b (omega (arith, long))) (take-append-le (length_of l) (drop 3 l) b (omega (arith, long, length-drop 3 l)))

  -- the port's number stands in the value, or there is none
  kind_same : (c : Bool) → eqb (length_of l) 0 ≡ c → kind_of (tag_of l) (length_of l) (get_or (l ++ b) 3 0) ≡ kind_of (tag_of l) (length_of l) (get_or l 3 0)
  kind_same true e = rw (eqb-true (length_of l) 0 e) (no_number (tag_of l) (get_or (l ++ b) 3 0) (get_or l 3 0))
  kind_same false e =
      let more : length_of l ≡ 0 → ⊥ = eqb-false (length_of l) 0 e in
      ap (kind_of (tag_of l) (length_of l)) (get_or-append l b 0 3 (omega (arith, long, more)))

  pub next_same : next_of (l ++ b) ≡ next_of l
  unfolding next_of
  next_same = rw (whole_same, h, tag_same, length_same) (kind_same (eqb (length_of l) 0) refl)

  set_up_same : set_up_in (l ++ b) ≡ set_up_in l
  unfolding set_up_in
  set_up_same = rw value_same

  behind_same : behind_of (l ++ b) ≡ behind_of l
  unfolding behind_of
  behind_same = rw value_same

  offer_same : offer_of (l ++ b) ≡ offer_of l
  unfolding offer_of
  offer_same = rw behind_same

  readable_by : (found : Found) → is_readable found (l ++ b) ≡ is_readable found l
  readable_by Found.Cut = refl
  readable_by Found.UnknownTag = refl
  readable_by Found.WrongLength = refl
  readable_by Found.SetUp = ap (λ (laid : Option SetUp). (is_some laid)) set_up_same
  readable_by (Found.Event number e) = refl
  readable_by (Found.Packet number) = refl
  readable_by (Found.NewOffer number) = refl

  -- THE CLAIM: it can be read with any bytes behind it as without
  pub readable_same : is_readable (next_of (l ++ b)) (l ++ b) ≡ is_readable (next_of l) l
  readable_same = ap (λ (found : Found). is_readable found (l ++ b)) next_same ∙ readable_by (next_of l)

  done_by_lem : (found : Found) (p : Played) → field_done found p (l ++ b) ≡ field_done found p l
  unfolding event_done
  done_by_lem Found.Cut p = refl
  done_by_lem Found.UnknownTag p = refl
  done_by_lem Found.WrongLength p = refl
  done_by_lem Found.SetUp p = rw (set_up_same, size_same)
  done_by_lem (Found.Event number e) p = rw size_same
  done_by_lem (Found.Packet number) p = rw (behind_same, size_same)
  done_by_lem (Found.NewOffer number) p = rw (offer_same, size_same)

  -- THE CLAIM: and it comes to the same
  pub done_same : (p : Played) → field_done (next_of (l ++ b)) p (l ++ b) ≡ field_done (next_of l) p l
  done_same p = ap (λ (found : Found). field_done found p (l ++ b)) next_same ∙ done_by_lem (next_of l) p
