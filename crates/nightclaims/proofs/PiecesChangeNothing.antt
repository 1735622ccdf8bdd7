-- A night that is read in pieces is the night read whole, wherever it is cut: what is left over of a piece, put in front of the next, makes up for the cut.
-- Rack, tally and place are the same. Assumes nothing.
use Prim.Native.Nat.{ℕ, zero, suc, ◌+◌, ◌-◌, ◌<◌, ◌≤◌}
use native.Mathlib.Nat.{le_refl}
use native.Mathlib.Omega.{arith}
use mathlib.Core.Path.{◌≡◌, refl, sym, ap, ◌∙◌}
use mathlib.Core.Bool.{Bool, true, false, cond}
use mathlib.Core.List.{List, [], ◌∷◌, ◌++◌, append-nil, append_assoc}
use lib.ListN.{length, drop, length-drop}
use lib.Seq.{drop-append-le, drop-drop}
use Rattle.portclaims.proofs.Truth.{true_not_false}
use Rattle.night.specs.declared.Found.{Found}
use Rattle.night.specs.Fields.{size_of}
use Rattle.night.specs.Events.{next_of}
use Rattle.playing.specs.declared.Played.{Played}
use Rattle.playing.specs.Nights.{answered, event_done, set_up_done, field_done, is_readable, night_in}
use Rattle.nightclaims.specs.Pieces.{played, left_of, in_pieces, joined, read_of}
use Rattle.nightclaims.proofs.WholeFields.{readable_is_whole, whole_fits, three_bytes, size_same, readable_same, done_same}

-- ---- a field that is read leaves less
module _ (l : List ℕ) (r : is_readable (next_of l) l ≡ true) where
  pub read_fits : size_of l ≤ length l
  read_fits = whole_fits l (readable_is_whole l r)

  leaves_less : length (drop (size_of l) l) < length l
  leaves_less = omega (arith, read_fits, three_bytes l, length-drop (size_of l) l)

if_same : {A : Type 0} (c : Bool) (x y z : A) → (c ≡ true → x ≡ y) → cond c x z ≡ cond c y z
if_same true x y z h = h refl
if_same false x y z h = refl

nothing_there : {A : Type 0} (l : List ℕ) (x y : A) → length l ≤ 0 → cond (is_readable (next_of l) l) x y ≡ y
nothing_there l x y h = by_test (is_readable (next_of l) l) refl
  where
    by_test : (c : Bool) → is_readable (next_of l) l ≡ c → cond c x y ≡ y
    by_test true e = absurd (omega (arith, leaves_less l e))
    by_test false e = refl

-- ---- as many turns as bytes are enough
pub enough : (n m : ℕ) (p : Played) (l : List ℕ) → length l ≤ n → length l ≤ m → night_in n p l ≡ night_in m p l
unfolding night_in
enough zero zero p l h k = refl
enough zero (suc m) p l h k = sym (nothing_there l _ p h)
enough (suc n) zero p l h k = nothing_there l _ p k
enough (suc n) (suc m) p l h k =
    if_same (is_readable (next_of l) l) _ _ p
    (λ e. enough n m (field_done (next_of l) p l) (drop (size_of l) l) (omega (arith, leaves_less l e)) (omega (arith, leaves_less l e)))

-- the first field, and then the rest
pub first_field : (p : Played) (l : List ℕ) → is_readable (next_of l) l ≡ true → played p l ≡ played (field_done (next_of l) p l) (drop (size_of l) l)
unfolding night_in
first_field p l e =
    enough (length l) (suc (length l)) p l (le_refl (length l)) (omega arith)
    ∙ rw e (enough (length l) (length (drop (size_of l) l)) (field_done (next_of l) p l) (drop (size_of l) l) (omega (arith, leaves_less l e)) (le_refl _))

-- ---- the place
pub moves_on : (found : Found) (p : Played) (l : List ℕ) → is_readable found l ≡ true → (field_done found p l).at ≡ p.at + size_of l
unfolding set_up_done event_done answered
moves_on Found.Cut p l e = true_not_false (sym e)
moves_on Found.UnknownTag p l e = true_not_false (sym e)
moves_on Found.WrongLength p l e = true_not_false (sym e)
moves_on Found.SetUp p l e = refl
moves_on (Found.Event number x) p l e = refl
moves_on (Found.Packet number) p l e = refl
moves_on (Found.NewOffer number) p l e = refl

moves_by : (c : Bool) (p q : Played) (k : ℕ) → (c ≡ true → q.at ≡ p.at + k) → (cond c q p).at ≡ p.at + cond c k 0
moves_by true p q k h = h refl
moves_by false p q k h = omega arith

-- THE CLAIM: the place moves on by the bytes that were read
pub place_is : (n : ℕ) (p : Played) (l : List ℕ) → (night_in n p l).at ≡ p.at + read_of n l
unfolding night_in read_of
place_is zero p l = omega arith
place_is (suc n) p l =
    moves_by (is_readable (next_of l) l) p _ _
    (λ e. omega (arith, place_is n (field_done (next_of l) p l) (drop (size_of l) l), moves_on (next_of l) p l e))

left_is : (p : Played) (l : List ℕ) → (played p l).at - p.at ≡ read_of (length l) l
left_is p l = omega (arith, place_is (length l) p l)

-- ---- the bytes behind the cut
module _ (a b : List ℕ) where
  -- what is left of the piece, and then those
  abbrev onward : ℕ → Played → Played
  onward k q = played q (drop k a ++ b)

  by_readable : (c : Bool) (x p q : Played) (k : ℕ) → (c ≡ true → x ≡ onward k q) → (c ≡ false → x ≡ onward 0 p) → x ≡ onward (cond c k 0) (cond c q p)
  by_readable true x p q k yes' no' = yes' refl
  by_readable false x p q k yes' no' = no' refl

  -- the first field is the piece's own
  one_field : (p : Played) → is_readable (next_of a) a ≡ true → played p (a ++ b) ≡ played (field_done (next_of a) p a) (drop (size_of a) a ++ b)
  one_field p e =
      let whole = readable_is_whole a e in
      first_field p (a ++ b) (readable_same a b whole ∙ e)
      ∙ rw (done_same a b whole p, size_same a b whole, drop-append-le (size_of a) a b (read_fits a e))

cut_anywhere : (n : ℕ) (p : Played) (a b : List ℕ) → played p (a ++ b) ≡ played (night_in n p a) (drop (read_of n a) a ++ b)
unfolding night_in read_of
cut_anywhere zero p a b = refl
cut_anywhere (suc n) p a b =
    by_readable a b (is_readable (next_of a) a) (played p (a ++ b)) p _ _
    (λ e.
    one_field a b p e
    ∙ cut_anywhere n (field_done (next_of a) p a) (drop (size_of a) a) b
    ∙ ap (λ (l : List ℕ). played (night_in n (field_done (next_of a) p a) (drop (size_of a) a)) (l ++ b)) (drop-drop (read_of n (drop (size_of a) a)) (size_of a) a))
    (λ e. refl)

-- THE CLAIM: two pieces are the whole, wherever it is cut
pub pieces_change_nothing : (p : Played) (a b : List ℕ) → played p (a ++ b) ≡ played (played p a) (left_of p a ++ b)
pieces_change_nothing p a b =
    cut_anywhere (length a) p a b ∙ ap (λ (k : ℕ). played (played p a) (drop k a ++ b)) (sym (left_is p a))

-- nothing can be read of what is left over
pub left_is_left : (p : Played) (a : List ℕ) → played (played p a) (left_of p a) ≡ played p a
left_is_left p a =
    ap (played (played p a)) (sym (append-nil (left_of p a)))
    ∙ sym (pieces_change_nothing p a [])
    ∙ ap (played p) (append-nil a)

on_and_on : (pieces : List (List ℕ)) (p : Played) (left : List ℕ) → played p left ≡ p → in_pieces p left pieces ≡ played p (left ++ joined pieces)
unfolding in_pieces joined
on_and_on [] p left e = sym e ∙ ap (played p) (sym (append-nil left))
on_and_on (a ∷ pieces) p left e =
    on_and_on pieces (played p (left ++ a)) (left_of p (left ++ a)) (left_is_left p (left ++ a))
    ∙ sym (pieces_change_nothing p (left ++ a) (joined pieces))
    ∙ ap (played p) (append_assoc left a (joined pieces))

-- THE CLAIM: any number of pieces, of any lengths, are the whole
pub any_pieces : (p : Played) (pieces : List (List ℕ)) → in_pieces p [] pieces ≡ played p (joined pieces)
unfolding night_in
any_pieces p pieces = on_and_on pieces p [] refl
