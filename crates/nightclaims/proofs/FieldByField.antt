-- A night is its fields' answers, told one by one: what the loop over a whole night comes to (`playing`) is what the answers of field after field come to (`fields`).
-- So a program that asks field by field, and one that plays whole pieces, have the same rack and the same place. Assumes nothing.
use Prim.Native.Nat.{ℕ, zero, suc, ◌+◌}
use native.Mathlib.Omega.{arith}
use mathlib.Core.Path.{◌≡◌, refl, sym, ap, subst, ◌∙◌}
use mathlib.Core.Bool.{Bool, cond}
use mathlib.Core.List.{List, [], ◌∷◌}
use lib.ListN.{length, drop}
use Rattle.rack.specs.declared.Rack.{Rack}
use Rattle.setup.specs.declared.SetUp.{SetUp}
use Rattle.setup.specs.SetUps.{accepted_set_up, verdict_of, rack_or_none}
use Rattle.night.specs.declared.Found.{Found}
use Rattle.night.specs.Fields.{size_of}
use Rattle.night.specs.Events.{next_of}
use Rattle.night.specs.SetUps.{set_up_in, set_up_or_none}
use Rattle.fields.specs.declared.Field.{Field}
use Rattle.fields.specs.Answers.{laid_field, field_by, field_of, and_behind, fields_in, last_rack, size_of_all, Through}
use Rattle.fields.specs.Answers as Fields
use Rattle.tally.specs.declared.Tally.{Tally}
use Rattle.playing.specs.declared.Played.{Played}
use Rattle.playing.specs.Nights.{begun, rack_after, answered, event_done, set_up_done, field_done, is_readable, night_in}
use Rattle.nightclaims.specs.Pieces.{played}
use Rattle.nightclaims.specs.Answered.{answer_told, answers_told}
use Rattle.ground.specs.Refusals.{Verdict}
use Rattle.std.specs.Prelude.{Ok, Err, Option, Some, None, Result, is_some, is_ok, IfOk}

-- ---- one field
module _ (r : Rack) (l : List ℕ) where
  laid_read : (laid : Option SetUp) → is_ok (laid_field r laid (size_of l)) ≡ is_some laid
  laid_read None = refl
  laid_read (Some u) = refl

  read_by : (found : Found) → is_ok (field_by found r l) ≡ is_readable found l
  read_by Found.Cut = refl
  read_by Found.UnknownTag = refl
  read_by Found.WrongLength = refl
  read_by Found.SetUp = laid_read (set_up_in l)
  read_by (Found.Event number e) = refl
  read_by (Found.Packet number) = refl
  read_by (Found.NewOffer number) = refl

  -- THE CLAIM: a field is read by the one exactly where it is read by the other
  pub read_same : is_ok (field_of r l) ≡ is_readable (next_of l) l
  unfolding field_of
  read_same = read_by (next_of l)

  abbrev Sized : Result Field Found → Type 0
  Sized o = IfOk o (λ (f : Field). f.size ≡ size_of l)

  laid_size : (laid : Option SetUp) → Sized (laid_field r laid (size_of l))
  laid_size None = tt
  laid_size (Some u) = refl

  size_by : (found : Found) → Sized (field_by found r l)
  size_by Found.Cut = tt
  size_by Found.UnknownTag = tt
  size_by Found.WrongLength = tt
  size_by Found.SetUp = laid_size (set_up_in l)
  size_by (Found.Event number x) = refl
  size_by (Found.Packet number) = refl
  size_by (Found.NewOffer number) = refl

  pub size_same : (f : Field) → field_of r l ≡ Ok f → f.size ≡ size_of l
  unfolding field_of
  size_same f e = subst Sized e (size_by (next_of l))

rack_same : (v : Verdict) (new old : Rack) → Fields.rack_after v new old ≡ rack_after v new old
rack_same (Ok _) new old = refl
rack_same (Err r) new old = refl

module _ (p : Played) (l : List ℕ) where
  abbrev Told : Played → Result Field Found → Type 0
  Told q o = IfOk o (λ (f : Field). answer_told p f ≡ q)

  laid_done : (laid : Option SetUp) → Told (set_up_done p (accepted_set_up (set_up_or_none laid)) (size_of l)) (laid_field p.rack laid (size_of l))
  unfolding set_up_done
  laid_done None = tt
  laid_done (Some u) = rw (rack_same (verdict_of (accepted_set_up u)) (rack_or_none (accepted_set_up u)) p.rack) refl

  done_by_lem : (found : Found) → Told (field_done found p l) (field_by found p.rack l)
  unfolding event_done answered
  done_by_lem Found.Cut = tt
  done_by_lem Found.UnknownTag = tt
  done_by_lem Found.WrongLength = tt
  done_by_lem Found.SetUp = laid_done (set_up_in l)
  done_by_lem (Found.Event number x) = refl
  done_by_lem (Found.Packet number) = refl
  done_by_lem (Found.NewOffer number) = refl

  -- THE CLAIM: and its answer, told, is what was played with that field
  pub done_same : (f : Field) → field_of p.rack l ≡ Ok f → answer_told p f ≡ field_done (next_of l) p l
  unfolding field_of
  done_same f e = subst (Told (field_done (next_of l) p l)) e (done_by_lem (next_of l))

-- ---- all fields
by_field : (o : Result Field Found) (c : Bool) (q p : Played) (behind : Field → List Field) → is_ok o ≡ c → ((f : Field) → o ≡ Ok f → q ≡ answers_told (answer_told p f) (behind f)) →
    cond c q p ≡ answers_told p (and_behind o behind)
unfolding answers_told
by_field (Err found) c q p behind e h = rw (← e) refl
by_field (Ok f) c q p behind e h = rw (← e) (h f refl)

-- THE CLAIM
pub field_by_field : (n : ℕ) (p : Played) (l : List ℕ) → night_in n p l ≡ answers_told p (fields_in n p.rack l)
unfolding night_in fields_in answers_told
field_by_field zero p l = refl
field_by_field (suc n) p l =
    by_field (field_of p.rack l) (is_readable (next_of l) l) _ p (λ (f : Field). fields_in n f.rack (drop f.size l)) (read_same p.rack l)
    (λ f e.
    ap (λ (q : Played). night_in n q (drop (size_of l) l)) (sym (done_same p l f e))
    ∙ ap (λ (k : ℕ). night_in n (answer_told p f) (drop k l)) (sym (size_same p.rack l f e))
    ∙ field_by_field n (answer_told p f) (drop f.size l))

-- ---- a program that asks field by field
told_rack : (fields : List Field) (p : Played) → (answers_told p fields).rack ≡ last_rack p.rack fields
unfolding answers_told last_rack
told_rack [] p = refl
told_rack (f ∷ fields) p = told_rack fields (answer_told p f)

told_at : (fields : List Field) (p : Played) → (answers_told p fields).at ≡ p.at + size_of_all fields
unfolding answers_told size_of_all
told_at [] p = omega arith
told_at (f ∷ fields) p = omega (arith, told_at fields (answer_told p f))

module _ (r : Rack) (l : List ℕ) (rack : Rack) (place : ℕ) (through : Through r l rack place) (t : Tally) where
  -- THE CLAIM: it has the rack of the night, and its place, whatever was counted before
  pub the_night's_rack : rack ≡ (played (begun r t) l).rack
  the_night's_rack = through.rack_is ∙ sym (ap (λ (q : Played). q.rack) (field_by_field (length l) (begun r t) l) ∙ told_rack (fields_in (length l) r l) (begun r t))

  pub the_night's_place : place ≡ (played (begun r t) l).at
  the_night's_place = omega (arith, through.place_is, ap (λ (q : Played). q.at) (field_by_field (length l) (begun r t) l), told_at (fields_in (length l) r l) (begun r t))
