-- Where no set-up is among the fields that are read, a night is what happened at its ports, event by event, in the order of the file: the answers are those of the
-- rack's own steps through just that list, one for each event, the tally is the tally of those answers, and the rack afterwards is the rack behind the last of them.
-- So all that is claimed of a rack through any events is claimed of a night. Assumes nothing.
use Prim.Native.Nat.{ℕ, zero, suc}
use mathlib.Core.Path.{◌≡◌, refl, sym, ap, subst, ◌∙◌}
use mathlib.Core.Bool.{Bool, true, false, cond, not, ◌&&◌}
use mathlib.Core.List.{List, [], ◌∷◌, map}
use lib.ListN.{drop}
use Rattle.portclaims.proofs.Truth.{true_not_false}
use Rattle.rack.specs.declared.Rack.{Rack}
use Rattle.rack.specs.Steps.{step}
use Rattle.rack.specs.Runs.{Happens, run_by, run}
use Rattle.night.specs.declared.Found.{Found}
use Rattle.night.specs.Fields.{size_of}
use Rattle.night.specs.Events.{next_of}
use Rattle.night.specs.SetUps.{set_up_in}
use Rattle.fields.specs.declared.Field.{Field}
use Rattle.fields.specs.Answers.{field_by, field_of, and_behind, fields_in}
use Rattle.tally.specs.declared.Tally.{Tally}
use Rattle.playing.specs.declared.Played.{Played}
use Rattle.playing.specs.Nights.{answered, event_done, field_done, is_readable, night_in, is_event, is_set_up, number_in, happening_in}
use Rattle.nightclaims.specs.Happened.{happens_by, happened_in, no_set_up_in}
use Rattle.nightclaims.specs.Answered.{Said, said_by, said_in, said_to, tally_of, tallied}
use Rattle.nightclaims.proofs.FieldByField.{read_same, size_same}
use Rattle.std.specs.Prelude.{Result, Ok, Err, is_some, is_ok, IfOk}

-- ---- an event is a step of the rack
module _ (p : Played) (l : List ℕ) where
  pub stepped : (found : Found) → is_event found ≡ true → (field_done found p l).rack ≡ (step p.rack (number_in found) (happening_in found l)).rack
  unfolding event_done answered
  stepped Found.Cut e = true_not_false (sym e)
  stepped Found.UnknownTag e = true_not_false (sym e)
  stepped Found.WrongLength e = true_not_false (sym e)
  stepped Found.SetUp e = true_not_false (sym e)
  stepped (Found.Event number x) e = refl
  stepped (Found.Packet number) e = refl
  stepped (Found.NewOffer number) e = refl

  counted : (found : Found) → is_event found ≡ true → (field_done found p l).tally ≡ tally_of p.tally p.rack (number_in found) (step p.rack (number_in found) (happening_in found l))
  unfolding event_done answered
  counted Found.Cut e = true_not_false (sym e)
  counted Found.UnknownTag e = true_not_false (sym e)
  counted Found.WrongLength e = true_not_false (sym e)
  counted Found.SetUp e = true_not_false (sym e)
  counted (Found.Event number x) e = refl
  counted (Found.Packet number) e = refl
  counted (Found.NewOffer number) e = refl

module _ (r : Rack) (l : List ℕ) where
  -- what is said of a field, where there is one
  abbrev Says : Found → Result Field Found → Type 0
  Says found o = IfOk o (λ (f : Field). said_by f ≡ said_in (number_in found) (step r (number_in found) (happening_in found l)))

  said_by_lem : (found : Found) → is_event found ≡ true → Says found (field_by found r l)
  said_by_lem Found.Cut e = true_not_false (sym e)
  said_by_lem Found.UnknownTag e = true_not_false (sym e)
  said_by_lem Found.WrongLength e = true_not_false (sym e)
  said_by_lem Found.SetUp e = true_not_false (sym e)
  said_by_lem (Found.Event number x) e = refl
  said_by_lem (Found.Packet number) e = refl
  said_by_lem (Found.NewOffer number) e = refl

  said : (f : Field) → field_of r l ≡ Ok f → is_event (next_of l) ≡ true → said_by f ≡ said_in (number_in (next_of l)) (step r (number_in (next_of l)) (happening_in (next_of l) l))
  unfolding field_of
  said f is e = subst (Says (next_of l)) is (said_by_lem (next_of l) e)

event_readable : (found : Found) (l : List ℕ) → is_event found ≡ true → is_readable found l ≡ true
event_readable Found.Cut l e = true_not_false (sym e)
event_readable Found.UnknownTag l e = true_not_false (sym e)
event_readable Found.WrongLength l e = true_not_false (sym e)
event_readable Found.SetUp l e = true_not_false (sym e)
event_readable (Found.Event number x) l e = refl
event_readable (Found.Packet number) l e = refl
event_readable (Found.NewOffer number) l e = refl

-- ---- one field, and what the fields behind it come to: whatever is seen of a night is what is expected of the list of events
module _ {P A : Type 0} (see : P → A) (expect : List Happens → A) (p q : P) (l : List ℕ) (es : List Happens) (more : Bool) (nothing : see p ≡ expect []) where
  -- a set-up that can be read is against the condition; one that cannot is not played
  not_read : (c : Bool) → cond c (not true && more) true ≡ true → see (cond c q p) ≡ expect []
  not_read true h = true_not_false (sym h)
  not_read false h = nothing

  by_field : (found : Found) → (is_event found ≡ true → more ≡ true → see q ≡ expect (happens_by found l ∷ es)) →
      cond (is_readable found l) (not (is_set_up found) && more) true ≡ true →
      see (cond (is_readable found l) q p) ≡ expect (cond (is_event found) (happens_by found l ∷ es) [])
  by_field Found.Cut rest h = nothing
  by_field Found.UnknownTag rest h = nothing
  by_field Found.WrongLength rest h = nothing
  by_field Found.SetUp rest h = not_read (is_some (set_up_in l)) h
  by_field (Found.Event number e) rest h = rest refl h
  by_field (Found.Packet number) rest h = rest refl h
  by_field (Found.NewOffer number) rest h = rest refl h

-- THE CLAIM: the rack
pub event_by_event : (n : ℕ) (p : Played) (l : List ℕ) → no_set_up_in n l ≡ true → (night_in n p l).rack ≡ run p.rack (happened_in n l)
unfolding night_in happened_in no_set_up_in run_by
event_by_event zero p l h = refl
event_by_event (suc n) p l h =
    by_field (λ (q : Played). q.rack) (run p.rack) p (night_in n (field_done (next_of l) p l) (drop (size_of l) l)) l (happened_in n (drop (size_of l) l)) (no_set_up_in n (drop (size_of l) l)) refl (next_of l)
    (λ e more.
    event_by_event n (field_done (next_of l) p l) (drop (size_of l) l) more
    ∙ ap (λ (r : Rack). run r (happened_in n (drop (size_of l) l))) (stepped p l (next_of l) e))
    h

-- THE CLAIM: the tally
pub tally_event_by_event : (n : ℕ) (p : Played) (l : List ℕ) → no_set_up_in n l ≡ true → (night_in n p l).tally ≡ tallied p.tally p.rack (happened_in n l)
unfolding night_in happened_in no_set_up_in tallied
tally_event_by_event zero p l h = refl
tally_event_by_event (suc n) p l h =
    by_field (λ (q : Played). q.tally) (tallied p.tally p.rack) p (night_in n (field_done (next_of l) p l) (drop (size_of l) l)) l (happened_in n (drop (size_of l) l)) (no_set_up_in n (drop (size_of l) l)) refl (next_of l)
    (λ e more.
    tally_event_by_event n (field_done (next_of l) p l) (drop (size_of l) l) more
    ∙ ap (λ (t : Tally). tallied t (field_done (next_of l) p l).rack (happened_in n (drop (size_of l) l))) (counted p l (next_of l) e)
    ∙ ap (λ (r : Rack). tallied (tally_of p.tally p.rack (number_in (next_of l)) (step p.rack (number_in (next_of l)) (happening_in (next_of l) l))) r (happened_in n (drop (size_of l) l))) (stepped p l (next_of l) e))
    h

-- a field and those behind it are there where it can be read
where_read : (o : Result Field Found) (c : Bool) (behind : Field → List Field) → is_ok o ≡ c → and_behind o behind ≡ cond c (and_behind o behind) []
where_read (Err found) c behind e = rw (← e) refl
where_read (Ok f) c behind e = rw (← e) refl

-- an event's answer, and those behind it
one_said : (r : Rack) (l : List ℕ) (o : Result Field Found) (behind : Field → List Field) (es : List Happens) → o ≡ field_of r l → is_event (next_of l) ≡ true →
    ((f : Field) → o ≡ Ok f → map said_by (behind f) ≡ said_to f.rack es) →
    map said_by (and_behind o behind) ≡ said_to r (happens_by (next_of l) l ∷ es)
unfolding said_to
one_said r l (Err found) behind es is e h = true_not_false (sym (ap is_ok is ∙ read_same r l ∙ event_readable (next_of l) l e))
one_said r l (Ok f) behind es is e h =
    ap (λ (rest : List Said). said_by f ∷ rest) (h f refl)
    ∙ ap (λ (x : Said). x ∷ said_to x.rack es) (said r l f (sym is) e)

-- THE CLAIM: the answers, one for each event
pub answers_event_by_event : (n : ℕ) (r : Rack) (l : List ℕ) → no_set_up_in n l ≡ true → map said_by (fields_in n r l) ≡ said_to r (happened_in n l)
unfolding fields_in happened_in no_set_up_in said_to
answers_event_by_event zero r l h = refl
answers_event_by_event (suc n) r l h =
    let behind : Field → List Field = λ (f : Field). fields_in n f.rack (drop f.size l) in
    let es = happened_in n (drop (size_of l) l) in
    ap (map said_by) (where_read (field_of r l) (is_readable (next_of l) l) behind (read_same r l))
    ∙ by_field (map said_by) (said_to r) [] (and_behind (field_of r l) behind) l es (no_set_up_in n (drop (size_of l) l)) refl (next_of l)
    (λ e more.
    one_said r l (field_of r l) behind es refl e
    (λ f is.
    ap (λ (k : ℕ). map said_by (fields_in n f.rack (drop k l))) (size_same r l f is)
    ∙ answers_event_by_event n f.rack (drop (size_of l) l) more))
    h
