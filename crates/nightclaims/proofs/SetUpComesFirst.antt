-- A file that begins with a set-up, laid out as docs/NIGHT.md says: the set-up is judged, and what stands behind it is played over the rack that it gives, whatever was
-- played before. Assumes nothing.
use Prim.Native.Nat.{ℕ}
use mathlib.Core.Path.{◌≡◌, ap, ◌∙◌}
use mathlib.Core.Bool.{true}
use mathlib.Core.List.{List, ◌++◌}
use lib.ListN.{length, drop}
use lib.Seq.{drop-append_seam}
use Rattle.setup.specs.SetUps.{accepted_set_up, verdict_of, rack_or_none}
use Rattle.night.specs.declared.Found.{Found}
use Rattle.night.specs.Fields.{size_of}
use Rattle.night.specs.Events.{next_of}
use Rattle.night.specs.Layout.{PortGroup, rack_bytes, set_up_for, Fit}
use Rattle.night.proofs.WrittenReadsBack as Back
use Rattle.playing.specs.declared.Played.{Played}
use Rattle.playing.specs.Nights.{set_up_done, field_done, is_readable}
use Rattle.nightclaims.specs.Pieces.{played}
use Rattle.nightclaims.proofs.PiecesChangeNothing.{first_field}
use Rattle.std.specs.Prelude.{Ok, is_some, Option}
use Rattle.setup.specs.declared.SetUp.{SetUp}

module _ (ports : List PortGroup) (supply : ℕ) where
  -- the set-up is judged, and its bytes are read
  abbrev pub set_up_played : Played → Played
  set_up_played p = set_up_done p (accepted_set_up (set_up_for ports supply)) (length (rack_bytes ports supply))

  -- THE CLAIM: where it is accepted, there is its rack, whatever rack there was
  pub its_rack : (p : Played) → verdict_of (accepted_set_up (set_up_for ports supply)) ≡ Ok tt → (set_up_played p).rack ≡ rack_or_none (accepted_set_up (set_up_for ports supply))
  unfolding set_up_done
  its_rack p accepted = rw accepted

  module _ (fit : Fit ports supply) (p : Played) (l : List ℕ) where
    abbrev file : List ℕ
    file = rack_bytes ports supply ++ l

    readable : is_readable (next_of file) file ≡ true
    readable =
        ap (λ (found : Found). is_readable found file) (Back.found ports supply fit l)
        ∙ ap (λ (laid : Option SetUp). (is_some laid)) (Back.reads_back ports supply fit l)

    rest : drop (size_of file) file ≡ l
    rest = rw (Back.all_of_it ports supply fit l) (drop-append_seam (rack_bytes ports supply) l)

    done : field_done (next_of file) p file ≡ set_up_played p
    done = rw (Back.found ports supply fit l, Back.reads_back ports supply fit l, Back.all_of_it ports supply fit l)

    -- THE CLAIM
    pub set_up_comes_first : played p file ≡ played (set_up_played p) l
    set_up_comes_first = first_field p file readable ∙ rw (done, rest)
