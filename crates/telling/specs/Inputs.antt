-- docs/NIGHT.md: how far a night was read, a piece at a time.
use Rattle.std.specs.Prelude.{ℕ, ◌+◌, ◌%◌, ◌^◌, ◌≡◌, cond, List, Result, Ok, Err}
use Rattle.fields.specs.declared.Ending.{Ending}
use Rattle.fields.specs.Endings.{ending_of}
use Rattle.fields.specs.Keeping.{kept_count, part_in, at_front, goes_on}
use Rattle.telling.specs.declared.Input.{Input}
use Rattle.telling.specs.declared.End.{End}

-- before the first byte
abbrev pub nothing_read : Input
nothing_read = record { place = 0; kept = 0; ending = Ending.Whole }

-- the place in the file of a byte of the buffer, as far as a number of 64 bits goes
abbrev pub place_in : Input → ℕ → ℕ
place_in i at = (i.place + at) % (2 ^ 64)

-- what stands behind what is answered: the next piece may make up for it, or the night ends there
abbrev pub next_input : Input → List ℕ → ℕ → ℕ → Ending → Result Input End
next_input i l at end e = cond (goes_on e) (Ok (record { place = place_in i at; kept = kept_count l at end; ending = e })) (Err (End.Stopped e (place_in i at)))

-- THE DEFINITION: what comes of a piece that ends at one place and is answered up to another, and the buffer afterwards
pub record GoesOn (i : Input) (l : List ℕ) (at end : ℕ) (next : Result Input End) (l' : List ℕ) : Type 0 where
  pub input : next ≡ next_input i l at end (ending_of (part_in l at end))
  pub bytes : l' ≡ cond (goes_on (ending_of (part_in l at end))) (at_front l at (kept_count l at end)) l
