-- docs/NIGHT.md: "what is left over of a piece is put in front of the next": the bytes from one place to another, moved to the front of a buffer.
use Rattle.std.specs.Prelude.{ℕ, ◌-◌, min, ◌≡◌, Bool, true, false, cond, List, ◌++◌, length, take, drop}
use Rattle.std.specs.Bool.{then_some}
use Rattle.fields.specs.declared.Ending.{Ending}
use Rattle.fields.specs.declared.Left.{Left}
use Rattle.fields.specs.Endings.{ending_of}

-- how many there are of them
abbrev pub kept_count : List ℕ → ℕ → ℕ → ℕ
kept_count l at end = min (end - at) (length l - at)

-- those bytes
abbrev pub part_in : List ℕ → ℕ → ℕ → List ℕ
part_in l at end = take (kept_count l at end) (drop at l)

-- the buffer with its n bytes from a place on moved to the front, and behind them what stood there before
abbrev pub at_front : List ℕ → ℕ → ℕ → List ℕ
at_front l at n = take n (drop at l) ++ drop n l

pub record Kept (l : List ℕ) (at end : ℕ) (n : ℕ) (l' : List ℕ) : Type 0 where
  pub count : n ≡ kept_count l at end
  pub bytes : l' ≡ at_front l at (kept_count l at end)

-- ---- what is left of a piece: the next one may make up for nothing and for a cut, and for no damage
abbrev pub goes_on : Ending → Bool
goes_on Ending.Whole = true
goes_on Ending.Cut = true
goes_on Ending.UnknownTag = false
goes_on Ending.WrongLength = false
goes_on Ending.NotLaid = false
goes_on Ending.Readable = true

abbrev pub left_by : Ending → ℕ → Left
left_by e n = record { ending = e; kept = then_some (goes_on e) n }

-- THE DEFINITION: what is answered, and the buffer afterwards
pub record CarriedOver (l : List ℕ) (at end : ℕ) (left : Left) (l' : List ℕ) : Type 0 where
  pub answer : left ≡ left_by (ending_of (part_in l at end)) (kept_count l at end)
  pub bytes : l' ≡ cond (goes_on (ending_of (part_in l at end))) (at_front l at (kept_count l at end)) l
