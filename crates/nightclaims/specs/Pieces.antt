-- docs/NIGHT.md: a file is read from front to back, and a program has it in pieces. What a piece comes to, what is left over of it, and a night of pieces.
use Rattle.std.specs.Prelude.{ℕ, zero, suc, ◌+◌, ◌-◌, cond, List, [], ◌∷◌, ◌++◌, length, drop}
use Rattle.night.specs.Fields.{size_of}
use Rattle.night.specs.Events.{next_of}
use Rattle.playing.specs.declared.Played.{Played}
use Rattle.playing.specs.Nights.{is_readable, night_in}

-- all fields that can be read; there are at most as many as bytes
abbrev pub played : Played → List ℕ → Played
played p l = night_in (length l) p l

-- what is left over: the bytes from the place on at which the reading stopped
abbrev pub left_of : Played → List ℕ → List ℕ
left_of p l = drop ((played p l).at - p.at) l

-- a night of pieces: what is left over of a piece is put in front of the next
unfoldable pub in_pieces : Played → List ℕ → List (List ℕ) → Played
in_pieces p left [] = p
in_pieces p left (a ∷ pieces) = in_pieces (played p (left ++ a)) (left_of p (left ++ a)) pieces

-- all of its bytes
unfoldable pub joined : List (List ℕ) → List ℕ
joined [] = []
joined (a ∷ pieces) = a ++ joined pieces

-- how many bytes are read of the first fields, at most so many
unfoldable pub read_of : ℕ → List ℕ → ℕ
read_of zero l = 0
read_of (suc n) l = cond (is_readable (next_of l) l) (size_of l + read_of n (drop (size_of l) l)) 0
