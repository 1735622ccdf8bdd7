-- docs/PACKETS.md: how bytes and numbers stand in a line of text.
use Rattle.std.specs.Prelude.{ℕ, zero, suc, ◌+◌, ◌-◌, ◌/◌, ◌%◌, Bool, cond, ◌&&◌, List, [], ◌∷◌, ltb, leb, length, ◌≡◌, IsTrue}
use Rattle.ground.specs.Buffers.{laid}
use Rattle.text.specs.declared.Line as code

-- a line in the making: the buffer, and the place where it goes on
pub record Line : Type 0 where
  pub text : List ℕ
  pub at : ℕ

abbrev pub line : List ℕ → ℕ → Line
line text at = record { text = text; at = at }

-- the same, of the program's line
abbrev pub line_of : code.Line → Line
line_of l = line l.buffer.now l.end

abbrev pub has_room : List ℕ → Line → Bool
has_room piece l = leb l.at (length l.text) && leb (length piece) (length l.text - l.at)

-- the line with a piece more, where the piece has room
unfoldable pub typed : List ℕ → Line → Line
typed piece l = cond (has_room piece l) (line (laid piece l.at l.text) (l.at + length piece)) l

-- what one call of `write!` does that says it wrote a piece: there was room, and it is typed
abbrev pub Writes : code.Line → List ℕ → code.Line → Type 0
Writes l piece m = IsTrue (has_room piece (line_of l)) × (line_of m ≡ typed piece (line_of l)) × (m.buffer.ghost_name ≡ l.buffer.ghost_name)

-- digits in ASCII, large letters
abbrev pub glyph_of : ℕ → ℕ
glyph_of d = cond (ltb d 10) (48 + d) (55 + d)

abbrev pub hex_of : ℕ → List ℕ
hex_of b = glyph_of (b / 16) ∷ (glyph_of (b % 16) ∷ [])

-- a number below 1,000 in decimal, with no zeros in front
abbrev pub number_of : ℕ → List ℕ
number_of n =
    cond (ltb n 10) (glyph_of (n % 10) ∷ [])
    (cond (ltb n 100) (glyph_of (n / 10 % 10) ∷ (glyph_of (n % 10) ∷ []))
    (glyph_of (n / 100) ∷ (glyph_of (n / 10 % 10) ∷ (glyph_of (n % 10) ∷ []))))

-- the digits of a number in front of others, at most so many more, the last first: n / 10 in front of n % 10
unfoldable pub digits_before : ℕ → ℕ → List ℕ → List ℕ
digits_before zero n behind = behind
digits_before (suc most) n behind = cond (ltb n 10) (glyph_of (n % 10) ∷ behind) (digits_before most (n / 10) (glyph_of (n % 10) ∷ behind))

-- a number below 2^32, which has ten digits at most, in decimal, with no zeros in front
abbrev pub decimal_of : ℕ → List ℕ
decimal_of n = digits_before 10 n []

-- bytes with a blank between two, or a dash where there are none
abbrev blank : List ℕ
blank = 32 ∷ []

abbrev dash : List ℕ
dash = 45 ∷ []

unfoldable pub typed_rest : List ℕ → Line → Line
typed_rest [] l = l
typed_rest (b ∷ bs) l = typed_rest bs (typed (hex_of b) (typed blank l))

unfoldable pub typed_bytes : List ℕ → Line → Line
typed_bytes [] l = typed dash l
typed_bytes (b ∷ bs) l = typed_rest bs (typed (hex_of b) l)
