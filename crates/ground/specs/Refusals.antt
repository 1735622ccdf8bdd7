-- "Refusal numbers": the number of each refusal, and a row of tests tried in order.
use Rattle.std.specs.Prelude.{ℕ, Bool, true, false, ◌||◌, List, [], ◌∷◌, Result, Err}
use Rattle.ground.specs.declared.Refusal.{Refusal}
use Rattle.ground.specs.declared.Refusal.TheVariants.{TooShort, TooLong, WrongLength, NotChunked, NoRoom, OutOfRange, BadOffer, NotAwaited, NotInRack, BadSetUp}

-- what a row of tests comes to: nothing to refuse, or the first refusal in the row
abbrev pub Verdict : Type 0
Verdict = Result Unit Refusal

abbrev pub number_of : Refusal → ℕ
number_of TooShort = 1
number_of TooLong = 2
number_of WrongLength = 3
number_of NotChunked = 4
number_of NoRoom = 5
number_of OutOfRange = 6
number_of BadOffer = 7
number_of NotAwaited = 8
number_of NotInRack = 9
number_of BadSetUp = 10

-- the refusal where the test holds, else what the rest of the row comes to
unfoldable pub refuse_if : Bool → Refusal → Verdict → Verdict
refuse_if true r rest = Err r
refuse_if false r rest = rest

-- whether one of several things holds
unfoldable pub any_of : List Bool → Bool
any_of [] = false
any_of (t ∷ ts) = t || any_of ts
