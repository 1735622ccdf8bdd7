-- docs/NIGHT.md: a field is a tag, the length of its value in two bytes, least byte first, and the value. Bytes that are not there count as zero.
use Rattle.std.specs.Prelude.{ℕ, ◌+◌, ◌*◌, min, ◌/◌, Bool, cond, List, [], ◌∷◌, leb, length, take, drop, get_or}
use Rattle.message.specs.Bytes.{word_of}
use Rattle.offers.specs.declared.Offer.{Offer}

unfoldable pub tag_of : List ℕ → ℕ
tag_of l = get_or l 0 0

unfoldable pub length_of : List ℕ → ℕ
length_of l = word_of (drop 1 l)

-- how many bytes the field has: "the field's three and its length"
unfoldable pub size_of : List ℕ → ℕ
size_of l = 3 + length_of l

-- whether all of them are there
unfoldable pub is_whole : List ℕ → Bool
is_whole l = leb (size_of l) (length l)

-- the value; none where the field is not whole
unfoldable pub value_of : List ℕ → List ℕ
value_of l = cond (is_whole l) (take (length_of l) (drop 3 l)) []

-- a number of four bytes at a place, least byte first
unfoldable pub number_at : List ℕ → ℕ → ℕ
number_at l at = word_of (drop at l) + word_of (drop 2 (drop at l)) * 65536

-- objects of four bytes: the first seven, and how many there are, at most 255
unfoldable pub offer_in : List ℕ → Offer
offer_in l =
    record {
      objects = number_at l 0 ∷ (number_at l 4 ∷ (number_at l 8 ∷ (number_at l 12 ∷ (number_at l 16 ∷ (number_at l 20 ∷ (number_at l 24 ∷ []))))));
      count = min (length l / 4) 255;
    }
