-- docs/PACKETS.md and docs/STEPS.md: the words for each refusal.
use Rattle.std.specs.Prelude.{ℕ, List, codes}
use Rattle.ground.specs.declared.Refusal.{Refusal}
use Rattle.ground.specs.declared.Refusal.TheVariants.{TooShort, TooLong, WrongLength, NotChunked, NoRoom, OutOfRange, BadOffer, NotAwaited, NotInRack, BadSetUp}

unfoldable pub words_of : Refusal → List ℕ
words_of TooShort = codes "packet under 2 bytes"
words_of TooLong = codes "packet over 30 bytes"
words_of WrongLength = codes "length is not 2 + 4 x objects, or extended under 4 bytes"
words_of NotChunked = codes "extended with Chunked clear, or written without object"
words_of NoRoom = codes "too little room from the place on, or place past the end"
words_of OutOfRange = codes "a field or the object bytes out of range"
words_of BadOffer = codes "bad offer"
words_of NotAwaited = codes "the event is not awaited in this state"
words_of NotInRack = codes "port number not in the rack"
words_of BadSetUp = codes "bad set-up"
