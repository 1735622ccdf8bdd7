-- docs/PACKETS.md: the words for each kind and each meaning.
use Rattle.std.specs.Prelude.{ℕ, List, codes}
use Rattle.meaning.specs.declared.Kind.{Kind}
use Rattle.meaning.specs.declared.Meaning.{Meaning}

unfoldable pub kind_words : Kind → List ℕ
kind_words Kind.Control = codes "control"
kind_words Kind.Data = codes "data"
kind_words Kind.Extended = codes "extended"

unfoldable pub meaning_words : Meaning → List ℕ
meaning_words Meaning.Unsupported = codes "unsupported"
meaning_words Meaning.GoodCrc = codes "GoodCRC"
meaning_words Meaning.Reply = codes "reply"
meaning_words Meaning.GetSourceCap = codes "Get_Source_Cap"
meaning_words Meaning.SoftReset = codes "Soft_Reset"
meaning_words Meaning.Quiet = codes "quiet"
meaning_words Meaning.Request = codes "Request"
